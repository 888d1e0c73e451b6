-- A call that starts a task starts one alone, prints nothing and touches nothing.
use Rattle.std.proofs.Common.{◌≡◌, ℕ, ◌+◌, ◌<◌, ◌≤◌, ltb, eqb, ℤ, pos, negsuc, List, [], ◌∷◌, length, Option, None, Ok, refl, ◌∙◌, arith, inl, inr, ◌⊎◌, ⊎_elim}
use Rattle.std.proofs.lemmas.Bool.{eqb-true, cases_lt}
use Rattle.std.proofs.lemmas.List.{length-map}
use Rattle.b67_lemmas.proofs.Members.{length_change}
use Rattle.b67_model.specs.Common.{Word, Operand, Task, Job, SessionJob, OperatorContext, with_task, End, AtCell, AtElement, AtArray, AtProc, AtIntrinsic, Line, Done, Goes, Leaves, Waits, answered, answers, child_of, starts, process, is_live, awaits, await, status_of, status, waits_at, wait, causes, cause, Call, call_in, calls, intrinsic, step}
use Rattle.b67_model.specs.Words.{whole}
use Rattle.b67_law.proofs.Posts.{Post, post_ok, post_err, post_any, post_then, post_if, post_if_is, post_more}
use Rattle.b67_mcp.proofs.Callings.{Calling}
use Rattle.b67_mcp.proofs.Still.{Still, call_still}

-- there are as many tasks; or one more, and nothing is printed or touched
abbrev pub OneMore : ℕ → Job → List Line → Option ℕ → Type 0
OneMore n after printed touched = (length after.tasks ≡ n) ⊎ ((printed ≡ []) × (touched ≡ None) × (length after.tasks ≡ n + 1))

abbrev Born : ℕ → Done → Type 0
Born n (Goes after printed touched) = OneMore n after printed touched
Born n Leaves = Unit {0}
Born n (Waits condition) = Unit {0}

module _ (n : ℕ) where
  still : (h : OperatorContext) (words : List Word) → length h.job.tasks ≡ n → Post (Born n) (answers h h.job words [] None)
  still h words e = post_then (Born n) _ _ (post_then (Born n) _ _ (post_ok (Born n) _ (inl (length_change (λ (u : Task). u.number) (answered h words).number (answered h words) h.job.tasks ∙ e))))

  starts_born : (h : OperatorContext) (words : List Word) (end : End) → length h.job.tasks ≡ n → Post (Born n) (starts h words end)
  starts_born h words (AtProc environment segment level place) e =
      let started : Job = record h.job { tasks = child_of h words environment segment level place ∷ h.job.tasks; next_task = h.job.next_task + 1; next_frame = h.job.next_frame + 1 } in
      let gone : Task = answered h (Operand h.job.next_task ∷ []) in
      let many = length_change (λ (u : Task). u.number) gone.number gone started.tasks in
      let born = post_then (Born n) _ _ (post_then (Born n) _ _ (post_ok (Born n) (Goes (with_task started gone) [] None) (inr (refl, refl, omega (arith, many, e))))) in
      post_then (Born n) _ _ (post_then (Born n) _ _ (post_if (Born n) (ltb (length h.job.tasks) 15) _ _ born (still h (Operand 0 ∷ []) e)))
  starts_born h words (AtCell f offset bits) e = post_err (Born n) _
  starts_born h words (AtElement a i) e = post_err (Born n) _
  starts_born h words (AtArray a) e = post_err (Born n) _
  starts_born h words (AtIntrinsic i) e = post_err (Born n) _

  process_born : (h : OperatorContext) (arguments : List Word) → length h.job.tasks ≡ n → Post (Born n) (process h arguments)
  process_born h arguments e = grind (arith, starts_born)

  awaits_born : (h : OperatorContext) (v : ℤ) → length h.job.tasks ≡ n → Post (Born n) (awaits h v)
  awaits_born h (negsuc v) e = still h [] e
  awaits_born h (pos v) e = post_if (Born n) (is_live h.job (pos v)) _ _ (post_ok (Born n) _ tt) (still h [] e)

  await_born : (h : OperatorContext) (arguments : List Word) → length h.job.tasks ≡ n → Post (Born n) (await h arguments)
  await_born h arguments e = grind (arith, awaits_born)

  status_born : (h : OperatorContext) (arguments : List Word) → length h.job.tasks ≡ n → Post (Born n) (status h arguments)
  status_born h [] e = post_err (Born n) _
  status_born h (w ∷ []) e = post_any (Born n) (whole w) _ (λ v. still h (Operand (status_of h.job v) ∷ []) e)
  status_born h (w ∷ v ∷ more) e = post_err (Born n) _

  waits_born : (h : OperatorContext) (end : End) → length h.job.tasks ≡ n → Post (Born n) (waits_at h end)
  waits_born h (AtCell f offset bits) e = post_if (Born n) (eqb bits 0) _ _ (post_ok (Born n) _ tt) (still h [] e)
  waits_born h (AtProc environment segment level place) e = post_err (Born n) _
  waits_born h (AtElement a i) e = post_err (Born n) _
  waits_born h (AtArray a) e = post_err (Born n) _
  waits_born h (AtIntrinsic i) e = post_err (Born n) _

  wait_born : (h : OperatorContext) (arguments : List Word) → length h.job.tasks ≡ n → Post (Born n) (wait h arguments)
  wait_born h arguments e = grind (arith, waits_born)

  causes_born : (h : OperatorContext) (end : End) → length h.job.tasks ≡ n → Post (Born n) (causes h end)
  causes_born h end e = grind (arith, length-map, length_change)

  cause_born : (h : OperatorContext) (arguments : List Word) → length h.job.tasks ≡ n → Post (Born n) (cause h arguments)
  cause_born h arguments e = grind (arith, causes_born)

  -- the row of a call, among rows of which that one is such
  module _ (i : ℕ) (h : OperatorContext) (arguments : List Word) where
    abbrev Each : List (ℕ × Call) → Type 0
    Each [] = Unit {0}
    Each (row ∷ rows) = (row.0 ≡ i → Post (Born n) (row.1 h arguments)) × Each rows

    by_rows : (rows : List (ℕ × Call)) → Each rows → Post (Born n) (call_in rows i h arguments)
    by_rows [] each = post_err (Born n) _
    by_rows (row ∷ rows) each = post_if_is (Born n) (eqb row.0 i) _ _ (λ e. each.0 (eqb-true row.0 i e)) (λ e. by_rows rows each.1)

    between : length h.job.tasks ≡ n → 12 ≤ i → i ≤ 16 → Post (Born n) (intrinsic i h arguments)
    between e low high = by_rows calls (
      λ q. absurd (omega (arith, q, low)),
      (
        λ q. absurd (omega (arith, q, low)),
        (
          λ q. absurd (omega (arith, q, low)),
          (
            λ q. absurd (omega (arith, q, low)),
            (
              λ q. process_born h arguments e,
              (
                λ q. await_born h arguments e,
                (
                  λ q. status_born h arguments e,
                  (
                    λ q. wait_born h arguments e,
                    (λ q. cause_born h arguments e, (λ q. absurd (omega (arith, q, high)), (λ q. absurd (omega (arith, q, high)), tt))),
                  ),
                ),
              ),
            ),
          ),
        ),
      ),
    )

    weaker : (done : Done) → Still n done → Born n done
    weaker done same = grind arith

    intrinsic_born : length h.job.tasks ≡ n → Post (Born n) (intrinsic i h arguments)
    intrinsic_born e = ⊎_elim
        (λ (low : i < 12). post_more (Still n) (Born n) (intrinsic i h arguments) weaker (call_still n i h arguments (inl low) e))
        (λ (from : 12 ≤ i). ⊎_elim
        (λ (high : 16 < i). post_more (Still n) (Born n) (intrinsic i h arguments) weaker (call_still n i h arguments (inr high) e))
        (λ (upto : i ≤ 16). between e from upto)
        (cases_lt 16 i))
        (cases_lt i 12)

-- by the call of a task
pub one_more : (m : SessionJob) (t : Task) (i : ℕ) (job : Job) (printed : List Line) (touched : Option ℕ) → Calling m t i → step m.constants m.progress.job t ≡ Ok (Goes job printed touched) → OneMore (length m.progress.job.tasks) job printed touched
one_more m t i job printed touched k is = grind (arith, intrinsic_born)
