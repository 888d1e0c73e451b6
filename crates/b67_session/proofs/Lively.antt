-- After each operator of a ready task that goes on, as many tasks live as before, or one more, and a task is ready.
use Rattle.std.proofs.Common.{◌≡◌, ℕ, ◌+◌, ◌≤◌, true, ℤ, pos, negsuc, List, [], ◌∷◌, length, map, reverse, replicate, Option, Some, None, Ok, refl, ap, ◌∙◌, inl, inr, arith}
use Rattle.std.specs.Prelude.{◌==◌, nat_lt, nat_le, not}
use Rattle.std.specs.List.{list_any}
use Rattle.std.proofs.lemmas.Bool.Decides.{eqb_tells}
use Rattle.std.proofs.lemmas.List.{length-map}
use Rattle.std.proofs.lemmas.Option.{none-some}
use Rattle.b67_lemmas.specs.Lists.{Has}
use Rattle.b67_lemmas.proofs.Keyed.{changed_there}
use Rattle.b67_lemmas.proofs.Members.{has_map, keyed_has, length_change}
use Rattle.b67_word.specs.declared.couples.Place.{Place}
use Rattle.b67_word.specs.declared.faults.Fault.TheVariants.{StackOverflow, InvalidOperand}
use Rattle.b67_model.specs.declared.operators.Op.{Op}
use Rattle.b67_model.specs.declared.operators.Op.TheVariants.{Plain}
use Rattle.b67_model.specs.declared.operators.Code.TheVariants.{Entr}
use Rattle.b67_model.specs.Common.{Answer, ◌>>=◌, needs, needs_level, Word, Operand, Original, Array, Ready, Standing, Marked, Entered, Task, Job, SessionJob, OperatorContext, with_task, top, below_top, with_cell, with_cell_of, array, with_array, all_zero, resized, End, AtCell, AtElement, AtArray, AtProc, AtIntrinsic, follow_reference, Line, Value, Values, Done, Goes, Leaves, Waits, top_of, cells_of, answered, answers, array_length, arraydec, print, numbers_of, row_copy, printrow, read_from, read, is_original, child_of, starts, process, awaits, await, status_of, status, waits_at, wait, woken_at, wakes, causes, cause, needs_writable, deallocate, resize, intrinsic, entr_at, entr_with, entr, row, called_at, called_by, called_on, called}
use Rattle.b67_model.specs.Words.{whole}
use Rattle.b67_model.specs.Keyed.{keyed, change_keyed}
use Rattle.b67_law.proofs.Posts.{Post, post_ok, post_err, post_any, post_then, post_if, post_at}
use Rattle.b67_law.specs.Profiles.{Profile, profile, profiles, IsKnown}
use Rattle.b67_law.proofs.Identities as Identities
use Rattle.b67_law.proofs.Lemmas.{rows_keep}
use Rattle.b67_layout.specs.Meets.{here}

-- no fewer tasks live, and one is ready
pub record Stays (before after : List Task) : Type 0 where
  pub more : length before ≤ length after
  pub who : Task
  pub among : Has after who
  pub ready : who.condition ≡ Ready

abbrev number_of : Task → ℕ
number_of t = t.number

-- ---- the rows of intrinsics

module _ (before : List Task) where
  abbrev Keeps : Done → Type 0
  Keeps (Goes after printed touched) = Stays before after.tasks
  Keeps Leaves = Unit {0}
  Keeps (Waits condition) = Unit {0}

  abbrev Good : Answer Done → Type 0
  Good answer = Post Keeps answer

  -- a ready task runs
  record Source (h : OperatorContext) : Type 0 where
    pub few : length before ≤ length h.job.tasks
    pub live : Task
    pub found : keyed number_of h.task.number h.job.tasks ≡ Some live
    pub ready : h.task.condition ≡ Ready

  -- a ready task in the place of one
  put : (t live : Task) (ts : List Task) → keyed number_of t.number ts ≡ Some live → t.condition ≡ Ready → length before ≤ length ts → Stays before (change_keyed number_of t.number (λ (u : Task). t) ts)
  put t live ts found ready few = record {
    more = omega (arith, few, length_change number_of t.number t ts);
    who = t;
    among = changed_there number_of t.number (λ (u : Task). t) ts live found;
    ready = ready;
  }

  answers_good : (h : OperatorContext) (job : Job) (words : List Word) (printed : List Line) (touched : Option ℕ) (live : Task) → keyed number_of h.task.number job.tasks ≡ Some live → h.task.condition ≡ Ready → length before ≤ length job.tasks
      → Good (answers h job words printed touched)
  answers_good h job words printed touched live found ready few = post_then Keeps _ _ (post_then Keeps _ _ (post_ok Keeps _ (put (answered h words) live job.tasks found ready few)))

  same_good : (h : OperatorContext) (job : Job) (words : List Word) (printed : List Line) (touched : Option ℕ) → Source h → job.tasks ≡ h.job.tasks → Good (answers h job words printed touched)
  same_good h job words printed touched s same = grind (arith, answers_good)

  arraydec_good : (h : OperatorContext) (arguments : List Word) → Source h → Good (arraydec h arguments)
  arraydec_good h [] s = post_err Keeps _
  arraydec_good h (w ∷ []) s = post_any Keeps (whole w) _ (λ n. post_any Keeps (array_length n) _ (λ len.
      let made : Array = record { identity = h.job.next_array; owner = (top (below_top h.task.frames)).identity; writable = true; numbers = replicate len 0 } in
      same_good h (record h.job { arrays = made ∷ h.job.arrays; next_array = h.job.next_array + 1 }) (Original h.job.next_array ∷ []) [] None s refl))
  arraydec_good h (w ∷ v ∷ more) s = post_err Keeps _

  print_good : (h : OperatorContext) (arguments : List Word) → Source h → Good (print h arguments)
  print_good h [] s = post_err Keeps _
  print_good h (w ∷ []) s = post_any Keeps (whole w) _ (λ n. same_good h h.job [] (Value n ∷ []) None s refl)
  print_good h (w ∷ v ∷ more) s = post_err Keeps _

  printrow_good : (h : OperatorContext) (arguments : List Word) → Source h → Good (printrow h arguments)
  printrow_good h [] s = post_err Keeps _
  printrow_good h (w ∷ []) s =
      post_any Keeps (row_copy w) _ (λ a. post_any Keeps (numbers_of (array h.job a).numbers) _ (λ values. same_good h h.job [] (Values values ∷ []) (Some a) s refl))
  printrow_good h (w ∷ v ∷ more) s = post_err Keeps _

  read_good : (h : OperatorContext) (arguments : List Word) → Source h → Good (read h arguments)
  read_good h [] s = same_good h (record h.job { numbers = (read_from h.job.numbers).1 }) (Operand (read_from h.job.numbers).0 ∷ []) [] None s refl
  read_good h (w ∷ more) s = post_err Keeps _

  -- one task more
  found_more : (n : ℕ) (c live : Task) (ts : List Task) → keyed number_of n ts ≡ Some live → (v : Task) × (keyed number_of n (c ∷ ts) ≡ Some v)
  found_more n c live ts e = elim (eqb_tells c.number n) [ inl t ↦ (c, rw t.0 refl) | inr t ↦ (live, rw t.0 e) ]

  starts_good : (h : OperatorContext) (words : List Word) (end : End) → Source h → Good (starts h words end)
  starts_good h words (AtProc environment segment level place) s =
      let child : Task = child_of h words environment segment level place in
      let started : Job = record h.job { tasks = child ∷ h.job.tasks; next_task = h.job.next_task + 1; next_frame = h.job.next_frame + 1 } in
      let f = found_more h.task.number child s.live h.job.tasks s.found in
      post_then Keeps (needs_level h environment level) _
      (post_then Keeps (needs (nat_le (3 + length words) h.constants.stack_size) StackOverflow) _
      (post_if Keeps (nat_lt (length h.job.tasks) 15) _ _ (answers_good h started (Operand h.job.next_task ∷ []) [] None f.0 f.1 s.ready (omega (arith, s.few))) (same_good h h.job (Operand 0 ∷ []) [] None s refl)))
  starts_good h words (AtCell f offset bits) s = post_err Keeps _
  starts_good h words (AtElement a index) s = post_err Keeps _
  starts_good h words (AtArray a) s = post_err Keeps _
  starts_good h words (AtIntrinsic n) s = post_err Keeps _

  process_good : (h : OperatorContext) (arguments : List Word) → Source h → Good (process h arguments)
  process_good h [] s = post_err Keeps _
  process_good h (r ∷ words) s = post_then Keeps (needs (not (list_any is_original words)) InvalidOperand) _ (post_any Keeps (follow_reference h r) _ (λ end. starts_good h words end s))

  awaits_good : (h : OperatorContext) (n : ℤ) → Source h → Good (awaits h n)
  awaits_good h (pos n) s = post_if Keeps _ _ _ (post_ok Keeps _ tt) (same_good h h.job [] [] None s refl)
  awaits_good h (negsuc n) s = same_good h h.job [] [] None s refl

  await_good : (h : OperatorContext) (arguments : List Word) → Source h → Good (await h arguments)
  await_good h arguments s = grind (arith, awaits_good)

  status_good : (h : OperatorContext) (arguments : List Word) → Source h → Good (status h arguments)
  status_good h [] s = post_err Keeps _
  status_good h (w ∷ []) s = post_any Keeps (whole w) _ (λ n. same_good h h.job (Operand (status_of h.job n) ∷ []) [] None s refl)
  status_good h (w ∷ v ∷ more) s = post_err Keeps _

  waits_at_good : (h : OperatorContext) (end : End) → Source h → Good (waits_at h end)
  waits_at_good h (AtCell f offset bits) s = post_if Keeps _ _ _ (post_ok Keeps _ tt) (same_good h h.job [] [] None s refl)
  waits_at_good h (AtProc f segment level place) s = post_err Keeps _
  waits_at_good h (AtElement a index) s = post_err Keeps _
  waits_at_good h (AtArray a) s = post_err Keeps _
  waits_at_good h (AtIntrinsic n) s = post_err Keeps _

  wait_good : (h : OperatorContext) (arguments : List Word) → Source h → Good (wait h arguments)
  wait_good h [] s = post_err Keeps _
  wait_good h (r ∷ []) s = post_any Keeps (follow_reference h r) _ (λ end. waits_at_good h end s)
  wait_good h (r ∷ w ∷ more) s = post_err Keeps _

  -- who waits at a cell becomes ready, and who was ready stays so
  woken : (f offset : ℕ) (job : Job) → Stays before job.tasks → Stays before (wakes f offset (with_cell job f offset (Operand 1))).tasks
  woken f offset job s =
      let stored : Task → Task = λ t. record t { frames = change_keyed (λ g. g.identity) f (with_cell_of offset (Operand 1)) t.frames } in
      let wake : Task → Task = λ t. record t { condition = woken_at f offset t.condition } in
      record {
        more = omega (arith, s.more, length-map job.tasks stored, length-map (map stored job.tasks) wake);
        who = wake (stored s.who);
        among = has_map wake (map stored job.tasks) (stored s.who) (has_map stored job.tasks s.who s.among);
        ready = ap (woken_at f offset) s.ready;
      }

  causes_good : (h : OperatorContext) (end : End) → Source h → Good (causes h end)
  causes_good h (AtCell f offset bits) s =
      post_then Keeps _ _ (post_ok Keeps _ (woken f offset (with_task h.job (answered h [])) (put (answered h []) s.live h.job.tasks s.found s.ready s.few)))
  causes_good h (AtProc f segment level place) s = post_err Keeps _
  causes_good h (AtElement a index) s = post_err Keeps _
  causes_good h (AtArray a) s = post_err Keeps _
  causes_good h (AtIntrinsic n) s = post_err Keeps _

  cause_good : (h : OperatorContext) (arguments : List Word) → Source h → Good (cause h arguments)
  cause_good h [] s = post_err Keeps _
  cause_good h (r ∷ []) s = post_any Keeps (follow_reference h r) _ (λ end. causes_good h end s)
  cause_good h (r ∷ w ∷ more) s = post_err Keeps _

  deallocate_good : (h : OperatorContext) (arguments : List Word) → Source h → Good (deallocate h arguments)
  deallocate_good h [] s = post_err Keeps _
  deallocate_good h (w ∷ []) s = post_any Keeps (row_copy w) _ (λ a. post_then Keeps (needs_writable h a) _ (same_good h (with_array h.job a all_zero) [] [] None s refl))
  deallocate_good h (w ∷ v ∷ more) s = post_err Keeps _

  resize_good : (h : OperatorContext) (arguments : List Word) → Source h → Good (resize h arguments)
  resize_good h [] s = post_err Keeps _
  resize_good h (r ∷ []) s = post_err Keeps _
  resize_good h (r ∷ w ∷ []) s =
      post_any Keeps (row_copy r) _ (λ a. post_any Keeps (whole w) _ (λ v. post_any Keeps (array_length v) _ (λ len. post_then Keeps (needs_writable h a) _ (same_good h (with_array h.job a (resized len)) [] [] (Some a) s refl))))
  resize_good h (r ∷ w ∷ v ∷ more) s = post_err Keeps _

  intrinsic_good : (n : ℕ) (h : OperatorContext) (arguments : List Word) → Source h → Good (intrinsic n h arguments)
  intrinsic_good n h arguments s =
      let from_18 = post_if Keeps (18 == n) (resize h arguments) _ (resize_good h arguments s) (post_err Keeps _) in
      let from_17 = post_if Keeps (17 == n) (deallocate h arguments) _ (deallocate_good h arguments s) from_18 in
      let from_16 = post_if Keeps (16 == n) (cause h arguments) _ (cause_good h arguments s) from_17 in
      let from_15 = post_if Keeps (15 == n) (wait h arguments) _ (wait_good h arguments s) from_16 in
      let from_14 = post_if Keeps (14 == n) (status h arguments) _ (status_good h arguments s) from_15 in
      let from_13 = post_if Keeps (13 == n) (await h arguments) _ (await_good h arguments s) from_14 in
      let from_12 = post_if Keeps (12 == n) (process h arguments) _ (process_good h arguments s) from_13 in
      let from_11 = post_if Keeps (11 == n) (read h arguments) _ (read_good h arguments s) from_12 in
      let from_10 = post_if Keeps (10 == n) (printrow h arguments) _ (printrow_good h arguments s) from_11 in
      let from_9 = post_if Keeps (9 == n) (print h arguments) _ (print_good h arguments s) from_10 in
      post_if Keeps (8 == n) (arraydec h arguments) _ (arraydec_good h arguments s) from_9

  -- ---- the operators that call one

  at_good : (h : OperatorContext) (arguments : List Word) (end : End) (n : ℕ) → called_at (Ok end) ≡ Some n → Source h → Good (entr_at h arguments end)
  at_good h arguments end n e s = grind (arith, intrinsic_good)

  end_good : (h : OperatorContext) (arguments : List Word) (end : Answer End) (n : ℕ) → called_at end ≡ Some n → Source h → Good (end >>= entr_at h arguments)
  end_good h arguments end n e s = grind (arith, at_good)

  with_good_call : (h : OperatorContext) (cells : List Word) (n : ℕ) → called_by h cells ≡ Some n → Source h → Good (entr_with h cells)
  with_good_call h [] n e s = absurd (none-some n e)
  with_good_call h (r ∷ arguments) n e s = end_good h arguments (follow_reference h r) n e s

  entr_good : (h : OperatorContext) (standing : Standing) (n : ℕ) → called_on h standing ≡ Some n → Source h → Good (entr h standing)
  entr_good h Marked n e s = with_good_call h (reverse (cells_of h)) n e s
  entr_good h (Entered level environment back) n e s = absurd (none-some n e)

  row_good : (op : Op) (h : OperatorContext) (n : ℕ) → called op h ≡ Some n → Source h → Good (row op h)
  row_good (Plain Entr) h n e s = entr_good h (top_of h).standing n e s
  row_good _ h n e s = absurd (none-some n e)

-- ---- the others

-- the tasks of one profile each
twin_task : (ts us : List Task) (t : Task) → profiles us ≡ profiles ts → Has ts t → (u : Task) × Has us u × (profile u ≡ profile t)
twin_task [] us t e h = absurd h
twin_task (x ∷ ts) [] t e h = absurd cc
twin_task (x ∷ ts) (u ∷ us) t e (inl same) =
    let first : List Profile → Profile = λ ps. elim ps [ [] ↦ profile x | p ∷ more ↦ p ] in
    (u, inl refl, ap first e ∙ ap profile same)
twin_task (x ∷ ts) (u ∷ us) t e (inr later) = grind (arith, twin_task ts us t)

profiles_stay : (ts us : List Task) (t : Task) → profiles us ≡ profiles ts → Has ts t → t.condition ≡ Ready → Stays ts us
profiles_stay ts us t e among ready =
    let k = twin_task ts us t e among in
    record {
      more = omega (arith, length-map ts profile, length-map us profile, ap (λ (ps : List Profile). length ps) e);
      who = k.0;
      among = k.1;
      ready = ap (λ (p : Profile). p.condition) k.2 ∙ ready;
    }

profile_found : (n : ℕ) (ts : List Task) (t : Task) → keyed number_of n ts ≡ Some t → keyed (λ (p : Profile). p.number) n (profiles ts) ≡ Some (profile t)
profile_found n [] t e = absurd (none-some t e)
profile_found n (u ∷ ts) t e = grind (arith, profile_found n ts t)

-- each operator of a ready task
pub rows_stay : (op : Op) (m : SessionJob) (t : Task) (q : Place) → keyed number_of t.number m.progress.job.tasks ≡ Some t → t.condition ≡ Ready
    → (after : Job) (printed : List Line) (touched : Option ℕ) → row op (here m t q) ≡ Ok (Goes after printed touched)
    → Stays m.progress.job.tasks after.tasks × (after.next_task ≤ m.progress.job.next_task + 1)
rows_stay op m t q live ready after printed touched is = (by (called op (here m t q)) refl, numbered.one)
  where
    numbered : Identities.Grown m.progress.job after
    numbered = post_at (Identities.Keeps m.progress.job) (row op (here m t q)) (Goes after printed touched) is (Identities.row_good op (here m t q))

    by : (o : Option ℕ) → called op (here m t q) ≡ o → Stays m.progress.job.tasks after.tasks
    by None e =
        let said : IsKnown (here m t q) = profile_found t.number m.progress.job.tasks t live in
        profiles_stay m.progress.job.tasks after.tasks t (rows_keep op (here m t q) said e after printed touched is).0 (keyed_has number_of t.number m.progress.job.tasks t live).0 ready
    by (Some n) e =
        post_at (Keeps m.progress.job.tasks) (row op (here m t q)) (Goes after printed touched) is
        (row_good m.progress.job.tasks op (here m t q) n e (record { few = omega arith; live = t; found = live; ready = ready }))
