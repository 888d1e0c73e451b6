-- A step that touches an array starts no task.
use Rattle.std.proofs.Common.{◌≡◌, ℕ, ◌+◌, ltb, leb, List, [], ◌∷◌, length, Option, Some, None, Ok, Err, sym, ◌∙◌, ap, arith}
use Rattle.std.proofs.lemmas.List.{length-map}
use Rattle.b67_word.specs.declared.faults.Fault.TheVariants.{StackOverflow}
use Rattle.b67_model.specs.declared.operators.Op.{Op}
use Rattle.b67_model.specs.Common.{Answer, needs, Word, Operand, Reading, Standing, Task, JobConstants, Job, SessionJob, OperatorContext, End, AtCell, AtElement, AtArray, AtProc, AtIntrinsic, Line, Done, Goes, Leaves, Waits, result, needs_level, answered, answers, arraydec, print, printrow, read, child_of, starts, process, await, status, wait, cause, deallocate, resize, intrinsic, touched_of, started_by, entr_at, entr_with, entr, row, reading_of, step_by, step, called}
use Rattle.b67_model.specs.Keyed.{keyed}
use Rattle.b67_law.proofs.Posts.{Post, post_ok, post_err, post_then, post_if, post_more, post_is}
use Rattle.b67_layout.specs.Placement.{Placement}
use Rattle.b67_layout.specs.Session.{IsRunning}
use Rattle.b67_law.specs.Profiles.{Profile, profile, profiles, IsKnown}
use Rattle.b67_law.proofs.Lemmas.{rows_keep}
use Rattle.b67_lemmas.proofs.Members.{length_change}

-- where an array is touched there are as many tasks
abbrev Touching : ℕ → Job → Option ℕ → Type 0
Touching n after None = Unit {0}
Touching n after (Some a) = length after.tasks ≡ n

abbrev Quiet : ℕ → Done → Type 0
Quiet n (Goes after printed touched) = Touching n after touched
Quiet n Leaves = Unit {0}
Quiet n (Waits condition) = Unit {0}

module _ (n : ℕ) where
  none_result : (h : OperatorContext) (job : Job) (task : Task) (printed : List Line) → Post (Quiet n) (result h job task printed None)
  none_result h job task printed = post_then (Quiet n) _ _ (post_ok (Quiet n) _ tt)

  none : (h : OperatorContext) (job : Job) (words : List Word) (printed : List Line) → Post (Quiet n) (answers h job words printed None)
  none h job words printed = post_then (Quiet n) _ _ (none_result h job (answered h words) printed)

  arraydec_quiet : (h : OperatorContext) (arguments : List Word) → Post (Quiet n) (arraydec h arguments)
  arraydec_quiet h arguments = grind arith

  print_quiet : (h : OperatorContext) (arguments : List Word) → Post (Quiet n) (print h arguments)
  print_quiet h arguments = grind arith

  printrow_quiet : (h : OperatorContext) (arguments : List Word) → length h.job.tasks ≡ n → Post (Quiet n) (printrow h arguments)
  printrow_quiet h arguments e = grind (arith, length_change)

  read_quiet : (h : OperatorContext) (arguments : List Word) → Post (Quiet n) (read h arguments)
  read_quiet h arguments = grind arith

  starts_quiet : (h : OperatorContext) (words : List Word) (end : End) → Post (Quiet n) (starts h words end)
  starts_quiet h words (AtProc f segment level place) =
      post_then (Quiet n) (needs_level h f level) _ (post_then (Quiet n) (needs (leb (3 + length words) h.constants.stack_size) StackOverflow) _ (post_if (Quiet n) (ltb (length h.job.tasks) 15) _ _
      (none h (record h.job { tasks = child_of h words f segment level place ∷ h.job.tasks; next_task = h.job.next_task + 1; next_frame = h.job.next_frame + 1 }) (Operand h.job.next_task ∷ []) [])
      (none h h.job (Operand 0 ∷ []) [])))
  starts_quiet h words (AtCell f offset bits) = post_err (Quiet n) _
  starts_quiet h words (AtElement a index) = post_err (Quiet n) _
  starts_quiet h words (AtArray a) = post_err (Quiet n) _
  starts_quiet h words (AtIntrinsic k) = post_err (Quiet n) _

  process_quiet : (h : OperatorContext) (arguments : List Word) → Post (Quiet n) (process h arguments)
  process_quiet h arguments = grind (arith, starts_quiet)

  await_quiet : (h : OperatorContext) (arguments : List Word) → Post (Quiet n) (await h arguments)
  await_quiet h arguments = grind arith

  status_quiet : (h : OperatorContext) (arguments : List Word) → Post (Quiet n) (status h arguments)
  status_quiet h arguments = grind arith

  wait_quiet : (h : OperatorContext) (arguments : List Word) → Post (Quiet n) (wait h arguments)
  wait_quiet h arguments = grind arith

  cause_quiet : (h : OperatorContext) (arguments : List Word) → Post (Quiet n) (cause h arguments)
  cause_quiet h arguments = grind arith

  deallocate_quiet : (h : OperatorContext) (arguments : List Word) → Post (Quiet n) (deallocate h arguments)
  deallocate_quiet h arguments = grind arith

  resize_quiet : (h : OperatorContext) (arguments : List Word) → length h.job.tasks ≡ n → Post (Quiet n) (resize h arguments)
  resize_quiet h arguments e = grind (arith, length_change)

  intrinsic_quiet : (k : ℕ) (h : OperatorContext) (arguments : List Word) → length h.job.tasks ≡ n → Post (Quiet n) (intrinsic k h arguments)
  intrinsic_quiet k h arguments e = grind (arith, post_if, arraydec_quiet, print_quiet, printrow_quiet, read_quiet, process_quiet, await_quiet, status_quiet, wait_quiet, cause_quiet, deallocate_quiet, resize_quiet)

  entr_at_quiet : (h : OperatorContext) (arguments : List Word) (end : End) → length h.job.tasks ≡ n → Post (Quiet n) (entr_at h arguments end)
  entr_at_quiet h arguments end e = grind (arith, intrinsic_quiet)

  entr_with_quiet : (h : OperatorContext) (cells : List Word) → length h.job.tasks ≡ n → Post (Quiet n) (entr_with h cells)
  entr_with_quiet h cells e = grind (arith, entr_at_quiet)

  entr_quiet : (h : OperatorContext) (standing : Standing) → length h.job.tasks ≡ n → Post (Quiet n) (entr h standing)
  entr_quiet h standing e = grind (arith, entr_with_quiet)

-- other operators keep the profiles of all tasks
kept : (op : Op) (h : OperatorContext) → IsKnown h → called op h ≡ None → Post (Quiet (length h.job.tasks)) (row op h)
kept op h known none_called = post_more (λ (x : Done). row op h ≡ Ok x) (Quiet (length h.job.tasks)) (row op h) by (post_is (row op h)) where
  by : (x : Done) → row op h ≡ Ok x → Quiet (length h.job.tasks) x
  by (Goes after printed None) is = tt
  by (Goes after printed (Some a)) is =
      sym (length-map after.tasks profile) ∙ ap length (rows_keep op h known none_called after printed (Some a) is).0 ∙ length-map h.job.tasks profile
  by Leaves is = tt
  by (Waits condition) is = tt

row_quiet : (op : Op) (h : OperatorContext) → IsKnown h → Post (Quiet (length h.job.tasks)) (row op h)
row_quiet op h known = grind (arith, entr_quiet, kept)

pub known_in : (n : ℕ) (ts : List Task) (t : Task) → keyed (λ (u : Task). u.number) n ts ≡ Some t → keyed (λ (p : Profile). p.number) n (profiles ts) ≡ Some (profile t)
known_in n [] t e = cc
known_in n (u ∷ us) t e = grind (arith, known_in n us t)

by_reading : (constants : JobConstants) (job : Job) (t : Task) (r : Reading) → keyed (λ (u : Task). u.number) t.number job.tasks ≡ Some t → Post (Quiet (length job.tasks)) (step_by constants job t r)
by_reading constants job t (Err why) e = post_err (Quiet (length job.tasks)) _
by_reading constants job t (Ok read) e = row_quiet read.0 (record { constants = constants; job = job; task = record t { place = read.1 }; at = t.place }) (known_in t.number job.tasks t e)

step_quiet : (constants : JobConstants) (job : Job) (t : Task) → keyed (λ (u : Task). u.number) t.number job.tasks ≡ Some t → Post (Quiet (length job.tasks)) (step constants job t)
unfolding step
step_quiet constants job t e = by_reading constants job t (reading_of constants t) e

starts_none : (constants : JobConstants) (job : Job) (t : Task) (a : ℕ) (made : Answer Done) → Post (Quiet (length job.tasks)) made → touched_of constants job t made ≡ Some a → started_by job made ≡ 0
starts_none constants job t a made quiet e = grind arith

pub none_started : (plan : Placement) (jobs : List SessionJob) (m : SessionJob) (t : Task) (a : ℕ) → IsRunning plan jobs m t → touched_of m.constants m.progress.job t (step m.constants m.progress.job t) ≡ Some a → started_by m.progress.job (step m.constants m.progress.job t) ≡ 0
none_started plan jobs m t a runs e = starts_none m.constants m.progress.job t a (step m.constants m.progress.job t) (step_quiet m.constants m.progress.job t runs.task) e
