-- A call of an intrinsic but 12 to 16 starts no task; and the session where none is started.
use Rattle.std.proofs.Common.{◌≡◌, ℕ, ◌+◌, ◌-◌, ◌≤◌, List, [], ◌∷◌, replicate, length, Option, None, Ok, refl, sym, ◌∙◌, ap, arith, subst, true, Some}
use Rattle.b67_model.specs.Common.{Answer, Word, Operand, Original, Array, Task, Job, SessionJob, OperatorContext, top, below_top, array, with_array, all_zero, resized, Line, Value, Values, Done, Goes, Leaves, Waits, answers, array_length, arraydec, print, numbers_of, row_copy, printrow, read_from, read, needs_writable, deallocate, resize, intrinsic, started_by, step, live_tasks, Session}
use Rattle.b67_model.specs.Words.{whole}
use Rattle.b67_law.proofs.Posts.{Post, post_err, post_any, post_then, post_at}
use Rattle.b67_layout.specs.Common.{Placement, here, with_job, session_moved}
use Rattle.b67_stack.specs.Represents.{Storage}
use Rattle.b67_task.specs.declared.tables.Machine.{Machine}
use Rattle.b67_task.specs.Tables.{MachineRepresents}
use Rattle.b67_mcp.specs.Called.{StartsTask}
use Rattle.b67_mcp.proofs.Callings.{Calling}
use Rattle.b67_mcp.proofs.Apart.{IsApart, apart_row}
use Rattle.b67_lemmas.proofs.Members.{length_change}

-- there are as many tasks
abbrev pub Still : ℕ → Done → Type 0
Still n (Goes after printed touched) = length after.tasks ≡ n
Still n Leaves = Unit {0}
Still n (Waits condition) = Unit {0}

module _ (n : ℕ) where
  still : (h : OperatorContext) (job : Job) (words : List Word) (printed : List Line) (touched : Option ℕ) → length job.tasks ≡ n → Post (Still n) (answers h job words printed touched)
  still h job words printed touched e = grind (arith, length_change)

  arraydec_still : (h : OperatorContext) (arguments : List Word) → length h.job.tasks ≡ n → Post (Still n) (arraydec h arguments)
  arraydec_still h [] e = post_err (Still n) _
  arraydec_still h (w ∷ []) e = post_any (Still n) (whole w) _ (λ v. post_any (Still n) (array_length v) _ (λ len.
      let made : Array = record { identity = h.job.next_array; owner = (top (below_top h.task.frames)).identity; writable = true; numbers = replicate len 0 } in
      still h (record h.job { arrays = made ∷ h.job.arrays; next_array = h.job.next_array + 1 }) (Original h.job.next_array ∷ []) [] None e))
  arraydec_still h (w ∷ v ∷ more) e = post_err (Still n) _

  print_still : (h : OperatorContext) (arguments : List Word) → length h.job.tasks ≡ n → Post (Still n) (print h arguments)
  print_still h [] e = post_err (Still n) _
  print_still h (w ∷ []) e = post_any (Still n) (whole w) _ (λ v. still h h.job [] (Value v ∷ []) None e)
  print_still h (w ∷ v ∷ more) e = post_err (Still n) _

  printrow_still : (h : OperatorContext) (arguments : List Word) → length h.job.tasks ≡ n → Post (Still n) (printrow h arguments)
  printrow_still h [] e = post_err (Still n) _
  printrow_still h (w ∷ []) e = post_any (Still n) (row_copy w) _ (λ a. post_any (Still n) (numbers_of (array h.job a).numbers) _ (λ values. still h h.job [] (Values values ∷ []) (Some a) e))
  printrow_still h (w ∷ v ∷ more) e = post_err (Still n) _

  read_still : (h : OperatorContext) (arguments : List Word) → length h.job.tasks ≡ n → Post (Still n) (read h arguments)
  read_still h [] e = still h (record h.job { numbers = (read_from h.job.numbers).1 }) (Operand (read_from h.job.numbers).0 ∷ []) [] None e
  read_still h (w ∷ more) e = post_err (Still n) _

  deallocate_still : (h : OperatorContext) (arguments : List Word) → length h.job.tasks ≡ n → Post (Still n) (deallocate h arguments)
  deallocate_still h [] e = post_err (Still n) _
  deallocate_still h (w ∷ []) e = post_any (Still n) (row_copy w) _ (λ a. post_then (Still n) (needs_writable h a) _ (still h (with_array h.job a all_zero) [] [] None e))
  deallocate_still h (w ∷ v ∷ more) e = post_err (Still n) _

  resize_still : (h : OperatorContext) (arguments : List Word) → length h.job.tasks ≡ n → Post (Still n) (resize h arguments)
  resize_still h [] e = post_err (Still n) _
  resize_still h (r ∷ []) e = post_err (Still n) _
  resize_still h (r ∷ w ∷ []) e =
      post_any (Still n) (row_copy r) _ (λ a. post_any (Still n) (whole w) _ (λ v. post_any (Still n) (array_length v) _ (λ len. post_then (Still n) (needs_writable h a) _ (still h (with_array h.job a (resized len)) [] [] (Some a) e))))
  resize_still h (r ∷ w ∷ v ∷ more) e = post_err (Still n) _

  pub call_still : (k : ℕ) (h : OperatorContext) (arguments : List Word) → IsApart k → length h.job.tasks ≡ n → Post (Still n) (intrinsic k h arguments)
  call_still k h arguments apart e =
      apart_row (Still n) k h arguments apart (arraydec_still h arguments e) (print_still h arguments e) (printrow_still h arguments e) (read_still h arguments e) (deallocate_still h arguments e) (resize_still h arguments e)

pub starts_none : (job : Job) (made : Answer Done) → Post (Still (length job.tasks)) made → started_by job made ≡ 0
starts_none job made quiet = grind arith

module _ (m : SessionJob) (t : Task) (n : ℕ) (k : Calling m t n) (apart : IsApart n) where
  as_many_by : Post (Still (length m.progress.job.tasks)) (step m.constants m.progress.job t)
  as_many_by = subst (Post (Still (length m.progress.job.tasks))) (sym k.is) (call_still (length m.progress.job.tasks) n (here m t k.next) k.arguments apart refl)

  pub call_starts : started_by m.progress.job (step m.constants m.progress.job t) ≡ 0
  call_starts = starts_none m.progress.job (step m.constants m.progress.job t) as_many_by

  -- what it makes has as many tasks
  pub as_many : (job : Job) (printed : List Line) (touched : Option ℕ) → step m.constants m.progress.job t ≡ Ok (Goes job printed touched) → length job.tasks ≡ length m.progress.job.tasks
  as_many job printed touched is = post_at (Still (length m.progress.job.tasks)) (step m.constants m.progress.job t) (Goes job printed touched) is as_many_by

-- a step that starts none
pub never_starts : (m : SessionJob) (t : Task) → started_by m.progress.job (step m.constants m.progress.job t) ≡ 0 → StartsTask m t → ⊥
never_starts m t none a = let one = ap (started_by m.progress.job) a.is in omega (arith, none, one, a.more)

-- the machine represents the session whose peak counts the tasks
pub stands_peak : (x : Storage) (told : Option (List (List ℕ))) (k : Machine) (plan : Placement) (s : Session) (m : SessionJob) (job : Job) → live_tasks s.jobs ≤ s.peak → length job.tasks ≡ length m.progress.job.tasks
    → MachineRepresents x told k plan (with_job s m job) → MachineRepresents x told k plan (session_moved s m job (length job.tasks - length m.progress.job.tasks))
stands_peak x told k plan s m job low same h = grind arith
