-- A step of one task on top of its stack changes the view in that task's slot alone.
use Rattle.std.proofs.Common.{◌≡◌, ◌≢◌, ℕ, List, [], ◌∷◌, ◌++◌, Option, Some, None, refl, sym, ◌∙◌, ap, Bool, true, false, cond, ◌==◌, ⊎_elim, arith}
use Rattle.std.specs.Prelude.{if◌then◌else◌, flat_map}
use Rattle.std.proofs.lemmas.Option.{same_Some}
use Rattle.std.proofs.lemmas.Bool.{cases_eq, cases_Bool, eq-eqb, ne_eqb, eqb-true}
use Rattle.b67_model.specs.Common.{Task, JobProgress, SessionJob, number_of}
use Rattle.b67_model.specs.Keyed.{keyed, change_keyed}
use Rattle.b67_stack.specs.Common.{StackPlace, Activation, PagedObject, Slot, Running, Waiting, MachineView, with_stack}
use Rattle.b67_stack.proofs.Slots.{slot-same, slot-other}
use Rattle.b67_layout.specs.Common.{Slotted, Placement, outer_spots, activations, stack_of_task, slot_with, slot_in, slot_by, slot_at, objects_of, machine_view}
use Rattle.b67_layout.proofs.Others.{OnTop, task-same, task-other, slot_with-after, outer_spots-after, activations-job}
use Rattle.b67_lemmas.proofs.Members.{keyed_has}

-- the jobs with another course of job j
abbrev pub with_course : List SessionJob → ℕ → JobProgress → List SessionJob
with_course jobs j c = change_keyed number_of j (λ (m : SessionJob). record m { progress = c }) jobs

pub member-same : (jobs : List SessionJob) (j : ℕ) (c : JobProgress) (m : SessionJob) → keyed number_of j jobs ≡ Some m → keyed number_of j (with_course jobs j c) ≡ Some (record m { progress = c })
member-same [] j c m e = cc
member-same (x ∷ xs) j c m e = grind (arith, member-same xs j c m)

pub member-other : (jobs : List SessionJob) (j : ℕ) (c : JobProgress) (i : ℕ) → i ≢ j → keyed number_of i (with_course jobs j c) ≡ keyed number_of i jobs
member-other [] j c i ne = refl
member-other (x ∷ xs) j c i ne = grind (arith, member-other xs j c i ne)

pub objects-after : (plan : Placement) (jobs : List SessionJob) (j : ℕ) (c : JobProgress) (m : SessionJob) → keyed number_of j jobs ≡ Some m → c.job.arrays ≡ m.progress.job.arrays → flat_map (objects_of plan) (with_course jobs j c) ≡ flat_map (objects_of plan) jobs
objects-after plan [] j c m e same = refl
objects-after plan (x ∷ xs) j c m e same = grind (arith, objects-after plan xs j c m)

-- the running task's row is its own: no other slot has it
pub record RowOf (plan : Placement) (j task k : ℕ) : Type 0 where
  pub row : Slotted
  pub found : keyed (λ (r : Slotted). r.slot) k plan.rows ≡ Some row
  pub job : row.job ≡ j
  pub number : row.task ≡ task
  pub running : plan.running ≡ k
  pub alone : (i : ℕ) (r : Slotted) → keyed (λ (r : Slotted). r.slot) i plan.rows ≡ Some r → r.job ≡ j → r.task ≡ task → i ≡ k

module _ (plan : Placement) (jobs : List SessionJob) (j : ℕ) (m : SessionJob) (c : JobProgress) (t t' : Task) (n k : ℕ)
    (member : keyed number_of j jobs ≡ Some m) (top : OnTop m.progress.job c.job t t' n) (row : RowOf plan j t.number k) where
  after : List Activation
  after = stack_of_task plan j c.job k t'

  slot-here : slot_at plan (with_course jobs j c) k ≡ Running (stack_of_task plan j c.job k t')
  slot-here =
      ap (slot_by plan (with_course jobs j c) k) row.found
      ∙ ap (λ (i : ℕ). slot_in plan k i row.row.task (keyed number_of i (with_course jobs j c))) row.job
      ∙ ap (slot_in plan k j row.row.task) (member-same jobs j c m member)
      ∙ ap (λ (i : ℕ). slot_with plan k j c.job (keyed (λ (u : Task). u.number) i c.job.tasks)) row.number
      ∙ ap (slot_with plan k j c.job) (task-same plan j m.progress.job c.job t t' n top)
      ∙ ap (λ (b : Bool). if b then Running (stack_of_task plan j c.job k t') else Waiting (stack_of_task plan j c.job k t')) (eq-eqb k plan.running (sym row.running))

  same_task : (i u : ℕ) → u ≢ t.number → slot_with plan i j c.job (keyed (λ (v : Task). v.number) u c.job.tasks) ≡ slot_with plan i j m.progress.job (keyed (λ (v : Task). v.number) u m.progress.job.tasks)
  same_task i u ne = ap (slot_with plan i j c.job) (task-other plan j m.progress.job c.job t t' n top u ne) ∙ by_task (keyed (λ (v : Task). v.number) u m.progress.job.tasks) refl where
    by_task : (o : Option Task) → keyed (λ (v : Task). v.number) u m.progress.job.tasks ≡ o → slot_with plan i j c.job o ≡ slot_with plan i j m.progress.job o
    by_task None e = refl
    by_task (Some v) e = slot_with-after plan j m.progress.job c.job t t' n top i v (top.uncritical v (keyed_has (λ (v : Task). v.number) u m.progress.job.tasks v e).0)

  slot-there : (i : ℕ) → i ≢ k → slot_at plan (with_course jobs j c) i ≡ slot_at plan jobs i
  slot-there i ne = by_row (keyed (λ (r : Slotted). r.slot) i plan.rows) refl where
    by_row : (o : Option Slotted) → keyed (λ (r : Slotted). r.slot) i plan.rows ≡ o → slot_by plan (with_course jobs j c) i o ≡ slot_by plan jobs i o
    by_row None e = refl
    by_row (Some r) e = ⊎_elim
        (λ (z : r.job ≡ j).
        let new : keyed number_of r.job (with_course jobs j c) ≡ Some (record m { progress = c }) = ap (λ (q : ℕ). keyed number_of q (with_course jobs j c)) z ∙ member-same jobs j c m member in
        let old : keyed number_of r.job jobs ≡ Some m = ap (λ (q : ℕ). keyed number_of q jobs) z ∙ member in
        ap (slot_in plan i r.job r.task) new
        ∙ ap (λ (q : ℕ). slot_with plan i q c.job (keyed (λ (v : Task). v.number) r.task c.job.tasks)) z
        ∙ same_task i r.task (λ w. ne (row.alone i r e z w))
        ∙ ap (λ (q : ℕ). slot_with plan i q m.progress.job (keyed (λ (v : Task). v.number) r.task m.progress.job.tasks)) (sym z)
        ∙ ap (slot_in plan i r.job r.task) (sym old))
        (λ (z : r.job ≡ j → ⊥). ap (slot_in plan i r.job r.task) (member-other jobs j c r.job z))
        (cases_eq r.job j)

  slots-after : (i : ℕ) → slot_at plan (with_course jobs j c) i ≡ (with_stack (machine_view plan jobs) k (stack_of_task plan j c.job k t')).slots i
  slots-after i = ⊎_elim
      (λ (e : i ≡ k). ap (slot_at plan (with_course jobs j c)) e ∙ slot-here ∙ sym (slot-same (machine_view plan jobs) k (Running (stack_of_task plan j c.job k t'))) ∙ ap (λ (q : ℕ). (with_stack (machine_view plan jobs) k (stack_of_task plan j c.job k t')).slots q) (sym e))
      (λ (e : i ≡ k → ⊥). slot-there i e ∙ sym (slot-other (machine_view plan jobs) k (Running (stack_of_task plan j c.job k t')) i e))
      (cases_eq i k)

  -- the view afterwards
  pub machine_view-after : machine_view plan (with_course jobs j c) ≡ with_stack (machine_view plan jobs) k (stack_of_task plan j c.job k t')
  machine_view-after = grind (arith, slots-after, objects-after)

  -- the changed task's stack, by what it saw before
  pub stack-after : stack_of_task plan j c.job k t' ≡ activations plan j m.progress.job k (outer_spots plan j m.progress.job t.critical t.parents) t'.frames
  stack-after =
      let own : t.critical ≢ n = top.uncritical t (keyed_has (λ (v : Task). v.number) t.number m.progress.job.tasks t top.there).0 in
      let outer : outer_spots plan j c.job t'.critical t'.parents ≡ outer_spots plan j m.progress.job t.critical t.parents =
      ap (λ (d : ℕ). outer_spots plan j c.job d t'.parents) top.critical ∙ ap (outer_spots plan j c.job t.critical) top.parents ∙ (λ z id. outer_spots-after plan j m.progress.job c.job t t' n top t.parents t.critical own id z) in
      ap (λ (o : ℕ → StackPlace). activations plan j c.job k o t'.frames) outer
      ∙ activations-job plan j m.progress.job c.job top.arrays k (outer_spots plan j m.progress.job t.critical t.parents) t'.frames
