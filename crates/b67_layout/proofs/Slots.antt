-- A task is replaced by one of whose frames others see the same: the view changes in that task's slot, and its objects are
-- those of before.
use Rattle.std.proofs.Common.{◌≡◌, ◌≢◌, ℕ, List, ◌++◌, map, Option, Some, None, refl, sym, ◌∙◌, ap, Bool, ⊎_elim, inr, subst, arith}
use Rattle.std.specs.Prelude.{if◌then◌else◌, flat_map}
use Rattle.std.proofs.lemmas.Bool.{cases_eq, eq-eqb}
use Rattle.b67_word.specs.Tagged.{Tagged}
use Rattle.b67_ctl.specs.declared.registers.Regs.{Regs}
use Rattle.b67_lemmas.specs.Lists.{Has, Falls}
use Rattle.b67_lemmas.proofs.Members.{keyed_has}
use Rattle.b67_model.specs.Common.{Array, Task, Job, JobProgress, SessionJob, number_of}
use Rattle.b67_model.specs.Keyed.{keyed}
use Rattle.b67_stack.specs.Common.{StackPlace, PagedObject, Slot, Running, Waiting, MachineView, Storage, Represents, with_stack}
use Rattle.b67_stack.proofs.Slots.{slot-same, slot-other}
use Rattle.b67_layout.specs.Common.{Slotted, Placement, outer_spots, activations, stack_of_task, slot_with, slot_in, slot_by, slot_at, objects_of, machine_view, with_objects, objects_gone}
use Rattle.b67_layout.proofs.Common.{with_course, member-same, member-other, RowOf, Replaces, task-same, task-other, Represents-objects, others}
use Rattle.b67_layout.proofs.Replaces.{outer_spots-after}
use Rattle.b67_layout.proofs.Objects.{objects-after}
use Rattle.b67_layout.proofs.Nowhere.{SameArrays, activations-same}

module _ (plan : Placement) (j : ℕ) (job job' : Job) (t t' : Task) (by : Replaces job job' t t') where
  outer-same : (u : Task) → Has job.tasks u → outer_spots plan j job' u.critical u.parents ≡ outer_spots plan j job u.critical u.parents
  outer-same u h = λ i id. outer_spots-after plan j job job' t t' by u.parents u.critical (inr (u, h, refl)) id i

  -- the slot of every task that names the same arrays is as it was
  pub slot_with-after : (k : ℕ) (u : Task) → Has job.tasks u → SameArrays job' job u.frames → slot_with plan k j job' (Some u) ≡ slot_with plan k j job (Some u)
  slot_with-after k u h same = grind (arith, activations-same, outer-same)

  -- the task's own stack, by what it saw before
  pub stack-after : (k : ℕ) → stack_of_task plan j job' k t' ≡ activations plan j job' k (outer_spots plan j job t.critical t.parents) t'.frames
  stack-after k =
      let h = (keyed_has (λ (u : Task). u.number) t.number job.tasks t by.there).0 in
      let outer : outer_spots plan j job' t'.critical t'.parents ≡ outer_spots plan j job t.critical t.parents =
      ap (λ (d : ℕ). outer_spots plan j job' d t'.parents) by.critical ∙ ap (outer_spots plan j job' t.critical) by.parents ∙ outer-same t h in
      ap (λ (o : ℕ → StackPlace). activations plan j job' k o t'.frames) outer

-- all other tasks name the same arrays
abbrev pub OthersSame : Job → Job → Task → Type 0
OthersSame new old t = (u : Task) → Has old.tasks u → u.number ≢ t.number → SameArrays new old u.frames

module _ (plan : Placement) (jobs : List SessionJob) (m : SessionJob) (c : JobProgress) (t t' : Task) (k : ℕ)
    (member : keyed number_of m.constants.number jobs ≡ Some m) (by : Replaces m.progress.job c.job t t') (row : RowOf plan m.constants.number t.number k) (words : OthersSame c.job m.progress.job t) where
  slot-here : slot_at plan (with_course jobs m.constants.number c) k ≡ Running (stack_of_task plan m.constants.number c.job k t')
  slot-here =
      ap (slot_by plan (with_course jobs m.constants.number c) k) row.found
      ∙ ap (λ (i : ℕ). slot_in plan k i row.row.task (keyed number_of i (with_course jobs m.constants.number c))) row.job
      ∙ ap (slot_in plan k m.constants.number row.row.task) (member-same jobs m.constants.number c m member)
      ∙ ap (λ (i : ℕ). slot_with plan k m.constants.number c.job (keyed (λ (u : Task). u.number) i c.job.tasks)) row.number
      ∙ ap (slot_with plan k m.constants.number c.job) (task-same plan m.constants.number m.progress.job c.job t t' by)
      ∙ ap (λ (b : Bool). if b then Running (stack_of_task plan m.constants.number c.job k t') else Waiting (stack_of_task plan m.constants.number c.job k t')) (eq-eqb k plan.running (sym row.running))

  same_task : (i u : ℕ) → u ≢ t.number → slot_with plan i m.constants.number c.job (keyed (λ (v : Task). v.number) u c.job.tasks) ≡ slot_with plan i m.constants.number m.progress.job (keyed (λ (v : Task). v.number) u m.progress.job.tasks)
  same_task i u ne = ap (slot_with plan i m.constants.number c.job) (task-other plan m.constants.number m.progress.job c.job t t' by u ne) ∙ by_task (keyed (λ (v : Task). v.number) u m.progress.job.tasks) refl where
    by_task : (o : Option Task) → keyed (λ (v : Task). v.number) u m.progress.job.tasks ≡ o → slot_with plan i m.constants.number c.job o ≡ slot_with plan i m.constants.number m.progress.job o
    by_task None e = refl
    by_task (Some v) e =
        let h = keyed_has (λ (v : Task). v.number) u m.progress.job.tasks v e in
        slot_with-after plan m.constants.number m.progress.job c.job t t' by i v h.0 (words v h.0 (λ z. ne (sym h.1 ∙ z)))

  slot-there : (i : ℕ) → i ≢ k → slot_at plan (with_course jobs m.constants.number c) i ≡ slot_at plan jobs i
  slot-there i ne = by_row (keyed (λ (r : Slotted). r.slot) i plan.rows) refl where
    by_row : (o : Option Slotted) → keyed (λ (r : Slotted). r.slot) i plan.rows ≡ o → slot_by plan (with_course jobs m.constants.number c) i o ≡ slot_by plan jobs i o
    by_row None e = refl
    by_row (Some r) e = ⊎_elim
        (λ (z : r.job ≡ m.constants.number).
        let new : keyed number_of r.job (with_course jobs m.constants.number c) ≡ Some (record m { progress = c }) = ap (λ (q : ℕ). keyed number_of q (with_course jobs m.constants.number c)) z ∙ member-same jobs m.constants.number c m member in
        let old : keyed number_of r.job jobs ≡ Some m = ap (λ (q : ℕ). keyed number_of q jobs) z ∙ member in
        ap (slot_in plan i r.job r.task) new
        ∙ ap (λ (q : ℕ). slot_with plan i q c.job (keyed (λ (v : Task). v.number) r.task c.job.tasks)) z
        ∙ same_task i r.task (λ w. ne (row.alone i r e z w))
        ∙ ap (λ (q : ℕ). slot_with plan i q m.progress.job (keyed (λ (v : Task). v.number) r.task m.progress.job.tasks)) (sym z)
        ∙ ap (slot_in plan i r.job r.task) (sym old))
        (λ (z : r.job ≡ m.constants.number → ⊥). ap (slot_in plan i r.job r.task) (member-other jobs m.constants.number c r.job z))
        (cases_eq r.job m.constants.number)

  pub slots-after : (i : ℕ) → slot_at plan (with_course jobs m.constants.number c) i ≡ (with_stack (machine_view plan jobs) k (stack_of_task plan m.constants.number c.job k t')).slots i
  slots-after i = ⊎_elim
      (λ (e : i ≡ k). ap (slot_at plan (with_course jobs m.constants.number c)) e ∙ slot-here ∙ sym (slot-same (machine_view plan jobs) k (Running (stack_of_task plan m.constants.number c.job k t'))) ∙ ap (λ (q : ℕ). (with_stack (machine_view plan jobs) k (stack_of_task plan m.constants.number c.job k t')).slots q) (sym e))
      (λ (e : i ≡ k → ⊥). slot-there i e ∙ sym (slot-other (machine_view plan jobs) k (Running (stack_of_task plan m.constants.number c.job k t')) i e))
      (cases_eq i k)

  -- the machine represents the view afterwards, where the arrays of an owner are gone and their objects are left
  pub memory-after : (x : Storage) (core : List Tagged) (r : Regs) (owner bound : ℕ) → Falls bound (map (λ (a : Array). a.identity) m.progress.job.arrays) → c.job.arrays ≡ others owner m.progress.job.arrays
      → Represents x core r (with_stack (machine_view plan jobs) k (stack_of_task plan m.constants.number c.job k t'))
      → Represents x core r (with_objects (objects_gone plan m c.job) (machine_view plan (with_course jobs m.constants.number c)))
  memory-after x core r owner bound falls is s =
      let q : MachineView = with_stack (machine_view plan jobs) k (stack_of_task plan m.constants.number c.job k t') in
      let objects : List PagedObject = objects_gone plan m c.job ++ flat_map (objects_of plan) (with_course jobs m.constants.number c) in
      let P : (ℕ → Slot) → MachineView = λ slots. record { stacks = plan.stacks; size = plan.size; peak = plan.peak; slots = slots; objects = objects } in
      let slots : q.slots ≡ slot_at plan (with_course jobs m.constants.number c) = λ z i. sym (slots-after i) z in
      subst (λ (f : ℕ → Slot). Represents x core r (P f)) slots (Represents-objects x core r q objects (objects-after plan jobs m c owner bound member falls is) s)
