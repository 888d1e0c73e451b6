-- The session with one live task more, which nobody depends on: every other task, slot and object looks as it did.
-- Births read it forwards; the death of a task without descendants reads it backwards.
use Rattle.std.proofs.Common.{◌≡◌, ◌≢◌, ℕ, ◌+◌, List, [], ◌∷◌, Option, Some, None, refl, sym, ◌∙◌, ap, Bool, ⊎_elim, subst, arith}
use Rattle.std.specs.Prelude.{if◌then◌else◌, flat_map}
use Rattle.std.proofs.lemmas.Bool.{cases_eq, eq-eqb, ne_eqb}
use Rattle.b67_lemmas.specs.Lists.{Has}
use Rattle.b67_model.specs.Common.{Array, Task, Job, JobProgress, SessionJob, array, number_of}
use Rattle.b67_model.specs.Keyed.{keyed}
use Rattle.b67_stack.specs.Common.{PagedObject, Slot, Running, Waiting, MachineView, with_slot}
use Rattle.b67_stack.proofs.Slots.{slot-same, slot-other}
use Rattle.b67_layout.specs.Common.{Placement, Slotted, slot_of, outer_spots, spots, activations, stack_of_task, slot_with, slot_in, slot_by, slot_at, objects_of, machine_view}
use Rattle.b67_layout.proofs.Common.{with_course, member-same, member-other}
use Rattle.b67_layout.proofs.MachineViews.{objects-after}
use Rattle.b67_task.specs.Born.{with_task_at}
use Rattle.b67_task.specs.Joining.{Joins}
use Rattle.b67_lemmas.proofs.Members.{keyed_has}
use Rattle.b67_task.specs.Likes.{Like}
use Rattle.b67_task.proofs.AlikePlans.{like_same, stack-twin, spots-twin, slot_with-twin, name_all}

module _ (plan : Placement) (j n k peak : ℕ) where
  abbrev more : Placement
  more = with_task_at plan j n k peak

  pub slot_of-other : (i u : ℕ) → (i ≡ j → u ≢ n) → slot_of (with_task_at plan j n k peak) i u ≡ slot_of plan i u
  slot_of-other i u ne = grind arith

  pub slot_of-new : slot_of (with_task_at plan j n k peak) j n ≡ k
  slot_of-new = rw (eq-eqb j j refl, eq-eqb n n refl) refl

  pub objects-more : (jobs : List SessionJob) → flat_map (objects_of (with_task_at plan j n k peak)) jobs ≡ flat_map (objects_of plan) jobs
  objects-more [] = refl
  objects-more (m ∷ rest) = grind arith

module _ (plan : Placement) (jobs : List SessionJob) (m : SessionJob) (job' : Job) (child : Task) (k peak : ℕ) (h : Joins plan jobs m job' child k peak) where
  abbrev j : ℕ
  j = m.constants.number

  abbrev pub plan_more : Placement
  plan_more = with_task_at plan m.constants.number child.number k peak

  abbrev pub course_more : JobProgress
  course_more = record m.progress { job = job' }

  abbrev pub jobs_more : List SessionJob
  jobs_more = with_course jobs m.constants.number course_more

  abbrev N : Task → ℕ
  N t = t.number

  abbrev Old : ℕ → Type 0
  Old u = u ≢ child.number

  pub keyed_child : keyed (λ (t : Task). t.number) child.number job'.tasks ≡ Some child
  keyed_child = ap (keyed N child.number) h.tasks ∙ rw (eq-eqb child.number child.number refl) refl

  pub keyed_old : (u : ℕ) → u ≢ child.number → keyed (λ (t : Task). t.number) u job'.tasks ≡ keyed (λ (t : Task). t.number) u m.progress.job.tasks
  keyed_old u ne = ap (keyed N u) h.tasks ∙ rw (ne_eqb child.number u (λ e. ne (sym e))) refl

  old_slots : (u : ℕ) → u ≢ child.number → slot_of plan_more j u ≡ slot_of plan j u
  old_slots u ne = slot_of-other plan m.constants.number child.number k peak m.constants.number u (λ e. ne)

  other_slots : (i : ℕ) → i ≢ j → (u : ℕ) → Unit {0} → slot_of plan_more i u ≡ slot_of plan i u
  other_slots i ne u ok = slot_of-other plan m.constants.number child.number k peak i u (λ e. absurd (ne e))

  old_tasks : (u : ℕ) → u ≢ child.number → Like (keyed (λ (t : Task). t.number) u job'.tasks) (keyed (λ (t : Task). t.number) u m.progress.job.tasks)
  old_tasks u ne = subst (λ (o : Option Task). Like o (keyed (λ (t : Task). t.number) u m.progress.job.tasks)) (sym (keyed_old u ne)) (like_same (keyed N u m.progress.job.tasks))

  any_array : (a : ℕ) → Unit {0} → (array job' a ≡ array m.progress.job a) × (plan_more.home m.constants.number a ≡ plan.home m.constants.number a)
  any_array a ok = (ap (λ (xs : List Array). array (record m.progress.job { arrays = xs }) a) h.arrays, refl)

  pub spots_own : (t : Task) → Has m.progress.job.tasks t → (id : ℕ) → spots plan_more m.constants.number job' t id ≡ spots plan m.constants.number m.progress.job t id
  spots_own t i id = spots-twin plan plan_more m.constants.number m.progress.job job' Old (λ a. Unit {0}) old_slots old_tasks any_array t t (like_same (Some t)) (h.above t i) (h.newest t i) id

  pub spots_other : (i : ℕ) → i ≢ m.constants.number → (job : Job) (t : Task) (id : ℕ) → spots plan_more i job t id ≡ spots plan i job t id
  spots_other i ne job t id = spots-twin plan plan_more i job job (λ u. Unit {0}) (λ a. Unit {0}) (other_slots i ne) (λ u ok. like_same (keyed N u job.tasks)) (λ a ok. (refl, refl)) t t (like_same (Some t)) (λ u z. tt) tt id

  -- what the child sees: its parents are old ones
  pub child_stack : ((u : ℕ) → Has child.parents u → u ≢ child.number) → (q : ℕ) → stack_of_task plan_more m.constants.number job' q child ≡ activations plan m.constants.number m.progress.job q (outer_spots plan m.constants.number m.progress.job child.critical child.parents) child.frames
  child_stack old q = stack-twin plan plan_more m.constants.number m.progress.job job' Old (λ a. Unit {0}) old_slots old_tasks any_array child child (like_same (Some child)) old q (name_all child.frames)

  child_slot : slot_at plan_more jobs_more k ≡ Waiting (stack_of_task plan_more m.constants.number job' k child)
  child_slot =
      let found : keyed (λ (r : Slotted). r.slot) k plan_more.rows ≡ Some (record { job = j; task = child.number; slot = k }) = rw (eq-eqb k k refl) refl in
      ap (slot_by plan_more jobs_more k) found
      ∙ ap (slot_in plan_more k m.constants.number child.number) (member-same jobs m.constants.number course_more m h.member)
      ∙ ap (slot_with plan_more k m.constants.number job') keyed_child
      ∙ ap (λ (b : Bool). if b then Running (stack_of_task plan_more m.constants.number job' k child) else Waiting (stack_of_task plan_more m.constants.number job' k child)) (ne_eqb k plan.running h.away)

  own_slot : (q u : ℕ) → u ≢ child.number → slot_with plan_more q m.constants.number job' (keyed (λ (t : Task). t.number) u job'.tasks) ≡ slot_with plan q m.constants.number m.progress.job (keyed (λ (t : Task). t.number) u m.progress.job.tasks)
  own_slot q u ne =
      slot_with-twin plan plan_more m.constants.number m.progress.job job' Old (λ a. Unit {0}) old_slots old_tasks any_array q refl (keyed N u job'.tasks) (keyed N u m.progress.job.tasks) (old_tasks u ne)
      (λ t e. (h.above t (keyed_has N u m.progress.job.tasks t e).0, name_all t.frames))

  other_slot : (q i u : ℕ) → i ≢ m.constants.number → (o : Option SessionJob) → slot_in plan_more q i u o ≡ slot_in plan q i u o
  other_slot q i u ne None = refl
  other_slot q i u ne (Some y) = slot_with-twin plan plan_more i y.progress.job y.progress.job (λ u. Unit {0}) (λ a. Unit {0}) (other_slots i ne) (λ u ok. like_same (keyed N u y.progress.job.tasks)) (λ a ok. (refl, refl)) q refl (keyed N u y.progress.job.tasks) (keyed N u y.progress.job.tasks) (like_same (keyed N u y.progress.job.tasks)) (λ t e. (λ u z. tt, name_all t.frames))

  old_slot : (q : ℕ) → q ≢ k → slot_at plan_more jobs_more q ≡ slot_at plan jobs q
  old_slot q ne =
      let skip : keyed (λ (r : Slotted). r.slot) q plan_more.rows ≡ keyed (λ (r : Slotted). r.slot) q plan.rows = rw (ne_eqb k q (λ e. ne (sym e))) refl in
      ap (slot_by plan_more jobs_more q) skip ∙ by_row (keyed (λ (r : Slotted). r.slot) q plan.rows) refl where
        by_row : (o : Option Slotted) → keyed (λ (r : Slotted). r.slot) q plan.rows ≡ o → slot_by plan_more jobs_more q o ≡ slot_by plan jobs q o
        by_row None e = refl
        by_row (Some r) e = ⊎_elim
            (λ (z : r.job ≡ m.constants.number).
            let new : keyed number_of r.job jobs_more ≡ Some (record m { progress = course_more }) = ap (λ (i : ℕ). keyed number_of i jobs_more) z ∙ member-same jobs m.constants.number course_more m h.member in
            let old : keyed number_of r.job jobs ≡ Some m = ap (λ (i : ℕ). keyed number_of i jobs) z ∙ h.member in
            ap (slot_in plan_more q r.job r.task) new
            ∙ ap (λ (i : ℕ). slot_with plan_more q i job' (keyed N r.task job'.tasks)) z
            ∙ own_slot q r.task (h.row r (keyed_has (λ (r : Slotted). r.slot) q plan.rows r e).0 z)
            ∙ ap (λ (i : ℕ). slot_with plan q i m.progress.job (keyed N r.task m.progress.job.tasks)) (sym z)
            ∙ ap (slot_in plan q r.job r.task) (sym old))
            (λ (z : r.job ≡ m.constants.number → ⊥).
            ap (slot_in plan_more q r.job r.task) (member-other jobs m.constants.number course_more r.job z)
            ∙ other_slot q r.job r.task z (keyed number_of r.job jobs))
            (cases_eq r.job m.constants.number)

  -- the view: the task waits in its slot, and all else is as it was
  pub view_more : machine_view plan_more jobs_more ≡ with_slot (record (machine_view plan jobs) { peak = peak }) k (Waiting (stack_of_task plan_more m.constants.number job' k child))
  view_more =
      let p : MachineView = record (machine_view plan jobs) { peak = peak } in
      let slot = Waiting (stack_of_task plan_more m.constants.number job' k child) in
      let each : (q : ℕ) → slot_at plan_more jobs_more q ≡ (with_slot p k slot).slots q = λ q. ⊎_elim
      (λ (e : q ≡ k). ap (slot_at plan_more jobs_more) e ∙ child_slot ∙ sym (slot-same p k slot) ∙ ap (with_slot p k slot).slots (sym e))
      (λ (e : q ≡ k → ⊥). old_slot q e ∙ sym (slot-other p k slot q e))
      (cases_eq q k) in
      let same : slot_at plan_more jobs_more ≡ (with_slot p k slot).slots = λ z q. each q z in
      let objects : flat_map (objects_of plan_more) jobs_more ≡ flat_map (objects_of plan) jobs = objects-more plan m.constants.number child.number k peak jobs_more ∙ objects-after plan jobs m.constants.number course_more m h.member h.arrays in
      ap (λ (f : ℕ → Slot). record { stacks = plan.stacks; size = plan.size; peak = peak; slots = f; objects = flat_map (objects_of plan_more) jobs_more }) same
      ∙ ap (λ (ts : List PagedObject). record { stacks = plan.stacks; size = plan.size; peak = peak; slots = (with_slot p k slot).slots; objects = ts }) objects
