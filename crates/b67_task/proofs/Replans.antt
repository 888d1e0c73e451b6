-- The view of a session under the plan in which another task's registers are in use.
use Rattle.std.proofs.Common.{◌≡◌, ◌≢◌, ℕ, ◌+◌, ◌<◌, ◌≤◌, List, [], ◌∷◌, ◌++◌, Option, Some, None, refl, sym, ◌∙◌, ap, arith, false, ◌==◌, ⊎_elim}
use Rattle.std.specs.Prelude.{if◌then◌else◌, flat_map}
use Rattle.std.proofs.lemmas.Bool.{cases_eq, eqb-true}
use Rattle.b67_model.specs.Common.{Task, Job, SessionJob, number_of}
use Rattle.b67_model.specs.Keyed.{keyed}
use Rattle.b67_stack.specs.Common.{Slot, Running, Waiting, with_slot}
use Rattle.b67_stack.proofs.Slots.{slot-same, slot-other}
use Rattle.b67_layout.specs.Common.{Placement, Slotted, slot_of, stack_of_task, slot_with, slot_in, slot_by, slot_at, objects_of, machine_view, RowsFit}
use Rattle.b67_layout.proofs.Rows.{row_of}
use Rattle.b67_task.specs.Turns.{with_running}
use Rattle.b67_lemmas.proofs.Members.{found-has, keyed_has}

module _ (plan : Placement) (k : ℕ) where
  pub stack-replan : (j : ℕ) (job : Job) (q : ℕ) (t : Task) → stack_of_task (with_running plan k) j job q t ≡ stack_of_task plan j job q t
  stack-replan j job q t = grind arith

  pub objects-replan : (jobs : List SessionJob) → flat_map (objects_of (with_running plan k)) jobs ≡ flat_map (objects_of plan) jobs
  objects-replan [] = refl
  objects-replan (m ∷ more) = grind arith

  -- the slot of a task whose registers are neither in use nor were
  module _ (jobs : List SessionJob) (q : ℕ) (now : (q == k) ≡ false) (before : (q == plan.running) ≡ false) where
    pub slot_by-replan : (o : Option Slotted) → slot_by (with_running plan k) jobs q o ≡ slot_by plan jobs q o
    slot_by-replan o = grind arith

pub fit_replan : (plan : Placement) (k : ℕ) (jobs : List SessionJob) → RowsFit plan jobs → RowsFit (with_running plan k) jobs
fit_replan plan k jobs f = record { live = f.live; slotted = f.slotted; below = f.below; differ = f.differ; tasks_differ = f.tasks_differ }

-- the slot of a live task
slot-of_task : (plan : Placement) (jobs : List SessionJob) (m : SessionJob) (t : Task) → RowsFit plan jobs → keyed number_of m.constants.number jobs ≡ Some m → keyed (λ (u : Task). u.number) t.number m.progress.job.tasks ≡ Some t → (q : ℕ) → q ≡ slot_of plan m.constants.number t.number
    → slot_at plan jobs q ≡ slot_with plan q m.constants.number m.progress.job (Some t)
slot-of_task plan jobs m t fit km kt q here =
    let inm = (keyed_has number_of m.constants.number jobs m km).0 in
    let int = (keyed_has (λ (u : Task). u.number) t.number m.progress.job.tasks t kt).0 in
    let r = row_of (with_running plan q) jobs m t (fit_replan plan q jobs fit) inm int here in
    ap (slot_by plan jobs q) r.found
    ∙ ap (λ (i : ℕ). slot_in plan q i r.row.task (keyed number_of i jobs)) r.job
    ∙ ap (slot_in plan q m.constants.number r.row.task) km
    ∙ ap (λ (i : ℕ). slot_with plan q m.constants.number m.progress.job (keyed (λ (u : Task). u.number) i m.progress.job.tasks)) r.number
    ∙ ap (slot_with plan q m.constants.number m.progress.job) kt

module _ (plan : Placement) (jobs : List SessionJob) (m : SessionJob) (t : Task) (fit : RowsFit plan jobs) (few : plan.peak ≤ 120)
    (km : keyed number_of m.constants.number jobs ≡ Some m) (kt : keyed (λ (u : Task). u.number) t.number m.progress.job.tasks ≡ Some t) (q : ℕ) (here : q ≡ slot_of plan m.constants.number t.number) where
  -- the slot of the task, whose registers may be in use
  pub slot_here : slot_at plan jobs q ≡ (if q == plan.running then Running (stack_of_task plan m.constants.number m.progress.job q t) else Waiting (stack_of_task plan m.constants.number m.progress.job q t))
  slot_here = slot-of_task plan jobs m t fit km kt q here

  -- where the registers in use are those of slot q or of none, before and after, other slots stay
  others_stay : (a : ℕ) → ((k : ℕ) → k ≢ q → k < 120 → (k == a) ≡ false) → ((k : ℕ) → k ≢ q → k < 120 → (k == plan.running) ≡ false)
      → (k : ℕ) → k ≢ q → slot_at (with_running plan a) jobs k ≡ slot_at plan jobs k
  others_stay a now before k ne = by_row (keyed (λ (r : Slotted). r.slot) k plan.rows) refl where
    by_row : (o : Option Slotted) → keyed (λ (r : Slotted). r.slot) k plan.rows ≡ o → slot_by (with_running plan a) jobs k o ≡ slot_by plan jobs k o
    by_row None e = refl
    by_row (Some r) e =
        let h = found-has (λ (x : Slotted). x.slot == k) plan.rows r e in
        let is : r.slot ≡ k = eqb-true r.slot k h.1 in
        let small : k < 120 = omega (arith, is, fit.below r h.0) in
        slot_by-replan plan a jobs k (now k ne small) (before k ne small) (Some r)

  pub machine_view-turned : (a : ℕ) (slot : Slot) → ((k : ℕ) → k ≢ q → k < 120 → (k == a) ≡ false) → ((k : ℕ) → k ≢ q → k < 120 → (k == plan.running) ≡ false)
      → slot_at (with_running plan a) jobs q ≡ slot → machine_view (with_running plan a) jobs ≡ with_slot (machine_view plan jobs) q slot
  machine_view-turned a slot now before is =
      let p = machine_view plan jobs in
      let each : (k : ℕ) → slot_at (with_running plan a) jobs k ≡ (with_slot (machine_view plan jobs) q slot).slots k = λ k. ⊎_elim
      (λ (e : k ≡ q). ap (slot_at (with_running plan a) jobs) e ∙ is ∙ sym (slot-same (machine_view plan jobs) q slot) ∙ ap (with_slot (machine_view plan jobs) q slot).slots (sym e))
      (λ (e : k ≡ q → ⊥). others_stay a now before k e ∙ sym (slot-other (machine_view plan jobs) q slot k e))
      (cases_eq k q) in
      grind (arith, objects-replan)
