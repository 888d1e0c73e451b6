-- The row and the slot of a live task.
use Rattle.std.proofs.Common.{◌≡◌, ℕ, ◌<◌, List, [], ◌∷◌, find, Option, Some, refl, sym, ◌∙◌, ap, Bool, true, false, ◌==◌, ⊎_elim, inl, inr, subst, arith}
use Rattle.std.specs.Prelude.{if◌then◌else◌, option_map, unwrap_or}
use Rattle.std.proofs.lemmas.Bool.{cases_Bool, eq-eqb, eqb-true}
use Rattle.b67_lemmas.specs.Lists.{Has}
use Rattle.b67_lemmas.proofs.Members.{found-has}
use Rattle.b67_model.specs.Common.{Task, SessionJob, number_of}
use Rattle.b67_model.specs.Keyed.{keyed}
use Rattle.b67_stack.specs.MachineView.{Running, Waiting, RunsOn}
use Rattle.b67_layout.specs.Common.{Slotted, Placement, is_row_of, slot_of, stack_of_task, slot_with, slot_in, slot_by, machine_view, RowsFit}
use Rattle.b67_layout.proofs.MachineViews.{RowOf}

-- an item that passes a test is found, or another one before it
pub record Finds {A : Type 0} (test : A → Bool) (xs : List A) : Type 0 where
  pub item : A
  pub found : find test xs ≡ Some item
  pub among : Has xs item
  pub passes : test item ≡ true

pub finds : {A : Type 0} (test : A → Bool) (xs : List A) (x : A) → Has xs x → test x ≡ true → Finds test xs
finds test [] x h e = absurd h
finds test (y ∷ ys) x h e = ⊎_elim
    (λ (t : test y ≡ true). record { item = y; found = rw t refl; among = inl refl; passes = t })
    (λ (t : test y ≡ false).
    let there : Has ys x = ⊎_elim (λ (z : y ≡ x). absurd (let f : ⊥ = (let u : test x ≡ false = ap test (sym z) ∙ t in let v : false ≡ true = sym u ∙ e in cc) in f)) (λ k. k) h in
    let r = finds test ys x there e in
    record { item = r.item; found = rw t r.found; among = inr r.among; passes = r.passes })
    (cases_Bool (test y))

pub is_row-true : (job task : ℕ) (r : Slotted) → r.job ≡ job → r.task ≡ task → is_row_of job task r ≡ true
is_row-true job task r a b = rw (eq-eqb r.job job a, eq-eqb r.task task b) refl

row-true : (job task : ℕ) (r : Slotted) → is_row_of job task r ≡ true → (r.job ≡ job) × (r.task ≡ task)
row-true job task r e = grind arith

-- a live task's row
pub record TaskRow (plan : Placement) (j task : ℕ) : Type 0 where
  pub row : Slotted
  pub among : Has plan.rows row
  pub job : row.job ≡ j
  pub number : row.task ≡ task
  pub slot : slot_of plan j task ≡ row.slot

pub task_row : (plan : Placement) (jobs : List SessionJob) (m : SessionJob) (t : Task) → RowsFit plan jobs → Has jobs m → Has m.progress.job.tasks t → TaskRow plan m.constants.number t.number
task_row plan jobs m t fit inm int =
    let (r, inr_, ej, et) = fit.slotted m t inm int in
    let f = finds (is_row_of m.constants.number t.number) plan.rows r inr_ (is_row-true m.constants.number t.number r ej et) in
    grind (arith, row-true)

-- the row of the running task
pub row_of : (plan : Placement) (jobs : List SessionJob) (m : SessionJob) (t : Task) → RowsFit plan jobs → Has jobs m → Has m.progress.job.tasks t → plan.running ≡ slot_of plan m.constants.number t.number
    → RowOf plan m.constants.number t.number plan.running
row_of plan jobs m t fit inm int runs =
    let a = task_row plan jobs m t fit inm int in
    let at : a.row.slot ≡ plan.running = sym (runs ∙ a.slot) in
    let f = finds (λ (r : Slotted). r.slot == plan.running) plan.rows a.row a.among (eq-eqb a.row.slot plan.running at) in
    let same : f.item ≡ a.row = fit.differ f.item a.row f.among a.among (eqb-true f.item.slot plan.running f.passes ∙ sym at) in
    record {
      row = f.item;
      found = f.found;
      job = ap (λ (r : Slotted). r.job) same ∙ a.job;
      number = ap (λ (r : Slotted). r.task) same ∙ a.number;
      running = refl;
      alone = λ i r e ej et.
          let h = found-has (λ (q : Slotted). q.slot == i) plan.rows r e in
          let is : r ≡ a.row = fit.tasks_differ r a.row h.0 a.among (ej ∙ sym a.job) (et ∙ sym a.number) in
          sym (eqb-true r.slot i h.1) ∙ ap (λ (q : Slotted). q.slot) is ∙ at;
    }

pub slot_below : (plan : Placement) (jobs : List SessionJob) (m : SessionJob) (t : Task) → RowsFit plan jobs → Has jobs m → Has m.progress.job.tasks t → slot_of plan m.constants.number t.number < plan.peak
slot_below plan jobs m t fit inm int = let a = task_row plan jobs m t fit inm int in subst (λ (n : ℕ). n < plan.peak) (sym a.slot) (fit.below a.row a.among)

-- the running task runs on the stack of its frames
pub runs_on : (plan : Placement) (jobs : List SessionJob) (m : SessionJob) (t : Task) → RowsFit plan jobs → Has jobs m → Has m.progress.job.tasks t → plan.running ≡ slot_of plan m.constants.number t.number
    → keyed number_of m.constants.number jobs ≡ Some m → keyed (λ (u : Task). u.number) t.number m.progress.job.tasks ≡ Some t
    → RunsOn (machine_view plan jobs) plan.running (stack_of_task plan m.constants.number m.progress.job plan.running t)
runs_on plan jobs m t fit inm int runs km kt =
    let r = row_of plan jobs m t fit inm int runs in
    let j = m.constants.number in
    record {
      used = subst (λ (n : ℕ). n < plan.peak) (sym runs) (slot_below plan jobs m t fit inm int);
      is = ap (slot_by plan jobs plan.running) r.found
          ∙ ap (λ (i : ℕ). slot_in plan plan.running i r.row.task (keyed number_of i jobs)) r.job
          ∙ ap (slot_in plan plan.running j r.row.task) km
          ∙ ap (λ (i : ℕ). slot_with plan plan.running j m.progress.job (keyed (λ (u : Task). u.number) i m.progress.job.tasks)) r.number
          ∙ ap (slot_with plan plan.running j m.progress.job) kt
          ∙ ap (λ (b : Bool). if b then Running (stack_of_task plan j m.progress.job plan.running t) else Waiting (stack_of_task plan j m.progress.job plan.running t)) (eq-eqb plan.running plan.running refl);
    }
