-- Turns of the loop over the stacks of tasks.
use Rattle.std.proofs.Common.{◌≡◌, ℕ, zero, suc, ◌+◌, ◌-◌, ◌*◌, ◌<◌, ◌≤◌, List, [], ◌∷◌, map, length, get_or, Some, refl, sym, ◌∙◌, ap, subst, arith, inl, inr, ⊎_elim}
use Rattle.std.specs.List.{slice_get}
use Rattle.std.proofs.lemmas.Bool.{cases_lt}
use Rattle.std.proofs.lemmas.Option.{same_Some}
use Rattle.std.proofs.Math.Nat.{mul-le-mul_right, suc-mul}
use Rattle.b67_lemmas.specs.Lists.{Has}
use Rattle.b67_layout.specs.Rows as rows
use Rattle.b67_task.specs.declared.tables.TaskRow.{TaskRow}
use Rattle.b67_task.specs.declared.tables.JobRow.{JobRow}
use Rattle.b67_task.specs.Tables.{task_row, job_row}
use Rattle.b67_layout_shown.specs.Shown.{Sight}
use Rattle.b67_image_shape.specs.TableFacts.{TableFacts}
use Rattle.b67_image_shape.specs.FixedWords.{FixedFacts}
use Rattle.b67_image_shape.specs.Held.{location_in}
use Rattle.b67_image_shape.specs.Items.{base_at, StackFactsBy}
use Rattle.b67_image_shape.specs.NearStacks.{NearStacks}
use Rattle.b67_image_shape.specs.TaskWalk.{TaskStands}
use Rattle.b67_image_shape.proofs.Rows.{of_row, row_fact}
use Rattle.b67_image_shape.proofs.EachTask.{each_task, task_at}
use Rattle.b67_image_shape.proofs.TaskWalked.{tasks_stand}

has_at : (xs : List TaskRow) (i : ℕ) (d : TaskRow) → i < length xs → Has (map task_row xs) (task_row (get_or xs i d))
has_at [] i d h = absurd (omega (arith, h))
has_at (x ∷ more) zero d h = inl refl
has_at (x ∷ more) (suc i) d h = inr (has_at more i d (omega (arith, h)))

at_has : (xs : List TaskRow) (r : rows.TaskRow) → Has (map task_row xs) r → (i : ℕ) × (d : TaskRow) × (i < length xs) × (task_row (get_or xs i d) ≡ r)
at_has [] r h = absurd h
at_has (x ∷ more) r (inl e) = (0, x, omega arith, e)
at_has (x ∷ more) r (inr h) = let (i, d, low, is) = at_has more r h in (suc i, d, omega (arith, low), is)

job_at : (js : List JobRow) (i : ℕ) (row : rows.JobRow) → slice_get (map job_row js) i ≡ Some row → (i < length js) × ((d : JobRow) → job_row (get_or js i d) ≡ row)
job_at [] i row e = absurd (let z : ⊥ = cc in z)
job_at (j ∷ more) zero row e = (omega arith, λ d. same_Some (job_row j) row e)
job_at (j ∷ more) (suc i) row e = let (low, is) = job_at more i row e in (omega (arith, low), is)

pub slot_inside : (stacks slot size peak low all : ℕ) → slot < peak → low ≡ stacks + peak * size → low ≤ all → stacks + slot * size + size ≤ all
slot_inside stacks slot size peak low all s l i = grind arith

-- the stack of a row stands, by its job's row
abbrev pub StandsTask : Sight → rows.TaskRow → Type 0
StandsTask k r = (row : rows.JobRow) → slice_get k.jobs (r.job - 1) ≡ Some row → TaskStands k row.segments r

abbrev pub StandBelow : Sight → List TaskRow → ℕ → Type 0
StandBelow k rs i = (n : ℕ) → n < i → (d : TaskRow) → StandsTask k (task_row (get_or rs n d))

module _ (k : Sight) (rs : List TaskRow) (js : List JobRow) (tasks : k.tasks ≡ map task_row rs) (jobs : k.jobs ≡ map job_row js) (facts : TableFacts k) (low size : ℕ) (fixed : FixedFacts k low size) where
  there : (i : ℕ) (d : TaskRow) → i < length rs → Has k.tasks (task_row (get_or rs i d))
  there i d h = subst (λ (xs : List rows.TaskRow). Has xs (task_row (get_or rs i d))) (sym tasks) (has_at rs i d h)

  -- a row's job has a row
  pub job_some : (i : ℕ) (d : TaskRow) → i < length rs → 1 ≤ (get_or rs i d).job
  job_some i d h = let some = (row_fact k facts (task_row (get_or rs i d)) (there i d h)).from_one in omega (arith, some)

  pub job_inside : (i : ℕ) (d : TaskRow) → i < length rs → (get_or rs i d).job - 1 < length js
  job_inside i d h =
      let o = of_row k facts (task_row (get_or rs i d)) (there i d h) in
      (job_at js ((get_or rs i d).job - 1) o.row (subst (λ (xs : List rows.JobRow). slice_get xs ((get_or rs i d).job - 1) ≡ Some o.row) jobs o.found)).0

  pub room_inside : (i : ℕ) (d : TaskRow) → i < length rs → base_at k (task_row (get_or rs i d)) + k.regs.stack_size ≤ length k.core
  room_inside i d h =
      let slot = (row_fact k facts (task_row (get_or rs i d)) (there i d h)).slot in
      grind (arith, slot_inside, get_or)

  segments_are : (i : ℕ) (d : TaskRow) (j : JobRow) (row : rows.JobRow) → j ≡ get_or js ((get_or rs i d).job - 1) j → slice_get k.jobs ((get_or rs i d).job - 1) ≡ Some row → j.segments ≡ row.segments
  segments_are i d j row is e = grind (arith, job_at, get_or)

  pub stand_next : (i : ℕ) (d : TaskRow) (j : JobRow) → i < length rs → j ≡ get_or js ((get_or rs i d).job - 1) j → StandBelow k rs i → TaskStands k j.segments (task_row (get_or rs i d)) → StandBelow k rs (i + 1)
  stand_next i d j low is before t n h e row found = ⊎_elim
      (λ (lt : n < i). before n lt e row found)
      (λ (le : i ≤ n).
      let at : i ≡ n = omega (arith, le, h) in
      let here : get_or rs i d ≡ get_or rs n e = ap (λ m. get_or rs m d) at ∙ any n d e (omega (arith, at, low)) in
      subst (λ (q : TaskRow). (row : rows.JobRow) → slice_get k.jobs (q.job - 1) ≡ Some row → TaskStands k row.segments (task_row q)) here
      (λ row found. subst (λ m. TaskStands k m (task_row (get_or rs i d))) (segments_are i d j row is found) t) row found)
      (cases_lt n i)
    where
      same_at : (xs : List TaskRow) (n : ℕ) (d e : TaskRow) → n < length xs → get_or xs n d ≡ get_or xs n e
      same_at [] n d e h = absurd (omega (arith, h))
      same_at (x ∷ more) zero d e h = refl
      same_at (x ∷ more) (suc n) d e h = same_at more n d e (omega (arith, h))

      any : (n : ℕ) (d e : TaskRow) → n < length rs → get_or rs n d ≡ get_or rs n e
      any n d e h = same_at rs n d e h

  pub all_stand : StandBelow k rs (length rs) → NearStacks k
  all_stand all = each_task k facts (StackFactsBy (location_in k.core) k) (λ r h.
      let o = of_row k facts r h in
      let (i, d, lt, is) = at_has rs r (subst (λ (xs : List rows.TaskRow). Has xs r) tasks h) in
      let t = subst (λ q. StandsTask k q) is (all i lt d) o.row o.found in
      let room = subst (λ q. base_at k q + k.regs.stack_size ≤ length k.core) is (room_inside i d lt) in
      (tasks_stand k o.row r.job r fixed.stack_high room).0 t)

  pub one_falls : (i : ℕ) (d : TaskRow) (j : JobRow) → i < length rs → j ≡ get_or js ((get_or rs i d).job - 1) j → (TaskStands k j.segments (task_row (get_or rs i d)) → ⊥) → NearStacks k → ⊥
  one_falls i d j low is not near =
      let h = there i d low in
      let o = of_row k facts (task_row (get_or rs i d)) h in
      let f = task_at k facts (StackFactsBy (location_in k.core) k) near (task_row (get_or rs i d)) h in
      let t = (tasks_stand k o.row (get_or rs i d).job (task_row (get_or rs i d)) fixed.stack_high (room_inside i d low)).1 f in
      not (subst (λ m. TaskStands k m (task_row (get_or rs i d))) (sym (segments_are i d j o.row is o.found)) t)
