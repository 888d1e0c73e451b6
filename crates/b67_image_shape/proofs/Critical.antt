-- The topmost frame of a task that another one depends on is that of the greatest critical displacement of its children.
use Rattle.std.proofs.Common.{◌≡◌, ℕ, ◌+◌, ◌-◌, ◌^◌, ◌<◌, ◌≤◌, ◌==◌, Bool, true, false, List, [], ◌∷◌, map, length, Option, Some, None, refl, sym, ◌∙◌, ap, subst, arith, inl, inr}
use Rattle.std.specs.Prelude.{◌⊎◌, max, if◌then◌else◌}
use Rattle.std.specs.List.{slice_get}
use Rattle.std.proofs.lemmas.Bool.{cases_Bool, cases_lt, eq-eqb, eqb-true}
use Rattle.std.proofs.lemmas.List.{length-map}
use Rattle.std.proofs.lemmas.Option.{same_Some}
use Rattle.b67_lemmas.specs.Lists.{Has}
use Rattle.b67_lemmas.proofs.Members.{keyed_has, has_map_back, has_filter, any_some, any_has}
use Rattle.b67_model.specs.Keyed.{keyed}
use Rattle.b67_model.specs.Common.{Frame, Task, Job, BirthInOrder, identities, height, words_of, is_critical}
use Rattle.b67_stack.specs.Common as stack
use Rattle.b67_stack.specs.Common.{Head, Activation, StackPlace, head_size, stack_words}
use Rattle.b67_layout.specs.Session.{critical_mark}
use Rattle.b67_layout.specs.Rows.{TaskRow, JobRow}
use Rattle.b67_layout_shown.specs.Places.{named}
use Rattle.b67_layout_shown.specs.Shown.{Sight, frame_seen, array_homed, standing_of, word_seen, frames_of, stack_of_row, critical_by, parents_by, rows_of, task_in, job_seen}
use Rattle.b67_image_shape.specs.TableFacts.{row_in_slot, rows_in, BornBy, TableFacts}
use Rattle.b67_image_shape.specs.FixedWords.{greatest}
use Rattle.b67_image_shape.specs.Items.{EachTask, StackFacts, ReachFacts}
use Rattle.b67_layout_shown.proofs.Sorted.{sorted_has}
use Rattle.b67_image_shape.proofs.Rows.{of_row, row_fact, same_number, found_row, task_found}
use Rattle.b67_image_shape.proofs.EachTask.{task_at}

-- ---- the greatest of some rows

max_right : (a b : ℕ) → b ≤ max a b
max_right a b = omega arith

max_one : (a b : ℕ) → (max a b ≡ a) ⊎ (max a b ≡ b)
max_one a b = elim (cases_lt a b) [ inl h ↦ inr (omega (arith, h)) | inr h ↦ inl (omega (arith, h)) ]

pub greatest_above : (rs : List TaskRow) (n : ℕ) (q : TaskRow) → Has rs q → q.parent ≡ n → q.critical ≤ greatest rs n
greatest_above [] n q h e = absurd h
greatest_above (r ∷ more) n q (inl s) e = grind arith
greatest_above (r ∷ more) n q (inr h) e = grind (arith, max_right, greatest_above more n q h e)

-- a row with the greatest displacement, if that isn't 0
abbrev pub HasGreatest : List TaskRow → ℕ → ℕ → Type 0
HasGreatest rs n g = (g ≡ 0) ⊎ ((q : TaskRow) × Has rs q × (q.parent ≡ n) × (q.critical ≡ g))

wider : (r : TaskRow) (rs : List TaskRow) (n g : ℕ) → HasGreatest rs n g → HasGreatest (r ∷ rs) n g
wider r rs n g h = grind arith

pub greatest_one : (rs : List TaskRow) (n : ℕ) → HasGreatest rs n (greatest rs n)
greatest_one [] n = inl refl
greatest_one (r ∷ more) n = grind (arith, cases_Bool, max_one, eqb-true, wider, greatest_one more n)

-- ---- frames that are read

module _ (number : ℕ) (frame : StackPlace → ℕ) (array : ℕ → ℕ) where
  pub high_is : (acts : List Activation) → height (frames_of number frame array acts) ≡ stack_words acts + 1
  high_is [] = refl
  high_is (a ∷ below) = grind (arith, length-map, high_is below)

  -- the frame of a name: its displacement
  pub place_of_name : (acts : List Activation) (i : ℕ) → Has (identities (frames_of number frame array acts)) i → (d : ℕ) × (i ≡ named number d) × (0 < d) × (d ≤ stack_words acts)
  place_of_name [] i h = absurd h
  place_of_name (a ∷ below) i (inl e) = grind arith
  place_of_name (a ∷ below) i (inr h) = let (d, e, some, low) = place_of_name below i h in (d, e, some, omega (arith, low))

name_same : (m n c d : ℕ) → named m c ≡ named n d → c < 2 ^ 14 → d < 2 ^ 14 → (m ≡ n) × (c ≡ d)
name_same m n c d e lc ld = (omega (arith, e, lc, ld), omega (arith, e, lc, ld))

-- ---- the task of a row

module _ (k : Sight) (facts : TableFacts k) (stacks : EachTask k (StackFacts k)) (reach : EachTask k (ReachFacts k)) (small : k.regs.stack_size < 2 ^ 14) where
  stack_low : (r : TaskRow) → Has k.tasks r → stack_words (stack_of_row k r) < 2 ^ 14
  stack_low r h = let f = (task_at k facts (StackFacts k) stacks r h).fits.fits in omega (arith, f, small)

  -- a child's critical name is that of a frame of its parent
  pub child_named : (q r : TaskRow) (hq : Has k.tasks q) (hr : Has k.tasks r) → q.parent ≡ r.slot → Has (identities (task_in k (of_row k facts r hr).row r.job r).frames) (named r.number q.critical)
  child_named q r hq hr e = by (row_in_slot k.tasks q.parent) (ap (row_in_slot k.tasks) e ∙ found_row k facts r hr) (row_fact k facts q hq).born (task_at k facts (ReachFacts k) reach q hq).birth where
    row : JobRow
    row = (of_row k facts r hr).row

    by : (o : Option TaskRow) → o ≡ Some r → BornBy q o → BirthInOrder (job_seen k (of_row k facts q hq).row q.job) (record (task_in k (of_row k facts q hq).row q.job q) { parents = parents_by k.tasks 15 o; critical = critical_by k.tasks q.critical o }) (parents_by k.tasks 15 o)
        → Has (identities (task_in k (of_row k facts r hr).row r.job r).frames) (named r.number q.critical)
    by None same b birth = absurd (let z : ⊥ = cc in z)
    by (Some p) same b birth =
        let is : p ≡ r = same_Some p r same in
        let job : q.job ≡ r.job = sym b.0 ∙ ap (λ (z : TaskRow). z.job) is in
        let rows : (of_row k facts q hq).row ≡ (of_row k facts r hr).row =
        same_Some (of_row k facts q hq).row (of_row k facts r hr).row (sym (of_row k facts q hq).found ∙ ap (λ j. slice_get k.jobs (j - 1)) job ∙ (of_row k facts r hr).found) in
        let jobs : job_seen k (of_row k facts q hq).row q.job ≡ job_seen k (of_row k facts r hr).row r.job = ap (λ (w : JobRow). job_seen k w q.job) rows ∙ ap (job_seen k (of_row k facts r hr).row) job in
        let parent : birth.parent ≡ task_in k (of_row k facts r hr).row r.job r =
        same_Some birth.parent (task_in k (of_row k facts r hr).row r.job r) (sym birth.found ∙ ap (λ (j : Job). keyed (λ (u : Task). u.number) p.number j.tasks) jobs ∙ ap (λ (z : TaskRow). keyed (λ (u : Task). u.number) z.number (job_seen k (of_row k facts r hr).row r.job).tasks) is ∙ task_found k facts r hr) in
        subst (λ (z : TaskRow). Has (identities (task_in k (of_row k facts r hr).row r.job r).frames) (named z.number q.critical)) is
        (subst (λ (u : Task). Has (identities u.frames) (named p.number q.critical)) parent birth.is_critical)

  module _ (r : TaskRow) (hr : Has k.tasks r) where
    abbrev job : Job
    job = job_seen k (of_row k facts r hr).row r.job

    abbrev fr : StackPlace → ℕ
    fr = frame_seen k.tasks r.job

    abbrev ar : ℕ → ℕ
    ar = array_homed k.regs k.tasks (of_row k facts r hr).row

    -- a frame's name is critical if a child has it
    is_one : (q : TaskRow) → Has k.tasks q → q.parent ≡ r.slot → is_critical job (named r.number q.critical) ≡ true
    is_one q hq e =
        let born = (row_fact k facts q hq).born in
        let found = ap (row_in_slot k.tasks) e ∙ found_row k facts r hr in
        let b = subst (BornBy q) found born in
        let o = of_row k facts q hq in
        let rows : o.row ≡ (of_row k facts r hr).row = same_Some o.row (of_row k facts r hr).row (sym o.found ∙ ap (λ j. slice_get k.jobs (j - 1)) (sym b.0) ∙ (of_row k facts r hr).found) in
        grind (arith, of_row, any_some, eq-eqb)

    -- and only then
    child_of : (d : ℕ) → 0 < d → d < 2 ^ 14 → is_critical job (named r.number d) ≡ true → (q : TaskRow) × Has k.tasks q × (q.parent ≡ r.slot) × (q.critical ≡ d)
    child_of d some low e =
        let (u, live, at) = any_has (λ (u : Task). u.critical == named r.number d) job.tasks e in
        let b = has_map_back (task_in k (of_row k facts r hr).row r.job) (rows_of k.tasks r.job) u live in
        let f = has_filter (λ (q : TaskRow). q.job == r.job) k.tasks b.item (sorted_has (rows_in k.tasks r.job) b.item b.among) in
        let name : critical_by k.tasks b.item.critical (row_in_slot k.tasks b.item.parent) ≡ named r.number d = ap (λ (v : Task). v.critical) b.is ∙ eqb-true u.critical (named r.number d) at in
        by b.item f.0 (eqb-true b.item.job r.job f.1) (row_in_slot k.tasks b.item.parent) refl name where
          by : (q : TaskRow) → Has k.tasks q → q.job ≡ r.job → (o : Option TaskRow) → row_in_slot k.tasks q.parent ≡ o → critical_by k.tasks q.critical o ≡ named r.number d → (q : TaskRow) × Has k.tasks q × (q.parent ≡ r.slot) × (q.critical ≡ d)
          by q hq ej None is name = absurd (omega (arith, name, some))
          by q hq ej (Some p) is name =
              let found = keyed_has (λ (z : TaskRow). z.slot) q.parent k.tasks p is in
              let born = subst (BornBy q) is (row_fact k facts q hq).born in
              let (c, same, some', under) = place_of_name p.number (frame_seen k.tasks p.job) (array_homed k.regs k.tasks (of_row k facts p found.0).row) (stack_of_row k p) (named p.number q.critical) (child_named q p hq found.0 (sym found.1)) in
              let high = stack_low p found.0 in
              let cd : q.critical ≡ c = omega (arith, same) in
              let n = name_same p.number r.number q.critical d name (omega (arith, cd, under, high)) low in
              let one : p ≡ r = same_number k facts p r found.0 hr (born.0 ∙ ej) n.0 in
              (q, hq, sym found.1 ∙ ap (λ (z : TaskRow). z.slot) one, n.1)

    abbrev frames : List Activation → List Frame
    frames acts = frames_of r.number fr ar acts

    above : (acts : List Activation) (q : TaskRow) → Has k.tasks q → q.parent ≡ r.slot → Has (identities (frames acts)) (named r.number q.critical) → q.critical ≤ critical_mark job (frames acts)
    above [] q hq e h = absurd h
    above (a ∷ below) q hq e (inl s) = grind (arith, is_one, high_is)
    above (a ∷ below) q hq e (inr h) = by (is_critical job (named r.number (stack_words below + 1))) (above below q hq e h) where
      by : (b : Bool) → q.critical ≤ critical_mark job (frames below) → q.critical ≤ (if b then height (frames below) else critical_mark job (frames below))
      by true rest =
          let (d, same, some, low) = place_of_name r.number fr ar below (named r.number q.critical) h in
          let high = high_is r.number fr ar below in
          omega (arith, same, low, high)
      by false rest = rest

    one : (acts : List Activation) → stack_words acts < 2 ^ 14 → HasGreatest k.tasks r.slot (critical_mark job (frames acts))
    one [] low = inl refl
    one (a ∷ below) low = by a.head low (cases_Bool (is_critical job (named r.number (stack_words below + 1)))) (λ u. one below u) where
      under : (h : Head) → stack_words below + (head_size h + length a.cells) < 2 ^ 14 → stack_words below + 1 < 2 ^ 14
      under stack.Marked low = omega (arith, low)
      under (stack.Entered level environment back) low = omega (arith, low)

      by : (h : Head) → stack_words below + (head_size h + length a.cells) < 2 ^ 14 → (is_critical job (named r.number (stack_words below + 1)) ≡ true) ⊎ (is_critical job (named r.number (stack_words below + 1)) ≡ false)
          → (stack_words below < 2 ^ 14 → HasGreatest k.tasks r.slot (critical_mark job (frames below))) → HasGreatest k.tasks r.slot (critical_mark job (frames (a ∷ below)))
      by h low (inl t) rest =
          let (q, hq, e, c) = child_of (stack_words below + 1) (omega arith) (under h low) t in
          let high = high_is r.number fr ar below in
          subst (λ (b : Bool). HasGreatest k.tasks r.slot (if b then height (frames below) else critical_mark job (frames below))) (sym t) (inr (q, hq, e, c ∙ sym high))
      by h low (inr t) rest = (let b' = under h low in subst (λ (b : Bool). HasGreatest k.tasks r.slot (if b then height (frames below) else critical_mark job (frames below))) (sym t) (rest (omega (arith, b'))))

    pub critical_is : critical_mark job (task_in k (of_row k facts r hr).row r.job r).frames ≡ greatest k.tasks r.slot
    critical_is =
        let c = critical_mark job (task_in k (of_row k facts r hr).row r.job r).frames in
        let g = greatest k.tasks r.slot in
        let a = low (one (stack_of_row k r) (stack_low r hr)) in
        let b = high (greatest_one k.tasks r.slot) in
        omega (arith, a, b) where
          low : HasGreatest k.tasks r.slot (critical_mark job (task_in k (of_row k facts r hr).row r.job r).frames) → critical_mark job (task_in k (of_row k facts r hr).row r.job r).frames ≤ greatest k.tasks r.slot
          low (inl z) = omega (arith, z)
          low (inr (q, hq, e, c)) = let up = greatest_above k.tasks r.slot q hq e in omega (arith, up, c)

          high : HasGreatest k.tasks r.slot (greatest k.tasks r.slot) → greatest k.tasks r.slot ≤ critical_mark job (task_in k (of_row k facts r hr).row r.job r).frames
          high (inl z) = omega (arith, z)
          high (inr (q, hq, e, c)) = let up = above (stack_of_row k r) q hq e (child_named q r hq hr e) in omega (arith, up, c)

-- a slot in which no task lives has no children
pub greatest_free : (k : Sight) (facts : TableFacts k) (n : ℕ) → n < 120 → row_in_slot k.tasks n ≡ None → greatest k.tasks n ≡ 0
greatest_free k facts n low none = grind (arith, greatest_one, row_fact)
