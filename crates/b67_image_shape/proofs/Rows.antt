-- Rows and tasks of what a machine shows whose tables are as they should be: each row is a live task's, in its slot, and each task has its row.
use Rattle.std.proofs.Common.{◌≡◌, ℕ, zero, suc, ◌+◌, ◌-◌, ◌<◌, ◌==◌, Bool, true, false, List, [], ◌∷◌, map, Option, Some, None, refl, sym, ◌∙◌, ap, subst, arith, inl, inr}
use Rattle.std.specs.Prelude.{◌⊎◌, option_map, if◌then◌else◌}
use Rattle.std.specs.List.{slice_get}
use Rattle.std.proofs.lemmas.Bool.{cases_Bool, eq-eqb, eqb-true}
use Rattle.std.proofs.lemmas.Option.{same_Some}
use Rattle.b67_lemmas.specs.Lists.{Has, Falls}
use Rattle.b67_lemmas.proofs.Members.{all_in, keyed_falls, has_map, has_map_back, has_filter, has_filter_in}
use Rattle.b67_law.proofs.Numbered.{keyed_member}
use Rattle.b67_model.specs.Keyed.{keyed}
use Rattle.b67_model.specs.Common.{Task, SessionJob, number_of}
use Rattle.b67_stack.specs.Common.{Free, Running, Waiting}
use Rattle.b67_layout.specs.Common.{Slotted, slot_of, stack_of_task, slot_with, slot_in, slot_by, slot_at, RowsFit, TaskRow, JobRow, Differ}
use Rattle.b67_layout.proofs.Rows.{task_row}
use Rattle.b67_layout_shown.specs.Shown.{Sight, rows_of, task_in, job_seen, member_in, shown, placed}
use Rattle.b67_image_shape.specs.TableFacts.{row_in_slot, rows_in, EachJob, AreApart, RowsApart, IsRowOfJob, RowFacts, TableFacts}
use Rattle.b67_image_shape.proofs.Members.{row_of_member, row_there, member_numbered, row_in}
use Rattle.b67_layout_shown.proofs.Sorted.{NumbersApart, sorted_has, sorted_there, sorted_falls}

abbrev pub image : TaskRow → Slotted
image r = record { job = r.job; task = r.number; slot = r.slot }

-- ---- each job

pub each_at : (P : ℕ → JobRow → Type 0) (n : ℕ) (rows : List JobRow) (i : ℕ) (row : JobRow) → EachJob P n rows → slice_get rows i ≡ Some row → P (n + i) row
each_at P n [] i row h e = absurd (let z : ⊥ = cc in z)
each_at P n (r ∷ more) zero row h e = (let same : r ≡ row = cc in let at : n ≡ n + 0 = omega arith in subst (λ j. P j row) at (subst (P n) same h.0))
each_at P n (r ∷ more) (suc i) row h e = (let at : n + 1 + i ≡ n + suc i = omega arith in subst (λ j. P j row) at (each_at P (n + 1) more i row h.1 e))

pub each_from : (P : ℕ → JobRow → Type 0) (n : ℕ) (rows : List JobRow) → ((i : ℕ) (row : JobRow) → slice_get rows i ≡ Some row → P (n + i) row) → EachJob P n rows
each_from P n [] h = tt
each_from P n (r ∷ more) h =
    let none : n + 0 ≡ n = omega arith in
    (subst (λ j. P j r) none (h 0 r refl), each_from P (n + 1) more (λ i row e. (let at : n + suc i ≡ n + 1 + i = omega arith in subst (λ j. P j row) at (h (suc i) row e))))

-- ---- rows that are apart

pub apart_cases : (rs : List TaskRow) → RowsApart rs → (r q : TaskRow) → Has rs r → Has rs q → (r ≡ q) ⊎ AreApart r q
apart_cases [] a r q hr hq = absurd hr
apart_cases (p ∷ more) a r q (inl e) (inl f) = inl (sym e ∙ f)
apart_cases (p ∷ more) a r q (inl e) (inr h) = inr (subst (λ (z : TaskRow). AreApart z q) e (all_in (AreApart p) more q a.0 h))
apart_cases (p ∷ more) a r q (inr h) (inl e) =
    let b = subst (λ (z : TaskRow). AreApart z r) e (all_in (AreApart p) more r a.0 h) in inr (λ z. b.0 (sym z), λ ej en. b.1 (sym ej) (sym en))
apart_cases (p ∷ more) a r q (inr h) (inr g) = apart_cases more a.1 r q h g

pub slots_differ : (rs : List TaskRow) → RowsApart rs → Differ (map (λ (r : TaskRow). r.slot) rs)
slots_differ [] a = tt
slots_differ (r ∷ more) a = (λ h. (let b = has_map_back (λ (r : TaskRow). r.slot) more r.slot h in (all_in (AreApart r) more b.item a.0 b.among).0 (sym b.is)), slots_differ more a.1)

numbers_apart : (job : ℕ) (rs : List TaskRow) → RowsApart rs → NumbersApart (rows_in rs job)
numbers_apart job [] a = tt
numbers_apart job (r ∷ more) a = grind (arith, cases_Bool, has_filter, all_in, eqb-true, numbers_apart job more a.1)

keyed_image : (n : ℕ) (rs : List TaskRow) → keyed (λ (w : Slotted). w.slot) n (map image rs) ≡ option_map image (row_in_slot rs n)
keyed_image n [] = refl
keyed_image n (r ∷ more) = elim (cases_Bool (r.slot == n)) [ inl t ↦ rw t refl | inr t ↦ rw t (keyed_image n more) ]

pub map_numbers : (k : Sight) (row : JobRow) (n : ℕ) (rs : List TaskRow) → map (λ (u : Task). u.number) (map (task_in k row n) rs) ≡ map (λ (r : TaskRow). r.number) rs
map_numbers k row n [] = refl
map_numbers k row n (r ∷ more) = ap (λ ns. r.number ∷ ns) (map_numbers k row n more)

module _ (k : Sight) (facts : TableFacts k) where
  pub row_fact : (r : TaskRow) → Has k.tasks r → RowFacts k r
  row_fact r h = all_in (RowFacts k) k.tasks r facts.rows h

  -- the job and the task of a row
  pub record OfRow (r : TaskRow) : Type 0 where
    pub row : JobRow
    pub found : slice_get k.jobs (r.job - 1) ≡ Some row
    pub told : IsRowOfJob k r (Some row)
    pub among : Has (shown k).jobs (member_in k row r.job)
    pub live : Has (job_seen k row r.job).tasks (task_in k row r.job r)

  pub of_row : (r : TaskRow) → Has k.tasks r → OfRow r
  of_row r h = by (slice_get k.jobs (r.job - 1)) refl (row_fact r h).job where
    by : (o : Option JobRow) → slice_get k.jobs (r.job - 1) ≡ o → IsRowOfJob k r o → OfRow r
    by None e t = absurd t
    by (Some row) e t =
        let some = (row_fact r h).from_one in
        let at : 1 + (r.job - 1) ≡ r.job = omega (arith, some) in
        record {
          row = row;
          found = e;
          told = t;
          among = subst (λ j. Has (shown k).jobs (member_in k row j)) at (row_there k 1 k.jobs (r.job - 1) row e);
          live = has_map (task_in k row r.job) (rows_of k.tasks r.job) r (sorted_there (rows_in k.tasks r.job) r (has_filter_in (λ (q : TaskRow). q.job == r.job) k.tasks r h (eq-eqb r.job r.job refl)));
        }

  -- the row of a task
  pub record RowBack (y : SessionJob) (u : Task) : Type 0 where
    pub r : TaskRow
    pub there : Has k.tasks r
    pub row : JobRow
    pub found : slice_get k.jobs (y.constants.number - 1) ≡ Some row
    pub job : r.job ≡ y.constants.number
    pub member : member_in k row y.constants.number ≡ y
    pub is : task_in k row y.constants.number r ≡ u

  pub row_back : (y : SessionJob) (u : Task) → Has (shown k).jobs y → Has y.progress.job.tasks u → RowBack y u
  row_back y u hy hu = grind (arith, row_of_member, has_map_back, has_filter, sorted_has, eqb-true)

  pub numbers_fall : (n : ℕ) (row : JobRow) → slice_get k.jobs (n - 1) ≡ Some row → Falls row.next_task (map (λ (u : Task). u.number) (job_seen k row n).tasks)
  numbers_fall n row e = subst (Falls row.next_task) (sym (map_numbers k row n (rows_of k.tasks n))) (sorted_falls row.next_task (rows_in k.tasks n) low (numbers_apart n k.tasks facts.apart)) where
    low : (q : TaskRow) → Has (rows_in k.tasks n) q → q.number < row.next_task
    low q h =
        let f = has_filter (λ (q : TaskRow). q.job == n) k.tasks q h in
        let o = of_row q f.0 in
        let same : o.row ≡ row = same_Some o.row row (sym o.found ∙ ap (λ j. slice_get k.jobs (j - 1)) (eqb-true q.job n f.1) ∙ e) in
        subst (λ (w : JobRow). q.number < w.next_task) same o.told.0

  pub member_found : (r : TaskRow) (h : Has k.tasks r) → keyed number_of r.job (shown k).jobs ≡ Some (member_in k (of_row r h).row r.job)
  member_found r h = keyed_member 1 (shown k).jobs (member_in k (of_row r h).row r.job) (member_numbered k 1 k.jobs) (of_row r h).among

  pub task_found : (r : TaskRow) (h : Has k.tasks r) → keyed (λ (u : Task). u.number) r.number (job_seen k (of_row r h).row r.job).tasks ≡ Some (task_in k (of_row r h).row r.job r)
  task_found r h = keyed_falls (λ (u : Task). u.number) (of_row r h).row.next_task (job_seen k (of_row r h).row r.job).tasks (task_in k (of_row r h).row r.job r) (numbers_fall r.job (of_row r h).row (of_row r h).found) (of_row r h).live

  pub same_slot : (r q : TaskRow) → Has k.tasks r → Has k.tasks q → r.slot ≡ q.slot → r ≡ q
  same_slot r q hr hq e = elim (apart_cases k.tasks facts.apart r q hr hq) [ inl s ↦ s | inr a ↦ absurd (a.0 e) ]

  pub same_number : (r q : TaskRow) → Has k.tasks r → Has k.tasks q → r.job ≡ q.job → r.number ≡ q.number → r ≡ q
  same_number r q hr hq ej en = elim (apart_cases k.tasks facts.apart r q hr hq) [ inl s ↦ s | inr a ↦ absurd (a.1 ej en) ]

  pub found_row : (r : TaskRow) → Has k.tasks r → row_in_slot k.tasks r.slot ≡ Some r
  found_row r h = row_in k.tasks r (slots_differ k.tasks facts.apart) h

  pub rows_fit : RowsFit (placed k) (shown k).jobs
  rows_fit = record {
    live = λ w h.
        let b = has_map_back image k.tasks w h in
        let o = of_row b.item b.among in
        (member_in k o.row b.item.job, task_in k o.row b.item.job b.item, o.among, ap (λ (z : Slotted). z.job) b.is, o.live, ap (λ (z : Slotted). z.task) b.is);
    slotted = λ m t hm ht. (let b = row_back m t hm ht in (image b.r, has_map image k.tasks b.r b.there, b.job, ap (λ (u : Task). u.number) b.is));
    below = λ w h.
        let b = has_map_back image k.tasks w h in
        let low = (row_fact b.item b.among).slot in
        subst (λ (z : Slotted). z.slot < k.regs.peak) b.is low;
    differ = λ v w hv hw e.
        let a = has_map_back image k.tasks v hv in
        let b = has_map_back image k.tasks w hw in
        sym a.is ∙ ap image (same_slot a.item b.item a.among b.among (ap (λ (z : Slotted). z.slot) a.is ∙ e ∙ ap (λ (z : Slotted). z.slot) (sym b.is))) ∙ b.is;
    tasks_differ = λ v w hv hw ej et.
        let a = has_map_back image k.tasks v hv in
        let b = has_map_back image k.tasks w hw in
        sym a.is ∙ ap image (same_number a.item b.item a.among b.among (ap (λ (z : Slotted). z.job) a.is ∙ ej ∙ ap (λ (z : Slotted). z.job) (sym b.is)) (ap (λ (z : Slotted). z.task) a.is ∙ et ∙ ap (λ (z : Slotted). z.task) (sym b.is))) ∙ b.is;
  }

  pub slot_is : (r : TaskRow) → Has k.tasks r → slot_of (placed k) r.job r.number ≡ r.slot
  slot_is r h =
      let o = of_row r h in
      let a = task_row (placed k) (shown k).jobs (member_in k o.row r.job) (task_in k o.row r.job r) rows_fit o.among o.live in
      a.slot ∙ ap (λ (z : Slotted). z.slot) (rows_fit.tasks_differ a.row (image r) a.among (has_map image k.tasks r h) a.job a.number)

  -- what is in the slot of a live task
  pub slot_live : (r : TaskRow) (h : Has k.tasks r) → slot_at (placed k) (shown k).jobs r.slot
      ≡ (if r.slot == k.regs.slot then Running (stack_of_task (placed k) r.job (job_seen k (of_row r h).row r.job) r.slot (task_in k (of_row r h).row r.job r))
      else Waiting (stack_of_task (placed k) r.job (job_seen k (of_row r h).row r.job) r.slot (task_in k (of_row r h).row r.job r)))
  slot_live r h =
      ap (slot_by (placed k) (shown k).jobs r.slot) (keyed_image r.slot k.tasks ∙ ap (option_map image) (found_row r h))
      ∙ ap (slot_in (placed k) r.slot r.job r.number) (member_found r h)
      ∙ ap (slot_with (placed k) r.slot r.job (job_seen k (of_row r h).row r.job)) (task_found r h)

  pub slot_free : (n : ℕ) → row_in_slot k.tasks n ≡ None → slot_at (placed k) (shown k).jobs n ≡ Free
  slot_free n e = ap (slot_by (placed k) (shown k).jobs n) (keyed_image n k.tasks ∙ ap (option_map image) e)
