-- A place that is seen of a task is the spot of its name.
use Rattle.std.proofs.Common.{◌≡◌, ◌≢◌, ℕ, zero, suc, ◌+◌, ◌-◌, ◌^◌, ◌<◌, ◌≤◌, ◌==◌, Bool, true, false, List, [], ◌∷◌, ◌++◌, length, Option, Some, None, refl, sym, ◌∙◌, ap, subst, arith, inl, inr, lt-ltb, le-ltb}
use Rattle.std.specs.Prelude.{◌⊎◌, if◌then◌else◌}
use Rattle.std.specs.List.{slice_get}
use Rattle.std.proofs.lemmas.Bool.{ne_eqb, eq-eqb}
use Rattle.std.proofs.lemmas.Bool.Decides.{eqb_tells}
use Rattle.std.proofs.lemmas.Option.{same_Some}
use Rattle.b67_lemmas.specs.Lists.{Has}
use Rattle.b67_lemmas.proofs.Members.{keyed_has, has_append_cases}
use Rattle.b67_model.specs.Keyed.{keyed}
use Rattle.b67_model.specs.Common.{Frame, Task, height, from_frame, frames_of_task, critical_of}
use Rattle.b67_stack.specs.Common as stack
use Rattle.b67_stack.specs.Common.{Locations, Head, StackPlace, Activation, stack_words}
use Rattle.b67_layout.specs.Common.{slot_of, spot_in, base_spot, outer_spots, spots, TaskRow, JobRow}
use Rattle.b67_layout_shown.specs.Places.{named}
use Rattle.b67_layout_shown.specs.Seen.{Seen, seen_in, from_disp, base_seen, seen_from, seen_by, RowsAreSound}
use Rattle.b67_layout_shown.specs.Shown.{Sight, number_by, number_seen, frame_seen, array_homed, frames_of, stack_of_row, parents_by, critical_by, task_in, job_seen, placed}
use Rattle.b67_image_shape.specs.TableFacts.{row_in_slot, BornBy, TableFacts}
use Rattle.b67_image_shape.specs.Items.{EachTask, StackFactsBy}
use Rattle.b67_image_shape.proofs.Rows.{of_row, row_fact, found_row, task_found, slot_is}
use Rattle.b67_image_shape.proofs.EachTask.{task_at}
use Rattle.b67_image_shape.proofs.Critical.{high_is}
use Rattle.b67_image_shape.proofs.Sources.{number_some}

module _ (held : Locations) (k : Sight) (facts : TableFacts k) (stacks : EachTask k (StackFactsBy held k)) (small : k.regs.stack_size < 2 ^ 14) where
  -- ---- the tables of a job

  pub job_low : (r : TaskRow) → Has k.tasks r → r.job < 9
  job_low r h =
      let o = of_row k facts r h in
      let some = (row_fact k facts r h).from_one in
      let long = found_low k.jobs (r.job - 1) o.row o.found in
      let few = facts.few_jobs in
      omega (arith, some, long, few) where
        found_low : (rows : List JobRow) (i : ℕ) (row : JobRow) → slice_get rows i ≡ Some row → i < length rows
        found_low [] i row e = absurd (let z : ⊥ = cc in z)
        found_low (q ∷ rows) zero row e = omega arith
        found_low (q ∷ rows) (suc i) row e = (let low = found_low rows i row e in omega (arith, low))

  pub slot_few : (r : TaskRow) → Has k.tasks r → r.slot < 120
  slot_few r h = (let s = (row_fact k facts r h).slot in let p = facts.peak in omega (arith, s, p))

  -- the job's row is that of each of its tasks
  pub one_row : (row : JobRow) (j : ℕ) → slice_get k.jobs (j - 1) ≡ Some row → (r : TaskRow) (h : Has k.tasks r) → r.job ≡ j → (of_row k facts r h).row ≡ row
  one_row row j found r h e = same_Some (of_row k facts r h).row row (sym (of_row k facts r h).found ∙ ap (λ i. slice_get k.jobs (i - 1)) e ∙ found)

  pub found_task : (row : JobRow) (j : ℕ) → slice_get k.jobs (j - 1) ≡ Some row → (r : TaskRow) (h : Has k.tasks r) → r.job ≡ j → keyed (λ (t : Task). t.number) r.number (job_seen k row j).tasks ≡ Some (task_in k row j r)
  found_task row j found r h e =
      subst (λ i. keyed (λ (t : Task). t.number) r.number (job_seen k row i).tasks ≡ Some (task_in k row i r)) e
      (subst (λ (w : JobRow). keyed (λ (t : Task). t.number) r.number (job_seen k w r.job).tasks ≡ Some (task_in k w r.job r)) (one_row row j found r h e) (task_found k facts r h))

  pub parent_job : (r p : TaskRow) → Has k.tasks r → row_in_slot k.tasks r.parent ≡ Some p → (p.job ≡ r.job) × (p.number < r.number)
  parent_job r p h e = subst (BornBy r) e (row_fact k facts r h).born

  -- the tables are sound, as the law on reach asks
  pub rows_sound : (row : JobRow) (j : ℕ) → slice_get k.jobs (j - 1) ≡ Some row → j < 9 → RowsAreSound k row j
  rows_sound row j found low = grind (arith, slot_few, found_row, found_task, parent_job)

  -- ---- names of places

  pub in_slot : (j : ℕ) (r : TaskRow) → Has k.tasks r → (d : ℕ) → frame_seen k.tasks j (record { stack = r.slot; disp = d }) ≡ named r.number d
  in_slot j r h d = grind (arith, lt-ltb, slot_few, found_row)

  pub dictionary_name : (j : ℕ) → frame_seen k.tasks j (record { stack = 127 + j; disp = 0 }) ≡ 1
  dictionary_name j = grind arith

  pub mcp_name : (j : ℕ) → j < 9 → frame_seen k.tasks j (record { stack = 136; disp = 0 }) ≡ 0
  mcp_name j few = ap (λ (b : Bool). if b then 1 else 0) (ne_eqb 136 (127 + j) (λ e. omega (arith, e, few)))

  pub short : (r : TaskRow) → Has k.tasks r → stack_words (stack_of_row k r) < 2 ^ 14
  short r h = (let s = (task_at k facts (StackFactsBy held k) stacks r h).fits.fits in omega (arith, s, small))

  -- ---- seen places of one stack

  -- a place of a stack has a displacement up to its words
  pub seen_disp : (n : ℕ) (acts : List Activation) (s : Seen) → Has (seen_in n acts) s → (d : ℕ) × (s.0 ≡ record { stack = n; disp = d }) × (0 < d) × (d ≤ stack_words acts)
  seen_disp n [] s h = absurd h
  seen_disp n (a ∷ below) s (inl e) = (stack_words below + 1, ap (λ (q : Seen). q.0) (sym e), omega arith, by a.head) where
    by : (h : Head) → stack_words below + 1 ≤ stack_words below + (stack.head_size h + length a.cells)
    by stack.Marked = omega arith
    by (stack.Entered level environment back) = omega arith
  seen_disp n (a ∷ below) s (inr h) = let (d, e, some, low) = seen_disp n below s h in (d, e, some, omega (arith, low))

  pub from_words : (disp : ℕ) (acts : List Activation) → stack_words (from_disp disp acts) ≤ stack_words acts
  from_words disp [] = omega arith
  from_words disp (a ∷ below) = grind (arith, from_words disp below)

  -- among a stack's places and those further out, each is the spot of its name
  pub spots_in : (j : ℕ) (r : TaskRow) → Has k.tasks r → (array : ℕ → ℕ) (outer : ℕ → StackPlace) (out : List Seen)
      → ((s : Seen) → Has out s → (outer (frame_seen k.tasks j s.0) ≡ s.0) × (frame_seen k.tasks j s.0 < named r.number 0))
      → (acts : List Activation) (s : Seen) → Has (seen_in r.slot acts ++ out) s → spot_in r.slot outer (frames_of r.number (frame_seen k.tasks j) array acts) (frame_seen k.tasks j s.0) ≡ s.0
  spots_in j r h array outer out each [] s there = (each s there).0
  spots_in j r h array outer out each (a ∷ below) s (inl e) = grind (arith, in_slot, eq-eqb, high_is)
  spots_in j r h array outer out each (a ∷ below) s (inr there) =
      ap (λ (b : Bool). if b then record { stack = r.slot; disp = height (frames_of r.number (frame_seen k.tasks j) array below) } else spot_in r.slot outer (frames_of r.number (frame_seen k.tasks j) array below) (frame_seen k.tasks j s.0))
      (ne_eqb (named r.number (stack_words below + 1)) (frame_seen k.tasks j s.0) (differs (has_append_cases (seen_in r.slot below) out s there)))
      ∙ spots_in j r h array outer out each below s there where
        differs : Has (seen_in r.slot below) s ⊎ Has out s → named r.number (stack_words below + 1) ≢ frame_seen k.tasks j s.0
        differs (inl g) e =
            let (d, at, some, low) = seen_disp r.slot below s g in
            let name = ap (frame_seen k.tasks j) at ∙ in_slot j r h d in
            omega (arith, name, low, e)
        differs (inr g) e = (let low = (each s g).1 in omega (arith, low, e))

  -- ---- and in the parents' stacks

  from_same : (number disp : ℕ) (frame : StackPlace → ℕ) (array : ℕ → ℕ) (acts : List Activation) → from_frame (named number disp) (frames_of number frame array acts) ≡ frames_of number frame array (from_disp disp acts)
  from_same number disp frame array [] = refl
  from_same number disp frame array (a ∷ below) = grind (arith, eqb_tells, eq-eqb, ne_eqb, from_same number disp frame array below)

  base_spots : (j bound : ℕ) → j < 9 → 1 ≤ bound → (s : Seen) → Has (base_seen j) s → (base_spot j (frame_seen k.tasks j s.0) ≡ s.0) × (frame_seen k.tasks j s.0 < named bound 0)
  base_spots j bound few some s h = grind (arith, dictionary_name, mcp_name)

  module _ (row : JobRow) (j : ℕ) (found : slice_get k.jobs (j - 1) ≡ Some row) (few : j < 9) where
    pub outer_are : (n disp : ℕ) (o : Option TaskRow) (bound : ℕ) → 1 ≤ bound → ((p : TaskRow) → o ≡ Some p → Has k.tasks p × (p.job ≡ j) × (p.number < bound)) → (s : Seen) → Has (seen_from k j n disp o) s
        → (outer_spots (placed k) j (job_seen k row j) (critical_by k.tasks disp o) (parents_by k.tasks n o) (frame_seen k.tasks j s.0) ≡ s.0) × (frame_seen k.tasks j s.0 < named bound 0)
    outer_are zero disp o bound some inside s h = base_spots j bound few some s h
    outer_are (suc n) disp None bound some inside s h = base_spots j bound few some s h
    outer_are (suc n) disp (Some p) bound some inside s h =
        let (hp, job, under) = inside p refl in
        let deeper = outer_are n p.critical (row_in_slot k.tasks p.parent) p.number (number_some k facts p hp) (λ q e. (let b = parent_job p q hp e in ((keyed_has (λ (z : TaskRow). z.slot) p.parent k.tasks q e).0, b.0 ∙ job, b.1))) in
        let slot : slot_of (placed k) j p.number ≡ p.slot = ap (λ i. slot_of (placed k) i p.number) (sym job) ∙ slot_is k facts p hp in (
          ap (λ (t : Option Task). spot_in (slot_of (placed k) j p.number) (outer_spots (placed k) j (job_seen k row j) (critical_of t) (parents_by k.tasks n (row_in_slot k.tasks p.parent))) (from_frame (named p.number disp) (frames_of_task t)) (frame_seen k.tasks j s.0)) (found_task row j found p hp job)
              ∙ ap (λ i. spot_in i (outer_spots (placed k) j (job_seen k row j) (critical_by k.tasks p.critical (row_in_slot k.tasks p.parent)) (parents_by k.tasks n (row_in_slot k.tasks p.parent))) (from_frame (named p.number disp) (task_in k row j p).frames) (frame_seen k.tasks j s.0)) slot
              ∙ ap (λ (fs : List Frame). spot_in p.slot (outer_spots (placed k) j (job_seen k row j) (critical_by k.tasks p.critical (row_in_slot k.tasks p.parent)) (parents_by k.tasks n (row_in_slot k.tasks p.parent))) fs (frame_seen k.tasks j s.0)) (from_same p.number disp (frame_seen k.tasks j) (array_homed k.regs k.tasks row) (stack_of_row k p))
              ∙ spots_in j p hp (array_homed k.regs k.tasks row) (outer_spots (placed k) j (job_seen k row j) (critical_by k.tasks p.critical (row_in_slot k.tasks p.parent)) (parents_by k.tasks n (row_in_slot k.tasks p.parent))) (seen_from k j n p.critical (row_in_slot k.tasks p.parent)) deeper (from_disp disp (stack_of_row k p)) s h,
          low (has_append_cases (seen_in p.slot (from_disp disp (stack_of_row k p))) (seen_from k j n p.critical (row_in_slot k.tasks p.parent)) s h) under deeper hp,
        ) where
          low : Has (seen_in p.slot (from_disp disp (stack_of_row k p))) s ⊎ Has (seen_from k j n p.critical (row_in_slot k.tasks p.parent)) s → p.number < bound
              → ((s : Seen) → Has (seen_from k j n p.critical (row_in_slot k.tasks p.parent)) s
              → (outer_spots (placed k) j (job_seen k row j) (critical_by k.tasks p.critical (row_in_slot k.tasks p.parent)) (parents_by k.tasks n (row_in_slot k.tasks p.parent)) (frame_seen k.tasks j s.0) ≡ s.0) × (frame_seen k.tasks j s.0 < named p.number 0))
              → Has k.tasks p → frame_seen k.tasks j s.0 < named bound 0
          low (inl g) under deeper hp =
              let (d, at, some', up) = seen_disp p.slot (from_disp disp (stack_of_row k p)) s g in
              let name = ap (frame_seen k.tasks j) at ∙ in_slot j p hp d in
              let w = from_words disp (stack_of_row k p) in
              let sh = short p hp in
              omega (arith, name, up, w, sh, under)
          low (inr g) under deeper hp = (let q = (deeper s g).1 in omega (arith, q, under))

  -- each place that is seen of a task is the spot of its name
  pub seen_is_spot : (r : TaskRow) (h : Has k.tasks r) (s : Seen) → Has (seen_by k r) s → spots (placed k) r.job (job_seen k (of_row k facts r h).row r.job) (task_in k (of_row k facts r h).row r.job r) (frame_seen k.tasks r.job s.0) ≡ s.0
  seen_is_spot r h s there =
      let row = (of_row k facts r h).row in
      let found = (of_row k facts r h).found in
      let outer = outer_spots (placed k) r.job (job_seen k (of_row k facts r h).row r.job) (critical_by k.tasks r.critical (row_in_slot k.tasks r.parent)) (parents_by k.tasks 15 (row_in_slot k.tasks r.parent)) in
      ap (λ n. spot_in n (outer_spots (placed k) r.job (job_seen k (of_row k facts r h).row r.job) (critical_by k.tasks r.critical (row_in_slot k.tasks r.parent)) (parents_by k.tasks 15 (row_in_slot k.tasks r.parent))) (task_in k (of_row k facts r h).row r.job r).frames (frame_seen k.tasks r.job s.0)) (slot_is k facts r h)
      ∙ spots_in r.job r h (array_homed k.regs k.tasks (of_row k facts r h).row) (outer_spots (placed k) r.job (job_seen k (of_row k facts r h).row r.job) (critical_by k.tasks r.critical (row_in_slot k.tasks r.parent)) (parents_by k.tasks 15 (row_in_slot k.tasks r.parent))) (seen_from k r.job 15 r.critical (row_in_slot k.tasks r.parent))
      (outer_are (of_row k facts r h).row r.job (of_row k facts r h).found (job_low r h) 15 r.critical (row_in_slot k.tasks r.parent) r.number (number_some k facts r h) (λ p e. (let b = parent_job r p h e in ((keyed_has (λ (z : TaskRow). z.slot) r.parent k.tasks p e).0, b.0, b.1))))
      (stack_of_row k r) s there
