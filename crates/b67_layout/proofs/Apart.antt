-- The spot of a task's top frame is that of no other frame that the task names, and spots fit their fields.
use Rattle.std.proofs.Common.{◌≡◌, ◌≢◌, ℕ, ◌+◌, ◌<◌, ◌≤◌, ◌^◌, List, [], ◌∷◌, find, Option, Some, None, refl, sym, ◌∙◌, ap, arith, true, inl, inr, subst, unwrap_or}
use Rattle.std.specs.Prelude.{option_map}
use Rattle.std.proofs.lemmas.Bool.Decides.{eqb_tells}
use Rattle.b67_lemmas.specs.Lists.{Has}
use Rattle.b67_lemmas.proofs.Members.{all_in, keyed_has, found-has}
use Rattle.b67_model.specs.Common.{Frame, Standing, Task, JobConstants, Job, SessionJob, head_words, height, IsSegment, from_frame, frames_of_task, critical_of, BirthInOrder, TaskInOrder, TasksInOrder}
use Rattle.b67_model.specs.Keyed.{keyed}
use Rattle.b67_stack.specs.Stacks.{StackPlace}
use Rattle.b67_layout.specs.Common.{Slotted, Placement, is_row_of, slot_of, spot_in, base_spot, outer_spots, RowsFit}
use Rattle.b67_layout.proofs.Rows.{TaskRow, task_row}

pub some_words : (s : Standing) → 1 ≤ head_words s
some_words s = grind arith

-- a frame found among others stands lower than all of them
pub found_low : (k : ℕ) (outer : ℕ → StackPlace) (fs : List Frame) (id : ℕ) (P : StackPlace → Type 0) → ((d : ℕ) → d < height fs → P (record { stack = k; disp = d })) → P (outer id) → P (spot_in k outer fs id)
found_low k outer [] id P low out = out
found_low k outer (f ∷ below) id P low out = grind (arith, found_low k outer below id P)

from_low : (c : ℕ) (fs : List Frame) → height (from_frame c fs) ≤ height fs
from_low c [] = omega arith
from_low c (f ∷ below) = elim (eqb_tells f.identity c) [ inl e ↦ rw e.0 (omega arith) | inr e ↦ rw e.0 (omega (arith, from_low c below)) ]

module _ (plan : Placement) (j : ℕ) (constants : JobConstants) (job : Job) (o : TasksInOrder (IsSegment constants) constants job) where
  order_of : (u : Task) → Has job.tasks u → TaskInOrder (IsSegment constants) constants job u
  order_of u h = all_in (TaskInOrder (IsSegment constants) constants job) job.tasks u o.tasks h

  -- what holds of each parent's frames' spots and of the base's, holds of all that are seen outside
  pub by_parents : (P : StackPlace → Type 0) (c : ℕ) (parents : List ℕ) (id : ℕ) → P (base_spot j id) → ((p d : ℕ) → Has parents p → d < constants.stack_size + 1 → P (record { stack = slot_of plan j p; disp = d })) → P (outer_spots plan j job c parents id)
  by_parents P c [] id base each = base
  by_parents P c (p ∷ more) id base each =
      let t = keyed (λ (u : Task). u.number) p job.tasks in
      found_low (slot_of plan j p) (outer_spots plan j job (critical_of t) more) (from_frame c (frames_of_task t)) id P
      (λ d small. each p d (inl refl) (omega (arith, small, from_low c (frames_of_task t), frames_low t refl)))
      (by_parents P (critical_of t) more id base (λ q d h. each q d (inr h))) where
        frames_low : (q : Option Task) → keyed (λ (u : Task). u.number) p job.tasks ≡ q → height (frames_of_task q) ≤ constants.stack_size + 1
        frames_low None e = omega arith
        frames_low (Some q) e = omega (arith, (order_of q (keyed_has (λ (u : Task). u.number) p job.tasks q e).0).not_higher)

  -- parents are older
  pub all_older : (u : Task) (parents : List ℕ) → BirthInOrder job u parents → (p : ℕ) → Has parents p → p < u.number
  all_older u [] b p h = absurd h
  all_older u (first ∷ more) b p (inl e) = omega (arith, b.older, e)
  all_older u (first ∷ more) b p (inr h) =
      let k = keyed_has (λ (v : Task). v.number) first job.tasks b.parent b.found in
      let born : BirthInOrder job b.parent more = subst (BirthInOrder job b.parent) b.line (order_of b.parent k.0).birth in
      omega (arith, b.older, k.1, all_older b.parent more born p h)

row_number : (job task : ℕ) (r : Slotted) → is_row_of job task r ≡ true → r.task ≡ task
row_number job task r t = grind arith

module _ (plan : Placement) (jobs : List SessionJob) (m : SessionJob) (fit : RowsFit plan jobs) (few : plan.peak ≤ 120) where
  -- a slot of a live task, or 255
  pub slot_bound : (n : ℕ) → slot_of plan m.constants.number n < 256
  slot_bound n = by (find (is_row_of m.constants.number n) plan.rows) refl where
    by : (q : Option Slotted) → find (is_row_of m.constants.number n) plan.rows ≡ q → unwrap_or (option_map (λ (r : Slotted). r.slot) q) 255 < 256
    by None e = omega arith
    by (Some r) e = omega (arith, fit.below r (found-has (is_row_of m.constants.number n) plan.rows r e).0, few)

  -- another task's slot is another one
  pub slot_differs : (t : Task) (n : ℕ) → Has jobs m → Has m.progress.job.tasks t → n ≢ t.number → slot_of plan m.constants.number n ≢ slot_of plan m.constants.number t.number
  slot_differs t n in_m in_t ne = by (find (is_row_of m.constants.number n) plan.rows) refl where
    own : TaskRow plan m.constants.number t.number
    own = task_row plan jobs m t fit in_m in_t

    by : (q : Option Slotted) → find (is_row_of m.constants.number n) plan.rows ≡ q → unwrap_or (option_map (λ (r : Slotted). r.slot) q) 255 ≢ slot_of plan m.constants.number t.number
    by None e z = omega (arith, z, own.slot, fit.below own.row own.among, few)
    by (Some r) e z =
        let f = found-has (is_row_of m.constants.number n) plan.rows r e in
        let same : r ≡ own.row = fit.differ r own.row f.0 own.among (z ∙ own.slot) in
        ne (sym (row_number m.constants.number n r f.1) ∙ ap (λ (q : Slotted). q.task) same ∙ own.number)

module _ (plan : Placement) (jobs : List SessionJob) (m : SessionJob) (t : Task) (f : Frame) (below : List Frame) (fit : RowsFit plan jobs) (few : plan.peak ≤ 120) (o : TasksInOrder (IsSegment m.constants) m.constants m.progress.job)
    (in_m : Has jobs m) (in_t : Has m.progress.job.tasks t) (k : ℕ) (is : k ≡ slot_of plan m.constants.number t.number) where
  outer : ℕ → StackPlace
  outer = outer_spots plan m.constants.number m.progress.job t.critical t.parents

  k_small : k < 120
  k_small = let a = task_row plan jobs m t fit in_m in_t in omega (arith, is, a.slot, fit.below a.row a.among, few)

  outer_apart : (id : ℕ) → (outer_spots plan m.constants.number m.progress.job t.critical t.parents id).stack ≢ k
  outer_apart id = by_parents plan m.constants.number m.constants m.progress.job o (λ (s : StackPlace). s.stack ≢ k) t.critical t.parents id (base_apart id)
      (λ p d h small e. slot_differs plan jobs m fit few t p in_m in_t (λ z. (let low = all_older plan m.constants.number m.constants m.progress.job o t t.parents (order_of plan m.constants.number m.constants m.progress.job o t in_t).birth p h in omega (arith, low, z))) (e ∙ is)) where
        base_apart : (id : ℕ) → (base_spot m.constants.number id).stack ≢ k
        base_apart id = elim (eqb_tells id 1) [ inl e ↦ rw e.0 (λ z. omega (arith, z, k_small)) | inr e ↦ rw e.0 (λ z. omega (arith, z, k_small)) ]

  -- the spot of another frame is another one
  pub spot_apart : (id : ℕ) → id ≢ f.identity → (spot_in k (outer_spots plan m.constants.number m.progress.job t.critical t.parents) (f ∷ below) id).stack ≡ k → (spot_in k (outer_spots plan m.constants.number m.progress.job t.critical t.parents) (f ∷ below) id).disp ≢ height below
  spot_apart id ne = elim (eqb_tells f.identity id) [
    | inl e ↦ absurd (ne (sym e.1))
    | inr e ↦ rw e.0 (found_low k (outer_spots plan m.constants.number m.progress.job t.critical t.parents) below id (λ (s : StackPlace). s.stack ≡ k → s.disp ≢ height below) (λ d small z w. omega (arith, small, w)) (λ z. absurd (outer_apart id z)))
  ]

  pub spot_top : spot_in k (outer_spots plan m.constants.number m.progress.job t.critical t.parents) (f ∷ below) f.identity ≡ record { stack = k; disp = height below }
  spot_top = elim (eqb_tells f.identity f.identity) [ inl e ↦ rw e.0 refl | inr e ↦ absurd (e.1 refl) ]

  -- spots fit the fields of a reference
  pub spot_fits : (fs : List Frame) (id : ℕ) → m.constants.number ≤ 8 → m.constants.stack_size < 2 ^ 14 → height fs ≤ m.constants.stack_size
      → let s = spot_in k (outer_spots plan m.constants.number m.progress.job t.critical t.parents) fs id in (s.stack < 2 ^ 10) × (s.disp < 2 ^ 16)
  spot_fits fs id eight size low = found_low k (outer_spots plan m.constants.number m.progress.job t.critical t.parents) fs id (λ (s : StackPlace). (s.stack < 2 ^ 10) × (s.disp < 2 ^ 16)) (λ d small. (omega (arith, k_small), omega (arith, small, low, size)))
      (by_parents plan m.constants.number m.constants m.progress.job o (λ (s : StackPlace). (s.stack < 2 ^ 10) × (s.disp < 2 ^ 16)) t.critical t.parents id base_fits
      (λ p d h small. (omega (arith, slot_bound plan jobs m fit few p), omega (arith, small, size)))) where
        base_fits : ((base_spot m.constants.number id).stack < 2 ^ 10) × ((base_spot m.constants.number id).disp < 2 ^ 16)
        base_fits = elim (eqb_tells id 1) [ inl e ↦ rw e.0 (omega (arith, eight), omega arith) | inr e ↦ rw e.0 (omega arith, omega arith) ]
