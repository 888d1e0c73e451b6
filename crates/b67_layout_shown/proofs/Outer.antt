-- The spots of the frames in a task's reach are read as their names.
use Rattle.std.proofs.Common.{◌≡◌, ℕ, ◌+◌, ◌^◌, ◌<◌, ◌≤◌, ◌==◌, true, false, List, [], ◌∷◌, ◌++◌, map, length, Option, Some, refl, sym, ◌∙◌, ap, subst, arith, inl, inr}
use Rattle.std.specs.Prelude.{if◌then◌else◌}
use Rattle.std.proofs.lemmas.Bool.{ne_eqb}
use Rattle.b67_lemmas.specs.Lists.{Has, Falls}
use Rattle.b67_lemmas.proofs.Members.{falls_above, all_in, keyed_has, has_append_right, has_map, none_pass}
use Rattle.b67_model.specs.Common.{Frame, JobConstants, Task, Job, Array, height, Starts, IsSegment, Known, known_of, known_numbers, base, from_frame, frames_of_task, critical_of, outer_reach, outer_of, identities, frames_named, NamesEntered, TaskInOrder, TasksInOrder, BirthInOrder}
use Rattle.b67_law.proofs.Replaced.{numbers_append}
use Rattle.b67_stack.specs.Stacks.{StackPlace}
use Rattle.b67_layout.specs.Placement.{Placement, slot_of, spot_in, base_spot, outer_spots}
use Rattle.b67_layout_shown.specs.Places.{named, name_among}
use Rattle.b67_layout_shown.proofs.Words.{PlaceIsRead}
use Rattle.b67_layout_shown.proofs.Frames.{Named, spots_read}
use Rattle.b67_layout_shown.proofs.Names.{numbers-known, among_none, named_frames}
use Rattle.b67_model.specs.Keyed.{keyed}

-- ---- no live frame has the identity of a dictionary or of the MCP

outer_base : (job : Job) (c : ℕ) (parents : List ℕ) → Has (known_numbers (outer_reach job c parents)) 1
outer_base job c [] = inl refl
outer_base job c (parent ∷ more) =
    let t = keyed (λ (t : Task). t.number) parent job.tasks in
    subst (λ (ns : List ℕ). Has ns 1) (sym (numbers_append (map known_of (from_frame c (frames_of_task t))) (outer_reach job (critical_of t) more)))
    (has_append_right (known_numbers (map known_of (from_frame c (frames_of_task t)))) (known_numbers (outer_reach job (critical_of t) more)) 1 (outer_base job (critical_of t) more))

pub above_base : (P : Starts) (constants : JobConstants) (job : Job) (t : Task) → TaskInOrder P constants job t → (n : ℕ) → Has (identities t.frames) n → 1 < n
above_base P constants job t own n h =
    let parts = subst (Falls job.next_frame) (numbers_append (map known_of t.frames) (outer_of job t)) own.falls in
    falls_above job.next_frame (known_numbers (map known_of t.frames)) (known_numbers (outer_of job t)) n 1 parts (subst (λ (ns : List ℕ). Has ns n) (sym (numbers-known t.frames)) h) (outer_base job t.critical t.parents)

pub none_low : (P : Starts) (constants : JobConstants) (job : Job) (t : Task) → TaskInOrder P constants job t → (n : ℕ) → n ≤ 1 → frames_named n t.frames ≡ 0
none_low P constants job t own n low = none_pass (λ (f : Frame). f.identity == n) t.frames (λ f h.
    let high = above_base P constants job t own f.identity (has_map (λ (f : Frame). f.identity) t.frames f h) in
    ne_eqb f.identity n (λ e. omega (arith, e, high, low)))

pub name_low : (P : Starts) (constants : JobConstants) (job : Job) → TasksInOrder P constants job → (n : ℕ) → n ≤ 1 → name_among job.tasks n ≡ (if n == 1 then 1 else 0)
name_low P constants job order n low = among_none n job.tasks (λ t h. none_low P constants job t (all_in (TaskInOrder P constants job) job.tasks t order.tasks h) n low)

-- ---- lists from a frame down

pub named_from : (rename : ℕ → ℕ) (number c : ℕ) (fs : List Frame) → Named rename number fs → Named rename number (from_frame c fs)
named_from rename number c [] names = tt
named_from rename number c (f ∷ below) names = elim (f.identity == c) as (λ b. Named rename number (if b then f ∷ below else from_frame c below)) [ true ↦ names | false ↦ named_from rename number c below names.1 ]

pub height_from : (c : ℕ) (fs : List Frame) → height (from_frame c fs) ≤ height fs
height_from c [] = omega arith
height_from c (f ∷ below) = elim (f.identity == c) as (λ b. height (if b then f ∷ below else from_frame c below) ≤ height (f ∷ below)) [ true ↦ omega arith | false ↦ (let h = height_from c below in omega (arith, h)) ]

-- ---- a task's reach

module _ (plan : Placement) (j : ℕ) (constants : JobConstants) (job : Job) (frame : StackPlace → ℕ) (array relabel : ℕ → ℕ)
    (few : length constants.segments < 2 ^ 13)
    (arrays : (a : Array) → Has job.arrays a → array (plan.home j a.identity) ≡ relabel a.identity)
    (jobs : j ≤ 8)
    (order : TasksInOrder (IsSegment constants) constants job)
    (small : constants.stack_size < 2 ^ 14)
    (slots : (t : Task) → Has job.tasks t → slot_of plan j t.number < 120)
    (base_1 : frame (record { stack = 127 + j; disp = 0 }) ≡ 1)
    (base_0 : frame (record { stack = 136; disp = 0 }) ≡ 0)
    (own : (t : Task) → Has job.tasks t → (disp : ℕ) → disp < constants.stack_size → frame (record { stack = slot_of plan j t.number; disp = disp }) ≡ named t.number disp) where
  in_order : (t : Task) → Has job.tasks t → TaskInOrder (IsSegment constants) constants job t
  in_order t there = all_in (TaskInOrder (IsSegment constants) constants job) job.tasks t order.tasks there

  base_read : (identity : ℕ) → NamesEntered base identity → PlaceIsRead frame (name_among job.tasks) (base_spot j) identity
  base_read identity h = by h.among where
    is_1 : frame (record { stack = 127 + j; disp = 0 }) ≡ name_among job.tasks 1
    is_1 = base_1 ∙ sym (name_low (IsSegment constants) constants job order 1 (omega arith))

    is_0 : frame (record { stack = 136; disp = 0 }) ≡ name_among job.tasks 0
    is_0 = base_0 ∙ sym (name_low (IsSegment constants) constants job order 0 (omega arith))

    by : Has base (identity, h.standing) → PlaceIsRead frame (name_among job.tasks) (base_spot j) identity
    by (inl e) = subst (PlaceIsRead frame (name_among job.tasks) (base_spot j)) (ap (λ (k : Known). k.0) e) (record { stack = omega (arith, jobs); disp = omega arith; is = is_1 })
    by (inr (inl e)) = subst (PlaceIsRead frame (name_among job.tasks) (base_spot j)) (ap (λ (k : Known). k.0) e) (record { stack = omega arith; disp = omega arith; is = is_0 })
    by (inr (inr z)) = absurd z

  pub outer_read : (parents : List ℕ) (t : Task) → BirthInOrder job t parents → (identity : ℕ) → NamesEntered (outer_reach job t.critical parents) identity
      → PlaceIsRead frame (name_among job.tasks) (outer_spots plan j job t.critical parents) identity
  outer_read [] t birth identity h = base_read identity h
  outer_read (parent ∷ above) t birth identity h =
      let p = birth.parent in
      let found = keyed_has (λ (t : Task). t.number) parent job.tasks p birth.found in
      let deeper = outer_read above p (subst (BirthInOrder job p) birth.line (in_order p found.0).birth) in
      let at_slot = subst (λ n. slot_of plan j n < 120) found.1 (slots p found.0) in
      let own_slot : (disp : ℕ) → disp < constants.stack_size → frame (record { stack = slot_of plan j parent; disp = disp }) ≡ named p.number disp =
      λ disp low. subst (λ n. frame (record { stack = slot_of plan j n; disp = disp }) ≡ named p.number disp) found.1 (own p found.0 disp low) in
      let lower = height_from t.critical p.frames in
      let high = (in_order p found.0).not_higher in
      let Goal : Option Task → Type 0 = λ o. NamesEntered (map known_of (from_frame t.critical (frames_of_task o)) ++ outer_reach job (critical_of o) above) identity
      → PlaceIsRead frame (name_among job.tasks) (spot_in (slot_of plan j parent) (outer_spots plan j job (critical_of o) above) (from_frame t.critical (frames_of_task o))) identity in
      let goal : Goal (Some p) = spots_read plan j constants job (slot_of plan j parent) p.number (outer_spots plan j job p.critical above) (outer_reach job p.critical above) frame array (name_among job.tasks) relabel few arrays
      (omega (arith, at_slot)) constants.stack_size (omega (arith, small)) own_slot deeper (from_frame t.critical p.frames) (named_from (name_among job.tasks) p.number t.critical p.frames (named_frames (IsSegment constants) constants job p order found.0)) (omega (arith, lower, high)) identity in
      subst Goal (sym birth.found) goal h
