-- What the running task sees at an identity of its reach: the frame, and the mark in core that names its environment.
use Rattle.std.proofs.Common.{◌≡◌, ℕ, ◌+◌, ◌<◌, ◌≤◌, List, [], ◌∷◌, ◌++◌, map, flat_map, Option, Some, None, unwrap_or, refl, sym, ◌∙◌, ap, arith, Bool, true, false, ◌==◌, ⊎_elim, inl, inr, subst, eqb, cond}
use Rattle.std.specs.Prelude.{if◌then◌else◌}
use Rattle.std.specs.List.{slice_get}
use Rattle.std.proofs.lemmas.Bool.{cases_lt, ne_eqb}
use Rattle.std.proofs.lemmas.Bool.Decides.{eqb_tells}
use Rattle.b67_word.specs.Tagged.{Tagged}
use Rattle.b67_ctl.specs.declared.registers.Regs.{Regs}
use Rattle.b67_ctl.specs.declared.marks.Mscw.{Mscw}
use Rattle.b67_ctl.specs.Layout.{mscw_word, IsMscw}
use Rattle.b67_lemmas.specs.Lists.{Has, how_many}
use Rattle.b67_lemmas.proofs.Members.{has_append_cases, has_append_right, has_map, has_map_back, keyed_has, keyed_left, keyed_right, none_pass, total_flat, total_zero}
use Rattle.b67_model.specs.Keyed.{keyed}
use Rattle.b67_model.specs.Common.{Frame, Standing, Marked, Entered, Task, OperatorContext, height, mcp, no_frame, frame, level_of_standing, environment_of, Known, known_of, known_numbers, from_frame, frames_of_task, critical_of, base as base_known, reach_of, IsEntered, ParentInOrder, BirthInOrder, StandsInOrder, EnvironmentInOrder, IsSegment, frames_named}
use Rattle.b67_stack.specs.Stacks.{StackPlace}
use Rattle.b67_law.proofs.Looks.{Line, line_of, above_one, found_frame, from_has}
use Rattle.b67_layout.specs.Common.{slot_of, spot_in, base_spot, outer_spots, spots, address_of, frame_address, here, head}
use Rattle.b67_word.specs.declared.couples.Place.{Place}
use Rattle.b67_stack.specs.Stacks as Stacks
use Rattle.b67_refer.specs.RunningContext.{LiveContext, IsStackOf}
use Rattle.b67_refer.proofs.Slots.{mark_in, part_mark, base, acts}
use Rattle.b67_refer.proofs.Seats.{spot_low, Seat, seat, has_task, order_of}

module _ (core : List Tagged) (r : Regs) (a : LiveContext core r) where
  pub high_frames : (u : Task) → Has a.member.progress.job.tasks u → (f : Frame) → Has u.frames f → 1 < f.identity
  high_frames u h f m = above_one (IsSegment a.member.constants) a.member.constants a.member.progress.job a.ordered.tasks u h f m

  -- the dictionary and the MCP are no task's frames
  outer_low : (u : Task) → Has a.member.progress.job.tasks u → (parents : List ℕ) → u.parents ≡ parents → (id : ℕ) → id ≤ 1
      → outer_spots a.plan a.member.constants.number a.member.progress.job u.critical parents id ≡ base_spot a.member.constants.number id
  outer_low u here [] line id low = refl
  outer_low u here (n ∷ more) line id low =
      let job = a.member.progress.job in
      let birth : ParentInOrder job u n more = subst (BirthInOrder job u) line (order_of core r a u here).birth in
      let q = birth.parent in
      let at = keyed_has (λ (v : Task). v.number) n job.tasks q birth.found in
      let k = slot_of a.plan a.member.constants.number n in
      let S : Option Task → StackPlace = λ v. spot_in k (outer_spots a.plan a.member.constants.number job (critical_of v) more) (from_frame u.critical (frames_of_task v)) id in
      ap S birth.found
      ∙ spot_low k (outer_spots a.plan a.member.constants.number job q.critical more) (from_frame u.critical q.frames) id low (λ f h. high_frames q at.0 f (from_has u.critical q.frames f h))
      ∙ outer_low q at.0 more birth.line id low

  pub view_low : (id : ℕ) → id ≤ 1 → spots a.plan a.member.constants.number a.member.progress.job a.task id ≡ base_spot a.member.constants.number id
  view_low id low =
      let here = has_task core r a in
      spot_low (slot_of a.plan a.member.constants.number a.task.number) (outer_spots a.plan a.member.constants.number a.member.progress.job a.task.critical a.task.parents) a.task.frames id low (λ f h. high_frames a.task here f h)
      ∙ outer_low a.task here a.task.parents refl id low

  line : Line (IsSegment a.member.constants) a.member.progress.job (reach_of a.member.progress.job a.task)
  line = line_of (IsSegment a.member.constants) a.member.constants a.member.progress.job a.ordered.tasks a.task (has_task core r a)

  pub base_in : (id : ℕ) (s : Standing) → Has base_known (id, s) → Has (reach_of a.member.progress.job a.task) (id, s)
  base_in id s h = rw line.is (has_append_right (map known_of line.frames) base_known (id, s) h)

  -- below two there are the dictionary and the MCP alone
  pub low_is : (id : ℕ) (s : Standing) → Has (reach_of a.member.progress.job a.task) (id, s) → id ≤ 1 → Has base_known (id, s)
  low_is id s h low = ⊎_elim
      (λ m. (let b = has_map_back known_of line.frames (id, s) m in let live = line.live b.item b.among in
      absurd (omega (arith, high_frames live.task live.live b.item live.among, low, ap (λ (k : Known). k.0) b.is))))
      (λ m. m)
      (has_append_cases (map known_of line.frames) base_known (id, s) (rw line.is at h))

  none_low : (n : ℕ) → n ≤ 1 → how_many (λ (f : Frame). eqb f.identity n) (flat_map (λ (u : Task). u.frames) a.member.progress.job.tasks) ≡ 0
  none_low n low = rw (total_flat (λ (u : Task). u.frames) (λ (f : Frame). cond (eqb f.identity n) 1 0) a.member.progress.job.tasks)
      (total_zero (λ (u : Task). frames_named n u.frames) a.member.progress.job.tasks (λ u h. none_pass (λ (f : Frame). eqb f.identity n) u.frames (λ f m. elim (eqb_tells f.identity n) [
        | inl e ↦ absurd (omega (arith, high_frames u h f m, e.1, low))
        | inr e ↦ e.0
      ])))

  -- the model's look-ups
  module _ (q : Place) where
    abbrev h : OperatorContext
    h = here a.member a.task q

    pub frame_seat : (id : ℕ) (s : Standing) (b : Seat core r a (spots a.plan a.member.constants.number a.member.progress.job a.task) (reach_of a.member.progress.job a.task) id s) → frame (here a.member a.task q) id ≡ b.frame
    frame_seat id s b =
        let found = found_frame (IsSegment a.member.constants) a.member.constants a.member.progress.job a.ordered.tasks b.frame b.live in
        let at : keyed (λ (x : Frame). x.identity) id (flat_map (λ (u : Task). u.frames) a.member.progress.job.tasks) ≡ Some b.frame =
        subst (λ (i : ℕ). keyed (λ (x : Frame). x.identity) i (flat_map (λ (u : Task). u.frames) a.member.progress.job.tasks) ≡ Some b.frame) b.named found in
        ap (λ o. unwrap_or o no_frame) (keyed_left (λ (x : Frame). x.identity) id (flat_map (λ (u : Task). u.frames) a.member.progress.job.tasks) (a.member.constants.dictionary ∷ mcp ∷ []) b.frame at)

    pub frame_dictionary : frame (here a.member a.task q) 1 ≡ a.member.constants.dictionary
    frame_dictionary =
        let found : keyed (λ (x : Frame). x.identity) 1 (a.member.constants.dictionary ∷ mcp ∷ []) ≡ Some a.member.constants.dictionary = rw a.ordered.constants.named refl in
        ap (λ o. unwrap_or o no_frame) (keyed_right (λ (x : Frame). x.identity) 1 (flat_map (λ (u : Task). u.frames) a.member.progress.job.tasks) (a.member.constants.dictionary ∷ mcp ∷ []) (none_low 1 (omega arith)) ∙ found)

    pub frame_mcp : frame (here a.member a.task q) 0 ≡ mcp
    frame_mcp =
        let found : keyed (λ (x : Frame). x.identity) 0 (a.member.constants.dictionary ∷ mcp ∷ []) ≡ Some mcp = rw a.ordered.constants.named refl in
        ap (λ o. unwrap_or o no_frame) (keyed_right (λ (x : Frame). x.identity) 0 (flat_map (λ (u : Task). u.frames) a.member.progress.job.tasks) (a.member.constants.dictionary ∷ mcp ∷ []) (none_low 0 (omega arith)) ∙ found)

    -- a frame of the reach is looked up as itself
    pub frame_known : (id : ℕ) (s : Standing) → Has (reach_of a.member.progress.job a.task) (id, s) → known_of (frame (here a.member a.task q) id) ≡ (id, s)
    frame_known id s m = ⊎_elim
        (λ (high : 1 < id). let b = seat core r a id s m high in ap known_of (frame_seat id s b) ∙ (λ i. (b.named i, b.stands i)))
        (λ (low : id ≤ 1). by_base (low_is id s m low))
        (cases_lt 1 id) where
          by_base : Has base_known (id, s) → known_of (frame (here a.member a.task q) id) ≡ (id, s)
          by_base (inl e) = subst (λ (k : Known). known_of (frame (here a.member a.task q) k.0) ≡ k) e (ap known_of frame_dictionary ∙ (λ i. (a.ordered.constants.named i, a.ordered.constants.stands i)))
          by_base (inr (inl e)) = subst (λ (k : Known). known_of (frame (here a.member a.task q) k.0) ≡ k) e (ap known_of frame_mcp)
          by_base (inr (inr z)) = absurd z

  -- what an entered frame's mark in core says
  pub record MarkOf (id : ℕ) (s : Standing) : Type 0 where
    pub mark : Mscw
    pub fits : IsMscw mark
    pub there : slice_get core (frame_address a.plan a.member a.task id) ≡ Some (mscw_word mark)
    pub level : mark.level ≡ level_of_standing s
    pub standing : Standing
    pub among : Has (reach_of a.member.progress.job a.task) (environment_of s, standing)
    pub entered : IsEntered standing
    pub level_below : level_of_standing standing + 1 ≡ level_of_standing s
    pub stack : IsStackOf a mark.env_stack
    pub slotted : 2 ≤ level_of_standing standing → mark.env_stack < a.plan.peak
    pub address : address_of a.plan (record { stack = mark.env_stack; disp = mark.env_disp }) ≡ frame_address a.plan a.member a.task (environment_of s)

  -- the stack of a spot that the task may name
  pub stack_known : (id : ℕ) (s : Standing) → Has (reach_of a.member.progress.job a.task) (id, s) → IsStackOf a (spots a.plan a.member.constants.number a.member.progress.job a.task id).stack
  stack_known id s m = ⊎_elim
      (λ (high : 1 < id). let b = seat core r a id s m high in subst (λ (z : StackPlace). IsStackOf a z.stack) (sym b.spot) (inl b.top_is.used))
      (λ (low : id ≤ 1). subst (λ (z : StackPlace). IsStackOf a z.stack) (sym (view_low id low)) (by_base (id == 1)))
      (cases_lt 1 id) where
        by_base : (b : Bool) → IsStackOf a (let z : StackPlace = if b then record { stack = 127 + a.member.constants.number; disp = 0 } else record { stack = 136; disp = 0 } in z).stack
        by_base true = inr (inl refl)
        by_base false = inr (inr refl)

  -- in a slot there are a task's frames alone
  pub own_stack : (id : ℕ) → (spots a.plan a.member.constants.number a.member.progress.job a.task id).stack < 120 → 1 < id
  own_stack id few = grind (arith, view_low)

  pub base_stack : (id : ℕ) (s : Standing) → Has (reach_of a.member.progress.job a.task) (id, s) → 120 ≤ (spots a.plan a.member.constants.number a.member.progress.job a.task id).stack → id ≤ 1
  base_stack id s m far = ⊎_elim
      (λ (high : 1 < id). absurd (let b = seat core r a id s m high in let v = ap (λ (z : StackPlace). z.stack) b.spot in let used = b.top_is.used in let few = a.holds.fits.few in omega (arith, far, v, used, few)))
      (λ (low : id ≤ 1). low)
      (cases_lt 1 id)

  -- that of a record entered above the dictionary is a slot
  slot_known : (id : ℕ) (s : Standing) → Has (reach_of a.member.progress.job a.task) (id, s) → 2 ≤ level_of_standing s → (spots a.plan a.member.constants.number a.member.progress.job a.task id).stack < a.plan.peak
  slot_known id s m two = ⊎_elim
      (λ (high : 1 < id). let b = seat core r a id s m high in subst (λ (z : StackPlace). z.stack < a.plan.peak) (sym b.spot) b.top_is.used)
      (λ (low : id ≤ 1). absurd (by_base (low_is id s m low)))
      (cases_lt 1 id) where
        by_base : Has base_known (id, s) → ⊥
        by_base (inl e) = omega (arith, two, ap (λ (k : Known). level_of_standing k.1) e)
        by_base (inr (inl e)) = omega (arith, two, ap (λ (k : Known). level_of_standing k.1) e)
        by_base (inr (inr z)) = absurd z

  -- the address of a spot in a slot
  pub slot_address : (k d : ℕ) → k < a.plan.peak → address_of a.plan (record { stack = k; disp = d }) ≡ base core r a k + d
  slot_address k d used = grind arith

  pub dictionary_address : address_of a.plan (base_spot a.member.constants.number 1) ≡ a.plan.dictionary a.member.constants.number
  dictionary_address = grind arith

  -- the mark of an entered frame in reach, but the MCP's
  mark_high : (id : ℕ) (s : Standing) → Has (reach_of a.member.progress.job a.task) (id, s) → IsEntered s → 1 < id → MarkOf id s
  mark_high id Marked m e high = absurd e
  mark_high id (Entered level environment back) m e high =
      let b = seat core r a id (Entered level environment back) m high in
      let g = part_mark core r a b.slot b.outer b.top b.frame b.below b.part in
      let k = b.slot in
      let order : EnvironmentInOrder (map known_of b.below ++ b.known) level environment = subst (λ (z : Standing). StandsInOrder (map known_of b.below ++ b.known) z) b.stands b.order.1 in
      let env : Has (known_numbers (map known_of b.below ++ b.known)) environment = has_map (λ (k : Known). k.0) (map known_of b.below ++ b.known) (environment, order.standing) order.among in
      let under : Has (reach_of a.member.progress.job a.task) (environment, order.standing) = b.among (environment, order.standing) (inr order.among) in
      let seen : spots a.plan a.member.constants.number a.member.progress.job a.task environment ≡ spot_in k b.outer b.below environment =
      b.sees environment (inr env) ∙ (let low = b.falls environment env in let ne : (b.frame.identity == environment) ≡ false = ne_eqb b.frame.identity environment (λ z. omega (arith, z, low)) in rw ne refl) in
      let mk : Mscw = Stacks.mark_of k (head (spot_in k b.outer b.below) (Entered level environment back)) (acts core r a k b.outer b.below) in
      let is : mark_in core r a k b.outer b.frame b.below ≡ mk = ap (λ (z : Standing). Stacks.mark_of k (head (spot_in k b.outer b.below) z) (acts core r a k b.outer b.below)) b.stands in
      let at : frame_address a.plan a.member a.task id ≡ base core r a k + height b.below = ap (address_of a.plan) b.spot ∙ slot_address k (height b.below) b.top_is.used in
      record {
        mark = mk;
        fits = subst IsMscw is g.0;
        there = ap (slice_get core) at ∙ g.1 ∙ ap (λ (z : Mscw). Some (mscw_word z)) is;
        level = refl;
        standing = order.standing;
        among = under;
        entered = order.entered;
        level_below = order.level_below;
        stack = subst (λ (z : StackPlace). IsStackOf a z.stack) seen (stack_known environment order.standing under);
        slotted = λ two. subst (λ (z : StackPlace). z.stack < a.plan.peak) seen (slot_known environment order.standing under two);
        address = ap (address_of a.plan) (sym seen);
      }

  -- a frame of a task is entered at level 2 or more
  pub high_level : (id : ℕ) (s : Standing) → Has (reach_of a.member.progress.job a.task) (id, s) → IsEntered s → 1 < id → 2 ≤ level_of_standing s
  high_level id Marked m e high = absurd e
  high_level id (Entered level environment back) m e high =
      let b = seat core r a id (Entered level environment back) m high in
      grind arith

  dictionary_mark : Mscw
  dictionary_mark = record { far = true; entered = true; env_stack = 136; env_disp = 0; value = false; level = 1; back = 0 }

  mark_low : (id : ℕ) (s : Standing) → Has base_known (id, s) → 1 ≤ level_of_standing s → MarkOf id s
  mark_low id s (inl e) low = subst (λ (k : Known). MarkOf k.0 k.1) e (record {
    mark = record { far = true; entered = true; env_stack = 136; env_disp = 0; value = false; level = 1; back = 0 };
    fits = record { env_stack = omega arith; env_disp = omega arith; level = omega arith; back = omega arith; marked = λ z. absurd (let y : ⊥ = cc in y) };
    there = ap (slice_get core) (ap (address_of a.plan) (view_low 1 (omega arith)) ∙ dictionary_address) ∙ (a.holds.dictionaries a.member (keyed_has (λ m. m.constants.number) a.member.constants.number a.session.jobs a.member a.running.member).0).mark;
    level = refl;
    standing = Entered 0 0 None;
    among = base_in 0 (Entered 0 0 None) (inr (inl refl));
    entered = tt;
    level_below = refl;
    stack = inr (inr refl);
    slotted = λ two. absurd (omega (arith, two));
    address = ap (address_of a.plan) (sym (view_low 0 (omega arith)));
  })
  mark_low id s (inr (inl e)) low = absurd (omega (arith, low, ap (λ (k : Known). level_of_standing k.1) e))
  mark_low id s (inr (inr z)) low = absurd z

  pub mark : (id : ℕ) (s : Standing) → Has (reach_of a.member.progress.job a.task) (id, s) → IsEntered s → 1 ≤ level_of_standing s → MarkOf id s
  mark id s m e low = ⊎_elim (λ (high : 1 < id). mark_high id s m e high) (λ (z : id ≤ 1). mark_low id s (low_is id s m z) low) (cases_lt 1 id)
