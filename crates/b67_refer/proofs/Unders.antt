-- The top of the stack in which an address is, and the frames whose marks are there.
use Rattle.std.proofs.Common.{◌≡◌, ℕ, ◌+◌, ◌-◌, ◌*◌, ◌/◌, ◌<◌, ◌≤◌, ◌^◌, List, Some, refl, sym, ◌∙◌, ap, arith, ⊎_elim, length, get_or, true, false, Ok, Err}
use Rattle.std.specs.Prelude.{nat_le, nat_lt}
use Rattle.std.specs.List.{slice_get}
use Rattle.std.proofs.lemmas.Nat.{div-mul-add}
use Rattle.std.proofs.lemmas.Bool.{cases_eq, cases_lt, lt-leb, le-leb, ltb-true, ltb-false}
use Rattle.std.proofs.lemmas.Option.{get_or_from_slice_get}
use Rattle.b67_word.specs.Tagged.{Tagged}
use Rattle.b67_word.specs.declared.couples.Place.{Place}
use Rattle.b67_word.specs.declared.couples.Couple.{Couple}
use Rattle.b67_ctl.specs.declared.registers.Regs.{Regs}
use Rattle.b67_ctl.specs.declared.marks.Toscw.{Toscw}
use Rattle.b67_ctl.specs.Layout.{toscw_word, IsToscw}
use Rattle.b67_word.specs.declared.faults.Fault.TheVariants.{InvalidAddress}
use Rattle.b67_model.specs.Common.{Frame, Standing, height, reach_of, NamesEntered, frame_at, named}
use Rattle.b67_stack.specs.Stacks.{StackPlace, head_size, stack_words}
use Rattle.b67_layout.specs.Common.{spot_in, head, frame_address, here}
use Rattle.b67_refer.proofs.Slots.{has_slot}
use Rattle.b67_layout.proofs.Frames.{height-is}
use Rattle.b67_refer.specs.RunningContext.{RunningContext, LiveContext, IsShown}
use Rattle.b67_refer.specs.LiveCells.{IsOfSlot, IsTop, IsUnder}
use Rattle.b67_refer.proofs.Bases.{stacks_is, size_is, slot_inside, dictionary_is, dictionary_low}
use Rattle.b67_refer.proofs.Seats.{seat}
use Rattle.b67_refer.proofs.Rule.{seat_address}
use Rattle.b67_refer.proofs.Fixed.{mcp_address, dictionary_home, dictionary_high}
use Rattle.b67_refer.proofs.Chains.{level, level_is, level_at, own_level, base_level, frame_at_same}

-- a frame's kind by a comparison
pub kind_by : (x y f : ℕ) → (x < y → 1 < f) → (y ≤ x → f ≤ 1) → IsOfSlot (nat_lt x y) f
kind_by x y f own few = ((λ t. own (ltb-true x y t)), (λ t. few (ltb-false x y t)))

pub one_word : (spot : ℕ → StackPlace) (s : Standing) → 1 ≤ head_size (head spot s)
one_word spot s = grind arith

module _ (core : List Tagged) (r : Regs) (a : LiveContext core r) where
  pub slot_found : (from top size : ℕ) (u : IsUnder a from top) → size ≡ r.stack_size → (from - r.stacks) / size ≡ u.slot
  slot_found from top size u e =
      let z : size ≡ a.plan.size = e ∙ size_is core r a in
      let k = stacks_is core r a in
      let at = u.at in
      let d : from - r.stacks ≡ u.slot * a.plan.size + u.disp = omega (arith, k, at) in
      ap (λ n. n / size) d ∙ ap (λ n. (u.slot * a.plan.size + u.disp) / n) z ∙ div-mul-add u.slot a.plan.size u.disp u.low

  -- the slot that was found
  spot_slot : (from top slot disp : ℕ) (u : IsUnder a from top) → r.stacks + slot * r.stack_size + disp ≡ from → disp < r.stack_size → slot ≡ u.slot
  spot_slot from top slot disp u at low =
      let d : from - r.stacks ≡ slot * r.stack_size + disp = omega (arith, at) in
      sym (ap (λ n. n / r.stack_size) d ∙ div-mul-add slot r.stack_size disp low) ∙ slot_found from top r.stack_size u refl

  pub top_running : (from top slot disp : ℕ) (u : IsUnder a from top) → r.stacks + slot * r.stack_size + disp ≡ from → disp < r.stack_size → slot ≡ r.slot → (r.s ≡ top) × (r.f ≡ u.is.mark)
  top_running from top slot disp u at low runs = ⊎_elim (λ b. (b.1, b.2)) (λ b. absurd (b.0 (sym runs ∙ spot_slot from top slot disp u at low))) u.is.by

  pub top_waiting : (from top slot disp : ℕ) (u : IsUnder a from top) → r.stacks + slot * r.stack_size + disp ≡ from → disp < r.stack_size → (slot ≡ r.slot → ⊥)
      → (w : Toscw) × IsToscw w × (slice_get core (r.stacks + slot * r.stack_size) ≡ Some (toscw_word w)) × (r.stacks + slot * r.stack_size + w.s ≡ top) × (r.stacks + slot * r.stack_size + w.f ≡ u.is.mark)
  top_waiting from top slot disp u at low runs =
      let found = spot_slot from top slot disp u at low in
      grind arith

  -- a stack has one top, and one last mark
  pub same_ends : (k l over under : ℕ) → k ≡ l → (x : IsTop a k over) (y : IsTop a l under) → (over ≡ under) × (x.mark ≡ y.mark)
  same_ends k l over under same x y = grind arith

  pub slots_under : (from top : ℕ) → IsUnder a from top → r.stacks ≤ from
  slots_under from top u = let k = stacks_is core r a in let at = u.at in omega (arith, k, at)

  -- a frame of a task is under its stack's top
  pub under : (f : ℕ) (n : NamesEntered (reach_of a.member.progress.job a.task) f) (own : 1 < f) → IsUnder a (frame_address a.plan a.member a.task f) (seat core r a f n.standing n.among own).top
  under f n own =
      let b = seat core r a f n.standing n.among own in
      let h = height-is a.plan a.member.constants.number a.member.progress.job b.slot b.outer b.below in
      let w = one_word (spot_in b.slot b.outer b.below) b.frame.standing in
      record {
        slot = b.slot;
        disp = height b.below;
        low = omega (arith, h, w, b.part.low, b.part.room);
        at = seat_address core r a a.task.place f n.standing b n.entered own;
        is = b.top_is;
      }

  -- a frame's stack is known by its mark's address
  pub same_slot : (f : ℕ) (n : NamesEntered (reach_of a.member.progress.job a.task) f) (own : 1 < f) (from top : ℕ) (u : IsUnder a from top) → frame_address a.plan a.member a.task f ≡ from → u.slot ≡ (seat core r a f n.standing n.among own).slot
  unfolding under
  same_slot f n own from top u e =
      sym (slot_found from top r.stack_size u refl) ∙ ap (λ x. (x - r.stacks) / r.stack_size) (sym e)
      ∙ slot_found (frame_address a.plan a.member a.task f) (seat core r a f n.standing n.among own).top r.stack_size (under f n own) refl

  pub seat_low : (f : ℕ) (n : NamesEntered (reach_of a.member.progress.job a.task) f) (own : 1 < f) → height (seat core r a f n.standing n.among own).below < a.plan.size
  seat_low f n own = grind (arith, height-is)

  pub high_address : (f : ℕ) → NamesEntered (reach_of a.member.progress.job a.task) f → 1 < f → (a.plan.stacks ≤ frame_address a.plan a.member a.task f) × (frame_address a.plan a.member a.task f < 2 ^ 20)
  high_address f n own =
      let u = under f n own in
      let at = u.at in
      let low = u.low in
      let i = slot_inside core r a u.slot u.is.used in
      (omega (arith, at), omega (arith, at, low, i.0, i.1, i.2))

  -- which frame it is by the address
  pub is_mcp : (f from : ℕ) → NamesEntered (reach_of a.member.progress.job a.task) f → from ≡ frame_address a.plan a.member a.task f → from ≡ 0 → f ≡ 0
  is_mcp f from n e zero = ⊎_elim
      (λ (own : 1 < f). absurd (let h = high_address f n own in let d = dictionary_low core r a in omega (arith, h.0, e, zero, d)))
      (λ (low : f ≤ 1). ⊎_elim
      (λ (z : f < 1). omega (arith, z))
      (λ (one : 1 ≤ f). (let is : f ≡ 1 = omega (arith, low, one) in let at : from ≡ a.plan.dictionary a.member.constants.number = e ∙ ap (frame_address a.plan a.member a.task) is ∙ dictionary_home core r a in let d = dictionary_high core r a in absurd (omega (arith, at, zero, d))))
      (cases_lt f 1))
      (cases_lt 1 f)

  pub is_dictionary : (f from : ℕ) → NamesEntered (reach_of a.member.progress.job a.task) f → from ≡ frame_address a.plan a.member a.task f → (from ≡ 0 → ⊥) → from ≡ r.dict → f ≡ 1
  is_dictionary f from n e some is = ⊎_elim
      (λ (own : 1 < f). absurd (let h = high_address f n own in let d = dictionary_low core r a in let k = dictionary_is core r a in omega (arith, h.0, e, is, k, d)))
      (λ (low : f ≤ 1). ⊎_elim
      (λ (z : f < 1). absurd (let zero : f ≡ 0 = omega (arith, z) in some (e ∙ ap (frame_address a.plan a.member a.task) zero ∙ mcp_address core r a)))
      (λ (one : 1 ≤ f). omega (arith, low, one))
      (cases_lt f 1))
      (cases_lt 1 f)

  pub is_task : (f from : ℕ) → NamesEntered (reach_of a.member.progress.job a.task) f → from ≡ frame_address a.plan a.member a.task f → (from ≡ 0 → ⊥) → (from ≡ r.dict → ⊥) → 1 < f
  is_task f from n e some other = ⊎_elim
      (λ (own : 1 < f). own)
      (λ (low : f ≤ 1). ⊎_elim
      (λ (z : f < 1). absurd (let zero : f ≡ 0 = omega (arith, z) in some (e ∙ ap (frame_address a.plan a.member a.task) zero ∙ mcp_address core r a)))
      (λ (one : 1 ≤ f). absurd (let is : f ≡ 1 = omega (arith, low, one) in other (e ∙ ap (frame_address a.plan a.member a.task) is ∙ dictionary_home core r a ∙ sym (dictionary_is core r a))))
      (cases_lt f 1))
      (cases_lt 1 f)

  -- a frame whose mark doesn't lie below the slots is a task's
  pub is_slot : (f from : ℕ) → NamesEntered (reach_of a.member.progress.job a.task) f → from ≡ frame_address a.plan a.member a.task f → r.stacks ≤ from → 1 < f
  is_slot f from n e high =
      let d = dictionary_low core r a in
      let k = dictionary_is core r a in
      let z = stacks_is core r a in
      is_task f from n e (λ i. omega (arith, i, high, z, d)) (λ i. omega (arith, i, high, z, d, k))

  pub is_running : (f from : ℕ) → NamesEntered (reach_of a.member.progress.job a.task) f → from ≡ frame_address a.plan a.member a.task f → r.bosr ≤ from → 1 < f
  is_running f from n e high = is_slot f from n e (let s = (has_slot core r a).first in omega (arith, s, high))

  pub is_base : (f from : ℕ) → NamesEntered (reach_of a.member.progress.job a.task) f → from ≡ frame_address a.plan a.member a.task f → f ≤ 1 → (from ≡ 0 → ⊥) → from ≡ r.dict
  is_base f from n e low some = ⊎_elim (λ z. z) (λ other. absurd (let own = is_task f from n e some other in omega (arith, own, low))) (cases_eq from r.dict)

  -- the number of a dictionary's entries
  pub entries_is : r.entries ≡ length a.member.constants.dictionary.cells
  entries_is = (a.holds.running a.member a.runner a.running).entries

-- a couple's frame
module _ (core : List Tagged) (r : Regs) (a : RunningContext core r) where
  module _ (q : Place) (display : List ℕ) (shown : IsShown a display) (c : Couple) where
    pub named_above : r.level < c.level → named (here a.member a.task q) c ≡ Err InvalidAddress
    named_above high = let e = level_is core r a in let t : nat_le c.level (level core r a) ≡ false = lt-leb c.level (level core r a) (omega (arith, e, stack_words)) in rw t refl

    pub named_at : c.level ≤ r.level → named (here a.member a.task q) c ≡ Ok ((frame_at (here a.member a.task q) c.level).identity, c.disp)
    named_at low = let e = level_is core r a in let t : nat_le c.level (level core r a) ≡ true = le-leb c.level (level core r a) (omega (arith, e, low)) in rw t refl

    pub names_level : c.level ≤ r.level → NamesEntered (reach_of a.member.progress.job a.task) (frame_at (here a.member a.task q) c.level).identity
    names_level low =
        let e = level_is core r a in
        let k = level_at core r a q c.level (omega (arith, e, low)) in
        record { standing = (frame_at (here a.member a.task q) c.level).standing; among = k.among; entered = k.entered }

    pub names_own : 1 < c.level → c.level ≤ r.level → 1 < (frame_at (here a.member a.task q) c.level).identity
    names_own high low = let e = level_is core r a in own_level core r a q c.level (omega (arith, high)) (omega (arith, e, low))

    pub names_base : c.level ≤ 1 → (frame_at (here a.member a.task q) c.level).identity ≤ 1
    names_base few = base_level core r a q c.level few

    -- above level 1 the record is a task's
    pub names_kind : c.level ≤ r.level → IsOfSlot (nat_lt 1 c.level) (frame_at (here a.member a.task q) c.level).identity
    names_kind low = kind_by 1 c.level (frame_at (here a.member a.task q) c.level).identity (λ high. names_own high low) names_base

    pub display_at : c.level ≤ r.level → get_or display c.level 0 ≡ frame_address a.plan a.member a.task (frame_at (here a.member a.task q) c.level).identity
    display_at low =
        let e = level_is core r a in
        get_or_from_slice_get display c.level _ 0 (shown c.level (omega (arith, e, low)))
        ∙ ap (λ (f : Frame). frame_address a.plan a.member a.task f.identity) (frame_at_same core r a a.task.place q c.level)
