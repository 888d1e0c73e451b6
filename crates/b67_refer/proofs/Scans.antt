-- The search from a procedure's cell down to its frame's mark.
use Rattle.std.proofs.Common.{◌≡◌, ℕ, ◌+◌, ◌-◌, ◌*◌, ◌/◌, ◌%◌, ◌<◌, ◌≤◌, ◌^◌, List, Some, refl, sym, ◌∙◌, ap, arith, length, ⊎_elim}
use Rattle.std.specs.List.{slice_get}
use Rattle.std.proofs.lemmas.Bool.{cases_lt}
use Rattle.std.proofs.lemmas.Nat.{div-mul-add, mod-mul-add}
use Rattle.std.proofs.lemmas.Option.{same_Some, slice_get_within}
use Rattle.b67_word.specs.Tagged.{Tagged}
use Rattle.b67_word.specs.declared.couples.Place.{Place}
use Rattle.b67_ctl.specs.declared.registers.Regs.{Regs}
use Rattle.b67_ctl.specs.declared.marks.Mscw.{Mscw}
use Rattle.b67_ctl.specs.Layout.{mscw_word, IsMscw}
use Rattle.b67_model.specs.Common.{Proc, frame, height, level_of_standing, level_of_frame, Known}
use Rattle.b67_layout.specs.Meets.{here}
use Rattle.b67_refer.specs.declared.activation.Activation.{Activation}
use Rattle.b67_refer.specs.RunningContext.{RunningContext, live_of}
use Rattle.b67_refer.specs.Cells.{view, frame_at_core}
use Rattle.b67_refer.specs.Ends.{IsProcAt}
use Rattle.b67_refer.proofs.Seats.{seat}
use Rattle.b67_refer.proofs.Bases.{stacks_is, size_is}
use Rattle.b67_refer.proofs.Marks.{mark, high_level, frame_known}
use Rattle.b67_refer.proofs.Rule.{inside, no_mark_under, return_tag, seat_address}
use Rattle.b67_refer.proofs.Unders.{seat_low, high_address}

module _ (core : List Tagged) (r : Regs) (a : RunningContext core r) (q : Place) (cell f segment level : ℕ) (place : Place) (p : IsProcAt a q cell f segment level place) where
  -- a place on the way: above the mark, up to the cell
  pub record Over (at : ℕ) : Type 0 where
    pub steps : ℕ
    pub low : 1 ≤ steps
    pub high : steps ≤ p.offset
    pub is : at ≡ frame_at_core a f + steps

  pub bounds : (2 ≤ p.offset) × (p.offset < 2 + length (seat core r (live_of a) f p.cell.names.standing p.cell.names.among p.own).frame.cells)
  bounds = inside core r (live_of a) q f p.cell.names.standing (seat core r (live_of a) f p.cell.names.standing p.cell.names.among p.own) p.cell.names.entered p.own p.offset (Proc segment level place) p.cell.found

  pub over_start : Over cell
  over_start = record { steps = p.offset; low = omega (arith, bounds.0); high = omega arith; is = p.cell.address }

  pub over_inside : (at : ℕ) → Over at → at < length core
  over_inside at o = let top = slice_get_within core cell p.cell.word p.cell.there in let c = p.cell.address in omega (arith, top, c, o.is, o.high)

  -- the first word of tag 3 is the one over the mark
  pub over_ends : (at : ℕ) (w : Tagged) → Over at → slice_get core at ≡ Some w → w.tag ≡ 3 → at ≡ frame_at_core a f + 1
  over_ends at w o there tag = ⊎_elim
      (λ (one : o.steps < 2). (let i = o.is in let l = o.low in omega (arith, one, i, l)))
      (λ (more : 2 ≤ o.steps). absurd (no_mark_under core r (live_of a) q f p.cell.names.standing (seat core r (live_of a) f p.cell.names.standing p.cell.names.among p.own) p.cell.names.entered p.own p.offset o.steps (Proc segment level place) w p.cell.found more o.high (ap (slice_get core) (sym o.is) ∙ there) tag))
      (cases_lt o.steps 2)

  pub over_next : (at : ℕ) (w : Tagged) → Over at → slice_get core at ≡ Some w → (w.tag ≡ 3 → ⊥) → Over (at - 1) × (1 ≤ at)
  over_next at w o there tag =
      let t = return_tag core r (live_of a) q f p.cell.names.standing (seat core r (live_of a) f p.cell.names.standing p.cell.names.among p.own) p.cell.names.entered p.own in
      let i = o.is in
      let h = o.high in
      let l = o.low in
      let more : 2 ≤ o.steps = ⊎_elim
      (λ (one : o.steps < 2). absurd (tag (let at_is : at ≡ frame_at_core a f + 1 = omega (arith, one, i, l) in ap (λ (x : Tagged). x.tag) (same_Some _ _ (sym there ∙ ap (slice_get core) at_is ∙ t.1)) ∙ t.2)))
      (λ (more : 2 ≤ o.steps). more)
      (cases_lt o.steps 2) in
      (record { steps = o.steps - 1; low = omega (arith, more); high = omega (arith, h); is = omega (arith, i, more) }, omega (arith, i, more))

  -- the spot of the mark, and its level
  pub mark_low : (r.stacks ≤ frame_at_core a f) × (frame_at_core a f < 2 ^ 20)
  mark_low = let h = high_address core r (live_of a) f p.cell.names p.own in let k = stacks_is core r (live_of a) in (omega (arith, h.0, k), h.1)

  pub spot_is : (size : ℕ) → size ≡ r.stack_size → ((frame_at_core a f - r.stacks) / size ≡ (view a f).stack) × ((frame_at_core a f - r.stacks) % size ≡ (view a f).disp) × (0 < size) × ((view a f).stack < 120) × ((view a f).disp < 2 ^ 14)
  spot_is size e =
      let b = seat core r (live_of a) f p.cell.names.standing p.cell.names.among p.own in
      let at = seat_address core r (live_of a) q f p.cell.names.standing b p.cell.names.entered p.own in
      let low = seat_low core r (live_of a) f p.cell.names p.own in
      let k = stacks_is core r (live_of a) in
      let z : size ≡ a.plan.size = e ∙ size_is core r (live_of a) in
      let d : frame_at_core a f - r.stacks ≡ b.slot * a.plan.size + height b.below = omega (arith, at, k) in
      grind (arith, div-mul-add)

  pub mark_there : (m : Mscw) × IsMscw m × (slice_get core (frame_at_core a f) ≡ Some (mscw_word m)) × (m.level ≡ level_of_frame (frame (here a.member a.task q) f))
  mark_there =
      let n = p.cell.names in
      let own = p.own in
      let low = high_level core r (live_of a) f n.standing n.among n.entered own in
      let m = mark core r (live_of a) f n.standing n.among n.entered (omega (arith, low)) in
      (m.mark, m.fits, m.there, m.level ∙ ap (λ (k : Known). level_of_standing k.1) (sym (frame_known core r (live_of a) q f n.standing n.among)))

  -- the same for the slot and the displacement that were found
  pub found_spot : (m slot disp : ℕ) → m ≡ frame_at_core a f → r.stacks + slot * r.stack_size + disp ≡ m → disp < r.stack_size → (slot ≡ (view a f).stack) × (disp ≡ (view a f).disp) × ((view a f).stack < 120) × ((view a f).disp < 2 ^ 14)
  found_spot m slot disp e at low =
      let s = spot_is r.stack_size refl in
      let d : frame_at_core a f - r.stacks ≡ slot * r.stack_size + disp = omega (arith, e, at) in
      (sym (ap (λ n. n / r.stack_size) d ∙ div-mul-add slot r.stack_size disp low) ∙ s.0, sym (ap (λ n. n % r.stack_size) d ∙ mod-mul-add slot r.stack_size disp low) ∙ s.1, s.3, s.4)

  pub found_mark : (m : ℕ) → m ≡ frame_at_core a f → (k : Mscw) × IsMscw k × (slice_get core m ≡ Some (mscw_word k)) × (k.level ≡ level_of_frame (frame (here a.member a.task q) f))
  found_mark m e = let k = mark_there in (k.0, k.1, ap (slice_get core) e ∙ k.2, k.3)

  pub found_activation : (stack disp low : ℕ) → stack ≡ (view a f).stack → disp ≡ (view a f).disp → low ≡ level_of_frame (frame (here a.member a.task q) f)
      → ◌≡◌ {A = Activation} (record { stack = stack; disp = disp; level = low }) (record { stack = (view a f).stack; disp = (view a f).disp; level = level_of_frame (frame (here a.member a.task q) f) })
  found_activation stack disp low x y z = λ i. record { stack = x i; disp = y i; level = z i }
