-- The search from an operand's cell down to the mark of its activation record.
use Rattle.std.proofs.Common.{◌≡◌, ℕ, ◌+◌, ◌-◌, ◌<◌, ◌≤◌, ◌^◌, List, [], ◌∷◌, length, Some, sym, ◌∙◌, ap, arith, inl, inr, ⊎_elim}
use Rattle.std.specs.List.{slice_get}
use Rattle.std.proofs.lemmas.Bool.{cases_lt}
use Rattle.std.proofs.lemmas.Option.{same_Some, slice_get_within}
use Rattle.b67_word.specs.Tagged.{Tagged}
use Rattle.b67_word.specs.declared.couples.Place.{Place}
use Rattle.b67_ctl.specs.declared.registers.Regs.{Regs}
use Rattle.b67_lemmas.specs.Lists.{Has}
use Rattle.b67_lemmas.proofs.Members.{all_in}
use Rattle.b67_model.specs.Common.{Operand, Frame, words_of, height, IsSegment, TaskInOrder}
use Rattle.b67_refer.specs.RunningContext.{RunningContext, live_of}
use Rattle.b67_refer.specs.Cells.{IsCellAt, frame_at_core}
use Rattle.b67_refer.proofs.Seats.{seat}
use Rattle.b67_refer.proofs.Rule.{inside, no_mark_under, return_tag}
use Rattle.b67_layout_step.proofs.Stored.{operand_own}

words_low : (fs : List Frame) (f : Frame) → Has fs f → words_of f ≤ height fs
words_low [] f h = absurd h
words_low (g ∷ fs) f (inl e) = let n = ap words_of e in omega (arith, n)
words_low (g ∷ fs) f (inr h) = let low = words_low fs f h in omega (arith, low)

module _ (core : List Tagged) (r : Regs) (a : RunningContext core r) (q : Place) (cell f offset bits : ℕ) (p : IsCellAt a q cell f offset (Operand bits)) where
  -- a place on the way: above the mark, up to the cell
  pub record Over (at : ℕ) : Type 0 where
    pub steps : ℕ
    pub low : 1 ≤ steps
    pub high : steps ≤ offset
    pub is : at ≡ frame_at_core a f + steps

  own : 1 < f
  own = operand_own core r a q cell f offset bits p

  bounds : (2 ≤ offset) × (offset < 2 + length (seat core r (live_of a) f p.names.standing p.names.among (operand_own core r a q cell f offset bits p)).frame.cells)
  bounds = inside core r (live_of a) q f p.names.standing (seat core r (live_of a) f p.names.standing p.names.among (operand_own core r a q cell f offset bits p)) p.names.entered (operand_own core r a q cell f offset bits p) offset (Operand bits) p.found

  pub over_start : Over cell
  over_start = record { steps = offset; low = omega (arith, bounds.0); high = omega arith; is = p.address }

  pub over_inside : (at : ℕ) → Over at → at < length core
  over_inside at o = let top = slice_get_within core cell p.word p.there in let c = p.address in omega (arith, top, c, o.is, o.high)

  -- the first word of tag 3 is the one over the mark
  pub over_ends : (at : ℕ) (w : Tagged) → Over at → slice_get core at ≡ Some w → w.tag ≡ 3 → at ≡ frame_at_core a f + 1
  over_ends at w o there tag = ⊎_elim
      (λ (one : o.steps < 2). (let i = o.is in let l = o.low in omega (arith, one, i, l)))
      (λ (more : 2 ≤ o.steps). absurd (no_mark_under core r (live_of a) q f p.names.standing (seat core r (live_of a) f p.names.standing p.names.among own) p.names.entered own offset o.steps (Operand bits) w p.found more o.high (ap (slice_get core) (sym o.is) ∙ there) tag))
      (cases_lt o.steps 2)

  pub over_next : (at : ℕ) (w : Tagged) → Over at → slice_get core at ≡ Some w → (w.tag ≡ 3 → ⊥) → Over (at - 1) × (1 ≤ at)
  over_next at w o there tag =
      let t = return_tag core r (live_of a) q f p.names.standing (seat core r (live_of a) f p.names.standing p.names.among own) p.names.entered own in
      let i = o.is in
      let h = o.high in
      let l = o.low in
      let more : 2 ≤ o.steps = ⊎_elim
      (λ (one : o.steps < 2). absurd (tag (let at_is : at ≡ frame_at_core a f + 1 = omega (arith, one, i, l) in ap (λ (x : Tagged). x.tag) (same_Some _ _ (sym there ∙ ap (slice_get core) at_is ∙ t.1)) ∙ t.2)))
      (λ (more : 2 ≤ o.steps). more)
      (cases_lt o.steps 2) in
      (record { steps = o.steps - 1; low = omega (arith, more); high = omega (arith, h); is = omega (arith, i, more) }, omega (arith, i, more))

  -- offsets are small
  pub offset_low : offset < 2 ^ 16
  offset_low =
      let b = seat core r (live_of a) f p.names.standing p.names.among (operand_own core r a q cell f offset bits p) in
      let high = (all_in (TaskInOrder (IsSegment a.member.constants) a.member.constants a.member.progress.job) a.member.progress.job.tasks b.live.task a.ordered.tasks.tasks b.live.live).not_higher in
      let words = words_low b.live.task.frames b.frame b.live.among in
      let small = a.ordered.constants.stack_high in
      omega (arith, bounds.1, high, words, small)
