use Rattle.std.proofs.Common.{◌≡◌, ℕ, suc, false, ◌+◌, ◌-◌, ◌<◌, arith, ◌∙◌, ap, ⊎_elim}
use Rattle.b67_stack.specs.Common.{stack_words, slot_base, stack_of}
use Rattle.b67_stack.proofs.Bases.{base-step}
use Rattle.b67_overlay.proofs.Turning.{stack_low, slot_high}
use Rattle.b67_task.specs.Sums.{core_sectors_from, sectors_of_slots}
use Rattle.b67_task.proofs.sectors.core_sectors.Goals as goal

pub range_sectors-sum-requires-in-loop-slot-clause-inside : goal.range_sectors-sum-requires-in-loop-slot-clause-inside
range_sectors-sum-requires-in-loop-slot-clause-inside c =
    let (low, p, l) = c.requires in
    let m = c.loop-slot.invariant.value low p l in
    let h : c.loop-slot.slot < p.peak = omega (arith, l.slots.regs.peak) in
    omega (arith, stack_low c.args.core.now c.args.regs.now low p c.loop-slot.slot l h, l.inside, c.stack_top-top.ensures low p l h m.0, m.0)

pub overflow_add-sum : goal.overflow_add-sum
overflow_add-sum c =
    let (low, p, l) = c.requires in
    let m = c.loop-slot.invariant.value low p l in
    let h : c.loop-slot.slot < p.peak = omega (arith, l.slots.regs.peak) in
    omega (arith, stack_low c.args.core.now c.args.regs.now low p c.loop-slot.slot l h, l.inside, l.small, c.stack_top-top.ensures low p l h m.0, m.0, c.loop-slot.invariant.low, c.range_sectors-sum-in-loop-slot.ensures.low)

pub loop-slot-preserved : goal.loop-slot-preserved
loop-slot-preserved c = record {
  value = λ low p l.
      let core = c.args.core.now in
      let k = c.loop-slot.slot in
      let m = c.loop-slot.invariant.value low p l in
      let h : k < p.peak = omega (arith, l.slots.regs.peak) in
      let top = c.stack_top-top.ensures low p l h m.0 in
      let words : c.stack_top-top.result + 1 - (c.loop-slot.base + 1) ≡ stack_words (stack_of (p.slots k)) = omega (arith, top) in
      let part : c.range_sectors-sum-in-loop-slot.result ≡ core_sectors_from false core (slot_base p k + 1) (stack_words (stack_of (p.slots k))) =
      c.range_sectors-sum-in-loop-slot.ensures.value ∙ ap (core_sectors_from false core (c.loop-slot.base + 1)) words ∙ ap (λ (n : ℕ). core_sectors_from false core (n + 1) (stack_words (stack_of (p.slots k)))) m.0 in
      let next : sectors_of_slots core p (k + 1) ≡ sectors_of_slots core p (suc k) = ap (sectors_of_slots core p) (let e : k + 1 ≡ suc k = omega arith in e) in
      (omega (arith, base-step p k, m.0, l.slots.regs.size, c.from-size.ensures), omega (arith, m.1, part, next));
  low =
      let (low, p, l) = c.requires in
      let m = c.loop-slot.invariant.value low p l in
      let h : c.loop-slot.slot < p.peak = omega (arith, l.slots.regs.peak) in
      let top = c.stack_top-top.ensures low p l h m.0 in
      ⊎_elim
      (λ (e : stack_words (stack_of (p.slots c.loop-slot.slot)) ≡ 0). omega (arith, e, top, c.loop-slot.invariant.low, c.range_sectors-sum-in-loop-slot.ensures.low))
      (λ (e : stack_words (stack_of (p.slots c.loop-slot.slot)) < p.size). omega (arith, e, top, l.slots.regs.size, c.from-size.ensures, c.loop-slot.invariant.low, c.range_sectors-sum-in-loop-slot.ensures.low))
      (slot_high p c.loop-slot.slot (p.slots c.loop-slot.slot) (l.slots.laid.slots c.loop-slot.slot h));
}
