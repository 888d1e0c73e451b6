use Rattle.std.proofs.Common.{◌∙◌, ◌+◌, ◌*◌, ap, sym, arith, ℕ}
use Rattle.std.specs.List.{slice_get}
use Rattle.std.proofs.lemmas.Option.{same_Some}
use Rattle.b67_ctl.specs.declared.marks.Toscw.{Toscw}
use Rattle.b67_refer.proofs.Slots.{has_slot}
use Rattle.b67_refer.proofs.Unders.{top_running, top_waiting, slots_under}
use Rattle.b67_refer.proofs.Walks.{top_small}
use Rattle.b67_refer.proofs.activation.last_record.Goals as goal

pub overflow_add-result : goal.overflow_add-result
overflow_add-result c = omega (arith, top_small c.args.core.now c.args.regs.now c.requires.0)

pub spot_of-slot-requires-clause-slot : goal.spot_of-slot-requires-clause-slot
spot_of-slot-requires-clause-slot c = has_slot c.args.core.now c.args.regs.now c.requires.0

pub spot_of-slot-requires-clause-above : goal.spot_of-slot-requires-clause-above
spot_of-slot-requires-clause-above c = let (a, top, u) = c.requires in slots_under c.args.core.now c.args.regs.now a c.args.at top u

pub returns-then-slot-from-clause-mark : goal.returns-then-slot-from-clause-mark
returns-then-slot-from-clause-mark c = λ a top u.
    let s = c.spot_of-slot.result in
    (top_running c.args.core.now c.args.regs.now a c.args.at top s.slot s.disp u c.spot_of-slot.ensures.at c.spot_of-slot.ensures.low (c.if-slot-from.true ∙ c.from.ensures)).1

pub returns-then-slot-from-clause-past : goal.returns-then-slot-from-clause-past
returns-then-slot-from-clause-past c = λ a top u.
    let s = c.spot_of-slot.result in
    ap (λ (n : ℕ). n + 1) (top_running c.args.core.now c.args.regs.now a c.args.at top s.slot s.disp u c.spot_of-slot.ensures.at c.spot_of-slot.ensures.low (c.if-slot-from.true ∙ c.from.ensures)).0

pub returns-clause-mark : goal.returns-clause-mark
returns-clause-mark c = λ a top u.
    let s = c.spot_of-slot.result in
    let r = c.args.regs.now in
    let w = top_waiting c.args.core.now r a c.args.at top s.slot s.disp u c.spot_of-slot.ensures.at c.spot_of-slot.ensures.low (λ z. c.if-slot-from.false (z ∙ sym c.from.ensures)) in
    let size = ap (λ (n : ℕ). r.stacks + s.slot * n) c.from-2.ensures in
    let is = same_Some _ _ (sym c.get.ensures ∙ ap (slice_get c.args.core.now) size ∙ w.2) in
    let same = c.read-top.ensures w.0 w.1 is in
    ap (λ (n : ℕ). n + c.from-3.result) size ∙ ap (λ (n : ℕ). r.stacks + s.slot * r.stack_size + n) (c.from-3.ensures ∙ ap (λ (x : Toscw). x.f) same) ∙ w.4

pub returns-clause-past : goal.returns-clause-past
returns-clause-past c = λ a top u.
    let s = c.spot_of-slot.result in
    let r = c.args.regs.now in
    let w = top_waiting c.args.core.now r a c.args.at top s.slot s.disp u c.spot_of-slot.ensures.at c.spot_of-slot.ensures.low (λ z. c.if-slot-from.false (z ∙ sym c.from.ensures)) in
    let size = ap (λ (n : ℕ). r.stacks + s.slot * n) c.from-2.ensures in
    let is = same_Some _ _ (sym c.get.ensures ∙ ap (slice_get c.args.core.now) size ∙ w.2) in
    let same = c.read-top.ensures w.0 w.1 is in
    ap (λ (n : ℕ). n + 1) (ap (λ (n : ℕ). n + c.from-4.result) size ∙ ap (λ (n : ℕ). r.stacks + s.slot * r.stack_size + n) (c.from-4.ensures ∙ ap (λ (x : Toscw). x.s) same) ∙ w.3)
