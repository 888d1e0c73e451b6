use Rattle.std.proofs.Common.{◌∙◌, ap, arith}
use Rattle.b67_ctl.specs.declared.marks.Mscw.{Mscw}
use Rattle.b67_refer.specs.RunningContext.{live_of}
use Rattle.b67_refer.proofs.Slots.{has_slot}
use Rattle.b67_refer.proofs.Scans.{mark_low, found_spot, found_mark, found_activation}
use Rattle.b67_refer.proofs.activation.enclosure_at.Goals as goal

pub spot_of-spot-requires-clause-slot : goal.spot_of-spot-requires-clause-slot
spot_of-spot-requires-clause-slot c = has_slot c.args.core.now c.args.regs.now (live_of c.requires.0)

pub spot_of-spot-requires-clause-above : goal.spot_of-spot-requires-clause-above
spot_of-spot-requires-clause-above c =
    let (a, q, cell, f, segment, level, place, p, is) = c.requires in
    omega (arith, (mark_low c.args.core.now c.args.regs.now a q cell f segment level place p).0, is)

pub overflow_cast-result : goal.overflow_cast-result
overflow_cast-result c =
    let (a, q, cell, f, segment, level, place, p, is) = c.requires in
    let t = c.spot_of-spot.result in
    let s = found_spot c.args.core.now c.args.regs.now a q cell f segment level place p c.args.mark t.slot t.disp is c.spot_of-spot.ensures.at c.spot_of-spot.ensures.low in
    omega (arith, s.0, s.2)

pub overflow_cast-result-2 : goal.overflow_cast-result-2
overflow_cast-result-2 c =
    let (a, q, cell, f, segment, level, place, p, is) = c.requires in
    let t = c.spot_of-spot.result in
    let s = found_spot c.args.core.now c.args.regs.now a q cell f segment level place p c.args.mark t.slot t.disp is c.spot_of-spot.ensures.at c.spot_of-spot.ensures.low in
    omega (arith, s.1, s.3)

pub mark_at-requires : goal.mark_at-requires
mark_at-requires c =
    let (a, q, cell, f, segment, level, place, p, is) = c.requires in
    let m = found_mark c.args.core.now c.args.regs.now a q cell f segment level place p c.args.mark is in
    (m.0, m.1, m.2)

pub returns-clause-home : goal.returns-clause-home
returns-clause-home c = λ a q cell f segment level place p is.
    let t = c.spot_of-spot.result in
    let s = found_spot c.args.core.now c.args.regs.now a q cell f segment level place p c.args.mark t.slot t.disp is c.spot_of-spot.ensures.at c.spot_of-spot.ensures.low in
    let m = found_mark c.args.core.now c.args.regs.now a q cell f segment level place p c.args.mark is in
    found_activation c.args.core.now c.args.regs.now a q cell f segment level place p _ _ _ s.0 s.1 (ap (λ (k : Mscw). k.level) (c.mark_at.ensures m.0 m.1 m.2) ∙ m.3)

pub returns-clause-mark : goal.returns-clause-mark
returns-clause-mark c = c.spot_of-spot.ensures.at
