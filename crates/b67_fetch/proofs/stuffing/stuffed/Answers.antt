use Rattle.std.proofs.Common.{◌+◌, ℕ, sym, ◌∙◌, ap, arith}
use Rattle.std.specs.List.{slice_get}
use Rattle.b67_fetch.proofs.Spots.{at_mcp, vector_inside, job_is, at_dictionary, in_slots, in_slot, slot_spot}
use Rattle.b67_refer.specs.RunningContext.{live_of}
use Rattle.b67_refer.proofs.Slots.{has_slot}
use Rattle.b67_fetch.proofs.stuffing.stuffed.Goals as goal

pub returns-then-base-eq0-clause-spot : goal.returns-then-base-eq0-clause-spot
returns-then-base-eq0-clause-spot c = λ a f n e. at_mcp c.args.core.now c.args.regs.now a f c.args.base c.args.offset n e c.if-base-eq0.true

pub get-requires : goal.get-requires
get-requires c =
    let (a, f, n, e) = c.requires.frame in
    let i = vector_inside c.args.core.now c.args.regs.now a f c.args.base c.args.offset n e in
    omega (arith, i, c.from.ensures)

pub returns-then-base-regs-clause-spot : goal.returns-then-base-regs-clause-spot
returns-then-base-regs-clause-spot c = λ a f n e.
    let got = ap (λ (k : ℕ). slice_get c.args.core.now (32 + k)) (sym c.from.ensures) ∙ c.get.ensures in
    let j = job_is c.args.core.now c.args.regs.now a f c.args.base c.args.offset n e c.get.result c.read-running.result got c.read-running.ensures.value in
    at_dictionary c.args.core.now c.args.regs.now a f c.args.base c.args.offset n e c.from-then-base-regs.result c.if-base-eq0.false c.if-base-regs.true (c.from-then-base-regs.ensures ∙ j)

pub spot_of-spot-requires-clause-slot : goal.spot_of-spot-requires-clause-slot
spot_of-spot-requires-clause-slot c = has_slot c.args.core.now c.args.regs.now (live_of c.requires.frame.0)

pub spot_of-spot-requires-clause-above : goal.spot_of-spot-requires-clause-above
spot_of-spot-requires-clause-above c = let (a, f, n, e) = c.requires.frame in in_slots c.args.core.now c.args.regs.now a f c.args.base c.args.offset n e c.if-base-eq0.false c.if-base-regs.false

pub overflow_cast-result : goal.overflow_cast-result
overflow_cast-result c =
    let (a, f, n, e) = c.requires.frame in
    let t = c.spot_of-spot.result in
    let i = in_slot c.args.core.now c.args.regs.now a f c.args.base c.args.offset n e t.slot t.disp c.if-base-eq0.false c.if-base-regs.false c.spot_of-spot.ensures.at c.spot_of-spot.ensures.low in
    omega (arith, i.0, i.2)

pub overflow_cast-result-2 : goal.overflow_cast-result-2
overflow_cast-result-2 c =
    let (a, f, n, e) = c.requires.frame in
    let t = c.spot_of-spot.result in
    let i = in_slot c.args.core.now c.args.regs.now a f c.args.base c.args.offset n e t.slot t.disp c.if-base-eq0.false c.if-base-regs.false c.spot_of-spot.ensures.at c.spot_of-spot.ensures.low in
    omega (arith, i.1, i.3)

pub returns-clause-fits : goal.returns-clause-fits
returns-clause-fits c =
    let (a, f, n, e) = c.requires.frame in
    let t = c.spot_of-spot.result in
    let i = in_slot c.args.core.now c.args.regs.now a f c.args.base c.args.offset n e t.slot t.disp c.if-base-eq0.false c.if-base-regs.false c.spot_of-spot.ensures.at c.spot_of-spot.ensures.low in
    record { stack = omega (arith, i.0, i.2); disp = omega (arith, i.1, i.3); offset = c.requires.offset }

pub returns-clause-spot : goal.returns-clause-spot
returns-clause-spot c = λ a f n e.
    let t = c.spot_of-spot.result in
    slot_spot c.args.core.now c.args.regs.now a f c.args.base c.args.offset n e t.slot t.disp c.if-base-eq0.false c.if-base-regs.false c.spot_of-spot.ensures.at c.spot_of-spot.ensures.low
