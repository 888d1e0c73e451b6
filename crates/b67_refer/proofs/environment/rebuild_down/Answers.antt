use Rattle.std.proofs.Common.{◌∙◌, arith, ap, Some, ◌<◌}
use Rattle.std.proofs.lemmas.List.{length-set}
use Rattle.std.proofs.lemmas.Option.{slice_get-get_or}
use Rattle.b67_refer.specs.RunningContext.{live_of}
use Rattle.b67_refer.proofs.Chains.{level_small, turn_mark, turn_next}
use Rattle.b67_refer.proofs.Displays.{shown_from, shown_all, holds_over, turn_slot}
use Rattle.b67_refer.proofs.environment.rebuild_down.Goals as goal

pub out-init : goal.out-init
out-init c = record {
  len = cc;
  low = c.requires.low;
  high = let a = c.requires.run in omega (arith, (c.requires.above a).low, level_small c.args.core.now c.args.regs.now a);
  holds = λ up within low. c.requires.known up within low;
  written = λ a. c.requires.above a;
}

pub bounds-display-level : goal.bounds-display-level
bounds-display-level c = omega (arith, c.out.invariant.high, c.out.invariant.len)

pub bounds-display-level-in-out : goal.bounds-display-level-in-out
bounds-display-level-in-out c = omega (arith, c.out.invariant.high, c.out.invariant.len)

pub returns-then-display-level : goal.returns-then-display-level
returns-then-display-level c = λ a. shown_from c.args.core.now c.args.regs.now a c.out.at c.out.level c.out.display (c.out.invariant.written a) c.out.invariant.low (c.out.invariant.holds c.out.level c.if-level-known.true (omega arith)) (slice_get-get_or c.out.display c.out.level 0 (omega (arith, c.out.invariant.high, c.out.invariant.len)) ∙ ap Some c.if-display-level.true)

pub mark_at-m-requires : goal.mark_at-m-requires
mark_at-m-requires c =
    let a = c.requires.run in
    let m = turn_mark c.args.core.now c.args.regs.now a c.out.at c.out.level c.out.display (c.out.invariant.written a) (λ z. omega (arith, z, c.out-test.true)) in
    (m.0, m.1, m.2)

pub address_in_slot-at-requires : goal.address_in_slot-at-requires
address_in_slot-at-requires c =
    let a = c.requires.run in
    (live_of a, (turn_slot c.args.core.now c.args.regs.now a c.out.at c.out.level c.out.display c.mark_at-m.result (c.out.invariant.written a) c.out-test.true c.mark_at-m.ensures).0)

pub overflow_sub-level : goal.overflow_sub-level
overflow_sub-level c = omega (arith, c.out-test.true)

pub out-smaller : goal.out-smaller
out-smaller c = omega (arith, c.out-test.true)

pub out-preserved : goal.out-preserved
out-preserved c = record {
  len = length-set c.out.display c.out.level c.out.at ∙ c.out.invariant.len;
  low = omega (arith, c.out-test.true);
  high = omega (arith, c.out.invariant.high);
  holds = λ up low within. (let less : up < c.out.level = omega (arith, within, c.out-test.true) in holds_over c.args.core.now c.args.regs.now c.requires.run c.out.level c.out.at up c.out.display c.out-test.true less (c.out.invariant.holds up low (omega (arith, less))));
  written = λ a.
      let d = turn_slot c.args.core.now c.args.regs.now a c.out.at c.out.level c.out.display c.mark_at-m.result (c.out.invariant.written a) c.out-test.true c.mark_at-m.ensures in
      turn_next c.args.core.now c.args.regs.now a c.out.at c.out.level c.address_in_slot-at.result c.out.display (c.out.invariant.written a) (λ z. omega (arith, z, c.out-test.true)) c.out.invariant.len (c.address_in_slot-at.ensures ∙ d.1);
}

pub returns : goal.returns
returns c = λ a. shown_all c.args.core.now c.args.regs.now a c.out.at c.out.level c.out.display (c.out.invariant.written a) c.out.invariant.low (omega (arith, c.out-test.false)) c.out.invariant.len (c.out.invariant.holds 0 (omega arith) (omega arith))
