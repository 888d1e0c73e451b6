use Rattle.std.proofs.Common.{◌∙◌, ◌≢◌, arith}
use Rattle.std.proofs.lemmas.List.{length-set}
use Rattle.b67_refer.specs.RunningContext.{live_of}
use Rattle.b67_refer.proofs.Chains.{written_start, written_all, level_is, level_low, level_small, turn_mark, turn_down, turn_next}
use Rattle.b67_refer.proofs.environment.rebuild.Goals as goal

pub out-init : goal.out-init
out-init c = record {
  len = cc;
  low = let a = c.requires in omega (arith, level_is c.args.core.now c.args.regs.now a, level_low c.args.core.now c.args.regs.now a);
  high = let a = c.requires in omega (arith, level_is c.args.core.now c.args.regs.now a, level_small c.args.core.now c.args.regs.now a);
  written = λ a. written_start c.args.core.now c.args.regs.now a c.running-at.result c.args.display.now (c.running-at.ensures a);
}

pub returns : goal.returns
returns c = λ a. written_all c.args.core.now c.args.regs.now a c.out.at c.out.level c.out.display (c.out.invariant.written a) c.out.invariant.low (omega (arith, c.out-test.false)) c.out.invariant.len

pub mark_at-m-requires : goal.mark_at-m-requires
mark_at-m-requires c =
    let a = c.requires in
    let m = turn_mark c.args.core.now c.args.regs.now a c.out.at c.out.level c.out.display (c.out.invariant.written a) (λ z. omega (arith, z, c.out-test.true)) in
    (m.0, m.1, m.2)

pub address_of-at-requires : goal.address_of-at-requires
address_of-at-requires c =
    let a = c.requires in
    (live_of a, (turn_down c.args.core.now c.args.regs.now a c.out.at c.out.level c.out.display c.mark_at-m.result (c.out.invariant.written a) (λ z. omega (arith, z, c.out-test.true)) c.mark_at-m.ensures).0)

pub out-preserved : goal.out-preserved
out-preserved c = record {
  len = length-set c.out.display c.out.level c.out.at ∙ c.out.invariant.len;
  low = omega (arith, c.out-test.true);
  high = omega (arith, c.out.invariant.high);
  written = λ a.
      let some : c.out.level ≢ 0 = λ z. omega (arith, z, c.out-test.true) in
      let d = turn_down c.args.core.now c.args.regs.now a c.out.at c.out.level c.out.display c.mark_at-m.result (c.out.invariant.written a) some c.mark_at-m.ensures in
      turn_next c.args.core.now c.args.regs.now a c.out.at c.out.level c.address_of-at.result c.out.display (c.out.invariant.written a) some c.out.invariant.len (c.address_of-at.ensures (live_of a) d.0 ∙ d.1);
}
