use Rattle.std.proofs.Common.{arith}
use Rattle.b67_refer.proofs.Chains.{written_start, level_is, level_low}
use Rattle.b67_refer.proofs.Displays.{holds_to}
use Rattle.b67_refer.proofs.environment.rebuild_known.Goals as goal

pub running-at-requires : goal.running-at-requires
running-at-requires c = c.requires.run

pub rebuild_down-requires-clause-run : goal.rebuild_down-requires-clause-run
rebuild_down-requires-clause-run c = c.requires.run

pub rebuild_down-requires-clause-low : goal.rebuild_down-requires-clause-low
rebuild_down-requires-clause-low c = let a = c.requires.run in omega (arith, level_is c.args.core.now c.args.regs.now a, level_low c.args.core.now c.args.regs.now a)

pub rebuild_down-requires-clause-known : goal.rebuild_down-requires-clause-known
rebuild_down-requires-clause-known c = λ up low within. holds_to c.args.core.now c.args.regs.now c.args.display.now c.args.known up low c.requires.known

pub rebuild_down-requires-clause-above : goal.rebuild_down-requires-clause-above
rebuild_down-requires-clause-above c = λ a. written_start c.args.core.now c.args.regs.now a c.running-at.result c.args.display.now (c.running-at.ensures a)
