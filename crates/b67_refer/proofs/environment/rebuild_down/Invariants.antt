use Rattle.std.proofs.Common.{◌≡◌, ℕ, ◌<◌, ◌≤◌, length}
use Rattle.b67_refer.specs.RunningContext.{RunningContext}
use Rattle.b67_refer.specs.Displays.{HoldsEnvironment}
use Rattle.b67_refer.proofs.Chains.{Written}
use Rattle.b67_refer.proofs.environment.rebuild_down.Given as goal

abbrev pub invariant-out : goal.invariant-out
invariant-out l = record {
  len : length l.display ≡ 32;
  low : 2 ≤ l.level;
  high : l.level < 32;
  holds : (up : ℕ) → up ≤ l.known → up ≤ l.level → HoldsEnvironment l.core l.regs l.display up;
  written : (a : RunningContext l.core l.regs) → Written l.core l.regs a l.at l.level l.display;
}

abbrev pub decreases-out : goal.decreases-out
decreases-out l = l.level
