use Rattle.std.proofs.Common.{ℕ, List, ◌≤◌, ◌<◌}
use Rattle.b67_dump.specs.Landmarks.{IsKnown}
use Rattle.b67_dump.proofs.Nearest.{IsDown}
use Rattle.b67_dump.proofs.landmarks.down_to.Given as goal

abbrev pub invariant-down : goal.invariant-down
invariant-down l = (marks : List ℕ) (upper : ℕ) → l.home ≤ upper → IsKnown l.core upper marks l.fn.from → 0 < l.left → IsDown l.core l.home marks l.mark l.left

abbrev pub decreases-down : goal.decreases-down
decreases-down l = l.left
