use Rattle.std.proofs.Common.{◌≡◌, ℕ, ◌+◌, ◌-◌, List, length, Some}
use Rattle.b67_area.specs.declared.kinds.Info.{Info}
use Rattle.b67_area.specs.Spans.{Span, area_at}
use Rattle.b67_area.specs.Directory.{IsDirectory}
use Rattle.b67_area.specs.Walk.{Climbed}
use Rattle.b67_area.proofs.search.around.Given as goal

abbrev pub invariant-up : goal.invariant-up
invariant-up l = (low : ℕ) (ss : List Span) (a : Info) → IsDirectory l.core low ss → area_at low ss (l.at + 1) ≡ Some a → Climbed low ss l.at a l.before l.room l.next

abbrev pub decreases-up : goal.decreases-up
decreases-up l = length l.core - l.before
