use Rattle.std.specs.Prelude.{List}
use Rattle.b67_area.specs.Spans.{Span}
use Rattle.b67_area.specs.Directory.{IsDirectory}
use Rattle.b67_overlay.proofs.Visits.{left_of}
use Rattle.b67_presence.specs.Brings.{PointsAtArea}
use Rattle.b67_presence.proofs.way.area_from.Given as goal

abbrev pub invariant-areas : goal.invariant-areas
invariant-areas l = (ss : List Span) → IsDirectory l.core l.areas.low ss → PointsAtArea l.areas.low ss l.next

abbrev pub decreases-areas : goal.decreases-areas
decreases-areas l = left_of l.next
