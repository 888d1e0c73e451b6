use Rattle.std.proofs.Common.{◌≡◌, ◌*◌, length}
use Rattle.b67_dump.specs.Landmarks.{IsBelow, AreStops}
use Rattle.b67_dump.proofs.walking.stops_of.Given as goal

abbrev pub invariant-each : goal.invariant-each
invariant-each l = (length l.stops.items ≡ l.stop) × AreStops l.core l.mark l.stops.items × IsBelow l.core l.mark (64 * l.stop) l.at
