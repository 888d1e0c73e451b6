use Rattle.std.proofs.Common.{◌≡◌, ◌≤◌, ◌+◌, ◌-◌, ◌++◌, length, false}
use Rattle.std.specs.Io.KnownBytes.{Consumes}
use Rattle.b67_recorded.proofs.source.RecordedSource.take_in.Given as goal

abbrev pub invariant-read : goal.invariant-read
invariant-read g l = (l.self.given.bytes ≡ l.fn.self.given.bytes ++ l.bytes) × (l.self.faults ≡ l.fn.self.faults) × (length l.bytes ≤ l.limit + 1)
    × Consumes (g.R.Read.remaining l.fn.self.inner) (g.R.Read.remaining l.self.inner) l.bytes × (l.fn.self.ended ≡ false → l.self.ended ≡ false)

abbrev pub decreases-read : goal.decreases-read
decreases-read g l = l.limit + 1 - length l.bytes
