use Rattle.std.proofs.Common.{◌≡◌, ◌≤◌, ◌+◌, ◌-◌, length}
use Rattle.b67_io.specs.Told.{Gave}
use Rattle.b67_program.proofs.reading.read_input.Given as goal

abbrev pub invariant-read : goal.invariant-read
invariant-read g l = Gave g.S.Source.left l.initial.source l.source l.bytes
    × (g.S.Source.faults l.source ≡ g.S.Source.faults l.initial.source)
    × (length l.bytes ≤ l.limit + 1)

abbrev pub decreases-read : goal.decreases-read
decreases-read g l = l.limit + 1 - length l.bytes
