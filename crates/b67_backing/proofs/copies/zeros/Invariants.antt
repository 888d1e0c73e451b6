use Rattle.std.proofs.Common.{◌≡◌}
use Rattle.b67_backing.specs.Held.{blank}
use Rattle.b67_backing.proofs.copies.zeros.Given as goal

abbrev pub invariant-loop-i : goal.invariant-loop-i
invariant-loop-i l = l.held.items ≡ blank l._i
