use Rattle.std.proofs.Common.{◌≡◌, ◌≤◌, length, take}
use Rattle.std.specs.Prelude.{vec_capacity}
use Rattle.b67_backing.specs.Device.{Becomes, Tells}
use Rattle.b67_recorded.proofs.mirror.Mirrored.copied.Given as goal

abbrev pub invariant-copy : goal.invariant-copy
invariant-copy g l = (length l.held.items ≡ l.k) × (l.k-end ≡ g.B.Backing.size l.inner)
    × (g.B.Backing.size l.inner ≡ g.B.Backing.size l.fn.inner) × (vec_capacity l.fn.room ≤ vec_capacity l.held) × (g.B.Backing.faults l.inner ≡ g.B.Backing.faults l.fn.inner)
    × Becomes g.B.Backing.holds l.fn.inner l.inner (λ all. all) × Tells g.B.Backing.holds l.fn.inner (λ all. l.held.items ≡ take l.k all)
