use Rattle.std.proofs.Common.{◌≡◌, ◌⊎◌, ℕ, ◌+◌, ◌*◌, ◌<◌, ◌≤◌, length}
use Rattle.std.specs.List.{slice_get}
use Rattle.b67_session.specs.Words.{SlotsLie}
use Rattle.b67_session.proofs.laying.lay_slots.Given as goal

abbrev pub invariant-slots : goal.invariant-slots
invariant-slots l =
    (length l.core ≡ length l.fn.core)
    × (l.at ≡ l.stacks + l.slot * l.size)
    × SlotsLie l.core l.stacks l.size l.slot
    × ((i : ℕ) → (i < 32) ⊎ ((32 + l.jobs ≤ i) × (i < l.stacks)) → slice_get l.core i ≡ slice_get l.fn.core i)
