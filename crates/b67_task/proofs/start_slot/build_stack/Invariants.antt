use Rattle.std.proofs.Common.{◌≡◌, ◌⊎◌, ℕ, ◌+◌, ◌<◌, ◌≤◌, Some, length}
use Rattle.std.specs.List.{slice_get}
use Rattle.b67_word.specs.Tagged.{word}
use Rattle.b67_task.proofs.start_slot.build_stack.Given as goal

abbrev pub invariant-loop-i : goal.invariant-loop-i
invariant-loop-i l =
    (length l.core ≡ length l.fn.core)
    × (slice_get l.core l.base ≡ Some l.fn.top) × (slice_get l.core (l.base + 1) ≡ Some l.fn.mark) × (slice_get l.core (l.base + 2) ≡ Some (word 3 0))
    × ((i : ℕ) → i < l.i → slice_get l.core (l.base + 3 + i) ≡ slice_get l.fn.core (l.from + i))
    × ((i : ℕ) → (i < l.base) ⊎ (l.base + (3 + l.i) ≤ i) → slice_get l.core i ≡ slice_get l.fn.core i)
