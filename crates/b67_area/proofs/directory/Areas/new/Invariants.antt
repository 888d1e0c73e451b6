use Rattle.std.proofs.Common.{◌≡◌, ℕ, ◌<◌, ◌≤◌, ◌⊎◌, length, Some}
use Rattle.std.specs.List.{slice_get}
use Rattle.b67_word.specs.Tagged.{word}
use Rattle.b67_area.specs.Words.{link_word}
use Rattle.b67_area.proofs.directory.Areas.new.Given as goal

abbrev pub invariant-loop-i : goal.invariant-loop-i
invariant-loop-i l =
    (length l.core ≡ length l.initial.core)
    × (slice_get l.core 152 ≡ Some (link_word 0 0))
    × ((k : ℕ) → 152 < k → k < l.i → slice_get l.core k ≡ Some (word 0 0))
    × ((k : ℕ) → (k < 152) ⊎ (160 ≤ k) → slice_get l.core k ≡ slice_get l.fn.core k)
