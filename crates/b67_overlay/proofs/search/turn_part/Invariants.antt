use Rattle.std.proofs.Common.{◌≡◌, ℕ, ◌<◌, ◌≤◌, length, slice_get, ◌⊎◌}
use Rattle.b67_overlay.specs.Turns.{TurnsAt}
use Rattle.b67_overlay.proofs.search.turn_part.Given as goal

abbrev pub invariant-loop-i : goal.invariant-loop-i
invariant-loop-i l = record {
  size : length l.core ≡ length l.initial.core;
  turned : (j : ℕ) → l.from ≤ j → j < l.i → TurnsAt l.area l.original l.initial.core l.core j;
  others : (j : ℕ) → (j < l.from) ⊎ (l.i ≤ j) → slice_get l.core j ≡ slice_get l.initial.core j;
}
