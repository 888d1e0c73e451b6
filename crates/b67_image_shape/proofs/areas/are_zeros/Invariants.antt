use Rattle.std.proofs.Common.{◌≡◌, ℕ, ◌<◌, Some}
use Rattle.std.specs.List.{slice_get}
use Rattle.b67_word.specs.Tagged.{word}
use Rattle.b67_ctl.specs.declared.map.TheConstants.{DIRECTORY}
use Rattle.b67_image_shape.proofs.areas.are_zeros.Given as goal

abbrev pub invariant-each : goal.invariant-each
invariant-each l = (j : ℕ) → DIRECTORY < j → j < l.i → slice_get l.core j ≡ Some (word 0 0)
