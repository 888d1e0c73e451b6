-- Whether two displays are alike.
use Rattle.std.specs.Prelude.{ℕ, Bool, List, slice_get, slice_index}
use Rattle.b67_image_shape.specs.FixedTests.{found_number}

-- at a level
abbrev pub alike_at : List ℕ → List ℕ → ℕ → Bool
alike_at display shown n = found_number (slice_get display n) (slice_index shown n)
