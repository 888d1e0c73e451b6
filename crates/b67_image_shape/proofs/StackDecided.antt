-- The test of a place decides.
use Rattle.std.proofs.Common.{ℕ, ◌^◌, length}
use Rattle.std.specs.Prelude.{◌&&◌, nat_lt, nat_le}
use Rattle.b67_word.specs.declared.couples.Place.{Place}
use Rattle.b67_model.specs.Common.{JobConstants, IsSegment}
use Rattle.b67_image_shape.specs.Deciding.{Decides}
use Rattle.b67_image_shape.specs.StackTests.{segment_test}
use Rattle.b67_image_shape.proofs.Deciding.{less, at_most, both, like}
use Rattle.std.proofs.Common.{arith}

pub segment_decided : (constants : JobConstants) (segment level : ℕ) (place : Place) → Decides (segment_test constants segment place) (IsSegment constants segment level place)
segment_decided constants segment level place = grind (arith, like, both, less, at_most)
