-- A test of a place: it lies in a segment of the job.
use Rattle.std.specs.Prelude.{ℕ, ◌^◌, Bool, ◌&&◌, nat_lt, nat_le, length}
use Rattle.b67_word.specs.declared.couples.Place.{Place}
use Rattle.b67_model.specs.Common.{JobConstants}

abbrev pub segment_test : JobConstants → ℕ → Place → Bool
segment_test constants segment place = nat_lt 0 segment && (nat_le segment (length constants.segments) && (nat_lt place.word (2 ^ 13) && nat_lt place.syllable (2 ^ 3)))
