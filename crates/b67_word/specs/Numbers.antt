-- Words as numbers: tag × 2^48 + bits.
use Rattle.std.specs.Prelude.{ℕ, ◌+◌, ◌*◌, ◌^◌}
use Rattle.b67_word.specs.Tagged.{Tagged}

-- the number of a word, and the word of a number
abbrev pub number : Tagged → ℕ
number w = w.tag * 2 ^ 48 + w.bits
