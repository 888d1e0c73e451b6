-- Words as numbers: tag × 2^48 + bits.
use Rattle.std.specs.Prelude.{ℕ, ◌/◌, ◌%◌, ◌^◌, ◌<◌, List, slice_get, Some, ◌≡◌}
use Rattle.b67_word.specs.Tagged.{Tagged, word}

abbrev pub word_of : ℕ → Tagged
word_of n = word (n / 2 ^ 48) (n % 2 ^ 48)

-- each number has the tag and the bits of a word
abbrev pub AreWords : List ℕ → Type 0
AreWords ns = (i n : ℕ) → slice_get ns i ≡ Some n → n < 2 ^ 51

-- the word of a number's low 48 bits under a tag
abbrev pub under : ℕ → ℕ → Tagged
under tag number = word tag (number % 2 ^ 48)
