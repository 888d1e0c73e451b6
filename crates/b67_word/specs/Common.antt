-- The definitions of words that others cite, passed on from one place. Declares nothing.
pub use Rattle.b67_word.specs.Couples.{bits_in, couple, couple_bits, fits_split, level_bits, reversed_bits, splits}
pub use Rattle.b67_word.specs.Numbers.{number}
pub use Rattle.b67_word.specs.Operands.{bit, bits_of, is_whole, number_of, value_of}
pub use Rattle.b67_word.specs.Tagged.{IsWord, Tagged, bits_at, contents, is_field, word}
