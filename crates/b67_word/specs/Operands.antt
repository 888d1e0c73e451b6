-- The whole numbers that operands represent.
use Rattle.std.specs.Prelude.{ℕ, ◌+◌, ◌/◌, ◌%◌, ◌^◌, nat_lt, ℤ, pos, neg_ℤ, nat_abs, int_lt, Bool, ◌==◌, ◌&&◌, if◌then◌else◌, Option, Some, None}
use Rattle.b67_word.specs.Tagged.{Tagged, word}

-- bit n
abbrev pub bit : ℕ → ℕ → ℕ
bit n x = (x / 2 ^ n) % 2

-- bits 47 and 45 to 39 are zero
abbrev pub is_whole : ℕ → Bool
is_whole bits = (bit 47 bits == 0) && ((bits / 2 ^ 39) % 2 ^ 7 == 0)

-- the mantissa, bits 38 to 0, with the sign of bit 46
abbrev pub value_of : ℕ → ℤ
value_of bits = if bit 46 bits == 0 then pos (bits % 2 ^ 39) else neg_ℤ (pos (bits % 2 ^ 39))

-- the operand of a number below 2 ^ 39 in magnitude
abbrev pub bits_of : ℤ → ℕ
bits_of v = if int_lt v (pos 0) then 2 ^ 46 + nat_abs v else nat_abs v

-- the operand of a number, if the mantissa holds it
abbrev pub operand_of : ℤ → Option Tagged
operand_of v = if nat_lt (nat_abs v) (2 ^ 39) then Some (word 0 (bits_of v)) else None

-- the number of a whole operand
abbrev pub number_of : Tagged → Option ℤ
number_of w = if (w.tag == 0) && is_whole w.bits then Some (value_of w.bits) else None
