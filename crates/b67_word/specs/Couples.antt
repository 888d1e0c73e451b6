-- A couple's 14 bits as a level and a displacement, by the running level.
use Rattle.std.specs.Prelude.{ℕ, zero, suc, ◌+◌, ◌-◌, ◌*◌, ◌%◌, ◌^◌, nat_lt, nat_le, Bool, ◌&&◌, if◌then◌else◌, List, [], ◌∷◌, Option, Some, None}
use Rattle.b67_word.specs.declared.couples.Couple.{Couple}
use Rattle.b67_word.specs.Operands.{bit}

-- the greatest running level of a row, and its number k of level bits
abbrev pub splits : List (ℕ × ℕ)
splits = (1, 1) ∷ (3, 2) ∷ (7, 3) ∷ (15, 4) ∷ (31, 5) ∷ []

abbrev pub bits_in : List (ℕ × ℕ) → ℕ → ℕ
bits_in [] level = 5
bits_in (row ∷ rows) level = if nat_le level row.0 then row.1 else bits_in rows level

abbrev pub level_bits : ℕ → ℕ
level_bits level = bits_in splits level

-- the level bits stand in reversed order: bit 13 - i weighs 2 ^ i
abbrev pub level_of : ℕ → ℕ → ℕ
level_of zero bits = 0
level_of (suc i) bits = level_of i bits + bit (13 - i) bits * 2 ^ i

abbrev pub couple : ℕ → ℕ → Couple
couple bits running = record { level = level_of (level_bits running) bits; disp = bits % 2 ^ (14 - level_bits running) }

-- level and displacement fit the split at a running level
abbrev pub fits_split : ℕ → Couple → Bool
fits_split running c = nat_lt c.level (2 ^ level_bits running) && nat_lt c.disp (2 ^ (14 - level_bits running))

-- bit i of the level stands in bit 13 - i
abbrev pub reversed_bits : ℕ → ℕ → ℕ
reversed_bits zero level = 0
reversed_bits (suc i) level = reversed_bits i level + bit i level * 2 ^ (13 - i)

-- the 14 bits of a couple
abbrev pub couple_bits : ℕ → Couple → Option ℕ
couple_bits running c = if fits_split running c then Some (reversed_bits (level_bits running) c.level + c.disp) else None
