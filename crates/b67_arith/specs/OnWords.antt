-- The operators on numbers and bits, on words.
use Rattle.std.specs.Prelude.{ℕ, ◌==◌, ℤ, if◌then◌else◌, Ok, Err}
use Rattle.b67_word.specs.Tagged.{Tagged, word}
use Rattle.b67_word.specs.declared.faults.Fault.TheVariants.{InvalidOperand}
use Rattle.b67_model.specs.Common.{Answer, ◌>>=◌, number, to_operand, Binary}

-- the bits of an operand
abbrev pub operand_bits : Tagged → Answer ℕ
operand_bits w = if w.tag == 0 then Ok w.bits else Err InvalidOperand

-- an operator of one operand
abbrev pub on_word : (ℕ → Answer ℕ) → Tagged → Answer Tagged
on_word f a = do
  x ← operand_bits a
  z ← f x
  Ok (word 0 z)

-- an operator of two: whether both are operands is looked at first
abbrev pub on_words : Binary → Tagged → Tagged → Answer Tagged
on_words f a b = do
  x ← operand_bits a
  y ← operand_bits b
  z ← f x y
  Ok (word 0 z)

-- the numbers of two operands
abbrev pub numbers_of_two : Tagged → Tagged → Answer (ℤ × ℤ)
numbers_of_two a b = do
  x ← operand_bits a
  y ← operand_bits b
  m ← number x
  n ← number y
  Ok (m, n)

-- the operand of a number
abbrev pub operand_word : ℤ → Answer Tagged
operand_word v = do
  z ← to_operand v
  Ok (word 0 z)
