-- The words of a cell, and the whole numbers that operands represent.
use Rattle.std.specs.Prelude.{ℕ, ◌^◌, ℤ, nat_abs, Bool, nat_lt, if◌then◌else◌, Ok, Err}
use Rattle.b67_word.specs.declared.faults.Fault.TheVariants.{InvalidOperand, Exponent, IntegerOverflow}
use Rattle.b67_word.specs.declared.couples.Place.{Place}
use Rattle.b67_word.specs.Operands.{is_whole, value_of, bits_of}
use Rattle.b67_model.specs.Answers.{Answer, ◌>>=◌}

pub data Word : Type 0 where
  Operand : (bits : ℕ) → Word
  Name : (couple : ℕ) → Word
  Ref : (frame offset : ℕ) → Word
  Row : (array : ℕ) → Word
  Element : (array index : ℕ) → Word
  Original : (array : ℕ) → Word
  Proc : (segment level : ℕ) (place : Place) → Word
  Intrinsic : (number : ℕ) → Word
  Segment : (number : ℕ) → Word

abbrev pub to_operand : ℤ → Answer ℕ
to_operand v = if nat_lt (nat_abs v) (2 ^ 39) then Ok (bits_of v) else Err IntegerOverflow

-- the 48 bits of an operand
abbrev pub operand : Word → Answer ℕ
operand (Operand bits) = Ok bits
operand _ = Err InvalidOperand

-- the value of a whole operand
abbrev pub number : ℕ → Answer ℤ
number bits = if is_whole bits then Ok (value_of bits) else Err Exponent

-- a whole operand's value
abbrev pub whole : Word → Answer ℤ
whole w = do
  bits ← operand w
  number bits

abbrev pub truth : Bool → ℕ
truth b = if b then 1 else 0
