-- What the operators on numbers and bits make of one or two operands.
use Rattle.std.specs.Prelude.{ℕ, ◌+◌, ◌-◌, ◌*◌, ◌/◌, ◌%◌, ◌^◌, ℤ, pos, ◌+ℤ◌, ◌*ℤ◌, neg_ℤ, int_lt, int_div, int_rem, bit_and, bit_or, bit_xor, nat_le, ◌==◌, Bool, not, ◌&&◌, if◌then◌else◌, Ok}
use Rattle.b67_word.specs.declared.faults.Fault.TheVariants.{InvalidOperand, DivideByZero}
use Rattle.b67_model.specs.Answers.{Answer, ◌>>=◌, ◌>>◌, needs}
use Rattle.b67_word.specs.Common.{bit, bits_of, is_field}
use Rattle.b67_model.specs.Words.{to_operand, number, truth}

-- an operator of two operands' bits
abbrev pub Binary : Type 0
Binary = ℕ → ℕ → Answer ℕ

abbrev pub ones : ℕ
ones = 2 ^ 48 - 1

-- on the values of whole operands
abbrev pub on_numbers : (ℤ → ℤ → Answer ℤ) → Binary
on_numbers f a b = do
  x ← number a
  y ← number b
  z ← f x y
  to_operand z

abbrev pub compared : (ℤ → ℤ → Bool) → Binary
compared test a b = do
  x ← number a
  y ← number b
  Ok (truth (test x y))

-- unless the divisor is zero
abbrev pub divided : (ℤ → ℤ → ℤ) → ℤ → ℤ → Answer ℤ
divided f x y = do
  needs (not (is_zero y)) DivideByZero
  Ok (f x y)
  where
    is_zero : ℤ → Bool
    is_zero v = not (int_lt v (pos 0)) && not (int_lt (pos 0) v)

abbrev pub add : Binary
add = on_numbers (λ x y. Ok (x +ℤ y))

abbrev pub subt : Binary
subt = on_numbers (λ x y. Ok (x +ℤ neg_ℤ y))

abbrev pub mult : Binary
mult = on_numbers (λ x y. Ok (x *ℤ y))

abbrev pub idiv : Binary
idiv = on_numbers (divided int_div)

abbrev pub rdiv : Binary
rdiv = on_numbers (divided int_rem)

abbrev pub less : Binary
less = compared (λ x y. int_lt x y)

abbrev pub greq : Binary
greq = compared (λ x y. not (int_lt x y))

abbrev pub grtr : Binary
grtr = compared (λ x y. int_lt y x)

abbrev pub lseq : Binary
lseq = compared (λ x y. not (int_lt y x))

abbrev pub equl : Binary
equl = compared (λ x y. not (int_lt x y) && not (int_lt y x))

abbrev pub neql : Binary
neql = compared (λ x y. not (not (int_lt x y) && not (int_lt y x)))

abbrev pub land : Binary
land a b = Ok (bit_and a b)

abbrev pub lor : Binary
lor a b = Ok (bit_or a b)

abbrev pub leqv : Binary
leqv a b = Ok (ones - bit_xor a b)

abbrev pub same : Binary
same a b = Ok (truth (a == b))

abbrev pub chsn : ℕ → Answer ℕ
chsn a = do
  x ← number a
  Ok (bits_of (neg_ℤ x))

abbrev pub lnot : ℕ → Answer ℕ
lnot a = Ok (ones - a)

abbrev pub bset : ℕ → ℕ → Answer ℕ
bset n a = do
  needs (nat_le n 47) InvalidOperand
  Ok (if bit n a == 0 then a + 2 ^ n else a)

abbrev pub brst : ℕ → ℕ → Answer ℕ
brst n a = do
  needs (nat_le n 47) InvalidOperand
  Ok (if bit n a == 0 then a else a - 2 ^ n)

abbrev pub isol : ℕ → ℕ → ℕ → Answer ℕ
isol high width a = do
  needs (is_field high width) InvalidOperand
  Ok ((a / 2 ^ (high + 1 - width)) % 2 ^ width)

-- the bits above the field and below it stay
abbrev pub insr : ℕ → ℕ → Binary
insr high width a b = do
  needs (is_field high width) InvalidOperand
  Ok ((a / 2 ^ (high + 1)) * 2 ^ (high + 1) + (b % 2 ^ width) * 2 ^ (high + 1 - width) + a % 2 ^ (high + 1 - width))
