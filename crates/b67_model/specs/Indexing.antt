-- The arrays and the elements that words name.
use Rattle.std.specs.Prelude.{ℕ, nat_lt, ℤ, pos, negsuc, length, if◌then◌else◌, Ok, Err}
use Rattle.b67_word.specs.declared.faults.Fault.TheVariants.{InvalidOperand, InvalidIndex}
use Rattle.b67_model.specs.Answers.{Answer, ◌>>=◌}
use Rattle.b67_model.specs.Words.{Word, Operand, Name, Ref, Row, operand, number}
use Rattle.b67_model.specs.State.{OperatorContext}
use Rattle.b67_model.specs.Arrays.{array}
use Rattle.b67_model.specs.Chase.{End, AtArray, chase}

abbrev pub array_at : End → Answer ℕ
array_at (AtArray array) = Ok array
array_at _ = Err InvalidOperand

-- the array that a reference or a row copy leads to
abbrev pub array_of : OperatorContext → Word → Answer ℕ
array_of h (Row array) = Ok array
array_of h (Name couple) = do
  end ← chase h (Name couple)
  array_at end
array_of h (Ref f offset) = do
  end ← chase h (Ref f offset)
  array_at end
array_of h _ = Err InvalidOperand

abbrev pub index_below : ℕ → ℤ → Answer ℕ
index_below length (pos n) = if nat_lt n length then Ok n else Err InvalidIndex
index_below length (negsuc n) = Err InvalidIndex

-- the array and the index that two words give
abbrev pub indexed : OperatorContext → Word → Word → Answer (ℕ × ℕ)
indexed h r i = do
  bits ← operand i
  a ← array_of h r
  n ← number bits
  index ← index_below (length (array h.job a).numbers) n
  Ok (a, index)

-- two words, the top one first, with an operand below
abbrev pub in_order : Word → Word → Word × Word
in_order (Operand bits) lower = (lower, Operand bits)
in_order upper lower = (upper, lower)
