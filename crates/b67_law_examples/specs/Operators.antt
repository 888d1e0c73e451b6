-- What is read in the code of operators.
use Rattle.std.specs.Prelude.{◌≡◌, ℕ, ◌-◌, ◌%◌, List, [], ◌∷◌, replicate, IsTrue}
use Rattle.std.specs.List.{AllByRecursion}
use Rattle.b67_model.specs.declared.operators.Op.{Op}
use Rattle.b67_model.specs.declared.operators.Op.TheVariants.{Plain}
use Rattle.b67_model.specs.declared.operators.Code.TheVariants.{Nvld}
use Rattle.b67_model.specs.Common.{place_at, has_bits, Entry, At, listing}
use Rattle.b67_model_text.specs.Encoding.{code_words}
use Rattle.b67_model_text.specs.Asm.{after_operator}

abbrev pub HasBits : Op → Type 0
HasBits op = IsTrue (has_bits op)

-- each number within the bits that its operator has for it
abbrev pub AllHaveBits : List Op → Type 0
AllHaveBits ops = AllByRecursion HasBits ops

-- operators from syllable n on, and NVLD behind them up to a whole word
abbrev pub filled : ℕ → List Op → List Op
filled n [] = replicate ((6 - n % 6) % 6) (Plain Nvld)
filled n (op ∷ more) = op ∷ filled (after_operator n op) more

-- each at the place behind the one before
abbrev pub listed_entries : ℕ → List Op → List Entry
listed_entries n [] = []
listed_entries n (op ∷ more) = At (place_at n) op ∷ listed_entries (after_operator n op) more

-- the code of operators is read as these operators
abbrev pub OperatorsAreRead : Type 0
OperatorsAreRead = (ops : List Op) → AllHaveBits ops → listing (code_words ops) ≡ listed_entries 0 (filled 0 ops)
