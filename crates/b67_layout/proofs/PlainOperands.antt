-- An operand is no word of another kind.
use Rattle.std.proofs.Common.{◌≡◌, ℕ, Ok, refl, false, arith}
use Rattle.b67_model.specs.Words as Words
use Rattle.b67_model.specs.Common.{Word, Operand, Name, Ref, Row, Element, Original, Proc, Intrinsic, operand, is_original}

-- an operand is no original
pub plain_operand : (w : Word) (n : ℕ) → operand w ≡ Ok n → is_original w ≡ false
plain_operand w n e = grind arith
