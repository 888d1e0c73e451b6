-- The text of a value is short.
use Rattle.std.proofs.Common.{◌≡◌, ◌<◌, ◌≤◌, ◌^◌, ℤ, pos, negsuc, length, Bool, arith, w64, SFits}
use Rattle.std.specs.Prelude.{nat_abs, IsTrue}
use Rattle.std.specs.Bool.{OnTrue}
use Rattle.std.proofs.lemmas.Fmt.{length_signed_le}
use Rattle.b67_model.specs.Lines.{value_text}

pub value_length : (v : ℤ) → nat_abs v < 2 ^ 39 → length (value_text v) ≤ 14
value_length (pos n) low = let l = length_signed_le 12 (pos n) (omega (arith, low)) (omega (arith, low)) in omega (arith, l)
value_length (negsuc n) low = let l = length_signed_le 12 (negsuc n) (omega (arith, low)) (omega (arith, low)) in omega (arith, l)

pub fits_of : (v : ℤ) → nat_abs v < 2 ^ 39 → SFits w64 v
fits_of v low = grind arith

-- a text that fits was appended
pub appended : (done : Bool) (P : Type 0) → IsTrue done → OnTrue done P → P
appended done P t h = grind arith
