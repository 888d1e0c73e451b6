-- The bytes of digits, two digits at a time.
use Rattle.std.proofs.Common.{◌≡◌, ℕ, ◌+◌, ◌*◌, ◌<◌, ◌≤◌, List, [], ◌∷◌, length, drop, get_or, refl, arith}
use Rattle.b67_model_text.specs.Hex.{digit_value, digit_bytes}

pub two_digits : (xs : List ℕ) → 2 ≤ length xs → digit_bytes xs ≡ (16 * digit_value (get_or xs 0 0) + digit_value (get_or xs 1 0)) ∷ digit_bytes (drop 2 xs)
two_digits [] le = absurd (omega arith)
two_digits (a ∷ []) le = absurd (omega arith)
two_digits (a ∷ b ∷ more) le = refl

pub no_two_digits : (xs : List ℕ) → length xs < 2 → digit_bytes xs ≡ []
no_two_digits [] lt = refl
no_two_digits (a ∷ []) lt = refl
no_two_digits (a ∷ b ∷ more) lt = absurd (omega arith)
