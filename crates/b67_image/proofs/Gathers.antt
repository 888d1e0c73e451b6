-- Bytes that are gathered card by card.
use Rattle.std.proofs.Common.{◌≡◌, ℕ, List, [], ◌++◌, Ok, Err, refl, ap, append_assoc}
use Rattle.std.specs.Prelude.{Result}
use Rattle.b67_model_text.specs.Answers.{◌>>=◌}
use Rattle.b67_model_text.specs.Deck.{Refusal}

-- the bytes so far, and those that are still gathered
abbrev pub with_bytes : List ℕ → Result (List ℕ) Refusal → Result (List ℕ) Refusal
with_bytes front gathered = gathered >>= λ bytes. Ok (front ++ bytes)

pub regroup : (front more : List ℕ) (gathered : Result (List ℕ) Refusal) → with_bytes front (gathered >>= λ bytes. Ok (more ++ bytes)) ≡ with_bytes (front ++ more) gathered
regroup front more (Ok bytes) = ap Ok (simp append_assoc)
regroup front more (Err e) = refl

pub none_yet : (gathered : Result (List ℕ) Refusal) → with_bytes [] gathered ≡ gathered
none_yet (Ok bytes) = refl
none_yet (Err e) = refl
