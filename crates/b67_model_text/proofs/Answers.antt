-- Answers that follow each other.
use Rattle.std.proofs.Common.{◌≡◌, Result, Ok, Err, refl, ℕ, Bool, true, false}
use Rattle.b67_model_text.specs.Answers.{◌>>=◌, Answer, ◌>>◌, needs}

-- answers that follow each other
pub err-ok : {A R : Type 0} (r : R) (a : A) (P : Type 0) → ◌≡◌ {A = Result A R} (Err r) (Ok a) → P
err-ok r a P e = absurd (let z : ⊥ = cc in z)

pub after_both : {A B R : Type 0} (r : Result A R) (go : A → Result B R) (b : B) → (r >>= go) ≡ Ok b → (a : A) × (r ≡ Ok a) × (go a ≡ Ok b)
after_both (Ok a) go b e = (a, refl, e)
after_both (Err r) go b e = err-ok r b _ e

pub after_needs : {B : Type 0} (t : Bool) (reason : ℕ) (rest : Answer B) (b : B) → (needs t reason >> rest) ≡ Ok b → (t ≡ true) × (rest ≡ Ok b)
after_needs true reason rest b e = (refl, e)
after_needs false reason rest b e = err-ok reason b _ e
