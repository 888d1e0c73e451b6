-- Fields that go out one after the other.
use Rattle.std.proofs.Common.{◌≡◌, ℕ, List, [], ◌∷◌, ◌++◌, Ok, Err, refl, sym, ap, ◌∙◌, subst, append-nil, append_assoc}
use Rattle.std.specs.Prelude.{Option, Result, ⊤}
use Rattle.std.specs.Result.{IsErr}
use Rattle.b67_word.specs.declared.faults.Failed.{Failed}
use Rattle.b67_io.specs.Told.{TookPart}
use Rattle.b67_image.specs.Punching.{full_cards, Punched}
use Rattle.b67_image.proofs.Chunks.{punched_then, punched_stop}

-- the bytes of fields
abbrev pub joined : List (List ℕ) → List ℕ
joined [] = []
joined (x ∷ xs) = x ++ joined xs

joined_append : (xs ys : List (List ℕ)) → joined (xs ++ ys) ≡ joined xs ++ joined ys
joined_append [] ys = refl
joined_append (x ∷ xs) ys = ap (λ (t : List ℕ). x ++ t) (joined_append xs ys) ∙ sym (append_assoc x (joined xs) (joined ys))

joined_one : (x : List ℕ) → joined (x ∷ []) ≡ x
joined_one x = append-nil x

-- the first field
pub first_ok : {K : Type 0} (taken : K → Option (List ℕ)) (a b : K) (hand now x y : List ℕ) → y ≡ x → Punched taken a b hand now (Ok tt) y → Punched taken a b hand now (Ok tt) (joined (x ∷ []))
first_ok taken a b hand now x y e p = subst (Punched taken a b hand now (Ok tt)) (e ∙ sym (joined_one x)) p

-- a field more
pub field_ok : {K : Type 0} (taken : K → Option (List ℕ)) (a b c : K) (hand mid now : List ℕ) (xs : List (List ℕ)) (x y : List ℕ) → y ≡ x → Punched taken a b hand mid (Ok tt) (joined xs) → Punched taken b c mid now (Ok tt) y → Punched taken a c hand now (Ok tt) (joined (xs ++ x ∷ []))
field_ok taken a b c hand mid now xs x y e p q =
    subst (Punched taken a c hand now (Ok tt)) (ap (λ (t : List ℕ). joined xs ++ t) (e ∙ sym (joined_one x)) ∙ sym (joined_append xs (x ∷ []))) (punched_then taken a b c hand mid now (Ok tt) (joined xs) y p q)

-- the sink failed within a field
pub first_err : {K : Type 0} (taken : K → Option (List ℕ)) (a b : K) (hand now : List ℕ) (r : Result ⊤ Failed) (x y : List ℕ) (ys : List (List ℕ)) → IsErr r → y ≡ x → TookPart taken a b (full_cards (hand ++ y)) → Punched taken a b hand now r (joined (x ∷ ys))
first_err taken a b hand now r x y ys i e p = punched_stop taken a b hand now r x y (joined ys) i e p

pub field_err : {K : Type 0} (taken : K → Option (List ℕ)) (a b c : K) (hand mid now : List ℕ) (r : Result ⊤ Failed) (xs : List (List ℕ)) (x y : List ℕ) (ys : List (List ℕ)) → IsErr r → y ≡ x → Punched taken a b hand mid (Ok tt) (joined xs) → TookPart taken b c (full_cards (mid ++ y)) → Punched taken a c hand now r (joined (xs ++ x ∷ ys))
field_err taken a b c hand mid now (Ok done) xs x y ys i e p q = absurd (let z : ⊥ = cc in z)
field_err taken a b c hand mid now (Err f) xs x y ys i e p q =
    subst (Punched taken a c hand now (Err f)) (ap (λ (t : List ℕ). joined xs ++ (t ++ joined ys)) e ∙ sym (joined_append xs (x ∷ ys)))
    (punched_then taken a b c hand mid now (Err f) (joined xs) (y ++ joined ys) p (punched_stop taken b c mid now (Err f) y y (joined ys) refl refl q))

-- fields in their brackets
pub four : (a b c d : List ℕ) → joined (a ∷ b ∷ c ∷ d ∷ []) ≡ a ++ (b ++ (c ++ d))
four a b c d = ap (λ (s : List ℕ). a ++ (b ++ (c ++ s))) (append-nil d)

pub five : (a b c d e : List ℕ) → joined (a ∷ b ∷ c ∷ d ∷ e ∷ []) ≡ a ++ (b ++ (c ++ (d ++ e)))
five a b c d e = ap (λ (s : List ℕ). a ++ (b ++ (c ++ (d ++ s)))) (append-nil e)
