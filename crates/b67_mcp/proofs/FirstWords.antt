-- Lists by their first words, and tests on all of them.
use Rattle.std.proofs.Common.{◌≡◌, ◌⊎◌, ℕ, zero, suc, ◌<◌, List, [], ◌∷◌, ◌++◌, take, length, reverse, Bool, false, refl, sym, ◌∙◌, ap, arith, inl, inr, append_assoc}
use Rattle.std.specs.List.{list_any}
use Rattle.std.proofs.lemmas.Bool.{cases_Bool, true≢false}
use Rattle.b67_lemmas.specs.Lists.{Has}
use Rattle.b67_lemmas.proofs.Members.{any_has, any_some, any_none, has_reverse, has_reverse_back, reverse_cons}

-- a list by an item and those before it
pub record Split {A : Type 0} (xs : List A) (n : ℕ) : Type 0 where
  pub before : List A
  pub item : A
  pub rest : List A
  pub is : xs ≡ before ++ item ∷ rest
  pub length_is : length before ≡ n
  pub next : take (suc n) xs ≡ take n xs ++ item ∷ []
  pub inside : (k : ℕ) → n < k → Has (take k xs) item

inside_next : {A : Type 0} (x y : A) (xs : List A) (n : ℕ) → ((k : ℕ) → n < k → Has (take k xs) y) → (k : ℕ) → suc n < k → Has (take k (x ∷ xs)) y
inside_next x y xs n h k low = grind arith

inside_first : {A : Type 0} (x : A) (xs : List A) (k : ℕ) → 0 < k → Has (take k (x ∷ xs)) x
inside_first x xs k low = grind arith

pub split_at : {A : Type 0} (xs : List A) (n : ℕ) → n < length xs → Split xs n
split_at [] n low = absurd (omega (arith, low))
split_at (x ∷ xs) zero low = record { before = []; item = x; rest = xs; is = refl; length_is = refl; next = refl; inside = inside_first x xs }
split_at (x ∷ xs) (suc n) low =
    let s = split_at xs n (omega (arith, low)) in
    record {
      before = x ∷ s.before;
      item = s.item;
      rest = s.rest;
      is = ap (λ ys. x ∷ ys) s.is;
      length_is = ap suc s.length_is;
      next = ap (λ ys. x ∷ ys) s.next;
      inside = inside_next x s.item xs n s.inside;
    }

pub take_front : {A : Type 0} (xs ys : List A) → take (length xs) (xs ++ ys) ≡ xs
take_front [] ys = refl
take_front (x ∷ xs) ys = ap (λ zs. x ∷ zs) (take_front xs ys)

-- none passes
pub none_of : {A : Type 0} (test : A → Bool) (xs : List A) → ((x : A) → Has xs x → test x ≡ false) → list_any test xs ≡ false
none_of test xs none = grind (arith, any_has)

has_parts : {A : Type 0} (xs : List A) (y z : A) → Has (xs ++ y ∷ []) z → Has xs z ⊎ (y ≡ z)
has_parts [] y z (inl e) = inr e
has_parts [] y z (inr h) = absurd h
has_parts (x ∷ xs) y z (inl e) = inl (inl e)
has_parts (x ∷ xs) y z (inr h) = elim (has_parts xs y z h) [ inl k ↦ inl (inr k) | inr e ↦ inr e ]

pub none_more : {A : Type 0} (test : A → Bool) (xs : List A) (y : A) → list_any test xs ≡ false → test y ≡ false → list_any test (xs ++ y ∷ []) ≡ false
none_more test xs y none not_y = none_of test (xs ++ y ∷ []) (λ z h. elim (has_parts xs y z h) [ inl k ↦ any_none test xs z none k | inr e ↦ ap test (sym e) ∙ not_y ])

-- the same of the list turned around
pub any_turned : {A : Type 0} (test : A → Bool) (xs : List A) → list_any test (reverse xs) ≡ list_any test xs
any_turned test xs = grind (arith, cases_Bool, any_has, any_some, has_reverse, has_reverse_back)

-- a list from its other end
pub turned_two : {A : Type 0} (a b : A) (xs : List A) → reverse (a ∷ b ∷ xs) ≡ reverse xs ++ b ∷ a ∷ []
turned_two a b xs = reverse_cons a (b ∷ xs) ∙ ap (λ ys. ys ++ a ∷ []) (reverse_cons b xs) ∙ append_assoc (reverse xs) (b ∷ []) (a ∷ [])
