-- Lists whose items are kept or left out, each then changed but for its key.
use Rattle.std.proofs.Common.{◌≡◌, ℕ, zero, suc, ◌+◌, ◌<◌, ◌≤◌, List, [], ◌∷◌, map, filter, find, length, drop, get_or, Some, None, Bool, true, false, refl, sym, ◌∙◌, ap, arith, ⊎_elim}
use Rattle.std.specs.Prelude.{◌||◌}
use Rattle.std.specs.List.{list_any}
use Rattle.std.proofs.lemmas.List.{length-map}
use Rattle.std.proofs.lemmas.Option.{slice_get-get_or}
use Rattle.b67_lemmas.specs.Lists.{Has}
use Rattle.b67_lemmas.proofs.Members.{length_filter}
use Rattle.b67_lemmas.proofs.Places.{drop-get}
use Rattle.b67_layout.specs.Rows.{Differ}

module _ {A : Type 0} (f : A → A) (p : A → Bool) (key : A → ℕ) (same : (a : A) → key (f a) ≡ key a) where
  kept_has : (xs : List A) (n : ℕ) → Has (map key (map f (filter p xs))) n → Has (map key xs) n
  kept_has [] n i = i
  kept_has (x ∷ xs) n i = grind (arith, kept_has xs n)

  pub kept_differ : (xs : List A) → Differ (map key xs) → Differ (map key (map f (filter p xs)))
  kept_differ [] d = d
  kept_differ (x ∷ xs) d = grind (arith, kept_has, kept_differ xs d.1)

pub kept_length : {A B : Type 0} (f : A → B) (p : A → Bool) (xs : List A) → length (map f (filter p xs)) ≤ length xs
kept_length f p xs = omega (arith, length-map (filter p xs) f, length_filter p xs)

pub drop_past : {A : Type 0} (xs : List A) (at : ℕ) → length xs ≤ at → drop at xs ≡ []
drop_past [] zero low = refl
drop_past [] (suc at) low = refl
drop_past (x ∷ xs) zero low = absurd (omega (arith, low))
drop_past (x ∷ xs) (suc at) low = drop_past xs at (omega (arith, low))

-- a search goes on
pub finds_on : {A : Type 0} (p : A → Bool) (xs : List A) (at : ℕ) (d : A) → at < length xs → find p (drop at xs) ≡ find p xs → p (get_or xs at d) ≡ false → find p (drop (at + 1) xs) ≡ find p xs
finds_on {A = A} p xs at d low e t =
    let next : at + 1 ≡ suc at = omega arith in
    ap (λ (n : ℕ). find p (drop n xs)) next
    ∙ passed (get_or xs at d) (drop (suc at) xs) t
    ∙ ap (find p) (sym (drop-get xs at (get_or xs at d) (slice_get-get_or xs at d low)))
    ∙ e
  where
    passed : (x : A) (ys : List A) → p x ≡ false → find p ys ≡ find p (x ∷ ys)
    passed x ys q = rw q refl

pub finds_here : {A : Type 0} (p : A → Bool) (xs : List A) (at : ℕ) (d : A) → at < length xs → find p (drop at xs) ≡ find p xs → p (get_or xs at d) ≡ true → find p xs ≡ Some (get_or xs at d)
finds_here {A = A} p xs at d low e t = grind (arith, drop-get, slice_get-get_or)

pub finds_none : {A : Type 0} (p : A → Bool) (xs : List A) (at : ℕ) → length xs ≤ at → find p (drop at xs) ≡ find p xs → find p xs ≡ None
finds_none p xs at past e = sym e ∙ ap (find p) (drop_past xs at past)

pub any_map : {A B : Type 0} (f : A → B) (p : B → Bool) (xs : List A) → list_any (λ (x : A). p (f x)) xs ≡ list_any p (map f xs)
any_map f p [] = refl
any_map f p (x ∷ xs) = ap (λ (b : Bool). p (f x) || b) (any_map f p xs)
