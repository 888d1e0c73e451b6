-- A search over rows, turn by turn.
use Rattle.std.proofs.Common.{◌≡◌, ℕ, ◌+◌, ◌<◌, ◌≤◌, Bool, true, false, List, [], ◌∷◌, length, take, refl, sym, ap, ◌∙◌, get_or}
use Rattle.std.specs.List.{list_any}
use Rattle.std.proofs.lemmas.List.{take_all, take_more}
use Rattle.std.proofs.lemmas.List.Folds.{list_any-append}
use Rattle.std.proofs.lemmas.Option.{slice_get-get_or}
use Rattle.b67_lemmas.proofs.Members.{any_some, has_get}

module _ {A : Type 0} (test : A → Bool) (read items : List A) (at : ℕ) (d : A) where
  pub none_more : read ≡ items → at < length items → list_any test (take at items) ≡ false → false ≡ test (get_or read at d) → list_any test (take (at + 1) items) ≡ false
  none_more same low none e =
      let one : test (get_or items at d) ≡ false = ap (λ (xs : List A). test (get_or xs at d)) (sym same) ∙ sym e in
      ap (list_any test) (take_more items at d low) ∙ list_any-append test (take at items) (get_or items at d ∷ []) ∙ rw (none, one) refl

  pub one_passes : read ≡ items → at < length items → true ≡ test (get_or read at d) → true ≡ list_any test items
  one_passes same low e =
      let one : test (get_or items at d) ≡ true = ap (λ (xs : List A). test (get_or xs at d)) (sym same) ∙ sym e in
      sym (any_some test items (get_or items at d) (has_get items at (get_or items at d) (slice_get-get_or items at d low)) one)

pub none_passes : {A : Type 0} (test : A → Bool) (items : List A) (at : ℕ) → length items ≤ at → list_any test (take at items) ≡ false → false ≡ list_any test items
none_passes test items at past none = sym (ap (list_any test) (sym (take_all at items past)) ∙ none)
