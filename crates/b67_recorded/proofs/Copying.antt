-- One more sector is copied, and all of them.
use Rattle.std.proofs.Common.{◌≡◌, ◌+◌, ◌-◌, ℕ, List, [], ◌∷◌, ◌++◌, take, arith, sym, subst, ◌∙◌, ap, Some}
use Rattle.std.specs.List.{slice_get}
use Rattle.std.proofs.lemmas.List.{take_more}
use Rattle.std.proofs.lemmas.Option.{slice_get_within, get_or_from_slice_get}
use Rattle.b67_backing.specs.Device.{sector}

module _ (all held : List (List ℕ)) (k : ℕ) (numbers : List ℕ) where
  pub one_more : held ≡ take k all → sector all (k + 1) ≡ Some numbers → held ++ numbers ∷ [] ≡ take (k + 1) all
  one_more is has =
      let at : k + 1 - 1 ≡ k = omega arith in
      let got : slice_get all k ≡ Some numbers = subst (λ (i : ℕ). slice_get all i ≡ Some numbers) at has in
      ap (λ (x : List (List ℕ)). x ++ numbers ∷ []) is
      ∙ ap (λ (x : List ℕ). take k all ++ x ∷ []) (sym (get_or_from_slice_get all k numbers numbers got))
      ∙ sym (take_more all k numbers (slice_get_within all k numbers got))
