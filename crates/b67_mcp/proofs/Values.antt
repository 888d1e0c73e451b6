-- The values of the words that are left of a row.
use Rattle.std.proofs.Common.{◌≡◌, ℕ, suc, ◌+◌, ◌<◌, ◌≤◌, ℤ, List, [], ◌∷◌, length, drop, get_or, Option, Some, None, refl, sym, ◌∙◌, ap, arith, true, drop-cons}
use Rattle.std.proofs.lemmas.List.{at_drop_all}
use Rattle.b67_word.specs.Tagged.{Tagged}
use Rattle.b67_word.specs.Operands.{number_of}
use Rattle.b67_mcp.specs.Texts.{values_with, values_of, is_some}

pub first_of : (ws : List Tagged) (i : ℕ) (w : Tagged) → i < length ws → w ≡ get_or ws i w → drop i ws ≡ w ∷ drop (i + 1) ws
first_of ws i w low e =
    let next : suc i ≡ i + 1 = omega arith in
    drop-cons ws i w low ∙ ap (λ (v : Tagged). v ∷ drop (suc i) ws) (sym e) ∙ ap (λ (k : ℕ). w ∷ drop k ws) next

pub none_left : (ws : List Tagged) (i : ℕ) (w : Tagged) → i < length ws → w ≡ get_or ws i w → number_of w ≡ None → values_of (drop i ws) ≡ None
none_left ws i w low e none = ap values_of (first_of ws i w low e) ∙ ap (λ (o : Option ℤ). values_with o (values_of (drop (i + 1) ws))) none

pub some_left : (ws : List Tagged) (i : ℕ) (w : Tagged) (v : ℤ) → i < length ws → w ≡ get_or ws i w → number_of w ≡ Some v → is_some (values_of (drop (i + 1) ws)) ≡ is_some (values_of (drop i ws))
some_left ws i w v low e some = grind (arith, first_of)

-- the first value and those behind it
pub record Splits (w : Tagged) (rest : List Tagged) (vs : List ℤ) : Type 0 where
  pub value : ℤ
  pub more : List ℤ
  pub first : number_of w ≡ Some value
  pub others : values_of rest ≡ Some more
  pub all : vs ≡ value ∷ more

by_parts : (w : Tagged) (rest : List Tagged) (vs : List ℤ) (o : Option ℤ) (p : Option (List ℤ)) → number_of w ≡ o → values_of rest ≡ p → values_with o p ≡ Some vs → Splits w rest vs
by_parts w rest vs None p a b e = absurd cc
by_parts w rest vs (Some v) None a b e = absurd cc
by_parts w rest vs (Some v) (Some more) a b e = record { value = v; more = more; first = a; others = b; all = cc }

pub splits : (ws : List Tagged) (i : ℕ) (w : Tagged) (vs : List ℤ) → i < length ws → w ≡ get_or ws i w → values_of (drop i ws) ≡ Some vs → Splits w (drop (i + 1) ws) vs
splits ws i w vs low e some = by_parts w (drop (i + 1) ws) vs (number_of w) (values_of (drop (i + 1) ws)) refl refl (sym (ap values_of (first_of ws i w low e)) ∙ some)

pub all_left : (ws : List Tagged) (i : ℕ) → length ws ≤ i → is_some (values_of (drop i ws)) ≡ true
all_left ws i past = at_drop_all (λ (l : List Tagged). is_some (values_of l)) ws i past

pub none_behind : (ws : List Tagged) (i : ℕ) (vs : List ℤ) → length ws ≤ i → values_of (drop i ws) ≡ Some vs → vs ≡ []
none_behind ws i vs past e = let same : Some vs ≡ Some [] = sym e ∙ at_drop_all values_of ws i past in cc
