-- A place among others: the first one, or one of the rest.
use Rattle.std.proofs.Common.{◌≡◌, ◌≢◌, ◌≤◌, ◌-◌, List, [], ◌∷◌, length, inl, inr, sym, subst, arith}
use Rattle.std.specs.Prelude.{take, drop, get_or}
use Rattle.std.proofs.lemmas.List.{take_rest}
use Rattle.b67_lemmas.specs.Lists.{Has}
use Rattle.b67_session.specs.declared.seeking.CodePlace.{CodePlace}

pub first_is : (xs : List CodePlace) (d at : CodePlace) → 1 ≤ length xs → get_or xs 0 d ≡ at → Has xs at
first_is [] d at some e = absurd (omega (arith, some))
first_is (x ∷ xs) d at some e = inl e

-- if it isn't the first one
pub among_rest : (xs : List CodePlace) (d at : CodePlace) → 1 ≤ length xs → get_or xs 0 d ≢ at → (Has (take (length xs - 1) (drop 1 xs)) at → Has xs at) × (Has xs at → Has (take (length xs - 1) (drop 1 xs)) at)
among_rest [] d at some other = absurd (omega (arith, some))
among_rest (x ∷ xs) d at some other = (
  λ has. inr (subst (λ (ys : List CodePlace). Has ys at) (take_rest (x ∷ xs) 1) has),
  λ has. elim has [
    | inl is ↦ absurd (other is)
    | inr more ↦ subst (λ (ys : List CodePlace). Has ys at) (sym (take_rest (x ∷ xs) 1)) more
  ],
)

pub none_among : (xs : List CodePlace) (at : CodePlace) → length xs ≤ 0 → Has xs at → ⊥
none_among [] at none has = has
none_among (x ∷ xs) at none has = omega (arith, none)
