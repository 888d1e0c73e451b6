-- The table of first syllables against the operators of the machine.
use Rattle.std.proofs.Common.{◌≡◌, ℕ, zero, suc, ◌+◌, Bool, true, ◌&&◌, List, [], ◌∷◌, Option, Some, None, refl, subst, arith}
use Rattle.std.specs.Prelude.{slice_get}
use Rattle.std.proofs.lemmas.Bool.{and_parts}
use Rattle.std.proofs.lemmas.Option.{same_Some, none-some}
use Rattle.b67_model.specs.declared.operators.Code.{Code}
use Rattle.b67_model.specs.Operators.{Form, form_of}
use Rattle.b67_exec.specs.declared.firsts.Near.{Near}
use Rattle.b67_exec.specs.declared.firsts.Near.TheVariants as nears
use Rattle.b67_exec.specs.declared.firsts.TheConstants.{NEARS}
use Rattle.b67_exec.specs.Operators.{is_on_top, BeginsWhole}
use Rattle.b67_exec.specs.Firsts.{near_form}

-- a row says the form of its syllable, or that an operator is read whole there
abbrev Says : Option Form → ℕ → Type 0
Says None first = BeginsWhole (form_of first)
Says (Some f) first = form_of first ≡ Some f

abbrev AllSay : ℕ → List Near → Type 0
AllSay first [] = Unit {0}
AllSay first (n ∷ ns) = Says (near_form n first) first × AllSay (first + 1) ns

all_say : AllSay 0 NEARS
all_say = (refl, (refl, (refl, (refl, (refl, (refl, (refl, (refl, (refl, (refl, (refl, (refl, (refl, (refl, (refl, (refl, (refl, (refl, (refl, (refl, (refl, (refl, (refl, (refl, (refl, (refl, (refl, (refl, (refl, (refl, (refl, (refl, (refl, (refl, (refl, (refl, (refl, (refl, (refl, (refl, (refl, (refl, (refl, (refl, (refl, (refl, (refl, (refl, (refl, (refl, (refl, (refl, (refl, (refl, (refl, (refl, (refl, (refl, (refl, (refl, (refl, (refl, (refl, (refl, (refl, (refl, (refl, (refl, (refl, (refl, (refl, (refl, (refl, (refl, (refl, (refl, (refl, (refl, (refl, (refl, (refl, (refl, (refl, (refl, (refl, (refl, (refl, (refl, (refl, (refl, (refl, (refl, (refl, (refl, (refl, (refl, (refl, (refl, (refl, (refl, (refl, (refl, (refl, (refl, (refl, (refl, (refl, (refl, (refl, (refl, (refl, (refl, (refl, (refl, (refl, (refl, (refl, (refl, (refl, (refl, (refl, (refl, (refl, (refl, (refl, (refl, (refl, (refl, (refl, (refl, (refl, (tt, (refl, (refl, (tt, (tt, (refl, (refl, (refl, (refl, (refl, (refl, (refl, (tt, (refl, (refl, (refl, (refl, (refl, (tt, ((λ n. refl), (tt, (tt, (tt, ((λ m n. refl), (tt, ((λ m n. refl), (tt, ((λ n. refl), (tt, (refl, (refl, (refl, (refl, (tt, (tt, (refl, (refl, (tt, (tt, (tt, (refl, (tt, (refl, (refl, (refl, (refl, (refl, (refl, (refl, (refl, (refl, (refl, (refl, (refl, (refl, (tt, (tt, (tt, (refl, (refl, (refl, (tt, (tt, (tt, (tt, (tt, (tt, (tt, (tt, (tt, (tt, (tt, (tt, (tt, (tt, (tt, (tt, (tt, (tt, (tt, (tt, (tt, (tt, (tt, (tt, (tt, (tt, (tt, (tt, (tt, (tt, (tt, (tt, (tt, (tt, (tt, (tt, (tt, (tt, (tt, (tt, (tt, (tt, (tt, (tt, (tt, (tt, (tt, (tt, (tt, (tt, (tt, (tt, (tt, (tt, (tt, (tt, (tt, (tt, (tt, (tt, (tt, (tt, (refl, (refl, tt))))))))))))))))))))))))))))))))))))))))))))))))))))))))))))))))))))))))))))))))))))))))))))))))))))))))))))))))))))))))))))))))))))))))))))))))))))))))))))))))))))))))))))))))))))))))))))))))))))))))))))))))))))))))))))))))))))))))))))))))))))))))))))))))

row_says : (from : ℕ) (ns : List Near) (i : ℕ) (n : Near) → AllSay from ns → slice_get ns i ≡ Some n → (first : ℕ) → first ≡ from + i → Says (near_form n first) first
row_says from [] i n all e first is = absurd (none-some n e)
row_says from (m ∷ ns) zero n all e first is =
    let at : first ≡ from = omega (arith, is) in
    grind (arith, same_Some)
row_says from (m ∷ ns) (suc i) n all e first is = row_says (from + 1) ns i n all.1 e first (omega (arith, is))

says_form : (o : Option Form) (first : ℕ) (f : Form) → Says o first → o ≡ Some f → form_of first ≡ Some f
says_form o first f h e = grind arith

pub near_says : (first : ℕ) (n : Near) (f : Form) → slice_get NEARS first ≡ Some n → near_form n first ≡ Some f → form_of first ≡ Some f
near_says first n f at e = says_form (near_form n first) first f (row_says 0 NEARS first n all_say at first (omega arith)) e

pub other_says : (first : ℕ) (n : Near) → slice_get NEARS first ≡ Some n → n ≡ nears.Other → BeginsWhole (form_of first)
other_says first n at is = subst (λ (z : Near). Says (near_form z first) first) is (row_says 0 NEARS first n all_say at first (omega arith))

-- a far row is on the top cells
abbrev is_far_row : Near → Bool
is_far_row (nears.Far code) = is_on_top code
is_far_row _ = true

abbrev all_far : List Near → Bool
all_far [] = true
all_far (n ∷ ns) = is_far_row n && all_far ns

row_far : (ns : List Near) (i : ℕ) (n : Near) → all_far ns ≡ true → slice_get ns i ≡ Some n → is_far_row n ≡ true
row_far [] i n all e = absurd (none-some n e)
row_far (m ∷ ns) zero n all e = let P : Near → Type 0 = λ z. is_far_row z ≡ true in subst P (same_Some m n e) (and_parts (is_far_row m) (all_far ns) all).0
row_far (m ∷ ns) (suc i) n all e = row_far ns i n (and_parts (is_far_row m) (all_far ns) all).1 e

pub far_says : (first : ℕ) (n : Near) (code : Code) → slice_get NEARS first ≡ Some n → n ≡ nears.Far code → is_on_top code ≡ true
far_says first n code at is = let P : Near → Type 0 = λ z. is_far_row z ≡ true in subst P is (row_far NEARS first n refl at)
