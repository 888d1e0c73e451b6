-- Printable texts and names are ASCII.
use Rattle.std.proofs.Common.{◌≡◌, ℕ, Bool, true, ◌&&◌, ◌||◌, nat_lt, List, [], ◌∷◌, length, refl, arith}
use Rattle.std.proofs.lemmas.Bool.Decides.{nat_tests}
use Rattle.std.specs.List.{list_all}
use Rattle.std.specs.Cmp.Derive.{both_true}
use Rattle.std.specs.Char.{is_ascii, is_ascii_uppercase, is_ascii_digit}
use Rattle.std.proofs.lemmas.Bool.{and_parts}
use Rattle.b67_model_text.specs.Cards.{is_name}
use Rattle.b67_model_text.specs.Command.{is_printable}

all_weaker : (p q : ℕ → Bool) → ((b : ℕ) → p b ≡ true → q b ≡ true) → (xs : List ℕ) → list_all p xs ≡ true → list_all q xs ≡ true
all_weaker p q weaker [] e = refl
all_weaker p q weaker (x ∷ xs) e =
    let h = and_parts (p x) (list_all p xs) e in
    both_true (weaker x h.0) (all_weaker p q weaker xs h.1)

ascii_printable : (b : ℕ) → is_printable b ≡ true → is_ascii b ≡ true
ascii_printable b e = grind (arith, nat_tests)

ascii_uppercase : (b : ℕ) → is_ascii_uppercase b ≡ true → is_ascii b ≡ true
ascii_uppercase b e = grind (arith, nat_tests)

ascii_in_name : (b : ℕ) → (is_ascii_uppercase b || is_ascii_digit b) ≡ true → is_ascii b ≡ true
ascii_in_name b e = grind (arith, nat_tests)

pub printable_ascii : (xs : List ℕ) → list_all is_printable xs ≡ true → list_all is_ascii xs ≡ true
printable_ascii xs e = all_weaker is_printable is_ascii ascii_printable xs e

pub name_ascii : (xs : List ℕ) → is_name xs ≡ true → list_all is_ascii xs ≡ true
name_ascii [] e = refl
name_ascii (b ∷ more) e =
    let outer = and_parts (is_ascii_uppercase b && list_all (λ c. is_ascii_uppercase c || is_ascii_digit c) more) (nat_lt (length more) 16) e in
    let inner = and_parts (is_ascii_uppercase b) (list_all (λ c. is_ascii_uppercase c || is_ascii_digit c) more) outer.0 in
    both_true (ascii_uppercase b inner.0) (all_weaker (λ c. is_ascii_uppercase c || is_ascii_digit c) is_ascii ascii_in_name more inner.1)
