-- A line of a text that is its own card: nothing of it is cut.
use Rattle.std.proofs.Common.{◌≡◌, ℕ, suc, ◌+◌, ◌-◌, ◌<◌, ◌≤◌, Bool, true, false, cond, not, eqb, List, [], ◌∷◌, ◌++◌, length, get_or, take, drop, map, Some, refl, sym, ap, ◌∙◌, append_assoc, arith}
use Rattle.std.specs.Prelude.{nat_le, position, filter}
use Rattle.std.specs.List.{list_all, enumerate_from, position_or_len, suffix_len}
use Rattle.std.specs.Str.Lines.{lines, strip_carriage_return}
use Rattle.std.proofs.Math.Seq.{take-append_seam, take-length, drop-append-add}
use Rattle.std.proofs.lemmas.Bool.{and_parts, leb-true, lt-ltb}
use Rattle.std.proofs.lemmas.List.{length-append}
use Rattle.std.proofs.lemmas.List.Sums.{suffix_len-take_no}
use Rattle.b67_io.specs.Line.{ended}
use Rattle.b67_model_text.specs.declared.card.Card.{Card}
use Rattle.b67_model_text.specs.Cards.{card_of, is_empty, is_space, trimmed}
use Rattle.b67_model_text.specs.Command.{is_printable}
use Rattle.b67_card.proofs.Lines.{cards_from, is_newline, lines_some}

-- a line whose card is the line itself
pub record IsWholeLine (t : List ℕ) : Type 0 where
  pub some : 0 < length t
  pub printable : list_all is_printable t ≡ true
  pub last : 32 < get_or t (length t - 1) 0

no_newline : (t rest : List ℕ) → list_all is_printable t ≡ true → position_or_len is_newline (t ++ 10 ∷ rest) ≡ length t
no_newline [] rest p = refl
no_newline (x ∷ t) rest p =
    let both = and_parts (is_printable x) (list_all is_printable t) p in
    let low : 32 ≤ x = leb-true 32 x (and_parts (nat_le 32 x) (nat_le x 126) both.0).0 in
    let other : eqb x 10 ≡ false = grind arith in
    by_test (is_newline x) other (no_newline t rest both.1)
  where
    by_test : (b : Bool) → b ≡ false → position_or_len is_newline (t ++ 10 ∷ rest) ≡ length t → cond (not b) (1 + position_or_len is_newline (t ++ 10 ∷ rest)) 0 ≡ suc (length t)
    by_test true e h = absurd (let z : ⊥ = cc in z)
    by_test false e h = omega (arith, h)

ends_at : (t rest : List ℕ) → list_all is_printable t ≡ true → position is_newline (t ++ 10 ∷ rest) ≡ Some (length t)
ends_at t rest p =
    let e = no_newline t rest p in
    let long : length t < length (t ++ 10 ∷ rest) = omega (arith, length-append t (10 ∷ rest)) in
    rw (e, lt-ltb (length t) (length (t ++ 10 ∷ rest)) long) refl

strips : (t : List ℕ) → IsWholeLine t → strip_carriage_return t ≡ t
strips t l =
    let last = l.last in
    let other : eqb (get_or t (length t - 1) 0) 13 ≡ false = grind arith in
    rw other refl

trims : (t : List ℕ) → IsWholeLine t → trimmed t ≡ t
trims t l =
    let last = l.last in
    let other : eqb (get_or t (length t - 1) 0) 32 ≡ false = grind arith in
    let none : suffix_len is_space t ≡ 0 = ap (suffix_len is_space) (sym (take-length t)) ∙ suffix_len-take_no is_space t (length t) 0 l.some (omega arith) other in
    let all : length t - suffix_len is_space t ≡ length t = omega (arith, none) in
    ap (λ (n : ℕ). take n t) all ∙ take-length t

first_line : (t rest : List ℕ) → IsWholeLine t → lines (ended t ++ rest) ≡ t ∷ lines rest
first_line t rest l =
    let same : ended t ++ rest ≡ t ++ 10 ∷ rest = append_assoc t (10 ∷ []) rest in
    ap lines same ∙ lines_some (t ++ 10 ∷ rest) (length t) (ends_at t rest l.printable)
    ∙ ap (λ (xs : List ℕ). strip_carriage_return xs ∷ lines (drop (length t + 1) (t ++ 10 ∷ rest))) (take-append_seam t (10 ∷ rest))
    ∙ ap (λ (xs : List ℕ). strip_carriage_return t ∷ lines xs) (drop-append-add t (10 ∷ rest) 1)
    ∙ ap (λ (xs : List ℕ). xs ∷ lines rest) (strips t l)

abbrev pub card_at : ℕ → List ℕ → Card
card_at n t = record { number = n; text = t }

-- it is the first card
pub card_of_line : (n : ℕ) (t rest : List ℕ) → IsWholeLine t → cards_from n (ended t ++ rest) ≡ card_at n t ∷ cards_from (n + 1) rest
card_of_line n t rest l =
    let some = l.some in
    let filled : eqb (length t) 0 ≡ false = grind arith in
    ap (λ (ls : List (List ℕ)). filter (λ (c : Card). not (is_empty c.text)) (map card_of (enumerate_from n ls))) (first_line t rest l)
    ∙ by_text (trimmed t) (trims t l) filled
  where
    by_text : (x : List ℕ) → x ≡ t → eqb (length t) 0 ≡ false
        → cond (not (is_empty x)) (card_at n x ∷ cards_from (n + 1) rest) (cards_from (n + 1) rest) ≡ card_at n t ∷ cards_from (n + 1) rest
    by_text x e filled = rw (e, filled) refl
