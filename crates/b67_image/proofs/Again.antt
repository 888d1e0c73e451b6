-- The cards of an image are read as its bytes.
use Rattle.std.proofs.Common.{◌≡◌, ◌≢◌, ℕ, zero, suc, ◌+◌, ◌*◌, ◌-◌, ◌/◌, ◌%◌, ◌<◌, ◌≤◌, true, false, ltb, List, [], ◌∷◌, ◌++◌, length, get_or, take, drop, Some, Ok, refl, sym, ap, ◌∙◌, append_assoc, append-nil, arith, ⊎_elim, is_some}
use Rattle.std.specs.List.{list_all, AllByRecursion}
use Rattle.std.specs.Cmp.Derive.{both_true}
use Rattle.std.specs.Str.{bytes_eq}
use Rattle.std.proofs.lemmas.Bool.{and_from, le-leb, lt-ltb, le-ltb, cases_lt, ne_eqb, eq-eqb}
use Rattle.std.proofs.lemmas.Bool.Decides.{nat_tests}
use Rattle.std.proofs.lemmas.List.{length-append, take-append-drop, length-take}
use Rattle.std.proofs.lemmas.List.Concat.{flat_map-cons}
use Rattle.b67_io.specs.Line.{ended}
use Rattle.b67_model_text.specs.Cards.{cards}
use Rattle.b67_model_text.specs.Command.{is_printable}
use Rattle.b67_model_text.specs.Hex.{hex_digit, digit_bytes, hex_char, hex_text}
use Rattle.b67_card.proofs.Lines.{cards_from}
use Rattle.b67_card.proofs.OwnLines.{IsWholeLine, card_at, card_of_line}
use Rattle.b67_image.specs.Text.{first_card, last_card, card_lines, image_text_of, found_from, is_digits, bytes_from, bytes_of}
use Rattle.b67_image.specs.Punching.{first_cards}
use Rattle.b67_image.proofs.Chunks.{cards_part}

-- ---- digits

-- bytes
abbrev pub IsByte : ℕ → Type 0
IsByte b = b < 256

-- a character of a digit
record IsDigit (d c : ℕ) : Type 0 where
  pub printable : is_printable c ≡ true
  pub digit : hex_digit c ≡ Some d
  pub low : 47 < c
  pub other : c ≢ 63

digit_char : (d : ℕ) → d < 16 → IsDigit d (hex_char d)
digit_char d lt = ⊎_elim (decimal d) (letter d lt) (cases_lt d 10)
  where
    decimal : (d : ℕ) → d < 10 → IsDigit d (hex_char d)
    decimal d lt =
        let small : ltb d 10 ≡ true = lt-ltb d 10 lt in
        rw small (record { printable = both_true (le-leb 32 (d + 48) (omega arith)) (le-leb (d + 48) 126 (omega arith)); digit = grind (arith, nat_tests); low = omega arith; other = λ e. omega arith })

    letter : (d : ℕ) → d < 16 → 10 ≤ d → IsDigit d (hex_char d)
    letter d lt le =
        let large : ltb d 10 ≡ false = le-ltb d 10 le in
        rw large (record { printable = both_true (le-leb 32 (d + 87) (omega arith)) (le-leb (d + 87) 126 (omega arith)); digit = grind (arith, nat_tests); low = omega arith; other = λ e. omega arith })

-- the text of bytes
record IsHexText (t bytes : List ℕ) : Type 0 where
  pub printable : list_all is_printable t ≡ true
  pub digits : list_all (λ b. is_some (hex_digit b)) t ≡ true
  pub back : digit_bytes t ≡ bytes
  pub long : length t ≡ 2 * length bytes
  pub above : (i : ℕ) → i < length t → 47 < get_or t i 0
  pub other : (i : ℕ) → get_or t i 0 ≢ 63

hex_of : (bytes : List ℕ) → AllByRecursion IsByte bytes → IsHexText (hex_text bytes) bytes
hex_of [] all = record { printable = refl; digits = refl; back = refl; long = refl; above = λ i lt. absurd (omega arith); other = λ i e. absurd cc }
hex_of (b ∷ bytes) all =
    let lt : b < 256 = all.0 in
    let high = digit_char (b / 16) (omega arith) in
    let low = digit_char (b % 16) (omega arith) in
    let more = hex_of bytes all.1 in
    let whole : 16 * (b / 16) + b % 16 ≡ b = omega arith in
    rw (flat_map-cons (λ (n : ℕ). hex_char (n / 16) ∷ hex_char (n % 16) ∷ []) b bytes) (record {
      printable = and_from (is_printable (hex_char (b / 16))) (list_all is_printable (hex_char (b % 16) ∷ hex_text bytes)) high.printable (and_from (is_printable (hex_char (b % 16))) (list_all is_printable (hex_text bytes)) low.printable more.printable);
      digits = and_from (is_some (hex_digit (hex_char (b / 16)))) (list_all (λ c. is_some (hex_digit c)) (hex_char (b % 16) ∷ hex_text bytes)) (ap is_some high.digit) (and_from (is_some (hex_digit (hex_char (b % 16)))) (list_all (λ c. is_some (hex_digit c)) (hex_text bytes)) (ap is_some low.digit) more.digits);
      back = rw (high.digit, low.digit, whole) (ap (λ (xs : List ℕ). b ∷ xs) more.back);
      long = omega (arith, more.long);
      above = above_of (hex_char (b / 16)) (hex_char (b % 16)) (hex_text bytes) high.low low.low more.above;
      other = other_of (hex_char (b / 16)) (hex_char (b % 16)) (hex_text bytes) high.other low.other more.other;
    })
  where
    above_of : (x y : ℕ) (t : List ℕ) → 47 < x → 47 < y → ((i : ℕ) → i < length t → 47 < get_or t i 0) → (i : ℕ) → i < suc (suc (length t)) → 47 < get_or (x ∷ y ∷ t) i 0
    above_of x y t p q r zero lt = p
    above_of x y t p q r (suc zero) lt = q
    above_of x y t p q r (suc (suc i)) lt = r i (omega arith)

    other_of : (x y : ℕ) (t : List ℕ) → x ≢ 63 → y ≢ 63 → ((i : ℕ) → get_or t i 0 ≢ 63) → (i : ℕ) → get_or (x ∷ y ∷ t) i 0 ≢ 63
    other_of x y t p q r zero = p
    other_of x y t p q r (suc zero) = q
    other_of x y t p q r (suc (suc i)) = r i

-- ---- a card of digits

all_take : (n : ℕ) (xs : List ℕ) → AllByRecursion IsByte xs → AllByRecursion IsByte (take n xs)
all_take zero xs all = tt
all_take (suc n) [] all = tt
all_take (suc n) (x ∷ xs) all = (all.0, all_take n xs all.1)

all_drop : (n : ℕ) (xs : List ℕ) → AllByRecursion IsByte xs → AllByRecursion IsByte (drop n xs)
all_drop zero xs all = all
all_drop (suc n) [] all = tt
all_drop (suc n) (x ∷ xs) all = all_drop n xs all.1

hex_line : (bytes : List ℕ) → AllByRecursion IsByte bytes → 0 < length bytes → IsWholeLine (hex_text bytes)
hex_line bytes all some =
    let h = hex_of bytes all in
    let long : length (hex_text bytes) ≡ 2 * length bytes = h.long in
    record { some = omega (arith, long); printable = h.printable; last = omega (arith, h.above (length (hex_text bytes) - 1) (omega (arith, long))) }

not_end : (t : List ℕ) → get_or t 0 0 ≢ 63 → bytes_eq t last_card ≡ false
not_end [] ne = refl
not_end (x ∷ xs) ne = rw (ne_eqb x 63 ne) refl

are_digits : (bytes : List ℕ) → AllByRecursion IsByte bytes → length bytes ≤ 32 → is_digits (hex_text bytes) ≡ true
are_digits bytes all few =
    let h = hex_of bytes all in
    let long : length (hex_text bytes) ≡ 2 * length bytes = h.long in
    both_true (le-leb (length (hex_text bytes)) 64 (omega (arith, long))) (both_true (eq-eqb (length (hex_text bytes) % 2) 0 (omega (arith, long))) h.digits)

end_line : IsWholeLine last_card
end_line = record { some = omega arith; printable = refl; last = omega arith }

first_is_line : IsWholeLine first_card
first_is_line = record { some = omega arith; printable = refl; last = omega arith }

-- ---- all cards

gathered : (n before number : ℕ) (bytes : List ℕ) → AllByRecursion IsByte bytes → length bytes ≤ 32 * n → 32 * n < length bytes + 32 → bytes_from before (cards_from number (first_cards bytes n ++ ended last_card)) ≡ Ok bytes
unfolding bytes_from
gathered zero before number [] all le lt = ap (λ (t : List ℕ). bytes_from before (cards_from number t)) (sym (append-nil (ended last_card))) ∙ ap (bytes_from before) (card_of_line number last_card [] end_line)
gathered zero before number (b ∷ more) all le lt = absurd (omega arith)
gathered (suc n) before number bytes all le lt =
    let p : List ℕ = take 32 bytes in
    let q : List ℕ = drop 32 bytes in
    let some : 0 < length p = omega (arith, length-take 32 bytes) in
    let few : length p ≤ 32 = omega (arith, length-take 32 bytes) in
    let whole : p ++ q ≡ bytes = take-append-drop 32 bytes in
    let back : length q ≡ length bytes - length p = omega (arith, ap length whole, length-append p q) in
    let h = hex_of p (all_take 32 bytes all) in
    let e : suc n ≡ 1 + n = omega arith in
    let parts : first_cards bytes (suc n) ++ ended last_card ≡ ended (hex_text p) ++ (first_cards q n ++ ended last_card) =
    ap (λ (k : ℕ). first_cards bytes k ++ ended last_card) e
    ∙ ap (λ (t : List ℕ). t ++ ended last_card) (cards_part bytes 1 n ∙ ap (λ (t : List ℕ). t ++ first_cards q n) (append-nil (ended (hex_text p))))
    ∙ append_assoc (ended (hex_text p)) (first_cards q n) (ended last_card) in
    let rest : bytes_from number (cards_from (number + 1) (first_cards q n ++ ended last_card)) ≡ Ok q = gathered n number (number + 1) q (all_drop 32 bytes all) (omega (arith, back, length-take 32 bytes)) (omega (arith, back, length-take 32 bytes)) in
    ap (λ (t : List ℕ). bytes_from before (cards_from number t)) parts
    ∙ ap (bytes_from before) (card_of_line number (hex_text p) (first_cards q n ++ ended last_card) (hex_line p (all_take 32 bytes all) some))
    ∙ rw (not_end (hex_text p) (h.other 0), are_digits p (all_take 32 bytes all) few, rest, h.back, whole) refl

-- the bytes of a text of an image
pub text_again : (bytes : List ℕ) → AllByRecursion IsByte bytes → bytes_of (image_text_of bytes) ≡ Ok (1, bytes)
unfolding found_from
text_again bytes all =
    let rest : List ℕ = card_lines bytes ++ ended last_card in
    let cards_are : cards (image_text_of bytes) ≡ card_at 1 first_card ∷ cards_from 2 rest = card_of_line 1 first_card rest first_is_line in
    rw cards_are (rw (gathered ((length bytes + 31) / 32) 1 2 bytes all (omega arith) (omega arith)) refl)
