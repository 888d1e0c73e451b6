-- Texts of what a word holds, by tests of its parts.
use Rattle.std.proofs.Common.{◌≡◌, ◌≢◌, ℕ, ◌+◌, ◌*◌, ◌/◌, ◌%◌, ◌^◌, ◌<◌, true, false, List, ◌++◌, append_assoc, sym, ◌∙◌, ap, arith}
use Rattle.std.proofs.lemmas.Bool.{eq-eqb, ne_eqb}
use Rattle.b67_word.specs.Tagged.{Tagged, bits_at}
use Rattle.b67_layout_shown.specs.Reading.{is_set}
use Rattle.b67_layout_shown.specs.Shown.{Sight}
use Rattle.b67_dump.specs.Walk.{record_at, number_of_place, place_of_number}

-- a bit that was read
pub bit_set : (w : Tagged) (n b : ℕ) → b ≡ bits_at w n 1 → b ≡ 1 → is_set w n ≡ true
bit_set w n b e one = eq-eqb (bits_at w n 1) 1 (sym e ∙ one)

pub bit_clear : (w : Tagged) (n b : ℕ) → b ≡ bits_at w n 1 → b ≢ 1 → is_set w n ≡ false
bit_clear w n b e other = ne_eqb (bits_at w n 1) 1 (λ one. other (e ∙ one))

-- a place is what its number says
pub place_back : (k : Sight) (job stack disp : ℕ) → disp < 2 ^ 16 → record_at k job (record { stack = stack; disp = disp }) ≡ record_at k job (place_of_number (number_of_place (record { stack = stack; disp = disp })))
place_back k job stack disp low = grind arith

-- ---- texts that are appended one after the other

pub two : (line a b : List ℕ) {l1 r : List ℕ} → r ≡ l1 ++ b → l1 ≡ line ++ a → r ≡ line ++ (a ++ b)
two line a b q p = q ∙ ap (λ t. t ++ b) p ∙ append_assoc line a b

pub three : (line a b c : List ℕ) {l1 l2 r : List ℕ} → r ≡ l2 ++ c → l2 ≡ l1 ++ b → l1 ≡ line ++ a → r ≡ line ++ (a ++ (b ++ c))
three line a b c s q p = two line (a ++ b) c s (two line a b q p) ∙ ap (λ t. line ++ t) (append_assoc a b c)

pub four : (line a b c d : List ℕ) {l1 l2 l3 r : List ℕ} → r ≡ l3 ++ d → l3 ≡ l2 ++ c → l2 ≡ l1 ++ b → l1 ≡ line ++ a → r ≡ line ++ (a ++ (b ++ (c ++ d)))
four line a b c d t s q p = two line (a ++ (b ++ c)) d t (three line a b c s q p) ∙ ap (λ t. line ++ t) (append_assoc a (b ++ c) d ∙ ap (λ t. a ++ t) (append_assoc b c d))

pub five : (line a b c d e : List ℕ) {l1 l2 l3 l4 r : List ℕ} → r ≡ l4 ++ e → l4 ≡ l3 ++ d → l3 ≡ l2 ++ c → l2 ≡ l1 ++ b → l1 ≡ line ++ a → r ≡ line ++ (a ++ (b ++ (c ++ (d ++ e))))
five line a b c d e u t s q p = grind (arith, append_assoc)

-- a front that is known
pub opened : (t : List ℕ) {z l r : List ℕ} → r ≡ l ++ t → l ≡ z → r ≡ z ++ t
opened t e f = e ∙ ap (λ l. l ++ t) f
