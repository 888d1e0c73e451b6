-- The cards of a text and their words, names and numbers.
use Rattle.std.specs.Prelude.{ℕ, zero, suc, ◌+◌, ◌-◌, ◌*◌, ◌==◌, ◌&&◌, ◌||◌, not, nat_lt, Bool, false, ℤ, pos, negsuc, List, [], ◌∷◌, map, filter, fold, take, length, Option, Some, None, if◌then◌else◌}
use Rattle.std.specs.List.{slice_split, enumerate_from, list_all, suffix_len}
use Rattle.std.specs.Option.{option_map}
use Rattle.std.specs.Char.{is_ascii_digit, is_ascii_uppercase}
use Rattle.std.specs.Str.Lines.{lines}
use Rattle.b67_model_text.specs.declared.card.Card.{Card}

abbrev pub is_space : ℕ → Bool
is_space b = b == 32

abbrev pub is_empty : {A : Type 0} → List A → Bool
is_empty xs = length xs == 0

-- the elements at the front that pass
abbrev pub leading : {A : Type 0} → (A → Bool) → List A → List A
leading passes [] = []
leading passes (x ∷ xs) = if passes x then x ∷ leading passes xs else []

-- without the spaces at the end
abbrev pub trimmed : List ℕ → List ℕ
trimmed text = take (length text - suffix_len is_space text) text

-- a line with its number
abbrev pub card_of : ℕ × List ℕ → Card
card_of line = record { number = line.0; text = trimmed line.1 }

-- each line has a number, from 1 on, and is a card where anything but spaces stands on it
abbrev pub cards : List ℕ → List Card
cards text = filter (λ c. not (is_empty c.text)) (map card_of (enumerate_from 1 (lines text)))

-- what stands between spaces
abbrev pub words_in_card : List ℕ → List (List ℕ)
words_in_card text = filter (λ w. not (is_empty w)) (slice_split is_space text)

-- digits without a leading zero
abbrev pub is_numeral : List ℕ → Bool
is_numeral [] = false
is_numeral (d ∷ more) = list_all is_ascii_digit (d ∷ more) && (nat_lt 48 d || is_empty more)

abbrev pub value : List ℕ → ℕ
value digits = fold (λ n d. 10 * n + (d - 48)) 0 digits

abbrev pub natural : List ℕ → Option ℕ
natural text = if is_numeral text then Some (value text) else None

-- what a minus sign stands before, which isn't 0
abbrev pub negative : Option ℕ → Option ℤ
negative None = None
negative (Some zero) = None
negative (Some (suc n)) = Some (negsuc n)

abbrev pub whole_number : List ℕ → Option ℤ
whole_number [] = None
whole_number (b ∷ more) = if b == 45 then negative (natural more) else option_map pos (natural (b ∷ more))

-- 1 to 16 letters and digits, a letter first
abbrev pub is_name : List ℕ → Bool
is_name [] = false
is_name (b ∷ more) = is_ascii_uppercase b && list_all (λ c. is_ascii_uppercase c || is_ascii_digit c) more && nat_lt (length more) 16

abbrev pub name_in : List ℕ → Option (List ℕ)
name_in word = if is_name word then Some word else None
