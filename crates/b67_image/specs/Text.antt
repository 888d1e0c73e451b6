-- The cards of an image.
use Rattle.std.specs.Prelude.{ℕ, ◌+◌, ◌==◌, ◌&&◌, not, nat_lt, nat_le, count_by, Bool, List, [], ◌∷◌, ◌++◌, length, take, Result, Ok, Err, codes, if◌then◌else◌, ⊤}
use Rattle.std.specs.List.{flat_map}
use Rattle.std.specs.Str.{bytes_eq}
use Rattle.b67_io.specs.Line.{ended}
use Rattle.b67_model_text.specs.declared.card.Card.{Card}
use Rattle.b67_model_text.specs.Answers.{◌>>=◌, needs}
use Rattle.b67_model_text.specs.Cards.{cards}
use Rattle.b67_model_text.specs.Deck.{Refusal, of_card}
use Rattle.b67_model_text.specs.Hex.{is_hex, digit_bytes, hex_cards}
use Rattle.b67_model.specs.declared.limits.TheConstants.{IMAGE_BYTES}

-- the card that begins an image, and the one that ends it
abbrev pub first_card : List ℕ
first_card = codes "?IMAGE"

abbrev pub last_card : List ℕ
last_card = codes "?END"

-- bytes as hexadecimal cards, each on a line
abbrev pub card_lines : List ℕ → List ℕ
card_lines bytes = flat_map ended (hex_cards bytes)

-- the text of the bytes of an image
abbrev pub image_text_of : List ℕ → List ℕ
image_text_of bytes = ended first_card ++ (card_lines bytes ++ ended last_card)

-- ---- reading

-- a text may have so many bytes
abbrev pub limit : ℕ
limit = IMAGE_BYTES

abbrev pub refused_card : {A : Type 0} → ℕ → ℕ → Result A Refusal
refused_card card reason = Err (record { card = card; reason = reason })

-- the card with the first byte past the limit is refused before all else
abbrev pub within_image_limit : List ℕ → Result ⊤ Refusal
within_image_limit text = of_card (count_by (λ b. b == 10) (take limit text) + 1) (needs (not (nat_lt limit (length text))) 9)

-- the number of the first card of the image and the cards behind it; `last` is the number of the card before
unfoldable pub found_from : ℕ → List Card → Result (ℕ × List Card) Refusal
found_from last [] = refused_card last 1
found_from last (card ∷ more) = if bytes_eq card.text first_card then Ok (card.number, more) else found_from card.number more

-- a card of at most 64 digits
abbrev pub is_digits : List ℕ → Bool
is_digits text = nat_le (length text) 64 && is_hex text

-- the bytes of the cards up to the last card of the image
unfoldable pub bytes_from : ℕ → List Card → Result (List ℕ) Refusal
bytes_from last [] = refused_card last 3
bytes_from last (card ∷ more) =
    if bytes_eq card.text last_card then Ok []
    else (if is_digits card.text then (bytes_from card.number more >>= λ bytes. Ok (digit_bytes card.text ++ bytes)) else refused_card card.number 2)

-- the number of the first card of the image, and its bytes
abbrev pub bytes_of : List ℕ → Result (ℕ × List ℕ) Refusal
bytes_of text = do
  found ← found_from 0 (cards text)
  bytes ← bytes_from found.0 found.1
  Ok (found.0, bytes)
