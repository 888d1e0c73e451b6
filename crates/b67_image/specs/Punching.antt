-- Bytes that go out as cards, 32 to a card, and 64 cards at once.
use Rattle.std.specs.Prelude.{◌≡◌, ℕ, ◌*◌, ◌/◌, List, ◌++◌, length, map, take, drop, Option, Result, Ok, Err, ⊤}
use Rattle.std.specs.List.{flat_map, range_with_len}
use Rattle.b67_word.specs.declared.faults.Failed.{Failed}
use Rattle.b67_io.specs.Line.{ended}
use Rattle.b67_io.specs.Told.{Took, TookPart}
use Rattle.b67_model_text.specs.Hex.{hex_text}

-- the first cards of bytes, so many, each on a line
abbrev pub first_cards : List ℕ → ℕ → List ℕ
first_cards bytes n = flat_map ended (map (λ i. hex_text (take 32 (drop (32 * i) bytes))) (range_with_len 0 n))

-- the cards of bytes that fill 64 of them, again and again, and the bytes behind those
unfoldable pub full_cards : List ℕ → List ℕ
full_cards bytes = first_cards bytes (64 * (length bytes / 2048))

unfoldable pub left_over : List ℕ → List ℕ
left_over bytes = drop (2048 * (length bytes / 2048)) bytes

-- of bytes, of which the first were still in hand, all that fill 64 cards were printed, and those left over are in hand; or a
-- proper prefix of these cards was printed
abbrev pub Punched : {K : Type 0} → (K → Option (List ℕ)) → K → K → (hand now : List ℕ) → Result ⊤ Failed → List ℕ → Type 0
Punched taken old new hand now (Ok done) bytes = (now ≡ left_over (hand ++ bytes)) × Took taken old new (full_cards (hand ++ bytes))
Punched taken old new hand now (Err failed) bytes = TookPart taken old new (full_cards (hand ++ bytes))
