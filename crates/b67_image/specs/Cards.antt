-- What is found among the cards of a text.
use Rattle.std.specs.Prelude.{◌≡◌, ℕ, ◌+◌, ◌≤◌, not, List, length, map, filter, Result, Ok, Err}
use Rattle.std.specs.List.{enumerate_from}
use Rattle.std.specs.Str.Lines.{lines}
use Rattle.b67_model_text.specs.declared.card.Card.{Card}
use Rattle.b67_model_text.specs.Cards.{cards, card_of, is_empty}
use Rattle.b67_model_text.specs.Deck.{Refusal}
use Rattle.b67_image.specs.Text.{refused_card, found_from, bytes_from}
use Rattle.b67_image.specs.declared.cards.Begun.{Begun}
use Rattle.b67_image.specs.declared.cards.Spelled.{Spelled}
use Rattle.b67_image.specs.declared.fault.ImageFault.{ImageFault}
use Rattle.b67_image.specs.declared.fault.ImageFault.TheVariants as fault

-- the cards of a text whose first line has this number
abbrev pub cards_after : ℕ → List ℕ → List Card
cards_after n text = filter (λ c. not (is_empty c.text)) (map card_of (enumerate_from n (lines text)))

-- the first card of the image is found, or there is none
abbrev pub IsFound : Result Begun ℕ → List ℕ → Type 0
IsFound (Ok b) text = (found_from 0 (cards text) ≡ Ok (b.card, cards_after (b.card + 1) b.rest.now)) × (b.card + length b.rest.now ≤ length text)
IsFound (Err last) text = found_from 0 (cards text) ≡ refused_card last 1

-- the bytes are those of the cards, or this is the refusal
abbrev pub IsGathered : Result (List ℕ) ImageFault → ℕ → List ℕ → Type 0
IsGathered (Ok bytes) card text = bytes_from card (cards_after (card + 1) text) ≡ Ok bytes
IsGathered (Err (fault.Card n r)) card text = bytes_from card (cards_after (card + 1) text) ≡ refused_card n r
IsGathered (Err fault.SourceFault) card text = ⊥
IsGathered (Err fault.Memory) card text = Unit {0}

abbrev pub AreBytes : Result Spelled ImageFault → Result (ℕ × List ℕ) Refusal → Type 0
AreBytes (Ok s) told = told ≡ Ok (s.card, s.bytes)
AreBytes (Err (fault.Card n r)) told = told ≡ refused_card n r
AreBytes (Err fault.SourceFault) told = ⊥
AreBytes (Err fault.Memory) told = Unit {0}
