-- What reading answers: the meaning of the text, or a fault.
use Rattle.std.specs.Prelude.{◌≡◌, List, Result, Ok, Err}
use Rattle.b67_model_text.specs.Deck.{Said, Refusal, ended_deck, deck}
use Rattle.b67_card.specs.Reader.{Knows}
use Rattle.b67_model_text.specs.Answers.{◌>>=◌}
use Rattle.b67_model_text.specs.declared.deck.Deck.{Deck}
use Rattle.b67_card.specs.declared.fault.DeckFault.{DeckFault}
use Rattle.b67_card.specs.declared.fault.DeckFault.TheVariants.{Card, SourceFault, Memory}
use Rattle.b67_card.specs.declared.deck.Reader.{Reader}

-- what the text means, or want of memory
abbrev pub IsMeaning : {A : Type 0} → Result A DeckFault → Result A Refusal → Type 0
IsMeaning (Ok a) meaning = meaning ≡ Ok a
IsMeaning (Err (Card card reason)) meaning = meaning ≡ Err (record { card = card; reason = reason })
IsMeaning (Err SourceFault) meaning = ⊥
IsMeaning (Err Memory) meaning = Unit {0}

-- the cards have been read, or this is the first that is refused
abbrev pub IsReader : Result Reader DeckFault → Result (List Said) Refusal → Type 0
IsReader (Ok r) sayings = (before : List Said) × Knows r before × (sayings ≡ ended_deck before)
IsReader (Err (Card card reason)) sayings = sayings ≡ Err (record { card = card; reason = reason })
IsReader (Err SourceFault) sayings = ⊥
IsReader (Err Memory) sayings = Unit {0}

-- the deck of these cards, the nearest first, unless they end inside a job
abbrev pub deck_behind : List Said → Result Deck Refusal
deck_behind before = ended_deck before >>= λ said. Ok (deck said)
