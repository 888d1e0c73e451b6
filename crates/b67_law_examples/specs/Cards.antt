-- The answers to texts of cards.
use Rattle.std.specs.Prelude.{ℕ, List, Result, Err}
use Rattle.b67_model.specs.Program.{Program}
use Rattle.b67_model_text.specs.Cards.{cards}
use Rattle.b67_model_text.specs.Deck.{Refusal}
use Rattle.b67_model_text.specs.Asm.{assembled}

-- the program of a text of assembly cards
abbrev pub assembly : List ℕ → Result Program Refusal
assembly text = assembled (cards text)

-- a card with its reason
abbrev pub refused_with : {A : Type 0} → ℕ → ℕ → Result A Refusal
refused_with card reason = Err (record { card = card; reason = reason })
