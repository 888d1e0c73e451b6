-- A reader of decks refuses no card of an exercise.
use Rattle.std.specs.Prelude.{◌≡◌, ◌≤◌, ℕ, Ok}
use Rattle.b67_model_text.specs.declared.deck.Deck.{Deck}
use Rattle.b67_model_text.specs.Deck.{deck_of}
use Rattle.b67_gen.specs.Generated.{generated_text}

abbrev pub TextsHaveDecks : Type 0
TextsHaveDecks = (seed size : ℕ) → size ≤ 500 → (d : Deck) × (deck_of (generated_text seed size) ≡ Ok d)
