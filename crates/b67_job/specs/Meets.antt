-- What calls of this crate answer.
use Rattle.std.specs.Prelude.{◌≡◌, ℕ, ◌+◌, List, map, Option, Result, Ok, Err}
use Rattle.b67_io.specs.Told.{GaveAll}
use Rattle.b67_io.specs.Causes.{Rose}
use Rattle.b67_codefile.specs.Meaning.{program_of}
use Rattle.b67_model_text.specs.Deck.{limit}
use Rattle.b67_card.specs.Reading.{GaveFirst}
use Rattle.b67_job.specs.declared.admit_fault.AdmitFault.{AdmitFault}
use Rattle.b67_job.specs.declared.admit_fault.AdmitFault.TheVariants.{Refused, SourceFault, Memory}
use Rattle.b67_card.specs.declared.fault.DeckFault.{DeckFault}
use Rattle.b67_card.specs.declared.fault.DeckFault.TheVariants as deck
use Rattle.b67_job.specs.declared.refusal.Refusal.TheVariants as refusal
use Rattle.b67_job.specs.declared.programs.Loaded.{Loaded}
use Rattle.b67_job.specs.Admitting.{Admission, Prepared, deck_prepared}

-- the answer is this one, seen so, unless memory ran out
abbrev pub MeetsAnswer : {X A : Type 0} → (X → A) → Result X AdmitFault → Admission A → Type 0
MeetsAnswer view (Ok x) answer = answer ≡ Ok (view x)
MeetsAnswer view (Err (Refused r)) answer = answer ≡ Err r
MeetsAnswer view (Err SourceFault) answer = ⊥
MeetsAnswer view (Err Memory) answer = Unit {0}

-- a deck and its programs, without the tags of their words
abbrev pub prepared_of : Loaded → Prepared
prepared_of loaded = (loaded.deck, map program_of loaded.programs)

-- Of the text that the source gave to its end, these are the deck and its programs. A refusal is by the bytes up to the
-- first one past the limit, where reading stops. The source failed only where its count of faults rose. Want of memory
-- is free.
abbrev pub LoadsDeck : {S : Type 0} → (S → Option (List ℕ)) → (S → ℕ) → S → S → Result Loaded AdmitFault → Type 0
LoadsDeck left faults old new (Ok loaded) = (text : List ℕ) × GaveAll left old new text × (deck_prepared text ≡ Ok (prepared_of loaded))
LoadsDeck left faults old new (Err (Refused r)) = (text : List ℕ) × GaveFirst left (limit + 1) old new text × (deck_prepared text ≡ Err r)
LoadsDeck left faults old new (Err SourceFault) = Rose faults old new
LoadsDeck left faults old new (Err Memory) = Unit {0}

-- a deck's fault, as it is handed on
abbrev pub of_deck_fault : DeckFault → AdmitFault
of_deck_fault (deck.Card card reason) = Refused (refusal.Deck card reason)
of_deck_fault deck.SourceFault = SourceFault
of_deck_fault deck.Memory = Memory
