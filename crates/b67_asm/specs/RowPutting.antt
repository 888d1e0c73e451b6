-- What is known while a data row is written.
use Rattle.std.specs.Prelude.{◌≡◌, ◌≤◌, ◌<◌, ◌+◌, not, nat_le, map, Option, ℕ, List, ◌++◌, length, Result, Ok, Err, ⊤}
use Rattle.std.specs.List.{AllByRecursion, list_any}
use Rattle.b67_word.specs.Tagged.{Tagged, contents}
use Rattle.b67_codefile.specs.Spelling.{HasTag}
use Rattle.b67_model_text.specs.declared.assembly.Line.{Line}
use Rattle.b67_model_text.specs.Answers.{Answer, ◌>>=◌, ◌>>◌, needs}
use Rattle.b67_model_text.specs.Deck.{Refusal}
use Rattle.b67_model_text.specs.Asm as asm
use Rattle.b67_asm.specs.declared.fault.AsmFault.{AsmFault}
use Rattle.b67_asm.specs.declared.fault.AsmFault.TheVariants as faults
use Rattle.b67_asm.specs.declared.fault.Refused.{Refused}
use Rattle.b67_asm.specs.declared.fault.Refused.TheVariants.{Reason, Memory}
use Rattle.b67_model.specs.declared.limits.TheConstants.{MOST_ARRAY}

-- the words of a card are appended, or the card is refused
abbrev pub WordsPut : Result ⊤ Refused → Answer (List ℕ) → List Tagged → List Tagged → Type 0
WordsPut (Ok done) answer old new = (words : List ℕ) × (answer ≡ Ok words) × (contents new ≡ contents old ++ words) × (AllByRecursion (HasTag 0) old → AllByRecursion (HasTag 0) new) × (length new ≤ MOST_ARRAY) × (length old < length new)
WordsPut (Err (Reason r)) answer old new = answer ≡ Err r
WordsPut (Err Memory) answer old new = Unit {0}

-- what a card of these values says
abbrev pub checked_values : ℕ → List (Option ℕ) → Answer (List ℕ)
checked_values n values = needs (not (list_any (λ v. not (asm.is_word v)) values)) 3 >> (needs (nat_le (n + length values) MOST_ARRAY) 7 >> Ok (map asm.value_in values))

abbrev pub line_words : asm.Names → ℕ → Line → Answer (List ℕ)
line_words names n l = l.says >>= asm.row_values names n

abbrev pub words_behind : List ℕ → Result (List ℕ) Refusal → Result (List ℕ) Refusal
words_behind out (Ok words) = Ok (out ++ words)
words_behind out (Err refusal) = Err refusal

-- all words are there, or this is the first refused card
abbrev pub RowPut : Result (List Tagged) AsmFault → Result (List ℕ) Refusal → ℕ → Type 0
RowPut (Ok words) answer count = (answer ≡ Ok (contents words)) × AllByRecursion (HasTag 0) words × (length words ≤ MOST_ARRAY) × (count ≤ length words)
RowPut (Err (faults.Card card reason)) answer count = answer ≡ Err (record { card = card; reason = reason })
RowPut (Err faults.Memory) answer count = Unit {0}
