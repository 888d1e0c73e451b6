-- What is known while the code and the entries of a segment are written.
use Rattle.std.specs.Prelude.{◌≡◌, ◌≤◌, ◌<◌, ◌+◌, ◌*◌, ℕ, List, [], ◌∷◌, ◌++◌, map, length, Result, Ok, Err, ⊤, if◌then◌else◌}
use Rattle.std.specs.List.{AllByRecursion}
use Rattle.b67_word.specs.Tagged.{Tagged, contents}
use Rattle.b67_codefile.specs.Spelling.{HasTag}
use Rattle.b67_model.specs.declared.operators.Op.{Op}
use Rattle.b67_model_text.specs.declared.assembly.Line.{Line}
use Rattle.b67_model_text.specs.declared.assembly.Statement as statement
use Rattle.b67_model_text.specs.declared.assembly.Statement.TheVariants as statements
use Rattle.b67_model_text.specs.Answers.{Answer, ◌>>=◌}
use Rattle.b67_model_text.specs.Deck.{Refusal}
use Rattle.b67_model_text.specs.Encoding.{laid_one, laid, filling, packed_words}
use Rattle.b67_model_text.specs.Asm as asm
use Rattle.b67_model_text.specs.Pass as pass
use Rattle.b67_asm.specs.declared.fault.AsmFault.{AsmFault}
use Rattle.b67_asm.specs.declared.fault.AsmFault.TheVariants as faults
use Rattle.b67_asm.specs.declared.fault.Refused.{Refused}
use Rattle.b67_asm.specs.declared.fault.Refused.TheVariants.{Reason, Memory}
use Rattle.b67_asm.specs.declared.segment.Coded.{Coded}
use Rattle.b67_model.specs.declared.limits.TheConstants.{MOST_SEGMENT}

-- the operator is written behind the syllables, or the card is refused
abbrev pub OperatorPut : Result ⊤ Refused → Answer Op → List ℕ → List ℕ → Type 0
OperatorPut (Ok done) answer old new = (op : Op) × (answer ≡ Ok op) × (new ≡ old ++ laid_one (length old) op) × (length new ≤ 6 * MOST_SEGMENT) × (length old < length new)
OperatorPut (Err (Reason r)) answer old new = answer ≡ Err r
OperatorPut (Err Memory) answer old new = Unit {0}

-- the entry is put among the others, or the card is refused
abbrev pub EntryPut : Result ⊤ Refused → Answer pass.Added → List ℕ → List ℕ → Type 0
EntryPut (Ok done) answer old new = (n : ℕ) × (answer ≡ Ok (pass.AddedEntry n)) × (new ≡ asm.inserted_in_order n old)
EntryPut (Err (Reason r)) answer old new = answer ≡ Err r
EntryPut (Err Memory) answer old new = Unit {0}

-- the syllables that a card adds from syllable n on
abbrev pub laid_added : ℕ → pass.Added → List ℕ
laid_added n (pass.AddedOperator op) = laid_one n op
laid_added n (pass.AddedEntry m) = []

-- the least that a card adds to the code that it is written to
abbrev pub least : statement.Statement → ℕ
least (statements.Entry label) = 0
least _ = 1

-- what a card adds is written, or it is refused
abbrev pub AddedPut : Result ⊤ Refused → Answer pass.Added → statement.Statement → (old new : List ℕ) (entries entries' : List ℕ) → Type 0
AddedPut (Ok done) answer s old new entries entries' = (added : pass.Added) × (answer ≡ Ok added) × (new ≡ old ++ laid_added (length old) added) × (entries' ≡ pass.entries_behind entries added) × (length new ≤ 6 * MOST_SEGMENT) × (length old + least s ≤ length new)
AddedPut (Err (Reason r)) answer s old new entries entries' = answer ≡ Err r
AddedPut (Err Memory) answer s old new entries entries' = Unit {0}

abbrev pub line_added : asm.Scope → ℕ → List ℕ → Line → Answer pass.Added
line_added x n entries l = l.says >>= pass.added_by x n entries

abbrev pub code_weight : Line → ℕ
code_weight l = if asm.is_code l then 1 else 0

-- how many cards a segment gets beside its ENTRY cards
abbrev pub code_count : List Line → ℕ
code_count [] = 0
code_count (l ∷ more) = code_weight l + code_count more

abbrev pub LinePut : Result ⊤ Refused → Answer pass.Added → Line → (old new : List ℕ) (entries entries' : List ℕ) → Type 0
LinePut (Ok done) answer l old new entries entries' = (added : pass.Added) × (answer ≡ Ok added) × (new ≡ old ++ laid_added (length old) added) × (entries' ≡ pass.entries_behind entries added) × (length new ≤ 6 * MOST_SEGMENT) × (length old + code_weight l ≤ length new)
LinePut (Err (Reason r)) answer l old new entries entries' = answer ≡ Err r
LinePut (Err Memory) answer l old new entries entries' = Unit {0}

-- the syllables of a segment behind these, and its entries
abbrev pub put_behind : List ℕ → Result asm.SegmentContent Refusal → Result (List ℕ × List ℕ) Refusal
put_behind out (Ok content) = Ok (out ++ laid (length out) content.operators, content.entries)
put_behind out (Err refusal) = Err refusal

-- all cards are written, or this is the first refused card
abbrev pub ContentPut : Result ⊤ AsmFault → Result (List ℕ × List ℕ) Refusal → ℕ → (out entries : List ℕ) → Type 0
ContentPut (Ok done) answer count out entries = (answer ≡ Ok (out ++ filling (length out), entries)) × (length out ≤ 6 * MOST_SEGMENT) × (count ≤ length out)
ContentPut (Err (faults.Card card reason)) answer count out entries = answer ≡ Err (record { card = card; reason = reason })
ContentPut (Err faults.Memory) answer count out entries = Unit {0}

-- the code of these syllables
pub record IsSegmentCode (words : List Tagged) (syllables : List ℕ) (count : ℕ) : Type 0 where
  pub code : contents words ≡ packed_words syllables
  pub tags : AllByRecursion (HasTag 3) words
  pub few : length words ≤ MOST_SEGMENT
  pub some : 1 ≤ count → 1 ≤ length words

abbrev pub CodePut : Result Coded AsmFault → Result (List ℕ × List ℕ) Refusal → ℕ → Type 0
CodePut (Ok coded) answer count = (syllables : List ℕ) × (entries : List ℕ) × (answer ≡ Ok (syllables, entries)) × IsSegmentCode coded.code syllables count × (coded.entries ≡ map asm.syllable_bits entries)
CodePut (Err (faults.Card card reason)) answer count = answer ≡ Err (record { card = card; reason = reason })
CodePut (Err faults.Memory) answer count = Unit {0}
