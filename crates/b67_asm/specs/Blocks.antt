-- What is known while segments and data rows are put into a codefile.
use Rattle.std.specs.Prelude.{◌≡◌, ◌⊎◌, ◌≤◌, ◌+◌, ℕ, Bool, false, nat_lt, List, [], ◌∷◌, ◌++◌, map, length, Option, Result, Ok, Err, ⊤}
use Rattle.std.specs.List.{AllByRecursion, list_any}
use Rattle.b67_word.specs.Tagged.{Tagged, contents}
use Rattle.b67_model.specs.State as state
use Rattle.b67_model.specs.Program.{Program}
use Rattle.b67_codefile.specs.declared.file.Segment.{Segment}
use Rattle.b67_codefile.specs.declared.file.Codefile.{Codefile}
use Rattle.b67_codefile.specs.Spelling.{IsFileSegment, IsRow, IsWithin, HasNoEntries}
use Rattle.b67_codefile.specs.Meaning.{segment_of, program_of}
use Rattle.b67_model_text.specs.declared.assembly.Line.{Line}
use Rattle.b67_model_text.specs.Answers.{Answer, ◌>>=◌, ◌>>◌, needs, or_reason}
use Rattle.b67_model_text.specs.Deck.{Refusal}
use Rattle.b67_model_text.specs.Asm as asm
use Rattle.b67_asm.specs.declared.fault.AsmFault.{AsmFault}
use Rattle.b67_asm.specs.declared.fault.AsmFault.TheVariants.{Card, Memory}
use Rattle.b67_model.specs.declared.limits.TheConstants.{MOST_PARTS}

-- what is refused of a segment's card, and its level
abbrev pub segment_head : asm.Names → (s r : ℕ) (name : List ℕ) (level : Option ℕ) → List Line → Answer ℕ
segment_head names s r name level lines = do
  l ← or_reason level 3
  needs (asm.is_segment_number s (names.means name)) 4
  needs (list_any asm.is_code lines) 7
  needs (nat_lt (s + r) MOST_PARTS) 9
  Ok l

-- what is refused of a data row's card
abbrev pub row_head : asm.Names → (s r : ℕ) (name : List ℕ) → List Line → Answer ⊤
row_head names s r name lines = do
  needs (asm.is_row_number r (names.means name)) 4
  needs (list_any (λ l. asm.is_numbers l.kind) lines) 7
  needs (nat_lt (s + r) MOST_PARTS) 9

abbrev pub has_entry_card : List Line → Bool
has_entry_card lines = list_any (λ l. asm.says_entry l.says) lines

-- the segment of these own cards
abbrev pub SegmentPut : Result Segment AsmFault → Result asm.Part Refusal → List Line → Type 0
SegmentPut (Ok s) answer own = (answer ≡ Ok (asm.CodePart (segment_of s))) × IsFileSegment s × (has_entry_card own ≡ false → s.entries ≡ [])
SegmentPut (Err (Card card reason)) answer own = answer ≡ Err (record { card = card; reason = reason })
SegmentPut (Err Memory) answer own = Unit {0}

abbrev pub RowPartPut : Result (List Tagged) AsmFault → Result asm.Part Refusal → Type 0
RowPartPut (Ok words) answer = (answer ≡ Ok (asm.RowPart (contents words))) × IsRow words
RowPartPut (Err (Card card reason)) answer = answer ≡ Err (record { card = card; reason = reason })
RowPartPut (Err Memory) answer = Unit {0}

-- a codefile that grows
pub record Grows (f : Codefile) : Type 0 where
  pub version : (f.version ≡ 1) ⊎ (f.version ≡ 2)
  pub count : length f.segments + length f.rows ≤ MOST_PARTS
  pub segments : AllByRecursion IsFileSegment f.segments
  pub rows : AllByRecursion IsRow f.rows
  pub plain : f.version ≡ 1 → AllByRecursion HasNoEntries f.segments

-- a codefile with a program behind it
abbrev pub program_after : Codefile → Result Program Refusal → Result Program Refusal
program_after f (Ok p) = Ok (record { segments = map segment_of f.segments ++ p.segments; rows = map contents f.rows ++ p.rows })
program_after f (Err refusal) = Err refusal

-- a part is put behind a codefile
abbrev pub Extends : asm.Part → Codefile → Codefile → Type 0
Extends (asm.CodePart s) old new = (map segment_of new.segments ≡ map segment_of old.segments ++ s ∷ []) × (new.rows ≡ old.rows) × (length new.segments ≡ length old.segments + 1)
Extends (asm.RowPart words) old new = (map contents new.rows ≡ map contents old.rows ++ words ∷ []) × (new.segments ≡ old.segments) × (length new.rows ≡ length old.rows + 1)

abbrev pub PartPut : Result ⊤ AsmFault → Result asm.Part Refusal → Line → Codefile → Codefile → Type 0
PartPut (Ok done) answer l old new = (part : asm.Part) × (answer ≡ Ok part) × Extends part old new × Grows new × (new.version ≡ old.version) × (length new.segments ≡ asm.segments_behind (length old.segments) l.says) × (length new.rows ≡ asm.rows_behind (length old.rows) l.says)
PartPut (Err (Card card reason)) answer l old new = answer ≡ Err (record { card = card; reason = reason })
PartPut (Err Memory) answer l old new = Unit {0}

-- a segment is put behind a codefile's
abbrev pub SegmentAdded : Result ⊤ AsmFault → Result asm.Part Refusal → Codefile → Codefile → Type 0
SegmentAdded (Ok done) answer old new = (s : state.Segment) × (answer ≡ Ok (asm.CodePart s)) × (map segment_of new.segments ≡ map segment_of old.segments ++ s ∷ []) × (new.rows ≡ old.rows) × (length new.segments ≡ length old.segments + 1) × (new.version ≡ old.version) × Grows new
SegmentAdded (Err (Card card reason)) answer old new = answer ≡ Err (record { card = card; reason = reason })
SegmentAdded (Err Memory) answer old new = Unit {0}

-- a data row is put behind a codefile's
abbrev pub RowAdded : Result ⊤ AsmFault → Result asm.Part Refusal → Codefile → Codefile → Type 0
RowAdded (Ok done) answer old new = (words : List ℕ) × (answer ≡ Ok (asm.RowPart words)) × (map contents new.rows ≡ map contents old.rows ++ words ∷ []) × (new.segments ≡ old.segments) × (length new.rows ≡ length old.rows + 1) × (new.version ≡ old.version) × Grows new
RowAdded (Err (Card card reason)) answer old new = answer ≡ Err (record { card = card; reason = reason })
RowAdded (Err Memory) answer old new = Unit {0}

-- the program of lines whose names mean this, or the first refused card
abbrev pub with_names : asm.Names → List Line → Result Program Refusal
with_names names all = asm.no_strays names all >>= λ _. asm.program_from names (asm.segment_count 0 all) 0 0 all

abbrev pub assembled_lines : List Line → Result Program Refusal
assembled_lines all = with_names (asm.names_of all) all

abbrev pub IsChecked : Result ⊤ AsmFault → Result ⊤ Refusal → Type 0
IsChecked (Ok done) answer = answer ≡ Ok tt
IsChecked (Err (Card card reason)) answer = answer ≡ Err (record { card = card; reason = reason })
IsChecked (Err Memory) answer = ⊥

-- the codefile of this version that the cards denote, or the first refused card
abbrev pub IsAssembled : Result Codefile AsmFault → ℕ → Result Program Refusal → Type 0
IsAssembled (Ok f) version answer = (answer ≡ Ok (program_of f)) × (f.version ≡ version) × IsWithin f
IsAssembled (Err (Card card reason)) version answer = answer ≡ Err (record { card = card; reason = reason })
IsAssembled (Err Memory) version answer = Unit {0}
