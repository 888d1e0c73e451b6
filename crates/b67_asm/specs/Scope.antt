-- What the operators of a segment may name, as the assembler holds it.
use Rattle.std.specs.Prelude.{◌≡◌, ◌&&◌, ℕ, not, Bool, true, false, List, [], ◌∷◌, slice_get, Option, Some, None, is_some, Result, Ok, Err}
use Rattle.std.specs.List.{list_any}
use Rattle.b67_model.specs.declared.operators.Op.{Op}
use Rattle.b67_model_text.specs.declared.assembly.Line.{Line}
use Rattle.b67_model_text.specs.declared.assembly.Sketch.{Sketch}
use Rattle.b67_model_text.specs.declared.assembly.Statement as statement
use Rattle.b67_model_text.specs.declared.assembly.Statement.TheVariants as statements
use Rattle.b67_model_text.specs.Answers.{Answer, ◌>>=◌}
use Rattle.b67_model_text.specs.Asm as asm
use Rattle.b67_asm.specs.Names.{name_entries, label_entries}
use Rattle.b67_asm.specs.declared.names.Labels.{Labels}
use Rattle.b67_asm.specs.declared.names.Names.{Names}
use Rattle.b67_asm.specs.declared.operator.Scope.{Scope}

-- a label's syllable, where the segment is there
abbrev pub label_syllable : Option Labels → List ℕ → Option ℕ
label_syllable None label = None
label_syllable (Some labels) label = asm.meaning (label_entries labels.places.entries) label

-- an ENTRY card names a label, and it isn't at 0:0
abbrev pub is_entry_of : Option Labels → List ℕ → Bool
is_entry_of None label = false
is_entry_of (Some labels) label = is_some (asm.meaning (label_entries labels.entries.entries) label) && not (asm.is_place 0 (asm.meaning (label_entries labels.places.entries) label))

abbrev pub names_in : Names → asm.Names
names_in names = record {
  means = λ name. asm.meaning (name_entries names.meanings.entries) name;
  label = λ number label. label_syllable (slice_get names.segments.items number) label;
  entry = λ number label. is_entry_of (slice_get names.segments.items number) label;
}

abbrev pub scope_of : Scope → asm.Scope
scope_of x = record { names = names_in x.names.now; segments = x.segments; level = x.level; labels = λ label. asm.meaning (label_entries x.labels.now.entries) label }

-- the operator that fits or not, or the reason of 3 to 5
abbrev pub IsOperator : Result (Option Op) ℕ → asm.Scope → ℕ → Option (List ℕ) → Sketch → Type 0
IsOperator (Ok o) x n label sketch = asm.card_operator x n label sketch ≡ (asm.fitted n o >>= asm.entered x.names sketch)
IsOperator (Err r) x n label sketch = asm.card_operator x n label sketch ≡ Err r

-- what the operators of these cards may name
abbrev pub scope_at : asm.Names → ℕ → ℕ → List Line → asm.Scope
scope_at names segments level lines = record { names = names; segments = segments; level = level; labels = λ label. asm.meaning (asm.labels 0 lines) label }

-- these are the labels of a segment's own cards
pub record HoldsLabels (labels : Labels) (lines : List Line) : Type 0 where
  pub places : (q : List ℕ) → asm.meaning (label_entries labels.places.entries) q ≡ asm.meaning (asm.labels 0 lines) q
  pub entries : (q : List ℕ) → is_some (asm.meaning (label_entries labels.entries.entries) q) ≡ list_any (λ l. asm.names_entry q l.says) lines

-- these are the labels of all segments
abbrev pub HoldLabels : List Labels → List (List Line) → Type 0
HoldLabels [] [] = Unit {0}
HoldLabels [] (lines ∷ more) = ⊥
HoldLabels (labels ∷ rest) [] = ⊥
HoldLabels (labels ∷ rest) (lines ∷ more) = HoldsLabels labels lines × HoldLabels rest more

abbrev pub begins_segment : Answer statement.Statement → Bool
begins_segment (Ok (statements.Segment name level)) = true
begins_segment _ = false
