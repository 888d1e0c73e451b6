-- What one pass of an assembler makes of a segment's cards: their content, card by card, with the syllable and the entries
-- that it has come to.
use Rattle.std.specs.Prelude.{ℕ, ◌==◌, ◌&&◌, not, nat_lt, List, [], ◌∷◌, length, Option, Some, None, Result, Ok, Err}
use Rattle.std.specs.List.{list_any}
use Rattle.b67_model.specs.declared.operators.Op.{Op}
use Rattle.b67_model_text.specs.declared.assembly.Statement as statement
use Rattle.b67_model_text.specs.declared.assembly.Statement.TheVariants as statements
use Rattle.b67_model_text.specs.declared.assembly.Line.{Line}
use Rattle.b67_model_text.specs.Answers.{Answer, ◌>>=◌, ◌>>◌, needs}
use Rattle.b67_model_text.specs.Deck.{Refusal, of_card}
use Rattle.b67_model_text.specs.Asm.{Scope, SegmentContent, after_operator, card_operator, misplaced, inserted_in_order}
use Rattle.b67_model.specs.declared.limits.TheConstants.{MOST_ENTRIES}

-- what a segment's card adds: an operator, or the syllable of an entry
pub data Added : Type 0 where
  AddedOperator : Op → Added
  AddedEntry : ℕ → Added

-- an entry at a label, behind those in this list
abbrev pub entry_added : List ℕ → Option ℕ → Answer Added
entry_added entries None = Err 5
entry_added entries (Some n) = needs (not (n == 0) && not (list_any (λ m. m == n) entries) && nat_lt (length entries) MOST_ENTRIES) 10 >> Ok (AddedEntry n)

-- what a segment's card adds that stands at syllable n behind the cards of these entries
abbrev pub added_by : Scope → (n : ℕ) (entries : List ℕ) → statement.Statement → Answer Added
added_by x n entries (statements.Operator label sketch) = card_operator x n label sketch >>= λ op. Ok (AddedOperator op)
added_by x n entries (statements.Entry label) = entry_added entries (x.labels label)
added_by x n entries other = Err (misplaced x.names other)

abbrev pub syllable_behind : ℕ → Added → ℕ
syllable_behind n (AddedOperator op) = after_operator n op
syllable_behind n (AddedEntry m) = n

abbrev pub entries_behind : List ℕ → Added → List ℕ
entries_behind entries (AddedOperator op) = entries
entries_behind entries (AddedEntry n) = inserted_in_order n entries

abbrev pub with_added : Added → SegmentContent → SegmentContent
with_added (AddedOperator op) content = record { operators = op ∷ content.operators; entries = content.entries }
with_added (AddedEntry n) content = content

-- the content of a segment's cards from syllable n on, behind these entries
abbrev pub pass_content : Scope → (n : ℕ) (entries : List ℕ) → List Line → Result SegmentContent Refusal
pass_content x n entries [] = Ok (record { operators = []; entries = entries })
pass_content x n entries (l ∷ more) = do
  added ← of_card l.number (l.says >>= added_by x n entries)
  rest ← pass_content x (syllable_behind n added) (entries_behind entries added) more
  Ok (with_added added rest)
