-- Assembly: the program that cards denote, or the first refused card with its lowest reason.
use Rattle.std.specs.Prelude.{ℕ, ◌+◌, ◌*◌, ◌/◌, ◌^◌, ◌==◌, ◌&&◌, not, nat_le, nat_lt, min, Bool, true, false, List, [], ◌∷◌, ◌++◌, fold, length, map, slice_get, unwrap_or, Option, Some, None, is_some, Result, Ok, Err, if◌then◌else◌, ⊤}
use Rattle.std.specs.List.{list_any, cons_option, filter_map}
use Rattle.std.specs.Option.{option_map, option_and_then}
use Rattle.std.specs.Str.{bytes_eq}
use Rattle.std.specs.Map.{lookup}
use Rattle.b67_word.specs.Couples.{couple_bits}
use Rattle.b67_model.specs.declared.operators.Op.{Op}
use Rattle.b67_model.specs.declared.operators.Op.TheVariants.{Valc, Namc, Mpcw, Brun, Brtr, Brfl}
use Rattle.b67_model.specs.Common.{place_at, has_bits, syllable_after, target_bits, Program}
use Rattle.b67_model.specs.State as state
use Rattle.b67_model_text.specs.declared.card.Card.{Card}
use Rattle.b67_model_text.specs.declared.assembly.Call as call
use Rattle.b67_model_text.specs.declared.assembly.Call.TheVariants as calls
use Rattle.b67_model_text.specs.declared.assembly.Branch as branch
use Rattle.b67_model_text.specs.declared.assembly.Branch.TheVariants as branches
use Rattle.b67_model_text.specs.declared.assembly.Sketch as sketch
use Rattle.b67_model_text.specs.declared.assembly.Sketch.TheVariants.{Whole, OutOfRange, Couple as Coupled, Row as RowCoupled, Jump, Pcw, PcwAt}
use Rattle.b67_model_text.specs.declared.assembly.Statement as statement
use Rattle.b67_model_text.specs.declared.assembly.Statement.TheVariants as statements
use Rattle.b67_model_text.specs.declared.assembly.Kind as kind
use Rattle.b67_model_text.specs.declared.assembly.Kind.TheVariants as kinds
use Rattle.b67_model_text.specs.declared.assembly.Named as named
use Rattle.b67_model_text.specs.declared.assembly.Named.TheVariants as means
use Rattle.b67_model_text.specs.declared.assembly.Line.{Line}
use Rattle.b67_model_text.specs.Answers.{Answer, ◌>>=◌, ◌>>◌, needs, or_reason}
use Rattle.b67_model_text.specs.Cards.{leading}
use Rattle.b67_model_text.specs.Deck.{Refusal, of_card}
use Rattle.b67_model_text.specs.Encoding.{laid_one, code_words}
use Rattle.b67_model_text.specs.Statements.{lines_of}
use Rattle.b67_model.specs.declared.limits.TheConstants.{MOST_PARTS, MOST_SEGMENT, MOST_ARRAY, MOST_ENTRIES}

-- ---- names

-- the name that a card defines, behind so many segments and data rows
abbrev pub definition : ℕ → ℕ → Answer statement.Statement → Option (List ℕ × named.Named)
definition s r (Ok (statements.Segment name level)) = Some (name, means.Segment s level)
definition s r (Ok (statements.Row name)) = Some (name, means.Row r)
definition s r _ = None

-- how many segments begin up to a card, if so many begin before it
abbrev pub segments_behind : ℕ → Answer statement.Statement → ℕ
segments_behind s (Ok (statements.Segment name level)) = s + 1
segments_behind s _ = s

-- how many data rows begin up to a card, if so many begin before it
abbrev pub rows_behind : ℕ → Answer statement.Statement → ℕ
rows_behind r (Ok (statements.Row name)) = r + 1
rows_behind r _ = r

-- the names that cards define, behind so many segments and data rows
abbrev pub definitions : ℕ → ℕ → List Line → List (List ℕ × named.Named)
definitions s r [] = []
definitions s r (l ∷ more) = cons_option (definition s r l.says) (definitions (segments_behind s l.says) (rows_behind r l.says) more)

-- how many segments begin up to the last of these cards, if so many begin before them
abbrev pub segment_count : ℕ → List Line → ℕ
segment_count s [] = s
segment_count s (l ∷ more) = segment_count (segments_behind s l.says) more

-- what a name or label means: its first definition
abbrev pub meaning : {A : Type 0} → List (List ℕ × A) → List ℕ → Option A
meaning rows name = lookup (bytes_eq name) rows

-- the syllable behind an operator that begins at syllable n
abbrev pub after_operator : ℕ → Op → ℕ
after_operator n op = n + length (laid_one n op)

-- ---- the labels and entries of a segment's cards

-- the syllable behind an operator that begins at syllable n
abbrev pub after_sketch : sketch.Sketch → ℕ → ℕ
after_sketch (Whole op) n = syllable_after op n
after_sketch OutOfRange n = n
after_sketch (Coupled c couple) n = n + 2
after_sketch (RowCoupled c row) n = n + 2
after_sketch (Jump b label) n = n + 3
after_sketch (Pcw segment) n = 6 * (n / 6 + 2)
after_sketch (PcwAt segment label) n = 6 * (n / 6 + 2)

abbrev pub label_at : ℕ → Answer statement.Statement → Option (List ℕ × ℕ)
label_at n (Ok (statements.Operator label sketch)) = option_map (λ text. (text, n)) label
label_at n _ = None

abbrev pub syllable_after_card : ℕ → Answer statement.Statement → ℕ
syllable_after_card n (Ok (statements.Operator label sketch)) = after_sketch sketch n
syllable_after_card n _ = n

-- a card, and the syllable at which it stands
pub record PlacedCard : Type 0 where
  pub card : Line
  pub syllable : ℕ

-- a segment's cards, each where it stands, the first at syllable n
abbrev pub placed_cards : ℕ → List Line → List PlacedCard
placed_cards n [] = []
placed_cards n (l ∷ more) = record { card = l; syllable = n } ∷ placed_cards (syllable_after_card n l.says) more

-- the labels of a segment's cards from syllable n on, with their places
abbrev pub labels : ℕ → List Line → List (List ℕ × ℕ)
labels n lines = filter_map (λ (c : PlacedCard). label_at c.syllable c.card.says) (placed_cards n lines)

-- an ENTRY card names this label
abbrev pub names_entry : List ℕ → Answer statement.Statement → Bool
names_entry label (Ok (statements.Entry other)) = bytes_eq label other
names_entry label _ = false

-- a label's first place is this one
abbrev pub is_place : ℕ → Option ℕ → Bool
is_place n None = false
is_place n (Some m) = m == n

-- a label that an ENTRY card of these cards names, refused or not, is an entry unless it stands at 0:0
abbrev pub is_entry : List Line → List ℕ → Bool
is_entry lines label = list_any (λ l. names_entry label l.says) lines && not (is_place 0 (meaning (labels 0 lines) label))

-- a card ends the segment or row before it, refused or not
abbrev pub is_head : kind.Kind → Bool
is_head kinds.Segment = true
is_head kinds.Row = true
is_head _ = false

abbrev pub own : List Line → List Line
own lines = leading (λ l. not (is_head l.kind)) lines

abbrev pub with_cards : Answer statement.Statement → List Line → List (List Line) → List (List Line)
with_cards (Ok (statements.Segment name level)) cards rest = cards ∷ rest
with_cards _ cards rest = rest

-- the own cards of each segment
abbrev pub cards_of_segments : List Line → List (List Line)
cards_of_segments [] = []
cards_of_segments (l ∷ more) = with_cards l.says (own more) (cards_of_segments more)

-- the own cards of a segment, by its number
abbrev pub cards_of : List Line → ℕ → List Line
cards_of lines number = unwrap_or (slice_get (cards_of_segments lines) number) []

-- ---- what cards may name

-- what each name means, and of each segment, by its number, the syllables and the entries among its labels
pub record Names : Type 0 where
  pub means : List ℕ → Option named.Named
  pub label : ℕ → List ℕ → Option ℕ
  pub entry : ℕ → List ℕ → Bool

abbrev pub names_of : List Line → Names
names_of lines = record {
  means = λ name. meaning (definitions 0 0 lines) name;
  label = λ number label. meaning (labels 0 (cards_of lines number)) label;
  entry = λ number label. is_entry (cards_of lines number) label;
}

-- what the operators of a segment may name
pub record Scope : Type 0 where
  pub names : Names
  pub segments : ℕ
  pub level : ℕ
  pub labels : List ℕ → Option ℕ

abbrev pub is_in_range : sketch.Sketch → Bool
is_in_range (Whole op) = has_bits op
is_in_range OutOfRange = false
is_in_range _ = true

abbrev pub is_first_label : (List ℕ → Option ℕ) → ℕ → Option (List ℕ) → Bool
is_first_label labels n None = true
is_first_label labels n (Some label) = is_place n (labels label)

-- a procedure's level is 31 at most
abbrev pub pcw_in : Option named.Named → Option ℕ
pcw_in (Some (means.Segment number (Some level))) = if nat_le level 31 then Some (level * 2 ^ 14 + (number + 2)) else None
pcw_in _ = None

-- a label is looked for in the segment named
abbrev pub label_in : Names → Option named.Named → List ℕ → Option ℕ
label_in names (Some (means.Segment number level)) label = names.label number label
label_in names _ label = None

abbrev pub entry_in : Names → Option named.Named → List ℕ → Bool
entry_in names (Some (means.Segment number level)) label = names.entry number label
entry_in names _ label = false

-- a place's 16 bits; none past the longest segment comes to code
abbrev pub syllable_bits : ℕ → ℕ
syllable_bits n = target_bits (place_at (min n (6 * MOST_SEGMENT)))

-- a procedure's bits, from the place of a label of it
abbrev pub pcw_at : Option ℕ → Option ℕ → Option ℕ
pcw_at (Some bits) (Some n) = Some (bits + syllable_bits n * 2 ^ 20)
pcw_at _ _ = None

abbrev pub row_in : Option named.Named → Option ℕ
row_in (Some (means.Row number)) = Some number
row_in _ = None

-- the names that a card uses are defined
abbrev pub has_names : Names → sketch.Sketch → Bool
has_names names (Pcw segment) = is_some (pcw_in (names.means segment))
has_names names (PcwAt segment label) = is_some (pcw_in (names.means segment)) && is_some (label_in names (names.means segment) label)
has_names names (RowCoupled c row) = is_some (row_in (names.means row))
has_names names _ = true

-- an MPCW's label is an entry of the segment named
abbrev pub has_entry : Names → sketch.Sketch → Bool
has_entry names (PcwAt segment label) = entry_in names (names.means segment) label
has_entry names _ = true

abbrev pub has_label : (List ℕ → Option ℕ) → sketch.Sketch → Bool
has_label labels (Jump b label) = is_some (labels label)
has_label labels _ = true

abbrev pub call_operator : call.Call → ℕ → Op
call_operator calls.Value bits = Valc bits
call_operator calls.Name bits = Namc bits

-- to a syllable's place; none past the longest segment comes to code
abbrev pub branch_to : branch.Branch → ℕ → Op
branch_to branches.Always n = Brun (place_at (min n (6 * MOST_SEGMENT)))
branch_to branches.IfTrue n = Brtr (place_at (min n (6 * MOST_SEGMENT)))
branch_to branches.IfFalse n = Brfl (place_at (min n (6 * MOST_SEGMENT)))

-- the operator, where its couple fits the split at the segment's level, 31 for levels above
abbrev pub denoted : Scope → sketch.Sketch → Option Op
denoted x (Whole op) = Some op
denoted x OutOfRange = None
denoted x (Coupled c couple) = option_map (call_operator c) (option_and_then (couple_bits (min x.level 31)) couple)
denoted x (RowCoupled c row) = option_map (call_operator c) (option_and_then (λ number. couple_bits (min x.level 31) (record { level = 1; disp = x.segments + number + 2 })) (row_in (x.names.means row)))
denoted x (Jump b label) = option_map (branch_to b) (x.labels label)
denoted x (Pcw segment) = option_map Mpcw (pcw_in (x.names.means segment))
denoted x (PcwAt segment label) = option_map Mpcw (pcw_at (pcw_in (x.names.means segment)) (label_in x.names (x.names.means segment) label))

-- 48 bits
abbrev pub is_word : Option ℕ → Bool
is_word None = false
is_word (Some v) = nat_lt v (2 ^ 48)

-- why a card is refused that stands in no block of its kind: a number, a name, or its place
abbrev pub misplaced : Names → statement.Statement → ℕ
misplaced names (statements.Values first more) = if list_any (λ v. not (is_word v)) (first ∷ more) then 3 else 6
misplaced names (statements.Operator label sketch) = if not (is_in_range sketch) then 3 else (if has_names names sketch then 6 else 5)
misplaced names _ = 6

-- an operator that begins at syllable n, in 8,191 words; a couple that doesn't fit has two syllables too
abbrev pub fitted : ℕ → Option Op → Answer Op
fitted n None = needs (nat_le (n + 2) (6 * MOST_SEGMENT)) 7 >> Err 8
fitted n (Some op) = needs (nat_le (after_operator n op) (6 * MOST_SEGMENT)) 7 >> Ok op

-- an operator, unless it is an MPCW whose label is no entry
abbrev pub entered : Names → sketch.Sketch → Op → Answer Op
entered names sketch op = needs (has_entry names sketch) 11 >> Ok op

-- the operator of a segment's card that begins at syllable n
abbrev pub card_operator : Scope → ℕ → Option (List ℕ) → sketch.Sketch → Answer Op
card_operator x n label sketch = do
  needs (is_in_range sketch) 3
  needs (is_first_label x.labels n label) 4
  needs (has_names x.names sketch && has_label x.labels sketch) 5
  op ← fitted n (denoted x sketch)
  entered x.names sketch op

-- the syllable of the label that an ENTRY card names
abbrev pub entry_syllable : Scope → Answer statement.Statement → Option ℕ
entry_syllable x (Ok (statements.Entry label)) = x.labels label
entry_syllable x _ = None

-- the syllables of the labels that ENTRY cards name, in card order
abbrev pub entry_syllables : Scope → List Line → List ℕ
entry_syllables x lines = filter_map (λ (l : Line). entry_syllable x l.says) lines

-- an entry at a label, besides those at these syllables: it isn't at 0:0, nor an entry already, nor number 256
abbrev pub check_entry : List ℕ → Option ℕ → Answer ⊤
check_entry others None = Err 5
check_entry others (Some n) = needs (not (n == 0) && not (list_any (λ m. m == n) others) && nat_lt (length others) MOST_ENTRIES) 10

-- what is refused of a segment's card that stands at syllable n, behind these cards
abbrev pub check_card : Scope → (before : List Line) (n : ℕ) → statement.Statement → Answer ⊤
check_card x before n (statements.Operator label sketch) = card_operator x n label sketch >>= λ op. Ok tt
check_card x before n (statements.Entry label) = check_entry (entry_syllables x before) (x.labels label)
check_card x before n other = Err (misplaced x.names other)

-- each card is checked where it stands, behind those before it, the nearest first
abbrev pub check_cards : Scope → (before : List Line) → List PlacedCard → Result ⊤ Refusal
check_cards x before [] = Ok tt
check_cards x before (c ∷ more) = of_card c.card.number (c.card.says >>= check_card x before c.syllable) >> check_cards x (c.card ∷ before) more

-- the operator that a card denotes
abbrev pub denoted_operator : Scope → Answer statement.Statement → Option Op
denoted_operator x (Ok (statements.Operator label sketch)) = denoted x sketch
denoted_operator x _ = None

-- the operators of cards, in card order
abbrev pub denoted_operators : Scope → List Line → List Op
denoted_operators x lines = filter_map (λ (l : Line). denoted_operator x l.says) lines

-- a number among numbers in order
abbrev pub inserted_in_order : ℕ → List ℕ → List ℕ
inserted_in_order n [] = n ∷ []
inserted_in_order n (m ∷ more) = if nat_lt n m then n ∷ m ∷ more else m ∷ inserted_in_order n more

-- numbers put in order
abbrev pub in_rising_order : List ℕ → List ℕ
in_rising_order numbers = fold (λ sorted n. inserted_in_order n sorted) [] numbers

-- the operators of a segment, in card order, and the syllables of its entries, in order
pub record SegmentContent : Type 0 where
  pub operators : List Op
  pub entries : List ℕ

-- the content of a segment's cards, or the first refused card
abbrev pub content_of : Scope → List Line → Result SegmentContent Refusal
content_of x lines = check_cards x [] (placed_cards 0 lines) >> Ok (record { operators = denoted_operators x lines; entries = in_rising_order (entry_syllables x lines) })

-- ---- the cards of a data row

abbrev pub value_in : Option ℕ → ℕ
value_in v = unwrap_or v 0

-- the words of a row's card behind n words
abbrev pub row_values : Names → ℕ → statement.Statement → Answer (List ℕ)
row_values names n (statements.Values first more) = do
  needs (not (list_any (λ v. not (is_word v)) (first ∷ more))) 3
  needs (nat_le (n + length (first ∷ more)) MOST_ARRAY) 7
  Ok (map value_in (first ∷ more))
row_values names n other = Err (misplaced names other)

abbrev pub row_words : Names → ℕ → List Line → Result (List ℕ) Refusal
row_words names n [] = Ok []
row_words names n (l ∷ more) = do
  words ← of_card l.number (l.says >>= row_values names n)
  rest ← row_words names (n + length words) more
  Ok (words ++ rest)

-- ---- segments and rows

abbrev pub is_numbers : kind.Kind → Bool
is_numbers kinds.Numbers = true
is_numbers _ = false

-- a card is an ENTRY by what it says, or by its first word where it says nothing
abbrev pub is_entry_card : kind.Kind → Answer statement.Statement → Bool
is_entry_card k (Ok (statements.Entry label)) = true
is_entry_card k (Ok other) = false
is_entry_card kinds.Entry (Err reason) = true
is_entry_card k (Err reason) = false

-- a card that a segment gets: neither a NUM nor an ENTRY
abbrev pub is_code : Line → Bool
is_code l = not (is_numbers l.kind) && not (is_entry_card l.kind l.says)

abbrev pub is_segment_number : ℕ → Option named.Named → Bool
is_segment_number s (Some (means.Segment number level)) = number == s
is_segment_number s _ = false

abbrev pub is_row_number : ℕ → Option named.Named → Bool
is_row_number r (Some (means.Row number)) = number == r
is_row_number r _ = false

pub data Part : Type 0 where
  CodePart : state.Segment → Part
  RowPart : List ℕ → Part

-- the segment that a card begins behind s segments and r rows, with its own cards
abbrev pub segment_part : Names → (segments s r number : ℕ) (name : List ℕ) (level : Option ℕ) → List Line → Result Part Refusal
segment_part names segments s r number name level lines = do
  l ← of_card number (or_reason level 3)
  of_card number (needs (is_segment_number s (names.means name)) 4)
  of_card number (needs (list_any is_code lines) 7)
  of_card number (needs (nat_lt (s + r) MOST_PARTS) 9)
  content ← content_of (record { names = names; segments = segments; level = l; labels = λ label. meaning (labels 0 lines) label }) lines
  Ok (CodePart (record { level = l; entries = map syllable_bits content.entries; code = code_words content.operators }))

abbrev pub row_part : Names → (s r number : ℕ) (name : List ℕ) → List Line → Result Part Refusal
row_part names s r number name lines = do
  of_card number (needs (is_row_number r (names.means name)) 4)
  of_card number (needs (list_any (λ l. is_numbers l.kind) lines) 7)
  of_card number (needs (nat_lt (s + r) MOST_PARTS) 9)
  words ← row_words names 0 lines
  Ok (RowPart words)

abbrev pub program_part : Names → (segments s r number : ℕ) → Answer statement.Statement → List Line → Result Part Refusal
program_part names segments s r number (Ok (statements.Segment name level)) lines = segment_part names segments s r number name level lines
program_part names segments s r number (Ok (statements.Row name)) lines = row_part names s r number name lines
program_part names segments s r number (Ok other) lines = Err (record { card = number; reason = misplaced names other })
program_part names segments s r number (Err reason) lines = Err (record { card = number; reason = reason })

abbrev pub with_part : Part → Program → Program
with_part (CodePart segment) p = record { segments = segment ∷ p.segments; rows = p.rows }
with_part (RowPart words) p = record { segments = p.segments; rows = words ∷ p.rows }

-- the program of these cards behind s segments and r rows; each card but those of segments and rows begins one
abbrev pub program_from : Names → (segments s r : ℕ) → List Line → Result Program Refusal
program_from names segments s r [] = Ok (record { segments = []; rows = [] })
program_from names segments s r (l ∷ more) =
    if is_head l.kind
    then (program_part names segments s r l.number l.says (own more) >>= λ part. program_from names segments (segments_behind s l.says) (rows_behind r l.says) more >>= λ rest. Ok (with_part part rest))
    else program_from names segments s r more

-- a card before all segments and rows is refused
abbrev pub no_strays : Names → List Line → Result ⊤ Refusal
no_strays names [] = Ok tt
no_strays names (l ∷ more) = if is_head l.kind then Ok tt else of_card l.number (l.says >>= λ statement. Err (misplaced names statement))

abbrev pub assembled : List Card → Result Program Refusal
assembled cards = no_strays (names_of (lines_of cards)) (lines_of cards) >>= λ _. program_from (names_of (lines_of cards)) (segment_count 0 (lines_of cards)) 0 0 (lines_of cards)

abbrev pub says_entry : Answer statement.Statement → Bool
says_entry (Ok (statements.Entry label)) = true
says_entry _ = false

-- cards make a file of version 2 if one of them is an ENTRY
abbrev pub version_in : List Line → ℕ
version_in lines = if list_any (λ l. says_entry l.says) lines then 2 else 1

abbrev pub version_of : List Card → ℕ
version_of cards = version_in (lines_of cards)
