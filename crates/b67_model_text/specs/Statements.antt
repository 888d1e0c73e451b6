-- Assembly: what a card says by itself.
use Rattle.std.specs.Prelude.{ℕ, zero, suc, ◌+◌, ◌-◌, ◌*◌, ◌^◌, ◌==◌, ◌&&◌, nat_le, Bool, true, false, is_some, unwrap_or, List, [], ◌∷◌, fold, take, map, length, slice_index, Option, Some, None, Ok, Err, if◌then◌else◌, codes}
use Rattle.std.specs.List.{filter_map, list_all}
use Rattle.std.specs.Option.{option_map, option_and_then}
use Rattle.std.specs.Str.{bytes_eq}
use Rattle.b67_word.specs.declared.couples.Couple.{Couple}
use Rattle.b67_model.specs.declared.operators.Op.{Op}
use Rattle.b67_model.specs.declared.operators.Op.TheVariants as ops
use Rattle.b67_model_text.specs.declared.card.Card.{Card}
use Rattle.b67_model.specs.declared.operators.Mnemonic.{Mnemonic}
use Rattle.b67_model.specs.declared.operators.Mnemonic.TheVariants as names
use Rattle.b67_model.specs.declared.operators.TheConstants.{OPERATORS}
use Rattle.b67_model_text.specs.declared.assembly.Call as call
use Rattle.b67_model_text.specs.declared.assembly.Call.TheVariants as calls
use Rattle.b67_model_text.specs.declared.assembly.Branch as branch
use Rattle.b67_model_text.specs.declared.assembly.Branch.TheVariants as branches
use Rattle.b67_model_text.specs.declared.assembly.Sketch as sketch
use Rattle.b67_model_text.specs.declared.assembly.Sketch.TheVariants.{Whole, OutOfRange, Couple as Coupled, Row as RowCoupled, Jump, Pcw, PcwAt}
use Rattle.b67_model_text.specs.declared.assembly.Statement as statement
use Rattle.b67_model_text.specs.declared.assembly.Statement.TheVariants as statements
use Rattle.b67_model_text.specs.declared.assembly.Kind as kind
use Rattle.b67_model_text.specs.declared.assembly.Kind.TheVariants as kinds
use Rattle.b67_model_text.specs.declared.assembly.Line.{Line}
use Rattle.b67_model_text.specs.Answers.{Answer, ◌>>=◌, or_reason}
use Rattle.b67_model_text.specs.Cards.{words_in_card, natural, name_in, is_empty}
use Rattle.b67_model_text.specs.Hex.{hex_digit, digit_value}
use Rattle.b67_model_text.specs.Command.{row_of, parted}
use Rattle.b67_model.specs.declared.limits.TheConstants.{GREATEST}

-- a numeral, and its number where that is within the range
abbrev pub numeral_up_to : ℕ → List ℕ → Option (Option ℕ)
numeral_up_to high word = option_map (λ n. if nat_le n high then Some n else None) (natural word)

-- an operator with a number
abbrev pub numbered_operator : (ℕ → Op) → Option ℕ → sketch.Sketch
numbered_operator op None = OutOfRange
numbered_operator op (Some n) = Whole (op n)

abbrev pub with_numbers : (ℕ → ℕ → Op) → Option ℕ → Option ℕ → sketch.Sketch
with_numbers op (Some m) (Some n) = Whole (op m n)
with_numbers op _ _ = OutOfRange

abbrev pub field_operator : Bool → ℕ → ℕ → Op
field_operator is_insert high width = if is_insert then ops.Insr high width else ops.Isol high width

abbrev pub two_numbers : (ℕ → ℕ → Op) → List ℕ × List ℕ → Option sketch.Sketch
two_numbers op p = option_and_then (λ m. option_map (λ n. with_numbers op m n) (numeral_up_to 255 p.1)) (numeral_up_to 255 p.0)

abbrev pub couple_of : Option ℕ → Option ℕ → Option Couple
couple_of (Some level) (Some disp) = Some (record { level = level; disp = disp })
couple_of _ _ = None

abbrev pub is_one : Option ℕ → Bool
is_one None = false
is_one (Some n) = n == 1

abbrev pub row_call : call.Call → List ℕ → Option sketch.Sketch
row_call c word = option_map (RowCoupled c) (name_in word)

-- at level 1 the displacement may be a row's name
abbrev pub call_at : call.Call → Option ℕ → List ℕ → Option (Option ℕ) → Option sketch.Sketch
call_at c level text (Some disp) = Some (Coupled c (couple_of level disp))
call_at c level text None = if is_one level then row_call c text else None

abbrev pub couple_in : call.Call → List ℕ × List ℕ → Option sketch.Sketch
couple_in c p = option_and_then (λ level. call_at c level p.1 (numeral_up_to 16383 p.1)) (numeral_up_to 255 p.0)

abbrev pub jump_to : branch.Branch → List ℕ → Option sketch.Sketch
jump_to b word = option_map (Jump b) (name_in word)

-- a segment's name, and a label of it behind a colon
abbrev pub pcw_at : List ℕ × List ℕ → Option sketch.Sketch
pcw_at p = option_and_then (λ segment. option_map (PcwAt segment) (name_in p.1)) (name_in p.0)

abbrev pub pcw_named : List ℕ → Option sketch.Sketch
pcw_named word = option_map Pcw (name_in word)

abbrev pub pcw_in_parts : List ℕ → Option (List ℕ × List ℕ) → Option sketch.Sketch
pcw_in_parts word None = pcw_named word
pcw_in_parts word (Some p) = pcw_at p

abbrev pub pcw_of : List ℕ → Option sketch.Sketch
pcw_of word = pcw_in_parts word (parted 58 word)

-- the operand of a negative number: bit 46 is its sign
abbrev pub negative_bits : Option ℕ → Option (Option ℕ)
negative_bits None = Some None
negative_bits (Some zero) = None
negative_bits (Some (suc n)) = Some (Some (2 ^ 46 + suc n))

abbrev pub are_hex : List ℕ → Bool
are_hex text = list_all (λ b. is_some (hex_digit b)) text

-- the number of hexadecimal digits
abbrev pub digit_bits : List ℕ → ℕ
digit_bits digits = fold (λ n d. 16 * n + digit_value d) 0 digits

abbrev pub hex_bits : List ℕ → Option (Option ℕ)
hex_bits digits = if (length digits == 12) && are_hex digits then Some (Some (digit_bits digits)) else None

-- a whole number, or # and twelve hexadecimal digits
abbrev pub literal_bits : List ℕ → Option (Option ℕ)
literal_bits [] = None
literal_bits (b ∷ more) =
    if b == 35 then hex_bits more
    else (if b == 45 then option_and_then negative_bits (numeral_up_to GREATEST more)
    else numeral_up_to GREATEST (b ∷ more))

-- an operator with one word behind its name
abbrev pub with_operand : Mnemonic → List ℕ → Option sketch.Sketch
with_operand names.Valc word = option_and_then (couple_in calls.Value) (parted 44 word)
with_operand names.Namc word = option_and_then (couple_in calls.Name) (parted 44 word)
with_operand names.Brun word = jump_to branches.Always word
with_operand names.Brtr word = jump_to branches.IfTrue word
with_operand names.Brfl word = jump_to branches.IfFalse word
with_operand names.Lt8 word = option_map (numbered_operator ops.Lt8) (numeral_up_to 255 word)
with_operand names.Lt16 word = option_map (numbered_operator ops.Lt16) (numeral_up_to 65535 word)
with_operand names.Lt48 word = option_map (numbered_operator ops.Lt48) (literal_bits word)
with_operand names.Mpcw word = pcw_of word
with_operand names.Bset word = option_map (numbered_operator ops.Bset) (numeral_up_to 47 word)
with_operand names.Brst word = option_map (numbered_operator ops.Brst) (numeral_up_to 47 word)
with_operand names.Isol word = option_and_then (two_numbers (field_operator false)) (parted 44 word)
with_operand names.Insr word = option_and_then (two_numbers (field_operator true)) (parted 44 word)
with_operand (names.Plain code) word = None

abbrev pub is_plain : Mnemonic → Option sketch.Sketch
is_plain (names.Plain code) = Some (Whole (ops.Plain code))
is_plain _ = None

abbrev pub sketch_of : Mnemonic → List (List ℕ) → Option sketch.Sketch
sketch_of m [] = is_plain m
sketch_of m (word ∷ more) = if is_empty more then with_operand m word else None

-- the names of the table
abbrev pub mnemonics : List (List ℕ × Mnemonic)
mnemonics = map (λ row. (row.1.now, row.2)) OPERATORS

abbrev pub segment : List (List ℕ) → Option statement.Statement
segment (word ∷ level ∷ []) = option_and_then (λ name. option_map (statements.Segment name) (numeral_up_to 255 level)) (name_in word)
segment _ = None

abbrev pub row_named : List ℕ → Option statement.Statement
row_named word = option_map statements.Row (name_in word)

abbrev pub row : List (List ℕ) → Option statement.Statement
row [] = None
row (word ∷ more) = if is_empty more then row_named word else None

abbrev pub all_bits : List (List ℕ) → Option (List (Option ℕ))
all_bits [] = Some []
all_bits (w ∷ more) = let rest = all_bits more in option_and_then (λ n. option_map (λ ns. n ∷ ns) rest) (literal_bits w)

abbrev pub num : List (List ℕ) → Option statement.Statement
num [] = None
num (word ∷ more) = option_and_then (λ first. option_map (statements.Values first) (all_bits more)) (literal_bits word)

abbrev pub entry_named : List ℕ → Option statement.Statement
entry_named word = option_map statements.Entry (name_in word)

abbrev pub entry : List (List ℕ) → Option statement.Statement
entry [] = None
entry (word ∷ more) = if is_empty more then entry_named word else None

abbrev pub operator : Option (List ℕ) → List (List ℕ) → Answer statement.Statement
operator label [] = Err 1
operator label (key ∷ operands) = do
  mnemonic ← or_reason (row_of key mnemonics) 1
  sketch ← or_reason (sketch_of mnemonic operands) 2
  Ok (statements.Operator label sketch)

abbrev pub kind_of : List ℕ → kind.Kind
kind_of word =
    if bytes_eq (codes "SEGMENT") word then kinds.Segment
    else (if bytes_eq (codes "ROW") word then kinds.Row
    else (if bytes_eq (codes "NUM") word then kinds.Numbers
    else (if bytes_eq (codes "ENTRY") word then kinds.Entry else kinds.Operator)))

abbrev pub is_label : List ℕ → Bool
is_label w = slice_index w (length w - 1) == 58

-- an operator with this label
abbrev pub with_label : Option (List ℕ) → List (List ℕ) → Answer statement.Statement
with_label None more = Err 1
with_label (Some label) more = operator (Some label) more

-- an operator, with a label before it where its first word ends in a colon
abbrev pub labelled : List (List ℕ) → Answer statement.Statement
labelled [] = Err 1
labelled (word ∷ more) = if is_label word then with_label (name_in (take (length word - 1) word)) more else operator None (word ∷ more)

abbrev pub says : kind.Kind → List (List ℕ) → List (List ℕ) → Answer statement.Statement
says kinds.Segment more all = or_reason (segment more) 2
says kinds.Row more all = or_reason (row more) 2
says kinds.Numbers more all = or_reason (num more) 2
says kinds.Entry more all = or_reason (entry more) 2
says kinds.Operator more all = labelled all

abbrev pub statement_of : List (List ℕ) → Answer statement.Statement
statement_of [] = Err 1
statement_of (word ∷ more) = says (kind_of word) more (word ∷ more)

abbrev pub line_with : ℕ → List (List ℕ) → Option Line
line_with number [] = None
line_with number (word ∷ more) = Some (record { number = number; kind = kind_of word; says = statement_of (word ∷ more) })

-- a semicolon begins a comment
abbrev pub without_comment : List ℕ → List ℕ
without_comment text = unwrap_or (option_map (λ p. p.0) (parted 59 text)) text

-- a card with nothing before it is ignored
abbrev pub line_of : Card → Option Line
line_of card = line_with card.number (words_in_card (without_comment card.text))

abbrev pub lines_of : List Card → List Line
lines_of cards = filter_map line_of cards
