-- The code of the running segment, and a reader of it.
use Rattle.std.specs.Prelude.{◌≡◌, ◌≢◌, ℕ, Bool, true, false, ◌+◌, ◌*◌, ◌%◌, ◌^◌, ◌<◌, ◌≤◌, ◌⊎◌, List, length, slice_index, Some, None}
use Rattle.std.specs.Int.{w64, rotate_left}
use Rattle.b67_ctl.specs.declared.descriptors.SegDesc.{SegDesc}
use Rattle.b67_word.specs.declared.couples.Place.{Place}
use Rattle.b67_model.specs.declared.operators.Op.{Op}
use Rattle.b67_model.specs.declared.operators.Op.TheVariants.{Namc, Lt8, Lt16, Lt48, Mpcw, Plain, Brun, Brtr, Brfl}
use Rattle.b67_model.specs.declared.operators.Code.{Code}
use Rattle.b67_model.specs.declared.operators.Code.TheVariants as codes
use Rattle.b67_arith.specs.declared.numerics.Numeric.{Numeric}
use Rattle.b67_arith.specs.declared.numerics.Numeric.TheVariants as numeric
use Rattle.b67_model.specs.Operators.{count_at, form_of}
use Rattle.b67_model.specs.Rows.{code_of, reading_of}
use Rattle.b67_stack.specs.declared.Cpu.{Cpu}
use Rattle.b67_stack.specs.declared.Step.{Step}
use Rattle.b67_stack.specs.declared.Step.TheVariants.{Done}
use Rattle.b67_layout.specs.Meets.{ForEach}
use Rattle.b67_exec_cells.specs.Running.{GivesSegment}
use Rattle.b67_exec.specs.Operators.{is_quick, OperatorMeets, leaves_record, CutsRecord}
use Rattle.b67_exec.specs.declared.reader.Reader.{Reader}
use Rattle.b67_exec.specs.declared.arms.Made.{Made}
use Rattle.b67_exec.specs.declared.arms.Made.TheVariants as outcome

-- the running segment is present, and this is its descriptor
abbrev pub HoldsCode : Cpu → SegDesc → Type 0
HoldsCode cpu desc = ForEach cpu (λ x plan s m t. GivesSegment x plan m t (Some desc))

-- the syllables of a word of code, turned so that this one is in the lowest bits, and the next one in the highest
unfoldable pub syllables_of : ℕ → (syllable : ℕ) → ℕ
syllables_of word syllable = rotate_left w64 (word * 2 ^ 16 % 2 ^ 64) (8 + 8 * syllable)

-- a reader stands at a syllable of code, and has the syllables of the word from this one on; or at the end of the code, and no
-- operator begins with what it has
pub record ReaderAt (r : Reader) (code : List ℕ) (n : ℕ) : Type 0 where
  pub in_word : r.syllable < 6
  pub at : n ≡ 6 * r.word + r.syllable
  pub within : n ≤ 6 * length code
  pub bits : r.word < length code → r.bits ≡ syllables_of (slice_index code r.word) r.syllable
  pub ends : length code ≤ r.word → form_of (r.bits % 2 ^ 8) ≡ None

-- a reader of the running segment stands so many syllables behind the running place
pub record ReaderBehind (cpu : Cpu) (r : Reader) (n : ℕ) : Type 0 where
  pub code : HoldsCode cpu r.code
  pub in_word : cpu.regs.place.syllable < 6
  pub at : ForEach cpu (λ x plan s m t. ReaderAt r (code_of m.constants t.segment) (count_at t.place + n))

-- the same, and the reader isn't at the end
pub record ReaderInside (cpu : Cpu) (r : Reader) (n : ℕ) : Type 0 where
  pub behind : ReaderBehind cpu r n
  pub inside : r.word < r.code.words

-- the code ends so many syllables behind the running place
abbrev pub EndsBehind : Cpu → ℕ → Type 0
EndsBehind cpu n = ForEach cpu (λ x plan s m t. count_at t.place + n ≡ 6 * length (code_of m.constants t.segment))

-- a place is outside a segment
abbrev pub IsOutside : Place → SegDesc → Type 0
IsOutside at desc = (6 ≤ at.syllable) ⊎ (desc.words ≤ at.word)

-- the place of a reader's syllable
abbrev pub reader_place : Reader → Place
reader_place r = record { word = r.word; syllable = r.syllable }

-- the operators behind which the task goes on that are made in the loop itself
abbrev pub is_straight : Op → Bool
is_straight (Plain code) = is_quick code
is_straight (Namc couple) = true
is_straight (Lt8 n) = true
is_straight (Lt16 n) = true
is_straight (Lt48 bits) = true
is_straight (Mpcw bits) = true
is_straight _ = false

-- the operator at the running place isn't made, and this is why
pub record StopsHere (cpu : Cpu) (why : Step) : Type 0 where
  pub other : why ≢ Done
  pub row : ForEach cpu (λ x plan s m t. OperatorMeets x plan s m t why cpu cpu)

-- after an operator that was made the reader stands behind it; else this is why
abbrev pub WentOn : Step → Bool → Reader → Reader → Reader → Step → Type 0
WentOn step true before next after why = (step ≡ Done) × (after ≡ next)
WentOn step false before next after why = (why ≡ step) × (step ≢ Done) × (after ≡ before)

-- an operator that leaves no activation record was made, and the reader stands where the task goes on
pub record NearMade (old new : Cpu) (after : Reader) : Type 0 where
  pub row : ForEach old (λ x plan s m t. OperatorMeets x plan s m t Done old new)
  pub left : ForEach old (λ x plan s m t. leaves_record (reading_of m.constants t) ≡ false)
  pub stands : ReaderBehind new after 0

-- that, or nothing was changed, and this is why
abbrev pub MadeNear : Cpu → Reader → Bool → Cpu → Reader → Step → Type 0
MadeNear old before true new after why = NearMade old new after
MadeNear old before false new after why = (new ≡ old) × (after ≡ before) × StopsHere old why

-- the operators on two numbers, MPCW or LT48, and branches
abbrev pub code_of_numbers : Numeric → Code
code_of_numbers numeric.Add = codes.Add
code_of_numbers numeric.Subt = codes.Subt
code_of_numbers numeric.Less = codes.Less
code_of_numbers numeric.Greq = codes.Greq
code_of_numbers numeric.Grtr = codes.Grtr
code_of_numbers numeric.Lseq = codes.Lseq
code_of_numbers numeric.Equl = codes.Equl
code_of_numbers numeric.Neql = codes.Neql

abbrev pub word_op : Bool → ℕ → Op
word_op true = Mpcw
word_op false = Lt48

abbrev pub branch_op : Bool → Bool → Place → Op
branch_op true wanted = Brun
branch_op false true = Brtr
branch_op false false = Brfl

-- whether the step was made, or why not
abbrev pub SaysDone : Step → Bool → Step → Type 0
SaysDone step true why = step ≡ Done
SaysDone step false why = (why ≡ step) × (step ≢ Done)

-- an operator was made that leaves no activation record
pub record FarMade (old new : Cpu) : Type 0 where
  pub row : ForEach old (λ x plan s m t. OperatorMeets x plan s m t Done old new)
  pub left : ForEach old (λ x plan s m t. leaves_record (reading_of m.constants t) ≡ false)

-- an operator was made that leaves an activation record, whose words go up to below an address
pub record LeftMade (old new : Cpu) (high : ℕ) : Type 0 where
  pub row : ForEach old (λ x plan s m t. OperatorMeets x plan s m t Done old new)
  pub left : ForEach old (λ x plan s m t. leaves_record (reading_of m.constants t) ≡ true)
  pub cuts : CutsRecord old new
  pub upto : high ≡ old.regs.s + 1

-- one that leaves none was made, or nothing was changed, and this is why
abbrev pub MadeOrNot : Cpu → Bool → Cpu → Step → Type 0
MadeOrNot old true new why = FarMade old new
MadeOrNot old false new why = (new ≡ old) × StopsHere old why

-- an operator was made, and the reader stands where the task goes on, or the task went elsewhere; or nothing was changed, and this
-- is why
abbrev pub Makes : Cpu → Reader → Made → Cpu → Reader → Step → Type 0
Makes old before outcome.On new after why = NearMade old new after
Makes old before outcome.Away new after why = FarMade old new
Makes old before (outcome.Left upto) new after why = LeftMade old new upto
Makes old before outcome.Not new after why = (new ≡ old) × (after ≡ before) × StopsHere old why

abbrev pub outcome_of : Bool → Made
outcome_of true = outcome.On
outcome_of false = outcome.Not
