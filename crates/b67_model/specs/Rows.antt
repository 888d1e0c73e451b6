-- One row for each operator.
use Rattle.std.specs.Prelude.{ℕ, ◌+◌, ◌-◌, ◌/◌, ◌%◌, ◌^◌, ◌==◌, ◌&&◌, nat_lt, Bool, true, false, List, [], ◌∷◌, reverse, length, Option, Some, None, Ok, Err, if◌then◌else◌, slice_get}
use Rattle.b67_word.specs.declared.faults.Fault.TheVariants.{StackUnderflow, InvalidOperand, MemoryProtect, InvalidOperator}
use Rattle.b67_word.specs.declared.couples.Place.{Place}
use Rattle.b67_model.specs.declared.operators.Op.{Op}
use Rattle.b67_model.specs.declared.operators.Op.TheVariants.{Valc, Namc, Lt8, Lt16, Lt48, Mpcw, Brun, Brtr, Brfl, Bset, Brst, Isol, Insr, Plain}
use Rattle.b67_model.specs.declared.operators.Code.{Code}
use Rattle.b67_model.specs.declared.operators.Code.TheVariants as codes
use Rattle.b67_model.specs.Answers.{Answer, ◌>>=◌, ◌>>◌, needs}
use Rattle.b67_word.specs.Operands.{bit}
use Rattle.b67_model.specs.Words.{Word, Operand, Name, Ref, Row, Element, Proc, operand}
use Rattle.b67_model.specs.Operators.{Reading, operator_at}
use Rattle.b67_model.specs.State.{Frame, Standing, Marked, Entered, Array, Task, JobConstants, Job, OperatorContext, with_task}
use Rattle.b67_model.specs.State as State
use Rattle.b67_model.specs.Cells.{place_of, cell, with_cell}
use Rattle.b67_model.specs.Chase.{End, AtCell, AtElement, AtArray, AtProc, AtIntrinsic, chase, follow, follow_reference}
use Rattle.b67_model.specs.Arithmetic.{Binary, add, subt, mult, idiv, rdiv, less, greq, grtr, lseq, equl, neql, land, lor, leqv, same, chsn, lnot, bset, brst, isol, insr}
use Rattle.b67_model.specs.Steps.{Done, Goes, top_of, cells_of, result, with_cells, leaves_cells, pushes}
use Rattle.b67_model.specs.Entry.{mkst, accident, back_to, evaluates, enters, exit, retn}
use Rattle.b67_model.specs.Arrays.{array, element, with_element}
use Rattle.b67_model.specs.Indexing.{indexed, in_order}
use Rattle.b67_model.specs.Intrinsics.{is_original, intrinsic}

-- cells, from the top down, to cells
abbrev pub CellRow : Type 0
CellRow = List Word → Answer (List Word)

abbrev pub on_one : (ℕ → Answer ℕ) → CellRow
on_one f [] = Err StackUnderflow
on_one f (a ∷ rest) = do
  x ← operand a
  y ← f x
  Ok (Operand y ∷ rest)

abbrev pub on_two : Binary → CellRow
on_two f [] = Err StackUnderflow
on_two f (b ∷ []) = Err StackUnderflow
on_two f (b ∷ a ∷ rest) = do
  x ← operand a
  y ← operand b
  z ← f x y
  Ok (Operand z ∷ rest)

-- an original is never moved or copied
abbrev pub movable : Word → Answer Word
movable w = if is_original w then Err InvalidOperand else Ok w

abbrev pub dlet : CellRow
dlet [] = Err StackUnderflow
dlet (a ∷ rest) = do
  v ← movable a
  Ok rest

abbrev pub exch : CellRow
exch [] = Err StackUnderflow
exch (b ∷ []) = Err StackUnderflow
exch (b ∷ a ∷ rest) = do
  u ← movable a
  v ← movable b
  Ok (a ∷ b ∷ rest)

abbrev pub dupl : CellRow
dupl [] = Err StackUnderflow
dupl (a ∷ rest) = do
  v ← movable a
  Ok (a ∷ a ∷ rest)

-- the cells change and nothing else
abbrev pub on_cells : CellRow → OperatorContext → Answer Done
on_cells f h = do
  cells ← f (cells_of h)
  leaves_cells h cells None

abbrev pub branches : OperatorContext → Place → OperatorContext
branches h target = record h { task = record h.task { place = target } }

-- branches where bit 0 is as wanted
abbrev pub branch_if : Bool → OperatorContext → List Word → Place → Answer Done
branch_if wanted h [] target = Err StackUnderflow
branch_if wanted h (a ∷ rest) target = do
  x ← operand a
  leaves_cells (branches h (if same_as wanted (bit 0 x == 1) then target else h.task.place)) rest None
  where
    same_as : Bool → Bool → Bool
    same_as true b = b
    same_as false true = false
    same_as false false = true

abbrev pub valc : OperatorContext → ℕ → Answer Done
valc h couple = do
  end ← chase h (Name couple)
  evaluates h end

abbrev pub stff_word : OperatorContext → Word → Answer Word
stff_word h (Ref f offset) = Ok (Ref f offset)
stff_word h (Name couple) = do
  at ← place_of h (Name couple)
  w ← cell h at.0 at.1
  Ok (Ref at.0 at.1)
stff_word h _ = Err InvalidOperand

abbrev pub stff : OperatorContext → CellRow
stff h [] = Err StackUnderflow
stff h (w ∷ rest) = do
  v ← stff_word h w
  Ok (v ∷ rest)

abbrev pub load_at : OperatorContext → List Word → End → Answer Done
load_at h rest (AtCell f offset bits) = leaves_cells h (Operand bits ∷ rest) None
load_at h rest (AtElement a index) = leaves_cells h (Operand (element h.job a index) ∷ rest) (Some a)
load_at h rest (AtArray a) = leaves_cells h (Row a ∷ rest) None
load_at h rest (AtProc f segment level place) = accident h rest (back_to h false h.at) (AtProc f segment level place)
load_at h rest (AtIntrinsic n) = Err InvalidOperand

abbrev pub load : OperatorContext → List Word → Answer Done
load h [] = Err StackUnderflow
load h (w ∷ rest) = do
  end ← follow h w
  load_at h rest end

abbrev pub indx : OperatorContext → List Word → Answer Done
indx h [] = Err StackUnderflow
indx h (b ∷ []) = Err StackUnderflow
indx h (b ∷ a ∷ rest) = do
  let two = in_order b a
  at ← indexed h two.0 two.1
  leaves_cells h (Element at.0 at.1 ∷ rest) None

abbrev pub nxlv : OperatorContext → List Word → Answer Done
nxlv h [] = Err StackUnderflow
nxlv h (b ∷ []) = Err StackUnderflow
nxlv h (b ∷ a ∷ rest) = do
  let two = in_order b a
  at ← indexed h two.0 two.1
  leaves_cells h (Operand (element h.job at.0 at.1) ∷ rest) (Some at.0)

-- a value goes to an end, and these cells stay. An accidental entry leaves the value on the stack
abbrev pub store_at : OperatorContext → List Word → List Word → ℕ → End → Answer Done
store_at h rest kept bits (AtCell f offset old) =
    Ok (Goes (with_cell (with_task h.job (with_cells h kept)) f offset (Operand bits)) [] None)
store_at h rest kept bits (AtElement a index) = do
  needs (array h.job a).writable MemoryProtect
  result h (with_element h.job a index bits) (with_cells h kept) [] (Some a)
store_at h rest kept bits (AtProc f segment level place) =
    accident h (Operand bits ∷ rest) (back_to h false h.at) (AtProc f segment level place)
store_at h rest kept bits _ = Err MemoryProtect

abbrev pub store : Bool → OperatorContext → List Word → Answer Done
store keeps h [] = Err StackUnderflow
store keeps h (b ∷ []) = Err StackUnderflow
store keeps h (b ∷ a ∷ rest) = do
  let two = in_order b a
  bits ← operand two.1
  end ← follow h two.0
  store_at h rest (if keeps then two.1 ∷ rest else rest) bits end

abbrev pub entr_at : OperatorContext → List Word → End → Answer Done
entr_at h arguments (AtIntrinsic n) = intrinsic n h arguments
entr_at h arguments end = enters h arguments end

-- the cells of the mark, from the first one up
abbrev pub entr_with : OperatorContext → List Word → Answer Done
entr_with h [] = Err StackUnderflow
entr_with h (r ∷ arguments) = do
  end ← follow_reference h r
  entr_at h arguments end

abbrev pub entr : OperatorContext → Standing → Answer Done
entr h (Entered level environment back) = Err InvalidOperand
entr h Marked = entr_with h (reverse (cells_of h))

-- the literal names a segment of the job and has no bit outside its fields
abbrev pub is_proc : OperatorContext → ℕ → Bool
is_proc h bits =
    nat_lt bits (2 ^ 36) && (bit 19 bits == 0) && nat_lt 1 (bits % 2 ^ 14) && nat_lt (bits % 2 ^ 14) (length h.constants.segments + 2)

abbrev pub proc_of : ℕ → Word
proc_of bits = Proc (bits % 2 ^ 14 - 1) ((bits / 2 ^ 14) % 2 ^ 5) (record { word = (bits / 2 ^ 20) % 2 ^ 13; syllable = (bits / 2 ^ 33) % 2 ^ 3 })

abbrev pub mpcw : OperatorContext → ℕ → Answer Done
mpcw h bits = do
  needs (is_proc h bits) InvalidOperator
  pushes h (proc_of bits) None

-- what an operator without parameters does, by its class: something of its operands, or of the cells, or as its own row says
pub data Class : Type 0 where
  OnTwo : Binary → Class
  OnOne : (ℕ → Answer ℕ) → Class
  OnCells : CellRow → Class
  Pushes : ℕ → Class
  Idle : Class
  Own : (OperatorContext → Answer Done) → Class

abbrev pub class : Code → Class
class codes.Add = OnTwo add
class codes.Subt = OnTwo subt
class codes.Mult = OnTwo mult
class codes.Idiv = OnTwo idiv
class codes.Rdiv = OnTwo rdiv
class codes.Less = OnTwo less
class codes.Greq = OnTwo greq
class codes.Grtr = OnTwo grtr
class codes.Lseq = OnTwo lseq
class codes.Equl = OnTwo equl
class codes.Neql = OnTwo neql
class codes.Chsn = OnOne chsn
class codes.Land = OnTwo land
class codes.Lor = OnTwo lor
class codes.Leqv = OnTwo leqv
class codes.Lnot = OnOne lnot
class codes.Same = OnTwo same
class codes.Exit = Own exit
class codes.Indx = Own (λ h. indx h (cells_of h))
class codes.Retn = Own retn
class codes.Entr = Own (λ h. entr h (top_of h).standing)
class codes.Nxlv = Own (λ h. nxlv h (cells_of h))
class codes.Mkst = Own mkst
class codes.Stff = Own (λ h. on_cells (stff h) h)
class codes.Zero = Pushes 0
class codes.One = Pushes 1
class codes.Push = Idle
class codes.Dlet = OnCells dlet
class codes.Exch = OnCells exch
class codes.Dupl = OnCells dupl
class codes.Stod = Own (λ h. store false h (cells_of h))
class codes.Ston = Own (λ h. store true h (cells_of h))
class codes.Load = Own (λ h. load h (cells_of h))
class codes.Noop = Idle
class codes.Nvld = Own (λ h. Err InvalidOperator)

-- one meaning for each class
abbrev pub by_class : Class → OperatorContext → Answer Done
by_class (OnTwo f) h = on_cells (on_two f) h
by_class (OnOne f) h = on_cells (on_one f) h
by_class (OnCells f) h = on_cells f h
by_class (Pushes n) h = pushes h (Operand n) None
by_class Idle h = leaves_cells h (cells_of h) None
by_class (Own row) h = row h

abbrev pub plain : Code → OperatorContext → Answer Done
plain code h = by_class (class code) h

abbrev pub row : Op → OperatorContext → Answer Done
row (Valc couple) h = valc h couple
row (Namc couple) h = pushes h (Name couple) None
row (Lt8 n) h = pushes h (Operand n) None
row (Lt16 n) h = pushes h (Operand n) None
row (Lt48 bits) h = pushes h (Operand bits) None
row (Mpcw bits) h = mpcw h bits
row (Brun target) h = leaves_cells (branches h target) (cells_of h) None
row (Brtr target) h = branch_if true h (cells_of h) target
row (Brfl target) h = branch_if false h (cells_of h) target
row (Bset n) h = on_cells (on_one (bset n)) h
row (Brst n) h = on_cells (on_one (brst n)) h
row (Isol high width) h = on_cells (on_one (isol high width)) h
row (Insr high width) h = on_cells (on_two (insr high width)) h
row (Plain code) h = plain code h

-- the code of a segment, by its number
abbrev pub code_of : JobConstants → ℕ → List ℕ
code_of constants segment = code_in (slice_get constants.segments (segment - 1))
  where
    code_in : Option State.Segment → List ℕ
    code_in None = []
    code_in (Some s) = s.code

abbrev pub reading_of : JobConstants → Task → Reading
reading_of constants task = operator_at (code_of constants task.segment) task.place

abbrev pub step_by : JobConstants → Job → Task → Reading → Answer Done
step_by constants job task (Err undecodable) = Err InvalidOperator
step_by constants job task (Ok read) =
    row read.0 (record { constants = constants; job = job; task = record task { place = read.1 }; at = task.place })

-- the operator at the task's place
unfoldable pub step : JobConstants → Job → Task → Answer Done
step constants job task = step_by constants job task (reading_of constants task)
