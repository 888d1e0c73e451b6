-- What making the operator at the running place answers and leaves.
use Rattle.std.specs.Prelude.{◌≡◌, ℕ, ◌+◌, ◌^◌, ◌<◌, ◌≤◌, Bool, true, false, Option, Some, None, Ok, Err, slice_get}
use Rattle.b67_model.specs.declared.operators.Op.{Op}
use Rattle.b67_model.specs.declared.operators.Op.TheVariants.{Valc, Namc, Lt48, Brun, Brtr, Brfl, Bset, Brst, Isol, Insr}
use Rattle.b67_model.specs.declared.operators.Code.{Code}
use Rattle.b67_model.specs.declared.operators.Code.TheVariants as codes
use Rattle.b67_model.specs.Operators.{Form, Alone, OneMore, TwoMore, Literal}
use Rattle.b67_model.specs.Common.{Reading, step, Task, SessionJob, Session}
use Rattle.b67_stack.specs.declared.Cpu.{Cpu}
use Rattle.b67_stack.specs.declared.What.TheVariants as what
use Rattle.b67_stack.specs.declared.Step.{Step}
use Rattle.b67_stack.specs.declared.Step.TheVariants as answers
use Rattle.b67_stack.specs.Represents.{Storage}
use Rattle.b67_layout.specs.Placement.{Placement}
pub use Rattle.b67_entry.specs.Procedures.{CallsOrMeets}
use Rattle.b67_exec_cells.specs.Running.{code_area}
use Rattle.b67_layout_step.specs.Keeping.{is_leaving}
pub use Rattle.b67_exec_cells.specs.Called.{called_by_reading, called_in}

-- an operator's parameters have their bits: 14 of a couple, 48 of a literal
abbrev pub ParametersHaveBits : Op → Type 0
ParametersHaveBits (Valc couple) = couple < 2 ^ 14
ParametersHaveBits (Namc couple) = couple < 2 ^ 14
ParametersHaveBits (Lt48 bits) = bits < 2 ^ 48
ParametersHaveBits _ = Unit {0}

-- operators without parameters that are made in the loop itself: sums, differences, comparisons, and those that push, move or
-- take off cells
abbrev pub is_quick : Code → Bool
is_quick codes.Add = true
is_quick codes.Subt = true
is_quick codes.Less = true
is_quick codes.Greq = true
is_quick codes.Grtr = true
is_quick codes.Lseq = true
is_quick codes.Equl = true
is_quick codes.Neql = true
is_quick codes.Zero = true
is_quick codes.One = true
is_quick codes.Push = true
is_quick codes.Dlet = true
is_quick codes.Exch = true
is_quick codes.Dupl = true
is_quick _ = false

-- those of them that push, move or take off cells
abbrev pub moves_cells : Code → Bool
moves_cells codes.Zero = true
moves_cells codes.One = true
moves_cells codes.Push = true
moves_cells codes.Dlet = true
moves_cells codes.Exch = true
moves_cells codes.Dupl = true
moves_cells _ = false

-- those behind a call that are on the top cells alone, or on none
abbrev pub is_on_top : Code → Bool
is_on_top codes.Mult = true
is_on_top codes.Idiv = true
is_on_top codes.Rdiv = true
is_on_top codes.Chsn = true
is_on_top codes.Land = true
is_on_top codes.Lor = true
is_on_top codes.Leqv = true
is_on_top codes.Lnot = true
is_on_top codes.Same = true
is_on_top codes.Noop = true
is_on_top codes.Nvld = true
is_on_top _ = false

-- others behind which the task goes on
abbrev pub goes_behind : Code → Bool
goes_behind codes.Indx = true
goes_behind codes.Nxlv = true
goes_behind codes.Mkst = true
goes_behind codes.Stff = true
goes_behind _ = false

-- the store that keeps its operand or takes it off: STON, STOD
abbrev pub store_code : Bool → Code
store_code true = codes.Ston
store_code false = codes.Stod

-- those that are read whole, not syllable after syllable, as branches are to a place outside the segment
abbrev pub is_read_whole : Op → Bool
is_read_whole (Bset n) = true
is_read_whole (Brst n) = true
is_read_whole (Isol high width) = true
is_read_whole (Insr high width) = true
is_read_whole (Brun target) = true
is_read_whole (Brtr target) = true
is_read_whole (Brfl target) = true
is_read_whole _ = false

-- what a first syllable begins is read whole, or is no operator
abbrev pub BeginsWhole : Option Form → Type 0
BeginsWhole None = Unit {0}
BeginsWhole (Some (Alone code)) = ⊥
BeginsWhole (Some (OneMore op)) = (low : ℕ) → is_read_whole (op low) ≡ true
BeginsWhole (Some (TwoMore op)) = (high low : ℕ) → is_read_whole (op high low) ≡ true
BeginsWhole (Some (Literal op)) = (bits : ℕ) → is_read_whole (op bits) ≡ true

abbrev pub ReadsWhole : Reading → Type 0
ReadsWhole (Err why) = Unit {0}
ReadsWhole (Ok read) = is_read_whole read.0 ≡ true

-- where the running segment is absent, nothing has changed; where it calls an intrinsic, neither; else its row was made
abbrev pub OperatorAt : Storage → Placement → Session → SessionJob → Task → Step → Cpu → Cpu → Option ℕ → Type 0
OperatorAt x plan s m t answered old new None = (answered ≡ answers.Absent (what.Code (t.segment + 1))) × (new ≡ old)
OperatorAt x plan s m t answered old new (Some at) = CallsOrMeets x plan s m answered old new (called_in m t) (step m.constants m.progress.job t)

abbrev pub OperatorMeets : Storage → Placement → Session → SessionJob → Task → Step → Cpu → Cpu → Type 0
OperatorMeets x plan s m t answered old new = OperatorAt x plan s m t answered old new (code_area x plan m t)

-- whether the operator that was read leaves an activation record
abbrev pub leaves_record : Reading → Bool
leaves_record (Err why) = false
leaves_record (Ok read) = is_leaving read.0

-- the stack after a record was left: its top lies from the word below the record's mark up to the word over it, and no word
-- above the top has changed
pub record CutsRecord (old new : Cpu) : Type 0 where
  pub above : (i : ℕ) → new.regs.s < i → slice_get new.core i ≡ slice_get old.core i
  pub low : old.regs.f ≤ new.regs.s + 1
  pub high : new.regs.s ≤ old.regs.f + 1
