-- Values of ends, and operators that may enter a procedure.
use Rattle.std.specs.Prelude.{◌≡◌, ℕ, Bool, true, false, List, [], ◌∷◌, Some, None, Result, Ok, Err, slice_get}
use Rattle.b67_word.specs.Tagged.{Tagged, word}
use Rattle.b67_word.specs.declared.faults.Fault.{Fault}
use Rattle.b67_word.specs.declared.faults.Fault.TheVariants.{StackUnderflow, InvalidOperand}
use Rattle.b67_model.specs.Common.{Answer, ◌>>=◌, element, in_order, AtCell, AtElement, AtArray, AtProc, AtIntrinsic, follow, IsSegment, WordInOrder, reach_of, Word, Operand, operand, Session, Task, SessionJob, OperatorContext, Done, leaves_cells}
use Rattle.b67_model.specs.Chase as Chase
use Rattle.b67_refer.specs.declared.ends.End.{End}
use Rattle.b67_refer.specs.declared.ends.End.TheVariants as end
use Rattle.b67_stack.specs.declared.Cpu.{Cpu}
use Rattle.b67_stack.specs.declared.TheConstants.{PROCEDURE}
use Rattle.b67_stack.specs.declared.Step.{Step}
use Rattle.b67_stack.specs.declared.Step.TheVariants as step
use Rattle.b67_stack.specs.Represents.{Storage}
use Rattle.b67_layout.specs.Common.{Placement, Meets, RunsSome, IsWordOf}
use Rattle.b67_exec_cells.specs.Elements.{HasElement}

-- a word that the running task may follow: it is that of a state's word in order
pub record IsFollowed (x : Storage) (plan : Placement) (m : SessionJob) (t : Task) (w : Tagged) (v : Word) : Type 0 where
  pub at : ℕ
  pub owner : ℕ
  pub is : IsWordOf x plan m t v at w
  pub ordered : WordInOrder (IsSegment m.constants) m.progress.job.arrays (reach_of m.progress.job t) owner v

pub record MayFollow (cpu : Cpu) (w : Tagged) : Type 0 where
  pub runs : RunsSome cpu
  pub word : Word
  pub followed : IsFollowed runs.storage runs.plan runs.member runs.task w word

-- what was found in core is an end of the state's references, as far as its value goes
abbrev pub IsEnd : Placement → SessionJob → List Tagged → End → Chase.End → Type 0
IsEnd plan m core (end.Cell at) (AtCell f offset bits) = slice_get core at ≡ Some (word 0 bits)
IsEnd plan m core (end.Element original index) (AtElement n i) = (index ≡ i) × (original ≡ plan.home m.constants.number n) × HasElement m.progress.job n i
IsEnd plan m core (end.Array original) (AtArray n) = (original ≡ plan.home m.constants.number n) × HasElement m.progress.job n 0
IsEnd plan m core (end.Proc at) (AtProc f segment level place) = Unit {0}
IsEnd plan m core (end.Intrinsic n) (AtIntrinsic k) = Unit {0}
IsEnd plan m core _ _ = ⊥

-- an end was found, or the fault
abbrev pub FindsEnd : Placement → SessionJob → List Tagged → Result End Fault → Answer Chase.End → Type 0
FindsEnd plan m core (Ok found) (Ok end) = IsEnd plan m core found end
FindsEnd plan m core (Err x) (Err y) = x ≡ y
FindsEnd plan m core _ _ = ⊥

pub record SomeEnd (cpu : Cpu) (found : End) : Type 0 where
  pub runs : RunsSome cpu
  pub end : Chase.End
  pub is : IsEnd runs.plan runs.member cpu.core found end

-- the number at an end, on these cells
abbrev pub value_at_end : OperatorContext → List Word → Chase.End → Answer Done
value_at_end h rest (AtCell f offset bits) = leaves_cells h (Operand bits ∷ rest) None
value_at_end h rest (AtElement n index) = leaves_cells h (Operand (element h.job n index) ∷ rest) (Some n)
value_at_end h rest (AtArray n) = Err InvalidOperand
value_at_end h rest (AtProc f segment level place) = Err InvalidOperand
value_at_end h rest (AtIntrinsic n) = Err InvalidOperand

-- whether an end is a procedure's cell
abbrev pub is_procedure_end : Chase.End → Bool
is_procedure_end (AtProc f segment level place) = true
is_procedure_end (AtCell f offset bits) = false
is_procedure_end (AtElement n index) = false
is_procedure_end (AtArray n) = false
is_procedure_end (AtIntrinsic n) = false

abbrev pub enters_at : Answer Chase.End → Bool
enters_at (Ok end) = is_procedure_end end
enters_at (Err fault) = false

-- an operator that may enter a procedure: where it does it answers PROCEDURE, and nothing has changed. Else it is made by its row
abbrev pub EntersOrMeets : Storage → Placement → Session → SessionJob → Step → Cpu → Cpu → Bool → Answer Done → Type 0
EntersOrMeets x plan s m answered old new true answer = (answered ≡ step.Call PROCEDURE) × (new ≡ old)
EntersOrMeets x plan s m answered old new false answer = Meets x plan s m answered old new answer

-- the end of the top one of some cells
abbrev pub top_end : OperatorContext → List Word → Answer Chase.End
top_end h [] = Err StackUnderflow
top_end h (w ∷ rest) = follow h w

-- the end of the reference among the two top cells, where the other one is an operand
abbrev pub store_end : OperatorContext → List Word → Answer Chase.End
store_end h [] = Err StackUnderflow
store_end h (b ∷ []) = Err StackUnderflow
store_end h (b ∷ a ∷ rest) = do
  let two = in_order b a
  bits ← operand two.1
  follow h two.0
