-- Stores through references.
use Rattle.std.specs.Prelude.{◌≡◌, ◌≢◌, ℕ, ◌+◌, ◌-◌, ◌≤◌, ◌⊎◌, Bool, true, false, List, [], ◌∷◌, Some, None, Result, Ok, Err, slice_set, slice_get}
use Rattle.b67_word.specs.Tagged.{Tagged}
use Rattle.b67_word.specs.declared.couples.Place.{Place}
use Rattle.b67_word.specs.declared.faults.Fault.{Fault}
use Rattle.b67_word.specs.declared.faults.Fault.TheVariants.{StackUnderflow, MemoryProtect}
use Rattle.b67_model.specs.Common.{Answer, ◌>>=◌, array, in_order, End, follow, Word, operand, SessionJob, OperatorContext}
use Rattle.b67_stack.specs.declared.Cpu.{Cpu}
use Rattle.b67_stack.specs.declared.TheConstants.{PROCEDURE}
use Rattle.b67_stack.specs.declared.Step.{Step}
use Rattle.b67_stack.specs.declared.Step.TheVariants as step
use Rattle.b67_stack.specs.declared.What.TheVariants as what
use Rattle.b67_stack.specs.Represents.{Storage}
use Rattle.b67_layout.specs.Placement.{Placement}
use Rattle.b67_layout.specs.Meets.{area_held, ForEach}
use Rattle.b67_refer.specs.declared.ends.End.{End as EndAt}
use Rattle.b67_refer.specs.declared.ends.End.TheVariants as end
use Rattle.b67_refer.specs.Own.{NamesCell, FollowsTo, LeadsTo}
use Rattle.b67_layout.specs.Tops.{cells}
use Rattle.b67_exec_cells.specs.Tops.{GivesTwo}
use Rattle.b67_exec_cells.specs.Elements.{HasElement}

-- where a number among these cells is to be stored: where the other of the top two leads
abbrev pub store_end : OperatorContext → List Word → Answer End
store_end h [] = Err StackUnderflow
store_end h (b ∷ []) = Err StackUnderflow
store_end h (b ∷ a ∷ rest) = do
  let two = in_order b a
  bits ← operand two.1
  follow h two.0

-- the core address of an element that may be stored into: a writable array's, which is present
abbrev pub ElementAt : Storage → Placement → SessionJob → (n original index : ℕ) → Result ℕ Step → Type 0
ElementAt x plan m n original index (Ok at) =
    ((array m.progress.job n).writable ≡ true) × ((area : ℕ) × (area_held x plan m.constants.number n ≡ Some area) × (at ≡ area + index))
ElementAt x plan m n original index (Err (step.Fault fault)) = ((array m.progress.job n).writable ≡ false) × (fault ≡ MemoryProtect)
ElementAt x plan m n original index (Err (step.Absent found)) =
    ((array m.progress.job n).writable ≡ true) × (area_held x plan m.constants.number n ≡ None) × (found ≡ what.Array original)
ElementAt x plan m n original index (Err _) = ⊥

-- a word stored at a core address, and the two top cells off the stack, or the word in their place
abbrev pub stored : Cpu → (at : ℕ) → Tagged → (keeps : Bool) → Place → Cpu
stored cpu at w false next = record cpu { core = slice_set cpu.core at w; regs = record cpu.regs { s = cpu.regs.s - 2; place = next } }
stored cpu at w true next =
    record cpu { core = slice_set (slice_set cpu.core at w) (cpu.regs.s - 1) w; regs = record cpu.regs { s = cpu.regs.s - 1; place = next } }

-- a store at an end goes to this core address
abbrev pub StoresTo : Cpu → EndAt → (at : ℕ) → Type 0
StoresTo cpu (end.Cell cell) at = cell ≡ at
StoresTo cpu (end.Element original index) at = ForEach cpu (λ x plan s m t. (n : ℕ) → original ≡ plan.home m.constants.number n → HasElement m.progress.job n index → ElementAt x plan m n original index (Ok at))
StoresTo cpu _ at = ⊥

-- which of two words is followed, and which one is stored: the upper one is stored where it is an operand's
abbrev pub Choice : Tagged × Tagged → Tagged × Tagged → Type 0
Choice two chosen = ((two.1.tag ≡ 0) × (chosen ≡ two)) ⊎ ((two.1.tag ≢ 0) × (chosen ≡ (two.1, two.0)))

-- of the two top words this one is an operand's, and the other one was followed to what was found
pub record StoresOne (cpu : Cpu) (value : Tagged) (found : Result EndAt Fault) : Type 0 where
  pub two : Tagged × Tagged
  pub given : ForEach cpu (λ x plan s m t. GivesTwo x plan m t cpu (cells t) (Ok two))
  pub above : cpu.regs.f + 2 ≤ cpu.regs.s
  pub reference : Tagged
  pub choice : Choice two (reference, value)
  pub zero : value.tag ≡ 0
  pub follows : FollowsTo cpu.core cpu.regs cpu.display reference found

-- the top word is a couple over an operand, and names the cell at an address
pub record StoresFrom (cpu : Cpu) (near : ℕ) : Type 0 where
  pub two : Tagged × Tagged
  pub given : ForEach cpu (λ x plan s m t. GivesTwo x plan m t cpu (cells t) (Ok two))
  pub above : cpu.regs.f + 2 ≤ cpu.regs.s
  pub operand : two.0.tag ≡ 0
  pub couple : two.1.tag ≡ 1
  pub names : NamesCell cpu.core cpu.regs cpu.display two.1 near

-- a store through a word that is no operand's goes to this core address
pub record StoresThrough (cpu : Cpu) (w : Tagged) (at : ℕ) : Type 0 where
  pub other : w.tag ≢ 0
  pub end : EndAt
  pub leads : LeadsTo cpu.core cpu.regs cpu.display w end
  pub there : StoresTo cpu end at

-- the step of a store, which answers the step, or the cell of the procedure that is still to be entered
abbrev pub store_step : Result Step ℕ → Step
store_step (Ok made) = made
store_step (Err cell) = step.Call PROCEDURE

-- of the two top words the upper one, or the lower one under an operand, leads to the procedure of a cell
abbrev pub StoresInto : Cpu → (cell : ℕ) → Type 0
StoresInto cpu cell = (u v : Tagged) → slice_get cpu.core (cpu.regs.s - 1) ≡ Some u → slice_get cpu.core cpu.regs.s ≡ Some v
    → (v.tag ≡ 0 → LeadsTo cpu.core cpu.regs cpu.display u (end.Proc cell)) × (v.tag ≢ 0 → LeadsTo cpu.core cpu.regs cpu.display v (end.Proc cell))

-- a store comes to a procedure's cell if the reference leads there; else it calls nothing
abbrev pub CameTo : Cpu → Result Step ℕ → Type 0
CameTo cpu (Ok made) = (n : ℕ) → made ≢ step.Call n
CameTo cpu (Err cell) = StoresInto cpu cell
