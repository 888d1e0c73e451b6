-- The cells of the running task's top activation record, as words of core.
use Rattle.std.specs.Prelude.{◌≡◌, ℕ, List, [], ◌∷◌, Some, Result, Ok, Err, slice_get}
use Rattle.b67_word.specs.Tagged.{Tagged}
use Rattle.b67_word.specs.declared.faults.Fault.{Fault}
use Rattle.b67_word.specs.declared.faults.Fault.TheVariants.{StackUnderflow}
use Rattle.b67_model.specs.Common.{Word, Task, SessionJob, top}
use Rattle.b67_stack.specs.declared.Cpu.{Cpu}
use Rattle.b67_stack.specs.Shapes.{Fits}
use Rattle.b67_stack.specs.Represents.{Storage}
use Rattle.b67_layout.specs.Placement.{Placement, spots}
use Rattle.b67_layout.specs.Layout.{shape}

-- a word at a core address is that of a word of the state, as the running task names frames
abbrev pub IsWordOf : Storage → Placement → SessionJob → Task → Word → ℕ → Tagged → Type 0
IsWordOf x plan m t w at v = Fits x.held (shape plan m.constants.number m.progress.job (spots plan m.constants.number m.progress.job t) w) at v

-- the word at a core address, which is that of a word of the state
pub record IsAt (x : Storage) (plan : Placement) (m : SessionJob) (t : Task) (core : List Tagged) (w : Word) (at : ℕ) (v : Tagged) : Type 0 where
  pub found : slice_get core at ≡ Some v
  pub is : IsWordOf x plan m t w at v

abbrev pub cells : Task → List Word
cells t = (top t.frames).cells

-- the top cell
abbrev pub GivesTop : Storage → Placement → SessionJob → Task → Cpu → List Word → Result Tagged Fault → Type 0
GivesTop x plan m t cpu [] answer = answer ≡ Err StackUnderflow
GivesTop x plan m t cpu (a ∷ rest) answer = (v : Tagged) × (answer ≡ Ok v) × IsAt x plan m t cpu.core a cpu.regs.s v
