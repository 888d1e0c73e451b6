-- The word that is returned.
use Rattle.std.specs.Prelude.{◌≡◌, List, ◌∷◌, Option, Some, None, Ok, Err, slice_get}
use Rattle.b67_word.specs.Tagged.{Tagged}
use Rattle.b67_word.specs.declared.faults.Fault.{Fault}
use Rattle.b67_model.specs.Common.{Answer, Word, Frame, Task, SessionJob, IsSegment, WordInOrder, reach_of}
use Rattle.b67_stack.specs.declared.Cpu.{Cpu}
use Rattle.b67_stack.specs.Shapes.{Fits}
use Rattle.b67_stack.specs.Represents.{Storage}
use Rattle.b67_layout.specs.Common.{Placement, spot_in, outer_spots, shape}

-- the top word of the running task's stack, and what it represents in the top frame
pub record IsTopWord (x : Storage) (plan : Placement) (m : SessionJob) (t : Task) (cpu : Cpu) (v : Word) (w : Tagged) : Type 0 where
  pub frame : Frame
  pub below : List Frame
  pub rest : List Word
  pub frames : t.frames ≡ frame ∷ below
  pub cells : frame.cells ≡ v ∷ rest
  pub there : slice_get cpu.core cpu.regs.s ≡ Some w
  pub fits : Fits x.held (shape plan m.constants.number m.progress.job (spot_in plan.running (outer_spots plan m.constants.number m.progress.job t.critical t.parents) (frame ∷ below)) v) cpu.regs.s w
  pub order : WordInOrder (IsSegment m.constants) m.progress.job.arrays (reach_of m.progress.job t) frame.identity v

-- a fault that a row makes of a word, or none where it lets the word pass
abbrev pub Refuses : Option Fault → Word → Answer Word → Type 0
Refuses None v (Ok passed) = passed ≡ v
Refuses (Some fault) v (Err other) = fault ≡ other
Refuses _ v _ = ⊥
