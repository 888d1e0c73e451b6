-- A word that a task leaves its top frame with.
use Rattle.std.specs.Prelude.{◌≡◌, ℕ, ◌+◌, List, Ok, slice_set}
use Rattle.b67_word.specs.Tagged.{Tagged}
use Rattle.b67_ctl.specs.declared.registers.Regs.{Regs}
use Rattle.b67_model.specs.Common.{Word, Task, SessionJob, returnable}
use Rattle.b67_stack.specs.declared.Cpu.{Cpu}
use Rattle.b67_stack.specs.Represents.{Storage}
use Rattle.b67_layout.specs.Placement.{Placement}
use Rattle.b67_entry.specs.Left.{Returns, going_on}
use Rattle.b67_entry.specs.Words.{IsTopWord}

-- the top word and the frame that is left with it
pub record ReturnsWord (x : Storage) (plan : Placement) (m : SessionJob) (t : Task) (cpu : Cpu) (a : Returns m t) (v : Word) (w : Tagged) : Type 0 where
  pub word : IsTopWord x plan m t cpu v w
  pub passes : returnable m.progress.job a.f.identity v ≡ Ok v

-- the machine that goes on at these registers' stack and place, with this display and a word more on the stack
abbrev pub with_word : Cpu → Regs → List ℕ → Tagged → Cpu
with_word cpu r display w = record { core = slice_set cpu.core (r.s + 1) w; regs = record (going_on cpu.regs r) { s = r.s + 1 }; display = display; critical = cpu.critical }
