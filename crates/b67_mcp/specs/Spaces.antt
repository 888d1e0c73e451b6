-- Core has room for what is present beside the stacks.
use Rattle.std.specs.Prelude.{◌≡◌, ℕ, ◌≤◌, length, Some}
use Rattle.b67_lemmas.specs.Lists.{Has}
use Rattle.b67_model.specs.Common.{Array, Task, SessionJob, Session}
use Rattle.b67_stack.specs.declared.Cpu.{Cpu}
use Rattle.b67_stack.specs.Represents.{Storage}
use Rattle.b67_layout.specs.Common.{Placement, area_held, ForEach}
use Rattle.b67_exec_cells.specs.Running.{code_area}
use Rattle.b67_task.specs.Needing.{need_with}

-- a core of so many words has room for the running segment beside the MCP, the dictionaries and the stacks, and for each
-- present array of the running task's job with it
pub record HasSpace (x : Storage) (plan : Placement) (s : Session) (m : SessionJob) (t : Task) (core : ℕ) : Type 0 where
  pub code : need_with s m t 0 0 ≤ core
  pub array : (a : Array) (at : ℕ) → Has m.progress.job.arrays a → area_held x plan m.constants.number a.identity ≡ Some at
      → need_with s m t 0 (length a.numbers) ≤ core

-- where the running segment is present, core has that room
abbrev pub PresentFits : Type 0
PresentFits =
    (cpu : Cpu) → ForEach cpu (λ x plan s m t. (at : ℕ) → code_area x plan m t ≡ Some at → HasSpace x plan s m t (length cpu.core))
