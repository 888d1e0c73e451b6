-- Stores that lead to a procedure.
use Rattle.std.specs.Prelude.{◌≡◌, ℕ, ◌+◌, ◌-◌, ◌≤◌, true, List, ◌∷◌, Ok}
use Rattle.b67_word.specs.Tagged.{Tagged}
use Rattle.b67_word.specs.declared.couples.Place.{Place}
use Rattle.b67_model.specs.Common.{AtProc, follow, Task, SessionJob, Word, Operand}
use Rattle.b67_stack.specs.declared.Cpu.{Cpu}
use Rattle.b67_stack.specs.Represents.{Storage}
use Rattle.b67_layout.specs.Common.{Placement, here, RunsSome, cells, IsAt}
use Rattle.b67_fetch.specs.Fetches.{enters_at}
use Rattle.b67_fetch.specs.Stores.{store_end}

-- the value to be stored stands over the reference, and this leads to a procedure
pub record ValueOver (cpu : Cpu) (x : Storage) (plan : Placement) (m : SessionJob) (t : Task) (q : Place) (lower upper : Tagged) : Type 0 where
  pub bits : ℕ
  pub reference : Word
  pub rest : List Word
  pub is : cells t ≡ Operand bits ∷ reference ∷ rest
  pub frame : ℕ
  pub segment : ℕ
  pub level : ℕ
  pub place : Place
  pub ends : follow (here m t q) reference ≡ Ok (AtProc frame segment level place)
  pub under : IsAt x plan m t cpu.core reference (cpu.regs.s - 1) lower
  pub over : IsAt x plan m t cpu.core (Operand bits) cpu.regs.s upper
  pub enough : cpu.regs.f + 2 ≤ cpu.regs.s

-- a running task's top cells store into a procedure
pub record StoresInProc (cpu : Cpu) : Type 0 where
  pub runs : RunsSome cpu
  pub place : Place
  pub enters : enters_at (store_end (here runs.member runs.task place) (cells runs.task)) ≡ true
