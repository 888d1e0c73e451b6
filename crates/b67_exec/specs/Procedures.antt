-- Words that lead to a procedure.
use Rattle.std.specs.Prelude.{◌≡◌, ℕ, true, Ok}
use Rattle.b67_word.specs.Tagged.{Tagged}
use Rattle.b67_word.specs.declared.couples.Place.{Place}
use Rattle.b67_model.specs.Common.{Word, AtProc, follow}
use Rattle.b67_stack.specs.declared.Cpu.{Cpu}
use Rattle.b67_layout.specs.Common.{here, RunsSome, cells}
use Rattle.b67_fetch.specs.Fetches.{enters_at, top_end}
use Rattle.b67_refer.specs.RunningContext.{RunningContext, IsShown}
use Rattle.b67_refer.specs.Cells.{StandsFor}
use Rattle.b67_refer.specs.Ends.{IsProcAt}

-- the running task, seen on these registers, follows a word to a procedure
pub record LeadsToProcedure (cpu : Cpu) (a : RunningContext cpu.core cpu.regs) (q : Place) (w : Tagged) (f segment level : ℕ) (place : Place) : Type 0 where
  pub shown : IsShown a cpu.display
  pub at : ℕ
  pub owner : ℕ
  pub word : Word
  pub stands : StandsFor a at owner w word
  pub ends : follow (here a.member a.task q) word ≡ Ok (AtProc f segment level place)

-- where a word leads to a procedure, this is the procedure's cell
abbrev pub IsCellFrom : (cpu : Cpu) (w : Tagged) (cell : ℕ) → Type 0
IsCellFrom cpu w cell = (a : RunningContext cpu.core cpu.regs) (q : Place) (f segment level : ℕ) (place : Place) → LeadsToProcedure cpu a q w f segment level place → IsProcAt a q cell f segment level place

-- a running task's top cell leads to a procedure
pub record EntersTop (cpu : Cpu) : Type 0 where
  pub runs : RunsSome cpu
  pub place : Place
  pub enters : enters_at (top_end (here runs.member runs.task place) (cells runs.task)) ≡ true
