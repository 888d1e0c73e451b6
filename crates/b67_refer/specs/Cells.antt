-- The cells of frames in core, seen from the running task.
use Rattle.std.specs.Prelude.{ℕ, List, Result}
use Rattle.b67_word.specs.Tagged.{Tagged}
use Rattle.b67_word.specs.declared.couples.Place.{Place}
use Rattle.b67_word.specs.declared.faults.Fault.{Fault}
use Rattle.b67_ctl.specs.declared.registers.Regs.{Regs}
use Rattle.b67_model.specs.Common.{Answer, Word, Known}
use Rattle.b67_stack.specs.Stacks.{StackPlace}
use Rattle.b67_refer.specs.RunningContext.{RunningContext, live_of}
use Rattle.b67_refer.specs.LiveCells as live

module _ {core : List Tagged} {r : Regs} (a : RunningContext core r) where
  abbrev pub reach : List Known
  reach = live.reach (live_of a)

  abbrev pub view : ℕ → StackPlace
  view = live.view (live_of a)

  abbrev pub frame_at_core : ℕ → ℕ
  frame_at_core f = live.frame_at_core (live_of a) f

  abbrev pub StandsFor : (at owner : ℕ) → Tagged → Word → Type 0
  StandsFor at owner v w = live.StandsFor (live_of a) at owner v w

  abbrev pub IsTop : (k top : ℕ) → Type 0
  IsTop k top = live.IsTop (live_of a) k top

  abbrev pub IsUnder : (base top : ℕ) → Type 0
  IsUnder base top = live.IsUnder (live_of a) base top

  module _ (q : Place) where
    abbrev pub IsCellAt : (at f offset : ℕ) (w : Word) → Type 0
    IsCellAt at f offset w = live.IsCellAt (live_of a) q at f offset w

    abbrev pub CellMeets : (f offset : ℕ) → Result ℕ Fault → Answer Word → Type 0
    CellMeets f offset found answer = live.CellMeets (live_of a) q f offset found answer

    abbrev pub FindsCell : Result ℕ Fault → Answer (ℕ × ℕ) → Type 0
    FindsCell found answer = live.FindsCell (live_of a) q found answer
