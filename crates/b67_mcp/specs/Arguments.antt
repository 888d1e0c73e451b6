-- The one argument of a call: a whole number, or a reference to the cell of an operand.
use Rattle.std.specs.Prelude.{◌≡◌, ℕ, ◌+◌, ◌<◌, ◌^◌, ℤ, List, [], ◌∷◌, Some, Result, Ok, Err, slice_get}
use Rattle.b67_word.specs.Tagged.{Tagged, word}
use Rattle.b67_word.specs.declared.couples.Place.{Place}
use Rattle.b67_word.specs.declared.faults.Fault.{Fault}
use Rattle.b67_word.specs.declared.faults.Fault.TheVariants.{InvalidOperand}
use Rattle.b67_ctl.specs.declared.registers.Regs.{Regs}
use Rattle.b67_model.specs.Common.{Answer, Word, Operand, cell, End, AtCell, follow_reference, NamesEntered, reach_of, Task, SessionJob, OperatorContext}
use Rattle.b67_model.specs.Words.{whole}
use Rattle.b67_layout.specs.Common.{Placement, frame_address, here}
use Rattle.b67_refer.specs.RunningContext.{RunningContext}
use Rattle.b67_refer.specs.Cells.{IsCellAt}
use Rattle.b67_mcp.specs.declared.cell_given.CellFound.{CellFound}

-- the number that is the one argument
abbrev pub number_given : List Word → Answer ℤ
number_given (w ∷ []) = whole w
number_given _ = Err InvalidOperand

-- where the reference ends that is the one argument
abbrev pub end_given : OperatorContext → List Word → Answer End
end_given h (r ∷ []) = follow_reference h r
end_given h _ = Err InvalidOperand

-- the cell of an operand at an end was found by its core address, or the fault of another end
abbrev pub CellAtEnd : {core : List Tagged} {r : Regs} → RunningContext core r → Place → Result ℕ Fault → Answer End → Type 0
CellAtEnd a q (Ok at) (Ok (AtCell f offset bits)) = IsCellAt a q at f offset (Operand bits)
CellAtEnd a q (Ok at) _ = ⊥
CellAtEnd a q (Err fault) (Ok (AtCell f offset bits)) = ⊥
CellAtEnd a q (Err fault) (Ok _) = fault ≡ InvalidOperand
CellAtEnd a q (Err fault) (Err why) = fault ≡ why

-- the cell at an offset of a frame of the running task's reach: the address of the frame's mark, and the word
pub record IsFoundCell (plan : Placement) (m : SessionJob) (t : Task) (core : List Tagged) (q : Place) (found : CellFound) (f offset bits : ℕ) : Type 0 where
  pub own : 1 < f
  pub names : NamesEntered (reach_of m.progress.job t) f
  pub cell_is : cell (here m t q) f offset ≡ Ok (Operand bits)
  pub mark : found.mark ≡ frame_address plan m t f
  pub offset_is : found.offset ≡ offset
  pub at : found.at ≡ found.mark + found.offset
  pub there : slice_get core found.at ≡ Some (word 0 bits)
  pub small : bits < 2 ^ 48

-- the same by the argument's end
abbrev pub FindsOperand : Placement → SessionJob → Task → List Tagged → Place → Result CellFound Fault → Answer End → Type 0
FindsOperand plan m t core q (Ok found) (Ok (AtCell f offset bits)) = IsFoundCell plan m t core q found f offset bits
FindsOperand plan m t core q (Ok found) _ = ⊥
FindsOperand plan m t core q (Err fault) (Ok (AtCell f offset bits)) = ⊥
FindsOperand plan m t core q (Err fault) (Ok _) = fault ≡ InvalidOperand
FindsOperand plan m t core q (Err fault) (Err why) = fault ≡ why
