-- A call of an intrinsic, and what PRINT makes of it.
use Rattle.std.specs.Prelude.{◌≡◌, ℤ, List, [], ◌∷◌, None, Result, Ok, Err}
use Rattle.b67_word.specs.declared.couples.Place.{Place}
use Rattle.b67_word.specs.declared.faults.Fault.{Fault}
use Rattle.b67_model.specs.Common.{Word, Task, SessionJob, Value, Goes, print}
use Rattle.b67_layout.specs.Meets.{here}
pub use Rattle.b67_mcp.specs.Calls.{IsCall, StandsAtCall, MayCut, job_cut, CutSome, CallSome, OnlyCell, operand_number}

-- what PRINT is to print is the value of its row's line, or the row's fault
abbrev pub PrintMeets : SessionJob → Task → List Word → Result ℤ Fault → Type 0
PrintMeets m t arguments (Ok v) =
    ((next : Place) → print (here m t next) arguments ≡ Ok (Goes (job_cut m t next) (Value v ∷ []) None)) × MayCut m t
PrintMeets m t arguments (Err fault) = (next : Place) → print (here m t next) arguments ≡ Err fault
