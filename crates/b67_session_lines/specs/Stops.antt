-- How a run stops, and what it prints.
use Rattle.std.specs.Prelude.{ℕ, ◌≡◌, ◌<◌, ◌≤◌, ◌==◌, List, ◌++◌, Option, Some, None, IfSome, if◌then◌else◌}
use Rattle.b67_io.specs.Line.{ended}
use Rattle.b67_model.specs.Common.{run_text, lines}
pub use Rattle.b67_model.specs.Common.{Run, live_after, halted_line}

-- The whole text of a run: after so many steps no task lives, and this is what they print. That isn't past the halt.
pub record IsFinished (r : Run) (text : List ℕ) : Type 0 where
  pub steps : ℕ
  pub within : IfSome r.halt (λ count. steps ≤ count)
  pub over : live_after steps r.session ≡ 0
  pub printed : text ≡ run_text (lines steps r.session)

-- The text of a run that halts: tasks live after as many steps as the halt's count. It is what these steps print, and the
-- line of the halt.
pub record IsHalted (r : Run) (text : List ℕ) : Type 0 where
  pub count : ℕ
  pub halt : r.halt ≡ Some count
  pub lives : 0 < live_after count r.session
  pub printed : text ≡ run_text (lines count r.session) ++ ended (halted_line count)

-- a run stops with this status and this text
pub data StopsWith (r : Run) (status : ℕ) (text : List ℕ) : Type 0 where
  finished : status ≡ 0 → IsFinished r text → StopsWith r status text
  halted : status ≡ 3 → IsHalted r text → StopsWith r status text

-- the status with which a run stops
abbrev pub run_status : Run → ℕ
run_status r = by_halt r.halt
  where
    by_halt : Option ℕ → ℕ
    by_halt None = 0
    by_halt (Some count) = if live_after count r.session == 0 then 0 else 3

-- a run stops with one status and one text
abbrev pub StopsOnce : Type 0
StopsOnce = (r : Run) (status status' : ℕ) (text text' : List ℕ) → StopsWith r status text → StopsWith r status' text' → (status ≡ status') × (text ≡ text')

-- and this is the status
abbrev pub StopsWithStatus : Type 0
StopsWithStatus = (r : Run) (status : ℕ) (text : List ℕ) → StopsWith r status text → status ≡ run_status r
