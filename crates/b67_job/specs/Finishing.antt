-- What is printed after the steps of a run, and its status.
use Rattle.std.specs.Prelude.{◌≡◌, ℕ, ◌≤◌, List, Option, Result, Ok, Err}
use Rattle.b67_io.specs.Line.{ended}
use Rattle.b67_io.specs.Causes.{Rose}
use Rattle.b67_model.specs.Schedule.{Session}
use Rattle.b67_session.specs.Stops.{Stop}
use Rattle.b67_session.specs.Stops as stops
use Rattle.b67_session.specs.declared.open_fault.OpenFault.{OpenFault}
use Rattle.b67_session.specs.declared.open_fault.OpenFault.TheVariants as faults
use Rattle.b67_task.specs.declared.tables.Machine.{Machine}
use Rattle.b67_session.specs.declared.slices.Progress.{Progress}
use Rattle.b67_session.specs.declared.slices.Progress.TheVariants as progress
use Rattle.b67_session.specs.Slices.{Slices, PagesByStep}
use Rattle.b67_session_lines.specs.Ends.{EndsPrinting}
use Rattle.b67_job.specs.Lines.{no_core_line, backing_full_line, backing_fault_line, memory_line, summary, halted_text}
use Rattle.b67_job.specs.declared.summaries.Closing.{Closing}

-- where no session is opened
abbrev pub refused_status : OpenFault → ℕ
refused_status faults.Memory = 9
refused_status (faults.NoCore need core) = 4
refused_status (faults.BackingFull sum sectors) = 5
refused_status faults.BackingFault = 6

abbrev pub refused_line : OpenFault → List ℕ
refused_line faults.Memory = memory_line
refused_line (faults.NoCore need core) = no_core_line need core
refused_line (faults.BackingFull sum sectors) = backing_full_line sum sectors
refused_line faults.BackingFault = backing_fault_line

-- after the steps that a machine has made: an exercise's line where all tasks ended, what closes a halt, nothing where the printer
-- failed, else a line
abbrev pub FinishesRun : {K : Type 0} → (K → Option (List ℕ)) → (K → ℕ) → Closing → Machine → Result Progress Stop → K → K → ℕ → Type 0
FinishesRun taken faults closing k (Ok progress.Ended) old new answer = EndsPrinting taken faults old new 0 (summary closing k.tasks.made) answer
FinishesRun taken faults closing k (Ok progress.More) old new answer = (answer ≡ 0) × (new ≡ old)
FinishesRun taken faults closing k (Ok progress.Halted) old new answer = EndsPrinting taken faults old new 3 (halted_text closing k) answer
FinishesRun taken faults closing k (Err (stops.NoCore need core)) old new answer = EndsPrinting taken faults old new 4 (ended (no_core_line need core)) answer
FinishesRun taken faults closing k (Err (stops.BackingFull sum sectors)) old new answer = EndsPrinting taken faults old new 5 (ended (backing_full_line sum sectors)) answer
FinishesRun taken faults closing k (Err stops.BackingFault) old new answer = EndsPrinting taken faults old new 6 (ended backing_fault_line) answer
FinishesRun taken faults closing k (Err stops.PrintFault) old new answer = (answer ≡ 8) × (new ≡ old)

-- the steps were made one by one, over core and device, whatever they answered at last
abbrev pub RanByStep : {B : Type 0} → (B → Option (List (List ℕ))) → Machine → Machine → B → B → Type 0
RanByStep holds old new device device' = (answered : Result Progress Stop) × PagesByStep holds answered old new device device'

-- the steps of a session, and then what is due after them. `exact` is whether it was known what the device's sectors hold, of which this
-- is known now; `failed` is whether the device did
pub record SessionRan {K : Type 0} (taken : K → Option (List ℕ)) (faults : K → ℕ) (closing : Closing) (told : Option (List (List ℕ))) (exact failed : Type 0) (count steps : ℕ) (first : Session) (old new : Machine) (paper paper' : K) (answer : ℕ) : Type 0 where
  pub answered : Result Progress Stop
  pub between : K
  pub slices : Slices taken told exact count steps first answered old new paper between
  pub finishes : FinishesRun taken faults closing new answered between paper' answer
  pub device_failed : answered ≡ Err stops.BackingFault → failed
  pub printer_failed : answered ≡ Err stops.PrintFault → Rose faults paper between
  pub later : faults paper ≤ faults between
