-- Which machines represent a session, whatever their device holds.
use Rattle.std.specs.Prelude.{ℕ, List, Option, None, Result}
use Rattle.b67_model.specs.Schedule.{Session}
use Rattle.b67_task.specs.declared.tables.Machine.{Machine}
use Rattle.b67_layout.specs.Machine.{Says, DeviceAfterCalls}
use Rattle.b67_session.specs.AttemptPassed.{CallCauses}
use Rattle.b67_session.specs.AttemptStops.{Stop}
use Rattle.b67_session.specs.Slices.{IsOpen, Keeps, StandsAt, PagesByStep}

-- The machine represents some session in order but for places, over a device of which nothing is known: one of which a task
-- makes the next step, one whose job is at its limit with live tasks, or one that no task is left of
abbrev pub IsShaped : Machine → Type 0
IsShaped k = IsOpen None k

-- What every slice leaves, whatever it answers: another slice may be asked for; the machine represents some session, also if
-- the device gave back what was never written; its size and what the deck gave are as they were. Each failure
-- has its cause, and the device is as calls leave it. From a session in order the steps were made one by one, over core and the device
pub record SliceLeaves {A D K : Type 0} (holds : D → Option (List (List ℕ))) (size calls faults : D → ℕ) (failed : K → ℕ) (answered : Result A Stop) (old new : Machine) (device device' : D) (paper paper' : K) : Type 0 where
  pub goes_on : IsOpen (holds device') new
  pub shaped : IsShaped new
  pub causes : CallCauses faults failed device device' paper paper' answered
  pub keeps : Keeps old new
  pub served : DeviceAfterCalls holds size calls faults device device'
  pub paged : (told : Option (List (List ℕ))) (s : Session) → Says told (holds device) → StandsAt told old s → PagesByStep holds answered old new device device'
