-- What so many steps from the machine of an image print: the image of the machine then.
use Rattle.std.specs.Prelude.{◌≡◌, ◌≤◌, ℕ, List, Option, Some, Result, Ok, Err}
use Rattle.b67_model.specs.Common.{Run}
use Rattle.b67_task.specs.declared.tables.Machine.{Machine}
use Rattle.b67_session.specs.Stops.{Stop}
use Rattle.b67_session.specs.declared.slices.Progress.{Progress}
use Rattle.b67_session.specs.declared.slices.Progress.TheVariants as progress
use Rattle.b67_image.specs.Meaning.{IsImageRead}
use Rattle.b67_image.specs.declared.fault.ImageFault.{ImageFault}
use Rattle.b67_job.specs.Device.{Device, DeviceUnchanged}
use Rattle.b67_job.specs.Passed.{AreTyped, parts_of}
use Rattle.b67_job.specs.Due.{ImageRefusalEnds}
use Rattle.b67_job.specs.Going.{HasGoneOn}
use Rattle.b67_job.specs.Lines.{halted_text}
use Rattle.b67_job.specs.Runs.{StopsInRun, StepsEnd}
use Rattle.b67_job.specs.Texts.{PrintsAndAnswers}
use Rattle.b67_job.specs.declared.summaries.Closing.TheVariants as closings
use Rattle.b67_model.specs.Common.{run_text}

-- where all steps of a slice were made, a run that makes no more has halted
abbrev pub halted_there : Result Progress Stop → Result Progress Stop
halted_there (Ok progress.More) = Ok progress.Halted
halted_there (Ok progress.Halted) = Ok progress.Halted
halted_there (Ok progress.Ended) = Ok progress.Ended
halted_there (Err stop) = Err stop

-- So many steps were made, and a task lives. Behind their lines the image of the machine is printed, which represents the session to
-- which they lead, and the line of a halt
pub record PrintsImageThere {K B : Type 0} (taken : K → Option (List ℕ)) (faults : K → ℕ) (d : Device B) (most steps : ℕ) (r : Run) (k : Machine) (old new : K) (answer : ℕ) : Type 0 where
  pub all : steps ≡ most
  pub stop : StopsInRun d steps r.session k
  pub unprinted : k.tasks.printed ≡ 0
  pub prints : PrintsAndAnswers taken faults old new 3 (record { front = run_text stop.printed; last = halted_text closings.Image k }) answer

-- the steps of a run ended or stopped before so many, or in the last of them; or they came there
pub data StepsTo {K B : Type 0} (most : ℕ) (taken : K → Option (List ℕ)) (faults : K → ℕ) (old new : K) (answer : ℕ) (d : Device B) (core steps : ℕ) (r : Run) (k : Machine) : Type 0 where
  end_before : steps ≤ most → StepsEnd taken faults d core steps r closings.Image k old new answer → StepsTo most taken faults old new answer d core steps r k
  come_there : PrintsImageThere taken faults d most steps r k old new answer → StepsTo most taken faults old new answer d core steps r k

-- the source gave an image to its end, with as many sectors as the device has, and its machine made such steps; each number of the
-- machine is within its type then, so it is known by its image. Or no image was read
pub data StepsFromImage {S B K : Type 0} (most : ℕ) (left : S → Option (List ℕ)) (source_faults : S → ℕ) (deck deck' : S) (d : Device B) (taken : K → Option (List ℕ)) (faults : K → ℕ) (old new : K) (answer : ℕ) : Type 0 where
  is_stepped : (image k : Machine) → IsImageRead left source_faults deck deck' (Some d.sectors) (Ok image) → HasGoneOn d (StepsTo most taken faults old new answer) image k → AreTyped (parts_of k)
      → StepsFromImage most left source_faults deck deck' d taken faults old new answer
  isnt_read : (fault : ImageFault) → IsImageRead left source_faults deck deck' (Some d.sectors) (Err fault) → DeviceUnchanged d → ImageRefusalEnds fault taken faults old new answer
      → StepsFromImage most left source_faults deck deck' d taken faults old new answer
