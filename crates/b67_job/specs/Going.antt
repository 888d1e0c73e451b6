-- How a run goes on from the machine of an image.
use Rattle.std.specs.Prelude.{◌≡◌, ℕ, ◌+◌, ◌≤◌, List, length, Option, Some, None, Ok}
use denote.Ref.{Bor}
use Rattle.b67_model.specs.Common.{Session}
use Rattle.b67_layout.specs.Machine.{Says}
use Rattle.b67_session_lines.specs.Stops.{Run}
use Rattle.b67_session.specs.Slices.{StandsAt, Keeps}
use Rattle.b67_task.specs.declared.tables.Machine.{Machine}
use Rattle.b67_image.specs.Meaning.{IsImageRead}
use Rattle.b67_job.specs.declared.command.CommandLine.TheVariants as lines
use Rattle.b67_job.specs.declared.summaries.Closing.TheVariants as closings
use Rattle.b67_job.specs.Command.{command_line_of}
use Rattle.b67_job.specs.Device.{Device, DeviceTells, knowing}
use Rattle.b67_job.specs.Runs.{IsOpen, IsShaped, StepsFit, StepsEnd}
use Rattle.b67_job.specs.States.{StatesFollow}
use Rattle.b67_job.specs.Finishing.{RanByStep}

-- a run from a session on, to no halt
abbrev pub run_from : Session → Run
run_from s = record { session = s; halt = None }

-- the words ask for `resume`, and this is the machine of the image that the source gave to its end, with as many sectors as
-- the device has
pub record IsImageOf {S : Type 0} (words : List (Bor (List ℕ))) (left : S → Option (List ℕ)) (source_faults : S → ℕ) (deck deck' : S) (sectors : ℕ) (image : Machine) : Type 0 where
  pub is : command_line_of words ≡ Some lines.Resume
  pub read : IsImageRead left source_faults deck deck' (Some sectors) (Ok image)

-- The machine of an image has made so many steps from a session, which are counted on. Each state up to there follows from it, in
-- order; and if it is known what the device's sectors hold, none of the steps needed more words than core has.
pub record StepsFrom {B : Type 0} (d : Device B) (steps : ℕ) (first : Session) (image k : Machine) : Type 0 where
  pub made : k.tasks.made ≡ image.tasks.made + steps
  pub in_order : StatesFollow steps first
  pub fitted : DeviceTells d → StepsFit (length image.cpu.core) steps first

-- from a machine, if it represents some session over what the device told, each step was made over the core and the device that
-- the one before left, up to another and the device as it is now
abbrev pub PagedFrom : {B : Type 0} → Device B → Machine → Machine → Type 0
PagedFrom d image k = (told : Option (List (List ℕ))) (first : Session) → Says told d.before → StandsAt told image first → RanByStep d.holds image k d.old d.new

-- The machine of an image has gone on to this one. It has its core and its sectors, no halt, and what else a deck gives: turns,
-- switches, and the names, limits and numbers of its jobs. Whatever the device gave back, it represents some session. A slice may
-- be called on it again, and its table of sectors has one for each of the device. And of the steps, in a core of so many words,
-- this holds from each session that the machine of the image represents: over the content that the device tells, with that
-- known, and over none, with nothing known.
pub record HasGoneOn {B : Type 0} (d : Device B) (P : Device B → ℕ → ℕ → Run → Machine → Type 0) (image k : Machine) : Type 0 where
  pub keeps : Keeps image k
  pub halt : k.tasks.halt ≡ None
  pub shaped : IsShaped k
  pub goes_on : IsOpen d.now k
  pub sized : d.sectors_now + 1 ≡ length k.sectors.links
  pub paged : PagedFrom d image k
  pub each : (told : Option (List (List ℕ))) (first : Session) → Says told d.before → StandsAt told image first
      → (steps : ℕ) × StepsFrom (knowing told d) steps first image k × P (knowing told d) (length image.cpu.core) steps (run_from first) k

-- the steps ended, and nothing but their lines and the line of their stop is printed
abbrev pub PlainEnd : {B K : Type 0} → (K → Option (List ℕ)) → (K → ℕ) → K → K → ℕ → Device B → ℕ → ℕ → Run → Machine → Type 0
PlainEnd taken faults old new answer e core steps r k = StepsEnd taken faults e core steps r closings.Plain k old new answer

-- a call has gone on so from the image that its words ask for
pub record Resumed {S B : Type 0} (words : List (Bor (List ℕ))) (left : S → Option (List ℕ)) (source_faults : S → ℕ) (deck deck' : S) (d : Device B) (machine : Option Machine)
    (P : Device B → ℕ → ℕ → Run → Machine → Type 0) : Type 0 where
  pub image : Machine
  pub k : Machine
  pub of : IsImageOf words left source_faults deck deck' d.sectors image
  pub is : machine ≡ Some k
  pub gone : HasGoneOn d P image k
