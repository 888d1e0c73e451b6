-- That a run pages: at each step core and the device together hold the session of the model.
use Rattle.std.specs.Prelude.{◌≡◌, ◌≢◌, ℕ, List, ◌∷◌, ◌++◌, length, Option, Some, None, Ok, false}
use Rattle.b67_backing.specs.declared.device.Backing.{Ghosts}
use Rattle.b67_lemmas.specs.Lists.{Has}
use Rattle.b67_model.specs.Common.{after, live_after}
use Rattle.b67_job.specs.Admitting.{Prepared, deck_prepared, run_of}
use Rattle.b67_program.specs.Opening.{Finds, Leaves}
use Rattle.b67_recorded.specs.Ends.{mirror_told}
use Rattle.b67_recorded.specs.Files.{FindsMirrored, LeavesMirrored}
use Rattle.b67_recorded.specs.declared.mirror.Mirrored.{Mirrored}
use Rattle.b67_recorded.specs.declared.process.RecordedProcess.{RecordedProcess}
use Rattle.b67_recorded.specs.declared.source.RecordedSource.{RecordedSource}
use Rattle.b67_job.specs.Runs.{StandsAt, Between, HasPaged}

-- so many words of core, and the sectors of a device that tells, hold the session after as many steps as the machine counts
pub record HoldsSession {D : Type 0} (holds : D → Option (List (List ℕ))) (core : ℕ) (p : Prepared) (b : Between D) : Type 0 where
  pub core_size : length b.machine.cpu.core ≡ core
  pub tells : holds b.device ≢ None
  pub stands : StandsAt (holds b.device) b.machine (after b.machine.tasks.made (run_of p).session)

-- A session was opened, and from its machine over its device others followed, each by one step, or by steps of a turn without a call of
-- the device. A step moved no more than it wants, where that fits a free part of core. Each holds the session then. With 0 no task lives
-- after the steps of the last one, and with 3 these are as many as the halt says. The device is left as the last one is
pub record PagesAllTheWay {D : Type 0} (holds : D → Option (List (List ℕ))) (core : ℕ) (p : Prepared) (status : ℕ) (left : D) : Type 0 where
  pub opened : Between D
  pub none_made : opened.machine.tasks.made ≡ 0
  pub last : Between D
  pub paged : HasPaged holds opened.machine last.machine opened.device last.device
  pub each : (b : Between D) → Has (last ∷ paged.between) b → HoldsSession holds core p b
  pub ended : status ≡ 0 → live_after last.machine.tasks.made (run_of p).session ≡ 0
  pub halted : status ≡ 3 → (run_of p).halt ≡ Some last.machine.tasks.made
  pub ends : left ≡ last.device

-- Of a call over the file of a path: its steps were made so over that file, from what it was found to hold to what it is left to hold
pub record PagesOverFile {R B : Type 0} (kept : R → List ℕ → Option (List (List ℕ))) (holds : B → Option (List (List ℕ))) (old new : R) (path : List ℕ) (core : ℕ) (bytes : List ℕ) (status : ℕ) : Type 0 where
  pub file : B
  pub found : Finds kept holds old path file
  pub file_after : B
  pub left : Leaves kept holds new path file_after
  pub p : Prepared
  pub prepared : deck_prepared bytes ≡ Ok p
  pub paged : PagesAllTheWay holds core p status file_after

-- Of the program's call: the steps of the deck of the text that was read were made so over the mirrored file of its path.
pub record PagesOverMirror {D F R : Type 0} {g : Ghosts F} (kept : D → List ℕ → Option (List (List ℕ))) (core : ℕ) (path : List ℕ) (process process' : RecordedProcess D F g) (input input' : RecordedSource R) (status : ℕ) : Type 0 where
  pub text : List ℕ
  pub gave : input'.given.bytes ≡ input.given.bytes ++ text
  pub file : Mirrored F g
  pub found : FindsMirrored kept process.inner false path file
  pub file_after : Mirrored F g
  pub left : LeavesMirrored kept process'.inner path file_after
  pub p : Prepared
  pub prepared : deck_prepared text ≡ Ok p
  pub paged : PagesAllTheWay (mirror_told {F = F} {g = g}) core p status file_after
