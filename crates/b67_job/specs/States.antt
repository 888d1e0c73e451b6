-- The states of a run: in order, with what made their words, and each job apart.
use Rattle.std.specs.Prelude.{◌≡◌, ℕ, ◌≤◌, ◌<◌, List, Some}
use Rattle.b67_lemmas.specs.Lists.{Has}
use Rattle.std.specs.List.{AllByRecursion}
use Rattle.b67_model.specs.Common.{alone_lines, lines_of_job, makers_from, tasks_of_job, Frame, Task, SessionJob, Session, IsInOrder, IsInOrderButPlaces, RunLine, number_of, after, next}
use Rattle.b67_model.specs.Keyed.{keyed}
use Rattle.b67_law.specs.JobsApart.{alone_after}
use Rattle.b67_law.specs.Runs.{RunsAdmitted}
use Rattle.b67_law.specs.RunMade.{FrameMadeInRun, FrameKeptOrMade}

-- After so many steps each word, mark and return of a live frame was made by the operator of an earlier step of its job, but
-- for the mark of the outer block's frame, which the loader made.
abbrev pub IsMadeByOperators : ℕ → Session → Type 0
IsMadeByOperators steps first =
    (m : SessionJob) (t : Task) (f : Frame) → Has (after steps first).jobs m → Has m.progress.job.tasks t → Has t.frames f → FrameMadeInRun first steps (number_of m) f

-- After so many steps each word of a live frame stood in a live task of its job before them, or was made by the operator of one
-- of them of its job; so was its mark, with its return.
abbrev pub IsKeptOrMade : ℕ → Session → Type 0
IsKeptOrMade steps first =
    (m : SessionJob) (t : Task) (f : Frame) → Has (after steps first).jobs m → Has m.progress.job.tasks t → Has t.frames f → FrameKeptOrMade first steps (number_of m) f

-- so it is in each state, from the first one to that after so many steps, and each is in order; and by each step every word, mark
-- and return was there before, or is one that this step makes
pub record StatesInOrder (steps : ℕ) (first : Session) : Type 0 where
  pub ordered : (j : ℕ) → j ≤ steps → IsInOrder (after j first)
  pub made : (j : ℕ) → j ≤ steps → IsMadeByOperators j first
  pub each : (j : ℕ) → j < steps → IsKeptOrMade 1 (after j first)

-- so it is in each state, from any session up to that after so many steps; each is in order but for its places, and in order if
-- the first one is and its jobs run admitted programs
pub record StatesFollow (steps : ℕ) (first : Session) : Type 0 where
  pub in_order : (j : ℕ) → j ≤ steps → IsInOrderButPlaces (after j first)
  pub places : IsInOrder first → AllByRecursion RunsAdmitted first.jobs → (j : ℕ) → j ≤ steps → IsInOrder (after j first)
  pub made : (j : ℕ) → j ≤ steps → IsKeptOrMade j first
  pub each : (j : ℕ) → j < steps → IsKeptOrMade 1 (after j first)

-- After so many steps, of which these lines were printed and which led to this session: each job has printed the lines, and
-- has come to the state with the endings of its tasks, that its own steps alone give, in their order, whatever the other jobs
-- did.
pub record JobsRunApart (steps : ℕ) (first s : Session) (printed : List RunLine) : Type 0 where
  pub prints : (job : ℕ) (m : SessionJob) → keyed number_of job first.jobs ≡ Some m
      → lines_of_job job printed ≡ alone_lines m.constants (tasks_of_job job (makers_from steps (next first))) m.progress
  pub stays : (job : ℕ) (m : SessionJob) → keyed number_of job first.jobs ≡ Some m
      → keyed number_of job s.jobs ≡ Some (record m { progress = alone_after m.constants (tasks_of_job job (makers_from steps (next first))) m.progress })
