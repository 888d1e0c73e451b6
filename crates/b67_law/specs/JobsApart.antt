-- A job's part of a run: its state, beside its lines.
use Rattle.std.specs.Prelude.{◌≡◌, ℕ, List, [], ◌∷◌, Some}
use Rattle.b67_model.specs.Keyed.{keyed}
use Rattle.b67_model.specs.Common.{JobConstants, JobProgress, SessionJob, Session, number_of, after, next, step_of, makers_from, tasks_of_job}

-- a job after its tasks made one step each in this order
abbrev pub alone_after : JobConstants → List ℕ → JobProgress → JobProgress
alone_after constants [] c = c
alone_after constants (number ∷ more) c = alone_after constants more (step_of constants c number).progress

-- a job's state, with the endings of its tasks, is the one that it reaches by itself, whatever the others do
abbrev pub JobStatesApart : Type 0
JobStatesApart =
    (n : ℕ) (s : Session) (job : ℕ) (m : SessionJob) → keyed number_of job s.jobs ≡ Some m →
    keyed number_of job (after n s).jobs ≡ Some (record m { progress = alone_after m.constants (tasks_of_job job (makers_from n (next s))) m.progress })
