-- A job by itself.
use Rattle.std.specs.Prelude.{ℕ, ◌+◌, List, [], ◌∷◌, ◌++◌, length, Option, Some, None}
use Rattle.b67_model.specs.Keyed.{keyed}
use Rattle.b67_model.specs.State.{Task, JobConstants, JobProgress}
use Rattle.b67_model.specs.Steps.{Line}
use Rattle.b67_model.specs.Endings.{Settled, Stepped, limited, stepped, step_lines}

-- a job after a step, how many of its tasks lived before the endings, and the step's lines
pub record JobMoment : Type 0 where
  pub progress : JobProgress
  pub alive : ℕ
  pub lines : List (ℕ × Line)

-- one operator more, with a step's outcome
abbrev pub moment_with : JobProgress → Task → Stepped → Settled → JobMoment
moment_with c task made s = record {
  progress = record { job = s.job; made = c.made + 1; ended = c.ended ++ s.endings };
  alive = made.alive;
  lines = step_lines task.number made.printed s.endings;
}

-- a step without the last part of its end, and the whole step
abbrev pub up_to_deadlock : JobConstants → JobProgress → Task → JobMoment
up_to_deadlock constants c task = let made = stepped constants c.job task in moment_with c task made made.settled

abbrev pub whole : JobConstants → JobProgress → Task → JobMoment
whole constants c task =
    let made = stepped constants c.job task in moment_with c task made (limited constants.limit (c.made + 1) made.settled)

abbrev pub by_task : JobConstants → JobProgress → Option Task → JobMoment
by_task constants c None = record { progress = c; alive = length c.job.tasks; lines = [] }
by_task constants c (Some task) = whole constants c task

-- a step of the job's task of this number
unfoldable pub step_of : JobConstants → JobProgress → ℕ → JobMoment
step_of constants c number = by_task constants c (keyed (λ t. t.number) number c.job.tasks)

-- the lines, and the states, of a job whose tasks make one step each in this order
abbrev pub alone_lines : JobConstants → List ℕ → JobProgress → List (ℕ × Line)
alone_lines constants [] c = []
alone_lines constants (number ∷ more) c =
    (step_of constants c number).lines ++ alone_lines constants more (step_of constants c number).progress
