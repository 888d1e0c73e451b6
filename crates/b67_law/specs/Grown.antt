-- Identities are counted up and never used again.
use Rattle.std.specs.Prelude.{ℕ, ◌≤◌}
use Rattle.b67_model.specs.Common.{JobConstants, Job, JobProgress, step_of}

-- the next identities of frames and arrays, and the next number of a task, are the same or higher
pub record Grown (before after : Job) : Type 0 where
  pub frames : before.next_frame ≤ after.next_frame
  pub arrays : before.next_array ≤ after.next_array
  pub tasks : before.next_task ≤ after.next_task

-- after a whole step of any task
abbrev pub StepsGrow : Type 0
StepsGrow = (constants : JobConstants) (c : JobProgress) (number : ℕ) → Grown c.job (step_of constants c number).progress.job
