-- The run of a session: its steps, their lines, its states, and its halt.
use Rattle.std.specs.Prelude.{ℕ, zero, suc, ◌+◌, ◌-◌, max, List, [], ◌∷◌, ◌++◌, map, length, sum_by, ◌<◌, ◌≤◌, Option, Some, None, IfSome}
use Rattle.b67_model.specs.Keyed.{keyed, change_keyed}
use Rattle.b67_model.specs.State.{SessionJob}
pub use Rattle.b67_model.specs.State.{number_of}
use Rattle.b67_model.specs.Steps.{Line}
use Rattle.b67_model.specs.Alone.{JobMoment, step_of}
use Rattle.b67_model.specs.Schedule.{Switch, Session, Choice, choice}

-- a line of a run, with its job's number
abbrev pub RunLine : Type 0
RunLine = ℕ × ℕ × Line

pub record StepResult : Type 0 where
  pub session : Session
  pub lines : List RunLine

abbrev pub of_job : ℕ → List (ℕ × Line) → List RunLine
of_job job lines = map (λ line. (job, line.0, line.1)) lines

abbrev pub live_tasks : List SessionJob → ℕ
live_tasks jobs = sum_by (λ m. length m.progress.job.tasks) jobs

-- the session after a step of a job: with one operator more, and the peak that the step reached before its endings
abbrev pub with_moment : Session → Choice → SessionJob → JobMoment → Session
with_moment s c m made = record s {
  jobs = change_keyed number_of c.who.job (λ (m : SessionJob). record m { progress = made.progress }) s.jobs;
  made = s.made + 1;
  last = c.who;
  turn = c.turn + 1;
  peak = max s.peak (live_tasks s.jobs - length m.progress.job.tasks + made.alive);
}

-- the chosen task's step
abbrev pub moment_by : Session → Choice → Option SessionJob → Option StepResult
moment_by s c None = None
moment_by s c (Some m) =
    let made = step_of m.constants m.progress c.who.task in
    Some (record { session = with_moment s c m made; lines = of_job c.who.job made.lines })

abbrev pub moment_for : Session → Option Choice → Option StepResult
moment_for s None = None
moment_for s (Some c) = moment_by s c (keyed number_of c.who.job s.jobs)

-- the next step, where a task lives
unfoldable pub next : Session → Option StepResult
next s = moment_for s (choice s)

-- The functions below whose name ends in `_from` are handed what comes next, if anything does, as an argument: "the lines of n
-- steps of which this is the first". So each of their clauses is chosen by whether there is a next step, and `next` stays folded.

-- the lines of at most n steps
abbrev pub lines_from : ℕ → Option StepResult → List RunLine
lines_from zero m = []
lines_from (suc n) None = []
lines_from (suc n) (Some m) = m.lines ++ lines_from n (next m.session)

abbrev pub lines : ℕ → Session → List RunLine
lines n s = lines_from n (next s)

-- the state after at most n steps
abbrev pub after_from : ℕ → Session → Option StepResult → Session
after_from zero s m = s
after_from (suc n) s None = s
after_from (suc n) s (Some m) = after_from n m.session (next m.session)

abbrev pub after : ℕ → Session → Session
after n s = after_from n s (next s)

-- the states of at most n steps, the first one included
abbrev pub states_from : ℕ → Session → Option StepResult → List Session
states_from zero s m = s ∷ []
states_from (suc n) s None = s ∷ []
states_from (suc n) s (Some m) = s ∷ states_from n m.session (next m.session)

abbrev pub states : ℕ → Session → List Session
states n s = states_from n s (next s)

abbrev pub start : List SessionJob → List Switch → ℕ → Session
start jobs switches quantum = record {
  jobs = jobs;
  made = 0;
  last = record { job = 0; task = 0 };
  turn = 0;
  switches = switches;
  quantum = quantum;
  peak = length jobs;
}

-- a run that is asked for: the session at its opening, and the count of operators at which it halts, if there is one
pub record Run : Type 0 where
  pub session : Session
  pub halt : Option ℕ

-- so many steps are fewer than the halt's count, or not more
abbrev pub IsBeforeHalt : Run → ℕ → Type 0
IsBeforeHalt r steps = IfSome r.halt (λ count. steps < count)

abbrev pub IsWithinHalt : Run → ℕ → Type 0
IsWithinHalt r steps = IfSome r.halt (λ count. steps ≤ count)

-- the tasks that live after so many steps
abbrev pub live_after : ℕ → Session → ℕ
live_after steps s = live_tasks (after steps s).jobs
