-- The core that a step needs.
use Rattle.std.specs.Prelude.{◌≡◌, ℕ, ◌<◌, ◌≤◌, ◌+◌, ◌-◌, ◌*◌, max, ◌==◌, nat_lt, List, [], ◌∷◌, length, reverse, sum_by, Option, Some, None, Ok, Err, if◌then◌else◌, option_map}
use Rattle.b67_model.specs.declared.limits.TheConstants.{FIXED_WORDS}
use Rattle.b67_model.specs.declared.intrinsics.TheConstants.{PRINTROW}
use Rattle.b67_model.specs.declared.operators.Op.TheVariants.{Plain}
use Rattle.b67_model.specs.declared.operators.Code.TheVariants.{Entr}
use Rattle.b67_model.specs.Answers.{Answer}
use Rattle.b67_model.specs.Words.{Word, Row}
use Rattle.b67_model.specs.Keyed.{keyed}
use Rattle.b67_model.specs.State.{Standing, Marked, Task, JobConstants, Job, SessionJob, OperatorContext, top}
use Rattle.b67_model.specs.Chase.{End, AtIntrinsic, follow_reference}
use Rattle.b67_model.specs.Arrays.{array}
use Rattle.b67_model.specs.Operators.{Reading}
use Rattle.b67_model.specs.Steps.{Done, Goes, Leaves, Waits}
use Rattle.b67_model.specs.Rows.{code_of, reading_of, step}
use Rattle.b67_model.specs.Schedule.{Session, Choice, choice}
use Rattle.b67_model.specs.Run.{live_tasks, number_of, after}

-- the MCP's words and all dictionaries, each of two words and its entries
abbrev pub fixed : List SessionJob → ℕ
fixed jobs = FIXED_WORDS + sum_by (λ m. 2 + length m.constants.dictionary.cells) jobs

abbrev pub need_at_opening : ℕ → List SessionJob → ℕ
need_at_opening stack jobs = fixed jobs + length jobs * stack

-- the array of a PRINTROW, whose last faults come after the touch; no other row has a fault after its touch
abbrev pub touched_by_call : List Word → Answer End → Option ℕ
touched_by_call (r ∷ Row a ∷ []) (Ok (AtIntrinsic n)) = if n == PRINTROW then Some a else None
touched_by_call _ _ = None

-- the call of the marked frame on top, from its first cell up
abbrev pub touched_at_mark : OperatorContext → Standing → List Word → Option ℕ
touched_at_mark h Marked (r ∷ arguments) = touched_by_call (r ∷ arguments) (follow_reference h r)
touched_at_mark h _ _ = None

abbrev pub touched_before_fault : JobConstants → Job → Task → Reading → Option ℕ
touched_before_fault constants job task (Ok (Plain Entr, next)) =
    touched_at_mark (record { constants = constants; job = job; task = task; at = task.place }) (top task.frames).standing (reverse (top task.frames).cells)
touched_before_fault constants job task _ = None

abbrev pub touched_of : JobConstants → Job → Task → Answer Done → Option ℕ
touched_of constants job task (Ok (Goes after printed touched)) = touched
touched_of constants job task (Ok Leaves) = None
touched_of constants job task (Ok (Waits condition)) = None
touched_of constants job task (Err fault) = touched_before_fault constants job task (reading_of constants task)

-- how many tasks a step starts
abbrev pub started_by : Job → Answer Done → ℕ
started_by job (Ok (Goes after printed touched)) = length after.tasks - length job.tasks
started_by job _ = 0

abbrev pub area_of : Job → Option ℕ → ℕ
area_of job None = 0
area_of job (Some a) = length (array job a).numbers + 2

-- what a step of a job's task needs in a core of this size
abbrev pub need : ℕ → Session → SessionJob → Task → ℕ
need core s m task =
    let made = step m.constants m.progress.job task in
    let code = length (code_of m.constants task.segment) + 2 in
    let peak = max s.peak (live_tasks s.jobs + started_by m.progress.job made) in
    let base = fixed s.jobs + s.peak * m.constants.stack_size + code in
    let full = fixed s.jobs + peak * m.constants.stack_size + code + area_of m.progress.job (touched_of m.constants m.progress.job task made) in
    if nat_lt core base then base else full

-- Need of the session's next step
abbrev pub need_of_job : ℕ → Session → ℕ → Option SessionJob → Option ℕ
need_of_job core s number None = None
need_of_job core s number (Some m) = option_map (need core s m) (keyed (λ t. t.number) number m.progress.job.tasks)

abbrev pub need_by : ℕ → Session → Option Choice → Option ℕ
need_by core s None = None
need_by core s (Some c) = need_of_job core s c.who.task (keyed number_of c.who.job s.jobs)

abbrev pub need_next : ℕ → Session → Option ℕ
need_next core s = need_by core s (choice s)

-- core has the words that the session's next step needs
pub record NextFits (core : ℕ) (s : Session) : Type 0 where
  pub words : ℕ
  pub needs : need_next core s ≡ Some words
  pub fits : words ≤ core

-- and those of each of so many steps from a session on
abbrev pub StepsFit : ℕ → ℕ → Session → Type 0
StepsFit core steps first = (k : ℕ) → k < steps → NextFits core (after k first)
