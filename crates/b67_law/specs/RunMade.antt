-- What made each word, mark and return of each state of a run.
use Rattle.std.specs.Prelude.{◌≡◌, ℕ, ◌<◌, ◌⊎◌, List, Option, Some, None, Ok}
use Rattle.b67_word.specs.declared.couples.Place.{Place}
use Rattle.b67_model.specs.declared.operators.Op.{Op}
use Rattle.b67_model.specs.Keyed.{keyed}
use Rattle.b67_lemmas.specs.Lists.{Has}
use Rattle.b67_model.specs.Common.{Word, Frame, Entered, Task, SessionJob, OperatorContext, called, reading_of, Switch, Session, Choice, choice, number_of, after}
use Rattle.b67_law.specs.Opening.{Opening, opening}
use Rattle.b67_law.specs.Made.{OperatorMakes, MakesMark, HasWord, HasMark}

-- a task of a job makes the next step of a session, and stands at this operator
pub record MakesOperator (s : Session) (job number : ℕ) (op : Op) : Type 0 where
  pub chosen : Choice
  pub chooses : choice s ≡ Some chosen
  pub of_job : chosen.who.job ≡ job
  pub of_task : chosen.who.task ≡ number
  pub member : SessionJob
  pub found : keyed number_of chosen.who.job s.jobs ≡ Some member
  pub task : Task
  pub live : keyed (λ t. t.number) chosen.who.task member.progress.job.tasks ≡ Some task
  pub next : Place
  pub stands : reading_of member.constants task ≡ Ok (op, next)

-- where that operator is made
abbrev pub context : {s : Session} {job number : ℕ} {op : Op} → MakesOperator s job number op → OperatorContext
context r = record { constants = r.member.constants; job = r.member.progress.job; task = record r.task { place = r.next }; at = r.task.place }

-- one of the first n steps of a run was that of a task of the job, and its operator, with the intrinsic that it calls, if
-- any, made this
pub record EarlierStep (s : Session) (n job : ℕ) (Made : Op → Option ℕ → Type 0) : Type 0 where
  pub steps_before : ℕ
  pub earlier : steps_before < n
  pub number : ℕ
  pub op : Op
  pub ran : MakesOperator (after steps_before s) job number op
  pub made : Made op (called op (context ran))

-- each word of a frame was made by an earlier step of its job, and so were its mark and return, but for the mark of the
-- outer block's frame, which the loader made
pub record FrameMadeInRun (s : Session) (n job : ℕ) (f : Frame) : Type 0 where
  pub words : (w : Word) → Has f.cells w → EarlierStep s n job (λ op call. OperatorMakes op call w)
  pub mark : ((f.identity ≡ 2) × (f.standing ≡ Entered 2 1 None)) ⊎ EarlierStep s n job (λ op call. MakesMark op call f.standing)

-- each frame of a live task, after any number of steps of a deck's run
abbrev pub RunsMakeTheirWords : Type 0
RunsMakeTheirWords =
    (n stack quantum : ℕ) (switches : List Switch) (openings : List Opening) (m : SessionJob) (task : Task) (f : Frame) → let s = opening stack quantum switches openings in
    Has (after n s).jobs m → Has m.progress.job.tasks task → Has task.frames f → FrameMadeInRun s n (number_of m) f

-- the job of this number has live tasks of which this holds
pub record HoldsOfJob (s : Session) (job : ℕ) (P : List Task → Type 0) : Type 0 where
  pub member : SessionJob
  pub among : Has s.jobs member
  pub numbered : number_of member ≡ job
  pub holds : P member.progress.job.tasks

-- Since a session, from which n steps were made: each word of a frame stood there in a live task of its job, unchanged, or was
-- made by one of these steps of its job. So did its mark, with its return and of the same frame, or so was it
pub record FrameKeptOrMade (s : Session) (n job : ℕ) (f : Frame) : Type 0 where
  pub words : (w : Word) → Has f.cells w → HoldsOfJob s job (λ tasks. HasWord tasks w) ⊎ EarlierStep s n job (λ op call. OperatorMakes op call w)
  pub mark : HoldsOfJob s job (λ tasks. HasMark tasks f.identity f.standing) ⊎ EarlierStep s n job (λ op call. MakesMark op call f.standing)

-- each frame of a live task, after any number of steps from any session
abbrev pub SessionsKeepOrMakeTheirWords : Type 0
SessionsKeepOrMakeTheirWords =
    (n : ℕ) (s : Session) (m : SessionJob) (task : Task) (f : Frame) → Has (after n s).jobs m → Has m.progress.job.tasks task → Has task.frames f → FrameKeptOrMade s n (number_of m) f
