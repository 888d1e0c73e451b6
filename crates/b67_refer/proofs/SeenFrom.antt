-- From which live task something is seen: from the first one, or from the running one.
use Rattle.std.proofs.Common.{◌≡◌, List, Some, Bool, true, false, inl, inr, arith}
use Rattle.b67_word.specs.Tagged.{Tagged}
use Rattle.b67_ctl.specs.declared.registers.Regs.{Regs}
use Rattle.b67_model.specs.Keyed.{keyed}
use Rattle.b67_model.specs.State.{Task}
use Rattle.b67_refer.specs.RunningContext.{RunningContext, LiveContext, live_of, FromEither}

module _ {core : List Tagged} {r : Regs} (a : LiveContext core r) where
  abbrev pub task_by : Bool → Task
  task_by true = a.task
  task_by false = a.runner

  abbrev pub live_by : (own : Bool) → keyed (λ (u : Task). u.number) (task_by own).number a.member.progress.job.tasks ≡ Some (task_by own)
  live_by true = a.live
  live_by false = a.running.task

  abbrev pub eye : Bool → LiveContext core r
  eye own = record {
    left = a.left;
    storage = a.storage;
    marks = a.marks;
    plan = a.plan;
    session = a.session;
    member = a.member;
    task = task_by own;
    ordered = a.ordered;
    holds = a.holds;
    live = live_by own;
    runner = a.runner;
    running = a.running;
  }

  -- what is seen from there, or from the running task, is seen from one of the two
  abbrev pub seen : (P : LiveContext core r → Type 0) (own : Bool) → FromEither P (eye own) → (next : Bool) × P (eye next)
  seen P own (inl h) = (own, h)
  seen P own (inr h) = (false, h)

  abbrev pub either : (P : LiveContext core r → Type 0) (own : Bool) → P (eye own) → FromEither P a
  either P true h = inl h
  either P false h = inr h

-- the running task has one view
pub from_running : {core : List Tagged} {r : Regs} (a : RunningContext core r) (P : LiveContext core r → Type 0) → FromEither P (live_of a) → P (live_of a)
from_running a P h = grind arith
