-- When a step faults INVALID OPERATOR, over admitted programs and in whole runs.
use Rattle.std.specs.Prelude.{◌≡◌, ◌↔◌, ℕ, List, Some, Ok, Err}
use Rattle.std.specs.List.{AllByRecursion}
use Rattle.b67_word.specs.declared.couples.Place.{Place}
use Rattle.b67_word.specs.declared.faults.Fault.TheVariants.{InvalidOperator}
use Rattle.b67_model.specs.declared.operators.Op.{Op}
use Rattle.b67_model.specs.declared.operators.Op.TheVariants.{Plain}
use Rattle.b67_model.specs.declared.operators.Code.TheVariants.{Nvld}
use Rattle.b67_model.specs.Keyed.{keyed}
use Rattle.b67_lemmas.specs.Lists.{Has}
use Rattle.b67_model.specs.Common.{Ready, Task, JobConstants, Job, SessionJob, Program, IsAdmitted, reading_of, step, Switch, Session, Choice, choice, number_of, after, IsStart, TasksInOrder, IsInOrder}
use Rattle.b67_law.specs.Opening.{Opening, DeckWithin, opening}
use Rattle.b67_law.specs.Runs.{RunsAdmitted}

-- an operator stands at the task's place, and the task's step faults INVALID OPERATOR exactly where it is NVLD
pub record FaultsAtNvld (constants : JobConstants) (job : Job) (task : Task) : Type 0 where
  pub op : Op
  pub next : Place
  pub stands : reading_of constants task ≡ Ok (op, next)
  pub faults : (step constants job task ≡ Err InvalidOperator) ↔ (op ≡ Plain Nvld)

-- so it is for each live task of a job in order over an admitted program
abbrev pub InvalidOperatorExactlyAtNvld : Type 0
InvalidOperatorExactlyAtNvld =
    (p : Program) (constants : JobConstants) (job : Job) (task : Task) → IsAdmitted p → constants.segments ≡ p.segments → TasksInOrder (IsStart constants) constants job → keyed (λ t. t.number) task.number job.tasks ≡ Some task →
    FaultsAtNvld constants job task

-- the chosen task is a ready one of a job, and so it is for its step
pub record ChosenFaultsAtNvld (s : Session) (c : Choice) : Type 0 where
  pub member : SessionJob
  pub job : keyed number_of c.who.job s.jobs ≡ Some member
  pub task : Task
  pub live : keyed (λ t. t.number) c.who.task member.progress.job.tasks ≡ Some task
  pub ready : task.condition ≡ Ready
  pub at_nvld : FaultsAtNvld member.constants member.progress.job task

-- each live task of a state, and the one that makes the next step
pub record StateFaultsAtNvld (s : Session) : Type 0 where
  pub each : (m : SessionJob) (task : Task) → Has s.jobs m → Has m.progress.job.tasks task → FaultsAtNvld m.constants m.progress.job task
  pub chosen : (c : Choice) → choice s ≡ Some c → ChosenFaultsAtNvld s c

abbrev pub SessionsFaultExactlyAtNvld : Type 0
SessionsFaultExactlyAtNvld = (s : Session) → IsInOrder s → AllByRecursion RunsAdmitted s.jobs → StateFaultsAtNvld s

-- every state of the run of a deck within its limits, whose programs are admitted
abbrev pub RunsFaultExactlyAtNvld : Type 0
RunsFaultExactlyAtNvld =
    (n stack quantum : ℕ) (switches : List Switch) (openings : List Opening) → DeckWithin stack switches openings →
    StateFaultsAtNvld (after n (opening stack quantum switches openings))
