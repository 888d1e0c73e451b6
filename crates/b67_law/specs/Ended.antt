-- Which tasks of a run end with INVALID OPERATOR.
use Rattle.std.specs.Prelude.{◌≡◌, ◌↔◌, ℕ, ◌<◌, List, Some}
use Rattle.b67_word.specs.declared.faults.Fault.TheVariants.{InvalidOperator}
use Rattle.b67_word.specs.declared.faults.Ending.TheVariants.{Faulted}
use Rattle.b67_model.specs.declared.operators.Op.TheVariants.{Plain}
use Rattle.b67_model.specs.declared.operators.Code.TheVariants.{Nvld}
use Rattle.b67_model.specs.Keyed.{keyed}
use Rattle.b67_lemmas.specs.Lists.{Has}
use Rattle.b67_model.specs.Common.{SessionJob, Switch, Session, number_of, after}
use Rattle.b67_law.specs.Opening.{Opening, DeckWithin, opening}
use Rattle.b67_law.specs.RunMade.{MakesOperator}

-- one of the first n steps of a run was that of the task, at NVLD
pub record SteppedAtNvld (s : Session) (n job task : ℕ) : Type 0 where
  pub steps_before : ℕ
  pub earlier : steps_before < n
  pub ran : MakesOperator (after steps_before s) job task (Plain Nvld)

-- after any number of steps of the run of an admitted deck a task has ended with INVALID OPERATOR exactly if one of these
-- was its step at NVLD
abbrev pub RunsEndExactlyAtNvld : Type 0
RunsEndExactlyAtNvld =
    (n stack quantum : ℕ) (switches : List Switch) (openings : List Opening) (job task : ℕ) (m : SessionJob) → let s = opening stack quantum switches openings in
    DeckWithin stack switches openings → keyed number_of job (after n s).jobs ≡ Some m → Has m.progress.ended (task, Faulted InvalidOperator) ↔ SteppedAtNvld s n job task
