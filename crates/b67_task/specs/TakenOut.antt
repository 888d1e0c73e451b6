-- Several tasks of one job of a session are to die.
use Rattle.std.specs.Prelude.{◌≡◌, ℕ, ◌<◌, ◌⊎◌, List, [], map}
use Rattle.b67_word.specs.Tagged.{Tagged}
use Rattle.b67_ctl.specs.declared.registers.TheConstants.{NO_SLOT}
use Rattle.b67_ctl.specs.declared.registers.Regs.{Regs}
use Rattle.b67_lemmas.specs.Lists.{Has}
use Rattle.b67_model.specs.Common.{Task, SessionJob, number_of, Session}
use Rattle.b67_model.specs.Keyed.{change_keyed}
use Rattle.b67_stack.specs.MachineView.{MachineView}
use Rattle.b67_stack.specs.Represents.{Storage}
use Rattle.b67_layout.specs.Common.{Placement, slot_of, RepresentsCritical, SessionHolds, IsInOrderButCounts}
use Rattle.b67_task.specs.Released.{Released}
use Rattle.b67_task.specs.DeathsInTurn.{Death, HasGone, MayAllDie, SameButSlots, slots_of}
use Rattle.b67_task.specs.DeathTurns.{InTurn}
use Rattle.b67_task.specs.Leaves.{Lost}
use Rattle.b67_task.specs.Ends.{gone_of, job_without, rows_without}

-- the slots of the tasks with these numbers, in their order
abbrev pub slots_gone : Placement → SessionJob → List ℕ → List ℕ
slots_gone plan m numbers = map (slot_of plan m.constants.number) numbers

-- they are numbers of live tasks, of which each goes after those that are under it; no other task's registers are in use
pub record MayTakeOut (x : Storage) (core : List Tagged) (r : Regs) (marks : List ℕ) (plan : Placement) (s : Session) (m : SessionJob) (numbers : List ℕ) : Type 0 where
  pub ordered : IsInOrderButCounts s
  pub holds : SessionHolds x core r marks plan s
  pub member : Has s.jobs m
  pub room : 0 < plan.size
  pub todo : List Task
  pub named : map (λ (t : Task). t.number) todo ≡ numbers
  pub turn : InTurn m.progress.job.tasks [] todo
  pub stopped : (plan.running ≡ NO_SLOT) ⊎ Lost plan m.constants.number (gone_of m.progress.job numbers) plan.running

abbrev pub plan_without : Placement → SessionJob → List ℕ → Placement
plan_without plan m numbers = record plan { rows = rows_without plan m.constants.number numbers; running = NO_SLOT }

abbrev pub session_without : Session → SessionJob → List ℕ → Session
session_without s m numbers = record s {
  jobs = change_keyed number_of m.constants.number (λ (z : SessionJob). record z { progress = record m.progress { job = job_without m.progress.job numbers } }) s.jobs;
}

-- the machine represents the session without them, when its critical marks do
abbrev pub IsBuried : Storage → List Tagged → Regs → Placement → Session → SessionJob → List ℕ → Type 0
IsBuried y new r plan s m numbers =
    (marks : List ℕ) → RepresentsCritical marks (plan_without plan m numbers) (session_without s m numbers).jobs → SessionHolds y new r marks (plan_without plan m numbers) (session_without s m numbers)

-- the arrays whose originals lay in these slots are given back, with their areas and chains; all other areas and chains are
-- as they were, and so are the words below the areas but for the slots' first and their words in the stack vector
pub record GaveBack (x y : Storage) (p : MachineView) (core new : List Tagged) (slots : List ℕ) : Type 0 where
  pub deaths : List Death
  pub may : MayAllDie p core deaths
  pub slots_are : slots_of deaths ≡ slots
  pub released : Released (HasGone deaths) x y
  pub same : SameButSlots x.low p slots core new
