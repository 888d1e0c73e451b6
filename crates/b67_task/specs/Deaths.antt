-- The plan, the session and the machine after tasks have ended.
use Rattle.std.specs.Prelude.{◌≡◌, ℕ, ◌==◌, ◌&&◌, ◌⊎◌, not, Bool, List, [], map, filter, Option, if◌then◌else◌}
use Rattle.std.specs.List.{list_any}
use Rattle.b67_word.specs.declared.faults.Ending.{Ending}
use Rattle.b67_ctl.specs.declared.registers.TheConstants.{NO_SLOT}
use Rattle.b67_lemmas.specs.Lists.{Has}
use Rattle.b67_model.specs.Common.{Task, Job, SessionJob, among, ends_all, unsettled, Session}
use Rattle.b67_stack.specs.MachineView.{PagedObject}
use Rattle.b67_stack.specs.Represents.{Storage}
use Rattle.b67_layout.specs.Common.{Slotted, Placement, machine_view, with_job, IsInOrderButCounts}
use Rattle.b67_task.specs.declared.tables.Tasks.{Tasks}
use Rattle.b67_task.specs.declared.tables.Machine.{Machine}
use Rattle.b67_task.specs.Tables.{MachineRepresents}
use Rattle.b67_task.specs.Ends.{gone_of}
use Rattle.b67_task.specs.Leaves.{Lost}
use Rattle.b67_task.specs.DeathTurns.{InTurn}

-- the numbers of tasks that end so, in order
abbrev pub ending_numbers : List (ℕ × Ending) → List ℕ
ending_numbers endings = map (λ (e : ℕ × Ending). e.0) endings

-- the row of the plan is that of one of these tasks of a job
abbrev pub is_gone : ℕ → List ℕ → Slotted → Bool
is_gone j numbers r = (r.job == j) && among numbers r.task

-- the plan without these tasks; if the registers of one of them were in use, none are
abbrev pub without_tasks : Placement → ℕ → List ℕ → Placement
without_tasks plan j numbers = record plan {
  rows = filter (λ (r : Slotted). not (is_gone j numbers r)) plan.rows;
  running = if list_any (λ (r : Slotted). is_gone j numbers r && (r.slot == plan.running)) plan.rows then NO_SLOT else plan.running;
}

-- the job once these tasks have ended
abbrev pub job_after_endings : Job → List (ℕ × Ending) → Job
job_after_endings job endings = (ends_all (unsettled job) endings).job

-- no registers are in use but those of one of these tasks
abbrev pub IsStopped : Placement → SessionJob → List ℕ → Type 0
IsStopped plan m numbers = (plan.running ≡ NO_SLOT) ⊎ Lost plan m.constants.number (gone_of m.progress.job numbers) plan.running

-- tables with the same rows, and the same one running. Their counts may be others
pub record HasRowsOf (machine : Machine) (u : Tasks) : Type 0 where
  pub rows : u.rows ≡ machine.tasks.rows
  pub running : u.running ≡ machine.tasks.running

-- the machine, with the counts of these tables, represents a session in order but for counts
pub record StandsWith (machine : Machine) (u : Tasks) (x : Storage) (told : Option (List (List ℕ))) (plan : Placement) (s : Session) : Type 0 where
  pub same : HasRowsOf machine u
  pub ordered : IsInOrderButCounts s
  pub stands : MachineRepresents x told (record machine { tasks = u }) plan s

-- these tasks of a job may end: each goes after those under it, and the registers of no other task are in use
pub record MayEnd (plan : Placement) (s : Session) (m : SessionJob) (numbers : List ℕ) : Type 0 where
  pub member : Has s.jobs m
  pub todo : List Task
  pub named : map (λ (t : Task). t.number) todo ≡ numbers
  pub turn : InTurn m.progress.job.tasks [] todo
  pub stopped : IsStopped plan m numbers

-- the machine represents some session, of whose job these may end
pub record EndsSome (machine : Machine) (job : ℕ) (numbers : List ℕ) : Type 0 where
  pub tables : Tasks
  pub storage : Storage
  pub told : Option (List (List ℕ))
  pub plan : Placement
  pub session : Session
  pub job_of : SessionJob
  pub stands : StandsWith machine tables storage told plan session
  pub may : MayEnd plan session job_of numbers
  pub number : job_of.constants.number ≡ job

-- each array, segment and data row of the session afterwards is one of those before, and is held as it was: in the same area
-- and the same sectors, or in none
pub record LeavesInPlace (x y : Storage) (plan placed : Placement) (s after : Session) : Type 0 where
  pub were : (t : PagedObject) → Has (machine_view placed after.jobs).objects t → Has (machine_view plan s.jobs).objects t
  pub held : (t : PagedObject) → Has (machine_view placed after.jobs).objects t → y.held t.home ≡ x.held t.home

-- the machine represents the session in which these tasks of a job have ended, and what is left of it is held as in this storage
pub record HasEnded (u : Tasks) (x : Storage) (told : Option (List (List ℕ))) (plan : Placement) (s : Session) (m : SessionJob) (endings : List (ℕ × Ending)) (new : Machine) : Type 0 where
  pub storage : Storage
  pub stands : MachineRepresents storage told (record new { tasks = record u { rows = new.tasks.rows; running = new.tasks.running } })
      (without_tasks plan m.constants.number (ending_numbers endings)) (with_job s m (job_after_endings m.progress.job endings))
  pub left : LeavesInPlace x storage plan (without_tasks plan m.constants.number (ending_numbers endings)) s (with_job s m (job_after_endings m.progress.job endings))
