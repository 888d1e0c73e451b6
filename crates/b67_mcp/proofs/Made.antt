-- A call that was made, over the whole machine, and one that changes nothing.
use Rattle.std.proofs.Common.{◌≡◌, ℕ, ◌+◌, ◌≤◌, List, [], ◌∷◌, Option, None, Ok, Err, refl, arith, true, false}
use Rattle.b67_word.specs.declared.couples.Place.{Place}
use Rattle.b67_word.specs.declared.faults.Fault.TheVariants.{CriticalBlock}
use Rattle.b67_model.specs.Common.{Word, Frame, Task, SessionJob, height, top, below_top, with_top_cells, Goes, is_critical, answers, Session}
use Rattle.b67_stack.specs.Represents.{Storage}
use Rattle.b67_layout.specs.Common.{IsInOrderButCounts, Placement, IsRunning, RunsSome, here}
use Rattle.b67_task.specs.declared.tables.Machine.{Machine}
use Rattle.b67_task.specs.Runs.{RunsTask}
use Rattle.b67_task.specs.Lives.{HasJob}
use Rattle.b67_mcp.specs.Calls.{StandsAtCall, CallSome, job_cut}
use Rattle.b67_mcp.specs.Answered.{job_answered}
use Rattle.b67_task.specs.Tables.{MachineRepresents}
use Rattle.b67_lemmas.proofs.Members.{keyed_has}

abbrev pub runs_some : (k : Machine) → RunsTask k → RunsSome k.cpu
runs_some k r = record { storage = r.storage; plan = r.plan; session = r.session; member = r.member; task = r.task; ordered = r.ordered; stands = r.stands.session; running = r.running }

abbrev pub call_some : (k : Machine) → StandsAtCall k → CallSome k.cpu
call_some k r = record { runs = runs_some k r.runs; reference = r.reference; arguments = r.arguments; call = r.call }

-- the tables show the job of the running task
pub has_job : (x : Storage) (told : Option (List (List ℕ))) (k : Machine) (plan : Placement) (s : Session) (m : SessionJob) (t : Task) → IsInOrderButCounts s → MachineRepresents x told k plan s → IsRunning plan s.jobs m t
    → (job : ℕ) → job ≡ m.constants.number → HasJob plan s m k.tasks job
has_job x told k plan s m t o h runs job e = grind (arith, keyed_has)

lower : (fs : List Frame) → height (below_top fs) ≤ height fs
lower fs = grind arith

pub marked_words : (f : Frame) → 1 ≤ Rattle.b67_model.specs.State.words_of f
marked_words f = grind arith

one_more : (fs : List Frame) (w : Word) → height (with_top_cells fs (w ∷ (top fs).cells)) ≤ height fs + 1
one_more fs w = grind arith

module _ (m : SessionJob) (t : Task) (next : Place) where
  pub answers_critical : (words : List Word) → is_critical m.progress.job (top t.frames).identity ≡ true → answers (here m t next) m.progress.job words [] None ≡ Err CriticalBlock
  answers_critical words c = rw c refl

  pub answers_cut : is_critical m.progress.job (top t.frames).identity ≡ false → height t.frames ≤ m.constants.stack_size → answers (here m t next) m.progress.job [] [] None ≡ Ok (Goes (job_cut m t next) [] None)
  answers_cut c fits = grind arith

  pub answers_one : (w : Word) → is_critical m.progress.job (top t.frames).identity ≡ false → height t.frames ≤ m.constants.stack_size
      → answers (here m t next) m.progress.job (w ∷ []) [] None ≡ Ok (Goes (job_answered m t w next m.progress.job.numbers) [] None)
  answers_one w c fits = grind arith
