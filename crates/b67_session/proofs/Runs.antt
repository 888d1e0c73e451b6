-- A machine of which a ready task runs; and causes of what two calls answered.
use Rattle.std.proofs.Common.{◌≡◌, ◌≢◌, ℕ, ◌≤◌, List, length, Option, Result, Ok, Err, arith, ap}
use Rattle.b67_io.specs.Causes.{Rose}
use Rattle.b67_mcp.specs.declared.ends.Stop.{Stop}
use Rattle.b67_mcp.specs.declared.ends.Stop.TheVariants.{BackingFault, PrintFault}
use Rattle.b67_mcp.specs.Running.{CallCauses}
use Rattle.b67_task.specs.Runs.{Keeps}
pub use Rattle.b67_task.proofs.Keeping.{keeps_then}
use Rattle.b67_task.specs.declared.tables.Machine.{Machine}
use Rattle.b67_task.specs.Tables.{given_of}
use Rattle.b67_session.specs.Tries.{ReadyRuns}
use Rattle.b67_session.specs.Attempts.{RunsOver}

pub ready_over : (k : Machine) (told : Option (List (List ℕ))) → RunsOver k told → ReadyRuns k
ready_over k told r = record {
  runs = record {
    storage = r.storage;
    told = r.storage.device;
    plan = r.plan;
    session = r.session;
    member = r.member;
    task = r.task;
    ordered = r.ordered;
    stands = r.stands.stands;
    running = r.running;
  };
  ready = r.ready;
}

-- a stop of another call
pub caused_stop : {B K A C : Type 0} (failed : B → ℕ) (unprinted : K → ℕ) (old new : B) (paper paper' : K) (stop : Stop) → CallCauses {A = A} failed unprinted old new paper paper' (Err stop) → CallCauses {A = C} failed unprinted old new paper paper' (Err stop)
caused_stop {B} {K} {A} {C} failed unprinted old new paper paper' stop h = grind arith

-- no stop
pub caused_none : {B K A : Type 0} (failed : B → ℕ) (unprinted : K → ℕ) (old new : B) (paper paper' : K) (made : A) → unprinted paper ≤ unprinted paper' → CallCauses failed unprinted old new paper paper' (Ok made)
caused_none failed unprinted old new paper paper' made later = record { printer = record { later = later; failed = λ e. absurd cc }; device = λ e. absurd cc }

-- what wasn't brought in after a first call
pub caused_want : {B K A C : Type 0} (failed : B → ℕ) (unprinted : K → ℕ) (old mid new : B) (paper paper' : K) (brought : Result A Stop) (stop : Stop) → brought ≡ Err stop → failed old ≤ failed mid → unprinted paper ≤ unprinted paper'
    → (brought ≡ Err BackingFault → Rose failed mid new) → brought ≢ Err PrintFault → CallCauses {A = C} failed unprinted old new paper paper' (Err stop)
caused_want {B} {K} {A} {C} failed unprinted old mid new paper paper' brought stop at a later cause silent = grind arith

-- what a second call has caused
pub caused_later : {B K A : Type 0} (failed : B → ℕ) (unprinted : K → ℕ) (old mid new : B) (paper first paper' : K) (answered : Result A Stop) → failed old ≤ failed mid → unprinted paper ≤ unprinted first
    → CallCauses failed unprinted mid new first paper' answered → CallCauses failed unprinted old new paper paper' answered
caused_later failed unprinted old mid new paper first paper' answered a b h = grind arith

-- what a call keeps that leaves the tables
pub keeps_tasks : (old new : Machine) → new.tasks ≡ old.tasks → length new.cpu.core ≡ length old.cpu.core → length new.sectors.links ≡ length old.sectors.links → Keeps old new
keeps_tasks old new tasks core sectors = record { core = core; sectors = sectors; given = ap given_of tasks }
