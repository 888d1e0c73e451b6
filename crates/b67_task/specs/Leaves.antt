-- A plan and a job without some tasks, their slots and their arrays.
use Rattle.std.specs.Prelude.{◌≡◌, ◌≢◌, ℕ, ◌+◌, ◌<◌, ◌==◌, List, Some, None, slice_get}
use Rattle.b67_word.specs.Tagged.{Tagged, word}
use Rattle.b67_ctl.specs.declared.map.TheConstants.{DIRECTORY, SLOTS, STACK_VECTOR}
use Rattle.b67_lemmas.specs.Lists.{Has}
use Rattle.b67_model.specs.Common.{Array, Task, Job, SessionJob, array, identities}
use Rattle.b67_model.specs.Keyed.{keyed}
use Rattle.b67_layout.specs.Common.{Placement, Slotted, slot_of, critical_mark}
use Rattle.b67_task.specs.Likes.{Like, SameStack}

abbrev pub Lost : Placement → ℕ → List Task → ℕ → Type 0
Lost plan j gone q = (g : Task) × Has gone g × (slot_of plan j g.number ≡ q)

abbrev pub Stays : List Task → ℕ → Type 0
Stays gone u = (g : Task) → Has gone g → g.number ≢ u

abbrev pub NotTheirs : List Task → Array → Type 0
NotTheirs gone a = (g : Task) → Has gone g → Has (identities g.frames) a.owner → ⊥

abbrev pub IsKeptArray : List Array → List Task → ℕ → Type 0
IsKeptArray arrays gone a = (item : Array) × Has arrays item × (item.identity ≡ a) × NotTheirs gone item

pub record EndingLeaves (plan : Placement) (m : SessionJob) (gone : List Task) (rows : List Slotted) (running : ℕ) (job : Job) : Type 0 where
  pub row_gone : (q : ℕ) → Lost plan m.constants.number gone q → keyed (λ (r : Slotted). r.slot) q rows ≡ None
  pub row_other : (q : ℕ) → (Lost plan m.constants.number gone q → ⊥) → keyed (λ (r : Slotted). r.slot) q rows ≡ keyed (λ (r : Slotted). r.slot) q plan.rows
  pub slots : (i u : ℕ) → (i ≡ m.constants.number → Stays gone u) → slot_of (record plan { rows = rows; running = running }) i u ≡ slot_of plan i u
  pub runs : (q : ℕ) → q < SLOTS → (Lost plan m.constants.number gone q → ⊥) → (q == running) ≡ (q == plan.running)
  pub tasks : (u : ℕ) → Stays gone u → Like (keyed (λ (t : Task). t.number) u job.tasks) (keyed (λ (t : Task). t.number) u m.progress.job.tasks)
  pub arrays : (a : ℕ) → IsKeptArray m.progress.job.arrays gone a → array job a ≡ array m.progress.job a
  pub array_in : (a : Array) → Has job.arrays a → Has m.progress.job.arrays a × NotTheirs gone a
  pub array_kept : (a : Array) → Has m.progress.job.arrays a → NotTheirs gone a → Has job.arrays a

-- the same by what is in the lists
pub record Lists (plan : Placement) (m : SessionJob) (gone : List Task) (rows : List Slotted) (job : Job) : Type 0 where
  pub row_in : (z : Slotted) → Has rows z → Has plan.rows z × (z.job ≡ m.constants.number → Stays gone z.task)
  pub row_kept : (z : Slotted) → Has plan.rows z → (z.job ≡ m.constants.number → Stays gone z.task) → Has rows z
  pub task_in : (u : Task) → Has job.tasks u → (t : Task) × Has m.progress.job.tasks t × SameStack u t × Stays gone t.number
  pub task_kept : (t : Task) → Has m.progress.job.tasks t → Stays gone t.number → (u : Task) × Has job.tasks u × SameStack u t

-- what has become of the words below the slots
pub record Cleared (core new : List Tagged) (plan : Placement) (m : SessionJob) (gone : List Task) : Type 0 where
  pub words : (i : ℕ) → i < plan.stacks → i ≢ DIRECTORY → ((g : Task) → Has gone g → i ≢ STACK_VECTOR + slot_of plan m.constants.number g.number) → slice_get new i ≡ slice_get core i
  pub vector : (g : Task) → Has gone g → slice_get new (STACK_VECTOR + slot_of plan m.constants.number g.number) ≡ Some (word 0 0)

-- the critical marks: nothing in the slots of the dead, those of the job's other tasks by who is left, all others as they were
pub record MarksAfter (marks new : List ℕ) (plan : Placement) (m : SessionJob) (gone : List Task) (job : Job) : Type 0 where
  pub dead : (g : Task) → Has gone g → slice_get new (slot_of plan m.constants.number g.number) ≡ Some 0
  pub own : (t : Task) → Has m.progress.job.tasks t → Stays gone t.number → slice_get new (slot_of plan m.constants.number t.number) ≡ Some (critical_mark job t.frames)
  pub others : (q : ℕ) → ((t : Task) → Has m.progress.job.tasks t → slot_of plan m.constants.number t.number ≢ q) → slice_get new q ≡ slice_get marks q
