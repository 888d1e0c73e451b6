-- When a machine represents a session's state.
use Rattle.std.specs.Prelude.{◌≡◌, ◌≢◌, ℕ, ◌+◌, ◌*◌, ◌^◌, ◌<◌, ◌≤◌, List, [], ◌∷◌, ◌++◌, length, Option, Some, None, slice_get, if◌then◌else◌}
use Rattle.b67_word.specs.Tagged.{Tagged, word}
use Rattle.b67_ctl.specs.declared.vector.TheConstants.{FIRST_TASK}
use Rattle.b67_ctl.specs.declared.registers.TheConstants.{NO_SLOT}
use Rattle.b67_ctl.specs.declared.map.TheConstants.{FIRST_DICTIONARY, FIRST_INTRINSIC, LAST_INTRINSIC, MCP_STACK, SLOTS, STACK_VECTOR}
use Rattle.b67_area.specs.declared.Areas.{Areas}
use Rattle.b67_backing.specs.Shelf.{Table, IsShelf}
use Rattle.b67_ctl.specs.declared.registers.Regs.{Regs}
use Rattle.b67_lemmas.specs.Lists.{Has}
use Rattle.b67_model.specs.Common.{Frame, Task, Job, SessionJob, height, level_of_frame, running, frame_at, is_critical, number_of, Session}
use Rattle.b67_model.specs.Keyed.{keyed}
use Rattle.b67_stack.specs.declared.Cpu.{Cpu}
use Rattle.b67_stack.specs.Common.{PagedObject, MachineView, NoOriginalAboveTop, Storage, Represents}
use Rattle.b67_layout.specs.Placement.{Slotted, Placement, slot_of, spots, address_of}
use Rattle.b67_layout.specs.Layout.{machine_view}

-- each live task has a slot of its own, below the peak, and each row is a live task's
pub record RowsFit (plan : Placement) (jobs : List SessionJob) : Type 0 where
  pub live : (r : Slotted) → Has plan.rows r → (m : SessionJob) × (t : Task) × Has jobs m × (m.constants.number ≡ r.job) × Has m.progress.job.tasks t × (t.number ≡ r.task)
  pub slotted : (m : SessionJob) (t : Task) → Has jobs m → Has m.progress.job.tasks t → (r : Slotted) × Has plan.rows r × (r.job ≡ m.constants.number) × (r.task ≡ t.number)
  pub below : (r : Slotted) → Has plan.rows r → r.slot < plan.peak
  pub differ : (a b : Slotted) → Has plan.rows a → Has plan.rows b → a.slot ≡ b.slot → a ≡ b
  pub tasks_differ : (a b : Slotted) → Has plan.rows a → Has plan.rows b → a.job ≡ b.job → a.task ≡ b.task → a ≡ b

-- dictionaries follow each other in the jobs' order, up to slot 0
abbrev pub DictionariesFollow : Placement → ℕ → List SessionJob → Type 0
DictionariesFollow plan at [] = at ≡ plan.stacks
DictionariesFollow plan at (m ∷ more) =
    (plan.dictionary m.constants.number ≡ at) × DictionariesFollow plan (at + (2 + length m.constants.dictionary.cells)) more

-- the originals of data rows, whose identities are 1, 2 and so on, stand after the segment descriptors
abbrev pub RowHomes : Placement → SessionJob → Type 0
RowHomes plan m = (n : ℕ) → 1 ≤ n → n + length m.constants.segments ≤ length m.constants.dictionary.cells
    → plan.home m.constants.number n ≡ plan.dictionary m.constants.number + 1 + length m.constants.segments + n

pub record PlanFits (plan : Placement) (s : Session) : Type 0 where
  pub rows : RowsFit plan s.jobs
  pub peak : plan.peak ≡ s.peak
  pub few : plan.peak ≤ SLOTS
  pub sizes : (m : SessionJob) → Has s.jobs m → m.constants.stack_size ≡ plan.size
  pub dictionaries : DictionariesFollow plan FIRST_DICTIONARY s.jobs
  pub row_homes : (m : SessionJob) → Has s.jobs m → RowHomes plan m

-- the two words before a dictionary's entries; the entries are words of objects
pub record RepresentsDictionary (core : List Tagged) (plan : Placement) (m : SessionJob) : Type 0 where
  pub mark : slice_get core (plan.dictionary m.constants.number) ≡ Some (word 3 (2 ^ 47 + 2 ^ 46 + MCP_STACK * 2 ^ 36 + 1 * 2 ^ 14))
  pub entries : slice_get core (plan.dictionary m.constants.number + 1) ≡ Some (word 0 (length m.constants.dictionary.cells))

-- the MCP's mark and the intrinsics
pub record RepresentsMcp (core : List Tagged) : Type 0 where
  pub mark : slice_get core 0 ≡ Some (word 3 (2 ^ 46))
  pub intrinsics : (n : ℕ) → FIRST_INTRINSIC ≤ n → n ≤ LAST_INTRINSIC → slice_get core n ≡ Some (word 7 (2 ^ 19 + n))

-- the word of a slot in the stack vector: the parent's slot, FIRST_TASK for none, and the job
abbrev pub vector_word : Placement → ℕ → List ℕ → Tagged
vector_word plan j [] = word 3 (2 ^ 46 + FIRST_TASK * 2 ^ 36 + j * 2 ^ 16)
vector_word plan j (parent ∷ more) = word 3 (2 ^ 46 + slot_of plan j parent * 2 ^ 36 + j * 2 ^ 16)

pub record RepresentsVector (core : List Tagged) (plan : Placement) (jobs : List SessionJob) : Type 0 where
  pub live : (m : SessionJob) (t : Task) → Has jobs m → Has m.progress.job.tasks t
      → slice_get core (STACK_VECTOR + slot_of plan m.constants.number t.number) ≡ Some (vector_word plan m.constants.number t.parents)
  pub free : (k : ℕ) → k < SLOTS → ((r : Slotted) → Has plan.rows r → r.slot ≢ k) → slice_get core (STACK_VECTOR + k) ≡ Some (word 0 0)

-- the registers of the running task that its stack doesn't tell
pub record RepresentsTask (r : Regs) (plan : Placement) (m : SessionJob) (t : Task) : Type 0 where
  pub slot : r.slot ≡ slot_of plan m.constants.number t.number
  pub dict : r.dict ≡ plan.dictionary m.constants.number
  pub entries : r.entries ≡ length m.constants.dictionary.cells
  pub segment : r.segment ≡ t.segment + 1
  pub place : r.place ≡ t.place

-- a live task whose slot is the running one
pub record IsRunning (plan : Placement) (jobs : List SessionJob) (m : SessionJob) (t : Task) : Type 0 where
  pub member : keyed number_of m.constants.number jobs ≡ Some m
  pub task : keyed (λ (u : Task). u.number) t.number m.progress.job.tasks ≡ Some t
  pub slot : plan.running ≡ slot_of plan m.constants.number t.number

-- the address of a frame, seen from a task
abbrev pub frame_address : Placement → SessionJob → Task → ℕ → ℕ
frame_address plan m t identity = address_of plan (spots plan m.constants.number m.progress.job t identity)

-- the display: at each level up to the running one, the address of the frame that the environment has there
abbrev pub ShowsDisplay : List ℕ → Placement → SessionJob → Task → Type 0
ShowsDisplay display plan m t =
    (n : ℕ) → n ≤ level_of_frame (running t.frames)
    → slice_get display n ≡ Some (frame_address plan m t (frame_at (record { constants = m.constants; job = m.progress.job; task = t; at = t.place }) n).identity)

-- the displacement of the topmost frame that a live task depends on, 0 for none
abbrev pub critical_mark : Job → List Frame → ℕ
critical_mark job [] = 0
critical_mark job (f ∷ below) = if is_critical job f.identity then height below else critical_mark job below

pub record RepresentsCritical (critical : List ℕ) (plan : Placement) (jobs : List SessionJob) : Type 0 where
  pub live : (m : SessionJob) (t : Task) → Has jobs m → Has m.progress.job.tasks t
      → slice_get critical (slot_of plan m.constants.number t.number) ≡ Some (critical_mark m.progress.job t.frames)
  pub free : (k : ℕ) → k < SLOTS → ((r : Slotted) → Has plan.rows r → r.slot ≢ k) → slice_get critical k ≡ Some 0

-- the view with more objects
abbrev pub with_objects : List PagedObject → MachineView → MachineView
with_objects left p = record p { objects = left ++ p.objects }

-- all but the display. `left` are arrays of an activation record that was just left: their areas, chains and originals
-- are still there
pub record SessionHoldsBut (left : List PagedObject) (x : Storage) (core : List Tagged) (r : Regs) (marks : List ℕ) (plan : Placement) (s : Session) : Type 0 where
  pub fits : PlanFits plan s
  pub memory : Represents x core r (with_objects left (machine_view plan s.jobs))
  pub settled : NoOriginalAboveTop (machine_view plan s.jobs)
  pub dictionaries : (m : SessionJob) → Has s.jobs m → RepresentsDictionary core plan m
  pub mcp : RepresentsMcp core
  pub vector : RepresentsVector core plan s.jobs
  pub critical : RepresentsCritical marks plan s.jobs
  pub live : plan.running ≢ NO_SLOT → (m : SessionJob) × (t : Task) × IsRunning plan s.jobs m t
  pub running : (m : SessionJob) (t : Task) → IsRunning plan s.jobs m t → RepresentsTask r plan m t
  pub none : plan.running ≡ NO_SLOT → r.slot ≡ NO_SLOT

abbrev pub SessionHolds : Storage → List Tagged → Regs → List ℕ → Placement → Session → Type 0
SessionHolds = SessionHoldsBut []

-- the machine represents the session, but for what is left to release
pub record RepresentsSessionBut (left : List PagedObject) (x : Storage) (cpu : Cpu) (plan : Placement) (s : Session) : Type 0 where
  pub holds : SessionHoldsBut left x cpu.core cpu.regs cpu.critical plan s
  pub shows : (m : SessionJob) (t : Task) → IsRunning plan s.jobs m t → ShowsDisplay cpu.display plan m t

-- the machine represents the session
abbrev pub RepresentsSession : Storage → Cpu → Placement → Session → Type 0
RepresentsSession = RepresentsSessionBut []

-- the tables beside core are those that the storage says: where areas begin, which sectors are in chains, and what the
-- device tells that these hold
pub record RepresentsStorage (areas : Areas) (table : Table) (told : Option (List (List ℕ))) (core : List Tagged) (x : Storage) : Type 0 where
  pub low : areas.low ≡ x.low
  pub size : areas.size ≡ length core
  pub shelf : IsShelf table x.shelf
  pub device : told ≡ x.device

-- the machine represents some session of an order, whatever its sectors hold
pub record RepresentsSome (IsInOrder : Session → Type 0) (cpu : Cpu) : Type 0 where
  pub storage : Storage
  pub plan : Placement
  pub session : Session
  pub ordered : IsInOrder session
  pub untold : storage.device ≡ None
  pub stands : RepresentsSession storage cpu plan session
