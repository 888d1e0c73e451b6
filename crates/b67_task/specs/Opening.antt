-- The slot that a new task gets, and the peak that it raises.
use Rattle.std.specs.Prelude.{◌≡◌, ◌≢◌, ℕ, ◌+◌, ◌*◌, ◌<◌, ◌≤◌, List, length, Some}
use Rattle.b67_word.specs.Tagged.{Tagged}
use Rattle.b67_ctl.specs.declared.map.TheConstants.{SLOTS}
use Rattle.b67_area.specs.declared.Areas.{Areas}
use Rattle.b67_area.specs.declared.Info.{Info}
use Rattle.b67_area.specs.Spans.{area_at}
use Rattle.b67_ctl.specs.declared.registers.Regs.{Regs}
use Rattle.b67_lemmas.specs.Lists.{Has}
use Rattle.b67_layout.specs.Common.{IsInOrderButCounts, Slotted, Placement, SessionHolds, RepresentsSession, peak_with}
use Rattle.b67_model.specs.Run.{live_tasks}
use Rattle.b67_model.specs.Schedule.{Session}
use Rattle.b67_stack.specs.declared.Cpu.{Cpu}
use Rattle.b67_stack.specs.Represents.{Storage}
use Rattle.b67_task.specs.Born.{with_peak}

-- slot k is the lowest in which no task lives
pub record IsLowestFree (plan : Placement) (k : ℕ) : Type 0 where
  pub free : (r : Slotted) → Has plan.rows r → r.slot ≢ k
  pub lowest : (i : ℕ) → i < k → (r : Slotted) × Has plan.rows r × (r.slot ≡ i)

-- the address after a slot
abbrev pub slot_end : Placement → ℕ → ℕ
slot_end plan k = plan.stacks + (k + 1) * plan.size

-- core and registers represent some session
pub record HoldsOne (core : List Tagged) (r : Regs) : Type 0 where
  pub storage : Storage
  pub marks : List ℕ
  pub plan : Placement
  pub session : Session
  pub holds : SessionHolds storage core r marks plan session

-- the machine represents some session
pub record HasSome (cpu : Cpu) : Type 0 where
  pub storage : Storage
  pub plan : Placement
  pub session : Session
  pub stands : RepresentsSession storage cpu plan session

-- slot k is the lowest free one, it lies inside core, and no area has a word below its end
pub record HasSlot (x : Storage) (plan : Placement) (s : Session) (core k : ℕ) : Type 0 where
  pub few : live_tasks s.jobs < SLOTS
  pub some : 0 < plan.size
  pub lowest : IsLowestFree plan k
  pub inside : slot_end plan k ≤ core
  pub clear : (at : ℕ) (a : Info) → area_at x.low x.spans at ≡ Some a → slot_end plan k < at

-- the machine represents some session in order, which has such a slot
pub record HasSomeSlot (cpu : Cpu) (areas : Areas) : Type 0 where
  pub storage : Storage
  pub plan : Placement
  pub session : Session
  pub slot : ℕ
  pub ordered : IsInOrderButCounts session
  pub stands : RepresentsSession storage cpu plan session
  pub low : areas.low ≡ storage.low
  pub has : HasSlot storage plan session (length cpu.core) slot

-- the machine represents the session whose peak counts one live task more. What the sectors hold is as it was
pub record SlotOpened (x : Storage) (plan : Placement) (s : Session) (cpu : Cpu) (areas : Areas) : Type 0 where
  pub storage : Storage
  pub stands : RepresentsSession storage cpu (with_peak plan (peak_with s 1)) (record s { peak = peak_with s 1 })
  pub low : areas.low ≡ storage.low
  pub shelf : storage.shelf ≡ x.shelf
  pub device : storage.device ≡ x.device
