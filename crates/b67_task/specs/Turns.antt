-- Which task's registers are in use.
use Rattle.std.specs.Prelude.{◌≡◌, ℕ, ◌+◌, ◌-◌, ◌<◌, List, length, Some}
use Rattle.b67_word.specs.Tagged.{Tagged}
use Rattle.b67_ctl.specs.declared.registers.Regs.{Regs}
use Rattle.b67_model.specs.Common.{Task, SessionJob, number_of, Session}
use Rattle.b67_model.specs.Keyed.{keyed}
use Rattle.b67_layout.specs.Common.{IsInOrderButCounts, Placement, slot_of, RepresentsSession}
use Rattle.b67_stack.specs.declared.Cpu.{Cpu}
use Rattle.b67_stack.specs.Common.{Activation, stack_words, mark_place, stack_level, MachineView, Waiting, slot_base, Storage, Represents}
use Rattle.b67_task.specs.declared.registers.Turn.{Turn}

-- the plan with the registers of the task in a slot in use, NO_SLOT for none
abbrev pub with_running : Placement → ℕ → Placement
with_running plan k = record plan { running = k }

-- a live task by its slot, its job's dictionary and where it goes on
pub record IsTurnOf (plan : Placement) (jobs : List SessionJob) (m : SessionJob) (t : Task) (turn : Turn) : Type 0 where
  pub member : keyed number_of m.constants.number jobs ≡ Some m
  pub task : keyed (λ (u : Task). u.number) t.number m.progress.job.tasks ≡ Some t
  pub slot : turn.slot ≡ slot_of plan m.constants.number t.number
  pub dict : turn.dict ≡ plan.dictionary m.constants.number
  pub entries : turn.entries ≡ length m.constants.dictionary.cells
  pub segment : turn.segment ≡ t.segment + 1
  pub place : turn.place ≡ t.place

-- the machine represents some session in order, of which this is a live task
pub record HasTurn (cpu : Cpu) (turn : Turn) : Type 0 where
  pub storage : Storage
  pub plan : Placement
  pub session : Session
  pub member : SessionJob
  pub task : Task
  pub ordered : IsInOrderButCounts session
  pub stands : RepresentsSession storage cpu plan session
  pub waits : IsTurnOf plan session.jobs member task turn

-- it represents some session
pub record StandsForOne (cpu : Cpu) : Type 0 where
  pub storage : Storage
  pub plan : Placement
  pub session : Session
  pub stands : RepresentsSession storage cpu plan session

-- the task of slot k waits, on this stack
pub record WaitsOn (p : MachineView) (k : ℕ) (stack : List Activation) : Type 0 where
  pub used : k < p.peak
  pub is : p.slots k ≡ Waiting stack

-- it does in some view
pub record WaitsInOne (core : List Tagged) (r : Regs) (k : ℕ) : Type 0 where
  pub storage : Storage
  pub machine_view : MachineView
  pub stack : List Activation
  pub stands : Represents storage core r machine_view
  pub waits : WaitsOn machine_view k stack

-- the registers of a task on its stack
abbrev pub loaded : Regs → MachineView → List Activation → Turn → Regs
loaded r p stack turn = record r {
  s = slot_base p turn.slot + stack_words stack;
  f = slot_base p turn.slot + mark_place stack;
  bosr = slot_base p turn.slot;
  losr = slot_base p turn.slot + p.size - 1;
  slot = turn.slot;
  level = stack_level stack;
  segment = turn.segment;
  place = turn.place;
  dict = turn.dict;
  entries = turn.entries;
}
