-- What is read of core is what stands there.
use Rattle.std.specs.Prelude.{◌≡◌, ◌≢◌, ℕ, ◌+◌, ◌*◌, ◌^◌, ◌<◌, ◌≤◌, List, [], ◌∷◌, Some, None, length, map}
use Rattle.b67_word.specs.Tagged.{Tagged}
use Rattle.b67_ctl.specs.declared.registers.Regs.{Regs}
use Rattle.b67_lemmas.specs.Lists.{Has}
use Rattle.std.specs.List.{AllByRecursion}
use Rattle.b67_model.specs.Common.{Array, Task, Job, JobConstants, SessionJob, IsSegment, SettingInOrder, TasksInOrder, IsInOrderButPlaces, Session}
use Rattle.b67_stack.specs.declared.Cpu.{Cpu}
use Rattle.b67_stack.specs.Common.{Head, Marked, Entered, Activation, mark_place, stack_words, MachineView, slot_base, stack_of, Storage, Represents}
use Rattle.b67_layout_shown.specs.Reading.{stack_seen}
use Rattle.b67_layout.specs.Common.{Placement, slot_of, stack_of_task, TaskRow, JobRow, JobCounts, JobShows, TablesShow, IsInOrderButCounts, RepresentsSession}
use Rattle.b67_layout_shown.specs.Places.{name_among, array_among, frame_by, job_placed}
use Rattle.b67_layout_shown.specs.Shown.{Sight, frame_seen, array_homed, frames_of, job_seen, numbers_read, shown, placed}

-- only the bottom activation record has nothing to return to
abbrev pub HasCaller : Head → List Activation → Type 0
HasCaller Marked below = Unit {0}
HasCaller (Entered level environment None) below = Unit {0}
HasCaller (Entered level environment (Some r)) below = below ≢ []

abbrev pub HaveCallers : List Activation → Type 0
HaveCallers [] = Unit {0}
HaveCallers (a ∷ below) = HasCaller a.head below × HaveCallers below

-- the stack that stands in a slot is what is read from its topmost mark down
abbrev pub StacksAreRead : Type 0
StacksAreRead =
    (x : Storage) (core : List Tagged) (r : Regs) (p : MachineView) → Represents x core r p → (k : ℕ) → k < p.peak → (stack : List Activation) → stack_of (p.slots k) ≡ stack →
    stack ≢ [] → HaveCallers stack → (n : ℕ) → length stack ≤ n → stack_seen core n (slot_base p k + mark_place stack) (slot_base p k + stack_words stack) ≡ stack

-- What a machine shows that represents a session in order but for places is in order but for places
abbrev pub ShownIsInOrder : Type 0
ShownIsInOrder =
    (x : Storage) (cpu : Cpu) (plan : Placement) (s : Session) (tasks : List TaskRow) (jobs : List JobRow) (c : JobCounts) →
    IsInOrderButPlaces s → RepresentsSession x cpu plan s → TablesShow plan s tasks jobs c →
    IsInOrderButPlaces (shown (record { core = cpu.core; regs = cpu.regs; tasks = tasks; jobs = jobs; counts = c }))

-- A machine that represents a session in order but for places, whatever its device holds, represents what it shows
abbrev pub ShownIsRepresented : Type 0
ShownIsRepresented =
    (x : Storage) (cpu : Cpu) (plan : Placement) (s : Session) (tasks : List TaskRow) (jobs : List JobRow) (c : JobCounts) →
    IsInOrderButPlaces s → RepresentsSession x cpu plan s → TablesShow plan s tasks jobs c → x.device ≡ None →
    let k : Sight = record { core = cpu.core; regs = cpu.regs; tasks = tasks; jobs = jobs; counts = c } in
    RepresentsSession x cpu (placed k) (shown k) × TablesShow (placed k) (shown k) tasks jobs c
