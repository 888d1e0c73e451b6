-- Where a machine keeps the objects of a session: what the session's state doesn't say.
use Rattle.std.specs.Prelude.{ℕ, ◌+◌, ◌-◌, ◌*◌, ◌==◌, ◌&&◌, nat_lt, List, [], ◌∷◌, find, option_map, unwrap_or, if◌then◌else◌, Bool}
use Rattle.b67_ctl.specs.declared.registers.TheConstants.{NO_SLOT}
use Rattle.b67_ctl.specs.declared.map.TheConstants.{DICTIONARY_STACKS, MCP_STACK, SLOTS}
use Rattle.b67_model.specs.Common.{Frame, Task, Job, height, from_frame, frames_of_task, critical_of}
use Rattle.b67_model.specs.Keyed.{keyed}
use Rattle.b67_stack.specs.Stacks.{StackPlace}

-- a live task's slot
pub record Slotted : Type 0 where
  pub job : ℕ
  pub task : ℕ
  pub slot : ℕ

pub record Placement : Type 0 where
  -- the address of slot 0, the words of a slot, and how many slots were used so far
  pub stacks : ℕ
  pub size : ℕ
  pub peak : ℕ
  -- the live tasks
  pub rows : List Slotted
  -- the slot of the task whose registers stand in the registers; NO_SLOT for none
  pub running : ℕ
  -- the base of a job's dictionary
  pub dictionary : ℕ → ℕ
  -- the address of an array's original, by job and identity
  pub home : ℕ → ℕ → ℕ

abbrev pub is_row_of : ℕ → ℕ → Slotted → Bool
is_row_of job task r = (r.job == job) && (r.task == task)

abbrev pub slot_of : Placement → ℕ → ℕ → ℕ
slot_of plan job task = unwrap_or (option_map (λ (r : Slotted). r.slot) (find (is_row_of job task) plan.rows)) NO_SLOT

-- the spot of a frame that is looked up from here down: among these frames of slot k, else further out
abbrev pub spot_in : ℕ → (ℕ → StackPlace) → List Frame → ℕ → StackPlace
spot_in k outer [] identity = outer identity
spot_in k outer (f ∷ below) identity =
    if f.identity == identity then record { stack = k; disp = height below } else spot_in k outer below identity

-- stack numbers from DICTIONARY_STACKS + 1 on are the dictionaries of jobs 1 to 8, and MCP_STACK is the MCP
abbrev pub base_spot : ℕ → ℕ → StackPlace
base_spot job identity =
    if identity == 1 then record { stack = DICTIONARY_STACKS + job; disp = 0 } else record { stack = MCP_STACK; disp = 0 }

-- among the parents' frames from the critical ones down, else the dictionary or the MCP
abbrev pub outer_spots : Placement → ℕ → Job → ℕ → List ℕ → ℕ → StackPlace
outer_spots plan j job critical [] identity = base_spot j identity
outer_spots plan j job critical (parent ∷ more) identity =
    let t = keyed (λ t. t.number) parent job.tasks in
    spot_in (slot_of plan j parent) (outer_spots plan j job (critical_of t) more) (from_frame critical (frames_of_task t)) identity

-- the spots that a task's frames name
abbrev pub spots : Placement → ℕ → Job → Task → ℕ → StackPlace
spots plan j job t identity =
    spot_in (slot_of plan j t.number) (outer_spots plan j job t.critical t.parents) t.frames identity

-- the core address of the base word of a stack
abbrev pub base_of : Placement → ℕ → ℕ
base_of plan k = if nat_lt k SLOTS then plan.stacks + k * plan.size else (if nat_lt k MCP_STACK then plan.dictionary (k - DICTIONARY_STACKS) else 0)

-- that of a spot
abbrev pub address_of : Placement → StackPlace → ℕ
address_of plan s = base_of plan s.stack + s.disp
