-- The registers that the leaving of an activation record makes.
use Rattle.std.specs.Prelude.{◌≡◌, ◌≢◌, ℕ, ◌+◌, List, [], ◌∷◌, Some, false}
use Rattle.b67_ctl.specs.declared.registers.Regs.{Regs}
use Rattle.b67_model.specs.State as State
use Rattle.b67_model.specs.Common.{Return, Frame, Task, OperatorContext, SessionJob, with_task, level_of_frame, is_critical, without_arrays_of, IsSegment}
use Rattle.b67_model.specs.Environment as Environment
use Rattle.b67_stack.specs.declared.Cpu.{Cpu}
use Rattle.b67_stack.specs.Common.{StackPlace, Activation, Entered, stack_words, mark_place, stack_level, MachineView, RunsOn, Storage, Represents}
use Rattle.b67_layout.specs.Common.{Placement, outer_spots, activations}

-- the running stack's top activation record is entered, with a return to one below
pub record MayReturn (cpu : Cpu) : Type 0 where
  pub storage : Storage
  pub machine_view : MachineView
  pub top : Activation
  pub below : List Activation
  pub level : ℕ
  pub environment : StackPlace
  pub back : Return
  pub stands : Represents storage cpu.core cpu.regs machine_view
  pub runs : RunsOn machine_view cpu.regs.slot (top ∷ below)
  pub entered : top.head ≡ Entered level environment (Some back)
  pub some : below ≢ []

-- registers that go on at the stack and the place of others, in the same slot
abbrev pub going_on : Regs → Regs → Regs
going_on r v = record r { s = v.s; f = v.f; level = v.level; segment = v.segment; place = v.place }

-- the registers on the stack below, where the caller goes on
abbrev pub caller_regs : Regs → List Activation → Return → Regs
caller_regs r below back =
    record r { s = r.bosr + stack_words below; f = r.bosr + mark_place below; level = stack_level below; segment = back.segment + 1; place = back.place }

-- the task's top frame is entered with a return to others, and no live task depends on it
pub record Returns (m : SessionJob) (t : Task) : Type 0 where
  pub f : Frame
  pub next : Frame
  pub more : List Frame
  pub level : ℕ
  pub environment : ℕ
  pub back : Return
  pub frames : t.frames ≡ f ∷ next ∷ more
  pub entered : f.standing ≡ State.Entered level environment (Some back)
  pub starts : IsSegment m.constants back.segment (level_of_frame (Environment.running (next ∷ more))) back.place
  pub free : is_critical m.progress.job f.identity ≡ false

-- the caller's stack
abbrev pub caller_stack : Placement → (m : SessionJob) (t : Task) → Returns m t → List Activation
caller_stack plan m t a = activations plan m.constants.number m.progress.job plan.running (outer_spots plan m.constants.number m.progress.job t.critical t.parents) (a.next ∷ a.more)

-- where the task stands without the frame, whose arrays are gone
abbrev pub here_left : (m : SessionJob) (t : Task) → Returns m t → OperatorContext
here_left m t a =
    let task = record t { frames = a.next ∷ a.more; segment = a.back.segment; place = a.back.place } in
    record { constants = m.constants; job = with_task (without_arrays_of a.f.identity m.progress.job) task; task = task; at = t.place }
