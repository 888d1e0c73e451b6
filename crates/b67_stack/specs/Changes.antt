-- What push, pop, mark and cut make of the machine and of a stack.
use Rattle.std.specs.Prelude.{ℕ, false, ◌+◌, ◌-◌, List, [], ◌∷◌, slice_set}
use Rattle.b67_word.specs.Tagged.{Tagged}
use Rattle.b67_ctl.specs.Layout.{mscw_word}
use Rattle.b67_stack.specs.declared.Cpu.{Cpu}
use Rattle.b67_stack.specs.Shapes.{Shape, Is, Original, Copy}
use Rattle.b67_stack.specs.Stacks.{Activation, Marked, stack_words, mark_place, stack_level}
use Rattle.b67_stack.specs.MachineView.{PagedObject, MachineView, Running, with_slot, RunsOn, IsArrayAt}
use Rattle.b67_stack.specs.Represents.{Storage, Represents}

-- a task runs on a stack of some view that the machine represents
pub record Runs (cpu : Cpu) : Type 0 where
  pub storage : Storage
  pub machine_view : MachineView
  pub stack : List Activation
  pub stands : Represents storage cpu.core cpu.regs machine_view
  pub runs : RunsOn machine_view cpu.regs.slot stack

-- the machine with a word more on the stack, or one less
abbrev pub pushed : Cpu → Tagged → Cpu
pushed cpu w =
    record cpu { core = slice_set cpu.core (cpu.regs.s + 1) w; regs = record cpu.regs { s = cpu.regs.s + 1 } }

abbrev pub popped : Cpu → Cpu
popped cpu = record cpu { regs = record cpu.regs { s = cpu.regs.s - 1 } }

-- with a mark more, linked to the last
abbrev pub marked : Cpu → Cpu
marked cpu = record cpu {
  core = slice_set cpu.core (cpu.regs.s + 1) (mscw_word (record { far = false; entered = false; env_stack = 0; env_disp = 0; value = false; level = 0; back = cpu.regs.s + 1 - cpu.regs.f }));
  regs = record cpu.regs { s = cpu.regs.s + 1; f = cpu.regs.s + 1 };
}

-- with the registers of a stack in the running slot
abbrev pub topped : Cpu → List Activation → Cpu
topped cpu stack = record cpu {
  regs = record cpu.regs { s = cpu.regs.bosr + stack_words stack; f = cpu.regs.bosr + mark_place stack; level = stack_level stack };
}

-- the cells of the top activation record, and the stack with others there
abbrev pub top_cells : List Activation → List Shape
top_cells [] = []
top_cells (a ∷ below) = a.cells

abbrev pub stack_with_cells : List Activation → List Shape → List Activation
stack_with_cells [] cells = []
stack_with_cells (a ∷ below) cells = record a { cells = cells } ∷ below

abbrev pub without_first : List Shape → List Shape
without_first [] = []
without_first (a ∷ more) = more

abbrev pub activations_below : List Activation → List Activation
activations_below [] = []
activations_below (a ∷ below) = below

-- a mark alone
abbrev pub new_mark : Activation
new_mark = record { head = Marked; cells = [] }

-- the view with another stack running in slot k
abbrev pub with_stack : MachineView → ℕ → List Activation → MachineView
with_stack p k stack = with_slot p k (Running stack)

-- a word that may be pushed: no original, and a copy of an array that is there
abbrev pub MayPush : List PagedObject → Shape → Type 0
MayPush objects (Is w) = Unit {0}
MayPush objects (Original home) = ⊥
MayPush objects (Copy c home) = IsArrayAt objects home
