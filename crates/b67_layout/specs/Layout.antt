-- The view of a session's state.
use Rattle.std.specs.Prelude.{ℕ, ◌+◌, ◌==◌, not, List, [], ◌∷◌, ◌++◌, map, flat_map, Option, Some, None, if◌then◌else◌}
use Rattle.b67_word.specs.Tagged.{word}
use Rattle.b67_ctl.specs.Layout.{pcw_word, intrinsic_word, irw_word, sirw_word}
use Rattle.b67_area.specs.declared.Kind.TheVariants as kind
use Rattle.b67_model.specs.Words as Words
use Rattle.b67_model.specs.Common.{Word, Operand, Name, Ref, Row, Element, Original, Proc, Intrinsic, Standing, Frame, Array, Segment, Task, Job, SessionJob, array}
use Rattle.b67_model.specs.State as State
use Rattle.b67_model.specs.Keyed.{keyed}
use Rattle.b67_stack.specs.Shapes as Shapes
use Rattle.b67_stack.specs.Common.{Shape, Is, Copy, StackPlace, Head, Marked, Entered, Activation, PagedObject, Slot, Free, Running, Waiting, MachineView}
use Rattle.b67_layout.specs.Placement.{Slotted, Placement, spot_in, outer_spots}

-- the shape of a cell's word, where the spots of frames are known
abbrev pub shape : Placement → ℕ → Job → (ℕ → StackPlace) → Word → Shape
shape plan j job spot (Operand bits) = Is (word 0 bits)
shape plan j job spot (Name couple) = Is (irw_word (record { couple = couple }))
shape plan j job spot (Ref frame offset) = Is (sirw_word (record { stack = (spot frame).stack; disp = (spot frame).disp; offset = offset }))
shape plan j job spot (Row a) =
    Copy (record { index = None; read_only = not (array job a).writable }) (plan.home j a)
shape plan j job spot (Element a index) =
    Copy (record { index = Some index; read_only = not (array job a).writable }) (plan.home j a)
shape plan j job spot (Original a) = Shapes.Original (plan.home j a)
shape plan j job spot (Proc segment level place) = Is (pcw_word (record { place = place; level = level; segment = segment + 1 }))
shape plan j job spot (Intrinsic n) = Is (intrinsic_word (record { number = n }))
shape plan j job spot (Words.Segment n) = Is (word 3 0)

-- a mark names its environment by its spot
abbrev pub head : (ℕ → StackPlace) → Standing → Head
head spot State.Marked = Marked
head spot (State.Entered level environment back) = Entered level (spot environment) back

-- a task's frames on slot k: a cell looks frames up from its own frame down, a mark from the frame below
abbrev pub activations : Placement → ℕ → Job → ℕ → (ℕ → StackPlace) → List Frame → List Activation
activations plan j job k outer [] = []
activations plan j job k outer (f ∷ below) =
    record { head = head (spot_in k outer below) f.standing; cells = map (shape plan j job (spot_in k outer (f ∷ below))) f.cells }
    ∷ activations plan j job k outer below

abbrev pub stack_of_task : Placement → ℕ → Job → ℕ → Task → List Activation
stack_of_task plan j job k t = activations plan j job k (outer_spots plan j job t.critical t.parents) t.frames

-- the slot of a live task, which runs or waits
abbrev pub slot_with : Placement → ℕ → ℕ → Job → Option Task → Slot
slot_with plan k j job None = Free
slot_with plan k j job (Some t) =
    if k == plan.running then Running (stack_of_task plan j job k t) else Waiting (stack_of_task plan j job k t)

abbrev pub slot_in : Placement → ℕ → ℕ → ℕ → Option SessionJob → Slot
slot_in plan k j task None = Free
slot_in plan k j task (Some m) = slot_with plan k j m.progress.job (keyed (λ t. t.number) task m.progress.job.tasks)

abbrev pub slot_by : Placement → List SessionJob → ℕ → Option Slotted → Slot
slot_by plan jobs k None = Free
slot_by plan jobs k (Some r) = slot_in plan k r.job r.task (keyed (λ (m : SessionJob). m.constants.number) r.job jobs)

abbrev pub slot_at : Placement → List SessionJob → ℕ → Slot
slot_at plan jobs k = slot_by plan jobs k (keyed (λ (r : Slotted). r.slot) k plan.rows)

-- the objects of a job: its segments, whose descriptors stand from displacement 2 of the dictionary on, and its arrays,
-- data rows among them
abbrev pub array_object : Placement → ℕ → Array → PagedObject
array_object plan j a = record { home = plan.home j a.identity; kind = if a.writable then kind.Array else kind.Row; numbers = a.numbers }

abbrev pub code_objects : Placement → ℕ → ℕ → List Segment → List PagedObject
code_objects plan j n [] = []
code_objects plan j n (s ∷ more) =
    record { home = plan.dictionary j + 1 + n; kind = kind.Code; numbers = s.code } ∷ code_objects plan j (n + 1) more

abbrev pub objects_of : Placement → SessionJob → List PagedObject
objects_of plan m =
    code_objects plan m.constants.number 1 m.constants.segments ++ map (array_object plan m.constants.number) m.progress.job.arrays

abbrev pub machine_view : Placement → List SessionJob → MachineView
machine_view plan jobs =
    record { stacks = plan.stacks; size = plan.size; peak = plan.peak; slots = slot_at plan jobs; objects = flat_map (objects_of plan) jobs }
