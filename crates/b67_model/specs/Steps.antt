-- What one operator of a task makes: the rows' common parts.
use Rattle.std.specs.Prelude.{ℕ, ◌==◌, nat_le, not, Bool, ℤ, List, [], ◌∷◌, Option, Ok, filter}
use Rattle.std.specs.List.{list_any}
use Rattle.b67_word.specs.declared.faults.Fault.TheVariants.{StackOverflow}
use Rattle.b67_word.specs.declared.faults.Ending.{Ending}
use Rattle.b67_model.specs.Answers.{Answer, ◌>>◌, needs}
use Rattle.b67_model.specs.Words.{Word}
use Rattle.b67_model.specs.State.{Frame, Condition, Task, Job, OperatorContext, top, with_top_cells, height, with_task}

-- what a task's line says
pub data Line : Type 0 where
  Value : (value : ℤ) → Line
  Values : (values : List ℤ) → Line
  Ends : (ending : Ending) → Line

-- a step without a fault: it goes on, with what it printed and the array that it touched; or it leaves a bottom frame; or it waits
pub data Done : Type 0 where
  Goes : (job : Job) (printed : List Line) (touched : Option ℕ) → Done
  Leaves : Done
  Waits : (condition : Condition) → Done

abbrev pub top_of : OperatorContext → Frame
top_of h = top h.task.frames

abbrev pub cells_of : OperatorContext → List Word
cells_of h = (top_of h).cells

-- the result of a row, unless the stack is then higher than its size
abbrev pub result : OperatorContext → Job → Task → List Line → Option ℕ → Answer Done
result h job task printed touched = do
  needs (nat_le (height task.frames) h.constants.stack_size) StackOverflow
  Ok (Goes (with_task job task) printed touched)

-- the task with these frames
abbrev pub with_frames : OperatorContext → List Frame → Task
with_frames h frames = record h.task { frames = frames }

-- the task with these cells in its top frame
abbrev pub with_cells : OperatorContext → List Word → Task
with_cells h cells = with_frames h (with_top_cells h.task.frames cells)

-- the top frame's cells are these, and an array was touched or not
abbrev pub leaves_cells : OperatorContext → List Word → Option ℕ → Answer Done
leaves_cells h cells touched = result h h.job (with_cells h cells) [] touched

abbrev pub pushes : OperatorContext → Word → Option ℕ → Answer Done
pushes h w touched = leaves_cells h (w ∷ cells_of h) touched

-- some live task's parent may not leave this frame
abbrev pub is_critical : Job → ℕ → Bool
is_critical job identity = list_any (λ t. t.critical == identity) job.tasks

abbrev pub without_arrays_of : ℕ → Job → Job
without_arrays_of identity job = record job { arrays = filter (λ a. not (a.owner == identity)) job.arrays }
