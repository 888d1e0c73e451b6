-- The state of the machine: activation records, here frames, with fresh identities; arrays; tasks and jobs.
use Rattle.std.specs.Prelude.{ℕ, ◌+◌, Bool, ℤ, List, [], ◌∷◌, ◌++◌, map, Option, None, flat_map, length, unwrap_or}
use Rattle.b67_word.specs.declared.couples.Place.{Place}
use Rattle.b67_word.specs.declared.faults.Ending.{Ending}
use Rattle.b67_model.specs.declared.intrinsics.TheConstants.{ARRAYDEC, PRINT, PRINTROW, READ, PROCESS, AWAIT, STATUS, WAIT, CAUSE, DEALLOCATE, RESIZE}
use Rattle.b67_model.specs.Keyed.{keyed, change_keyed}
use Rattle.b67_model.specs.Words.{Word, Intrinsic}

-- where the caller of a left frame goes on, and whether its operator wants the value that is returned
pub record Return : Type 0 where
  pub value : Bool
  pub segment : ℕ
  pub place : Place

-- marked by MKST, or entered at a level with a static link, the identity of its environment. A frame that nothing returns
-- from, as a task's bottom one, has no return
pub data Standing : Type 0 where
  Marked : Standing
  Entered : (level environment : ℕ) (back : Option Return) → Standing

-- an activation record. The cells stand from the top down
pub record Frame : Type 0 where
  pub identity : ℕ
  pub standing : Standing
  pub cells : List Word

-- an array of 48-bit numbers, with the frame at whose end it ends
pub record Array : Type 0 where
  pub identity : ℕ
  pub owner : ℕ
  pub writable : Bool
  pub numbers : List ℕ

-- ready, or waiting for a task's end or at a cell
pub data Condition : Type 0 where
  Ready : Condition
  Awaits : (task : ℕ) → Condition
  WaitsAt : (frame offset : ℕ) → Condition

-- a live task: the numbers of its parents from the nearest up, the frame that its parent may not leave (the MCP's,
-- which nobody leaves, for a first task), and its own frames from the top down
pub record Task : Type 0 where
  pub number : ℕ
  pub parents : List ℕ
  pub critical : ℕ
  pub frames : List Frame
  pub segment : ℕ
  pub place : Place
  pub condition : Condition

-- a segment of code, of 48-bit words. Beside its first place a procedure may begin at its entries, each as a branch's 16 bits
pub record Segment : Type 0 where
  pub level : ℕ
  pub entries : List ℕ
  pub code : List ℕ

-- what no step of a job changes: its number, the stack size and the limit, its segments and its dictionary
pub record JobConstants : Type 0 where
  pub number : ℕ
  pub stack_size : ℕ
  pub limit : ℕ
  pub segments : List Segment
  pub dictionary : Frame

-- what an operator of a job may change; the live tasks stand from the newest down
pub record Job : Type 0 where
  pub arrays : List Array
  pub tasks : List Task
  pub numbers : List ℤ
  pub next_task : ℕ
  pub next_frame : ℕ
  pub next_array : ℕ

-- how far a job has come. Only the end of a step changes its count of operators and its ended tasks
pub record JobProgress : Type 0 where
  pub job : Job
  pub made : ℕ
  pub ended : List (ℕ × Ending)

-- a job of a session
pub record SessionJob : Type 0 where
  pub constants : JobConstants
  pub progress : JobProgress

abbrev pub number_of : SessionJob → ℕ
number_of m = m.constants.number

-- where an operator is made: in a job, by a task that stands past the operator, which is at this place
pub record OperatorContext : Type 0 where
  pub constants : JobConstants
  pub job : Job
  pub task : Task
  pub at : Place

-- identity 0 is the frame of the MCP in each job, and 1 the job's dictionary. The MCP's frame has no environment beside
-- itself
abbrev pub mcp : Frame
mcp = record { identity = 0; standing = Entered 0 0 None; cells = map Intrinsic (RESIZE ∷ DEALLOCATE ∷ CAUSE ∷ WAIT ∷ STATUS ∷ AWAIT ∷ PROCESS ∷ READ ∷ PRINTROW ∷ PRINT ∷ ARRAYDEC ∷ []) }

-- what represents a frame that no identity names
abbrev pub no_frame : Frame
no_frame = record { identity = 0; standing = Marked; cells = [] }

abbrev pub all_frames : OperatorContext → List Frame
all_frames h = flat_map (λ t. t.frames) h.job.tasks ++ (h.constants.dictionary ∷ mcp ∷ [])

abbrev pub frame : OperatorContext → ℕ → Frame
frame h identity = unwrap_or (keyed (λ f. f.identity) identity (all_frames h)) no_frame

abbrev pub top : List Frame → Frame
top [] = no_frame
top (f ∷ below) = f

abbrev pub below_top : List Frame → List Frame
below_top [] = []
below_top (f ∷ below) = below

-- the frames with other cells in the top one
abbrev pub with_top_cells : List Frame → List Word → List Frame
with_top_cells [] cells = []
with_top_cells (f ∷ below) cells = record f { cells = cells } ∷ below

-- the words of a frame before its cells: its mark, and its return where it is entered
abbrev pub head_words : Standing → ℕ
head_words Marked = 1
head_words (Entered level environment back) = 2

abbrev pub words_of : Frame → ℕ
words_of f = head_words f.standing + length f.cells

-- the words of a stack
abbrev pub height : List Frame → ℕ
height [] = 1
height (f ∷ below) = height below + words_of f

-- the job with a task as it is now
abbrev pub with_task : Job → Task → Job
with_task job task = record job { tasks = change_keyed (λ t. t.number) task.number (λ t. task) job.tasks }
