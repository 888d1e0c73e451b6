-- The marks in a task's reach, as places in the machine's stacks: what a test looks at.
use Rattle.std.specs.Prelude.{◌≡◌, ℕ, zero, suc, ◌+◌, ◌<◌, ◌==◌, List, [], ◌∷◌, ◌++◌, map, Option, Some, None, if◌then◌else◌}
use Rattle.b67_ctl.specs.declared.map.TheConstants.{DICTIONARY_STACKS, MCP_STACK, SLOTS}
use Rattle.b67_model.specs.declared.limits.TheConstants.{MOST_JOBS, MOST_TASKS}
use Rattle.b67_lemmas.specs.Lists.{Has}
use Rattle.b67_model.specs.Keyed.{keyed}
use Rattle.b67_model.specs.Common.{Task, Known, reach_of}
use Rattle.b67_stack.specs.Stacks.{StackPlace, Head, Entered, Activation, stack_words}
use Rattle.b67_layout.specs.Rows.{TaskRow, JobRow}
use Rattle.b67_layout_shown.specs.Shown.{Sight, frame_seen, standing_of, stack_of_row, task_in, job_seen}

-- a mark's place and how its activation record begins
abbrev pub Seen : Type 0
Seen = StackPlace × Head

abbrev pub seen_in : ℕ → List Activation → List Seen
seen_in k [] = []
seen_in k (a ∷ below) = (record { stack = k; disp = stack_words below + 1 }, a.head) ∷ seen_in k below

-- the activation records from the mark at a displacement down
abbrev pub from_disp : ℕ → List Activation → List Activation
from_disp disp [] = []
from_disp disp (a ∷ below) = if stack_words below + 1 == disp then a ∷ below else from_disp disp below

-- a job's dictionary and the MCP
abbrev pub base_seen : ℕ → List Seen
base_seen job =
    (record { stack = DICTIONARY_STACKS + job; disp = 0 }, Entered 1 (record { stack = MCP_STACK; disp = 0 }) None)
    ∷ (record { stack = MCP_STACK; disp = 0 }, Entered 0 (record { stack = MCP_STACK; disp = 0 }) None) ∷ []

-- what is seen in the parents' stacks, each from the critical mark down, at most n
abbrev pub seen_from : Sight → ℕ → ℕ → ℕ → Option TaskRow → List Seen
seen_from k job zero disp p = base_seen job
seen_from k job (suc n) disp None = base_seen job
seen_from k job (suc n) disp (Some p) =
    seen_in p.slot (from_disp disp (stack_of_row k p)) ++ seen_from k job n p.critical (keyed (λ (q : TaskRow). q.slot) p.parent k.tasks)

abbrev pub seen_by : Sight → TaskRow → List Seen
seen_by k r = seen_in r.slot (stack_of_row k r) ++ seen_from k r.job MOST_TASKS r.critical (keyed (λ (q : TaskRow). q.slot) r.parent k.tasks)

-- by their names
abbrev pub known_seen : Sight → ℕ → Seen → Known
known_seen k job s = (frame_seen k.tasks job s.0, standing_of (frame_seen k.tasks job) s.1)

-- the tables of a job are sound: slots are some of those that there are, the row of each slot is found, each row's task by its number, and each parent
-- is of the same job
pub record RowsAreSound (k : Sight) (row : JobRow) (job : ℕ) : Type 0 where
  pub few : job < MOST_JOBS + 1
  pub low : (r : TaskRow) → Has k.tasks r → r.slot < SLOTS
  pub found : (r : TaskRow) → Has k.tasks r → keyed (λ (q : TaskRow). q.slot) r.slot k.tasks ≡ Some r
  pub task : (r : TaskRow) → Has k.tasks r → r.job ≡ job → keyed (λ (t : Task). t.number) r.number (job_seen k row job).tasks ≡ Some (task_in k row job r)
  pub same : (r p : TaskRow) → Has k.tasks r → r.job ≡ job → keyed (λ (q : TaskRow). q.slot) r.parent k.tasks ≡ Some p → p.job ≡ job

-- then the reach of what is shown of a task is what is seen of it
abbrev pub ReachIsSeen : Type 0
ReachIsSeen =
    (k : Sight) (row : JobRow) (job : ℕ) → RowsAreSound k row job → (r : TaskRow) → Has k.tasks r → r.job ≡ job →
    reach_of (job_seen k row job) (task_in k row job r) ≡ map (known_seen k job) (seen_by k r)
