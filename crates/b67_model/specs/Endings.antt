-- The end of a step: who ends, who becomes ready, and what stays.
use Rattle.std.specs.Prelude.{ℕ, zero, suc, ◌==◌, not, Bool, true, false, List, [], ◌∷◌, ◌++◌, map, filter, reverse, length, Option, None, Ok, Err, if◌then◌else◌}
use Rattle.std.specs.List.{list_any, list_all}
use Rattle.b67_word.specs.declared.faults.Ending.{Ending}
use Rattle.b67_word.specs.declared.faults.Ending.TheVariants.{Ended, Parent, Deadlock, Limit, Faulted}
use Rattle.b67_model.specs.declared.limits.TheConstants.{MOST_TASKS}
use Rattle.b67_model.specs.Answers.{Answer}
use Rattle.b67_model.specs.State.{Array, Condition, Ready, Awaits, WaitsAt, Task, JobConstants, Job, with_task}
use Rattle.b67_model.specs.Steps.{Line, Ends, Done, Goes, Leaves, Waits}
use Rattle.b67_model.specs.Rows.{step}

abbrev pub among : List ℕ → ℕ → Bool
among ns n = list_any (λ m. m == n) ns

-- these tasks, those with most parents above them first, then by number; they come from the newest down
abbrev pub at_depth : ℕ → List Task → List ℕ
at_depth depth tasks = map (λ t. t.number) (filter (λ t. length t.parents == depth) (reverse tasks))

abbrev pub deepest_below : ℕ → List Task → List ℕ
deepest_below zero tasks = []
deepest_below (suc depth) tasks = at_depth depth tasks ++ deepest_below depth tasks

abbrev pub deepest_first : List Task → List ℕ
deepest_first tasks = deepest_below MOST_TASKS tasks

-- the tasks under one
abbrev pub descendants : Job → ℕ → List Task
descendants job number = filter (λ t. among t.parents number) job.tasks

abbrev pub all_with : Ending → List ℕ → List (ℕ × Ending)
all_with ending numbers = map (λ n. (n, ending)) numbers

-- a job and the endings of a step so far
pub record Settled : Type 0 where
  pub job : Job
  pub endings : List (ℕ × Ending)

-- a frame of one of these tasks owns the array
abbrev pub is_owned_by : List Task → Array → Bool
is_owned_by tasks a = list_any (λ t. list_any (λ f. f.identity == a.owner) t.frames) tasks

-- awaits one of these no more
abbrev pub released : List ℕ → Condition → Condition
released numbers (Awaits n) = if among numbers n then Ready else Awaits n
released numbers condition = condition

-- the tasks of these endings are gone with their frames and arrays, and who awaited one is ready
abbrev pub ends_all : Settled → List (ℕ × Ending) → Settled
ends_all s endings =
    let numbers = map (λ e. e.0) endings in
    let gone = filter (λ t. among numbers t.number) s.job.tasks in
    let stay = filter (λ t. not (among numbers t.number)) s.job.tasks in
    record {
      job = record s.job {
        tasks = map (λ (t : Task). record t { condition = released numbers t.condition }) stay;
        arrays = filter (λ a. not (is_owned_by gone a)) s.job.arrays;
      };
      endings = s.endings ++ endings;
    }

abbrev pub is_ready : Task → Bool
is_ready t = elim t.condition [ Ready ↦ true | Awaits n ↦ false | WaitsAt f offset ↦ false ]

-- the first two parts of the end of a step: the descendants of a task that ends, then itself
abbrev pub ends_task : Job → ℕ → Ending → Settled
ends_task job number ending =
    ends_all (record { job = job; endings = [] })
    (all_with Parent (deepest_first (descendants job number)) ++ (number, ending) ∷ [])

abbrev pub ends_each_if : Bool → Ending → Settled → Settled
ends_each_if true ending s = ends_all s (all_with ending (deepest_first s.job.tasks))
ends_each_if false ending s = s

-- the third part: a job with no ready task is deadlocked
abbrev pub deadlocked : Settled → Settled
deadlocked s = ends_each_if (list_all (λ t. not (is_ready t)) s.job.tasks) Deadlock s

-- the last part: the job has made as many operators as it may
abbrev pub limited : ℕ → ℕ → Settled → Settled
limited limit made s = ends_each_if (made == limit) Limit s

-- a step of a job's task without the last part of its end: what it printed, the array that it touched, how many tasks lived before the
-- endings, and the endings
pub record Stepped : Type 0 where
  pub printed : List Line
  pub touched : Option ℕ
  pub alive : ℕ
  pub settled : Settled

abbrev pub unsettled : Job → Settled
unsettled job = record { job = job; endings = [] }

-- a step that ends no task by itself
abbrev pub goes_on : Job → List Line → Option ℕ → Stepped
goes_on after printed touched =
    record { printed = printed; touched = touched; alive = length after.tasks; settled = deadlocked (unsettled after) }

abbrev pub ends_with : Job → ℕ → Ending → Stepped
ends_with job number ending =
    record { printed = []; touched = None; alive = length job.tasks; settled = deadlocked (ends_task job number ending) }

abbrev pub settles : Job → Task → Answer Done → Stepped
settles job task (Ok (Goes after printed touched)) = goes_on after printed touched
settles job task (Ok (Waits condition)) = goes_on (with_task job (record task { condition = condition })) [] None
settles job task (Ok Leaves) = ends_with job task.number Ended
settles job task (Err fault) = ends_with job task.number (Faulted fault)

unfoldable pub stepped : JobConstants → Job → Task → Stepped
stepped constants job task = settles job task (step constants job task)

-- the lines of a step, each with its task
abbrev pub step_lines : ℕ → List Line → List (ℕ × Ending) → List (ℕ × Line)
step_lines task printed endings = map (λ line. (task, line)) printed ++ map (λ e. (e.0, Ends e.1)) endings
