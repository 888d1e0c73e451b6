-- A job whose tasks end, or are deadlocked, stays in order.
use Rattle.std.proofs.Common.{◌≡◌, ◌≢◌, ℕ, ◌+◌, ◌≤◌, Bool, true, false, not, List, [], ◌∷◌, map, filter, length, Option, IsTrue, refl, ap, arith}
use Rattle.std.specs.List.{list_all}
use Rattle.std.proofs.lemmas.Bool.{true≢false}
use Rattle.std.proofs.lemmas.List.{length-map}
use Rattle.b67_word.specs.declared.faults.Ending.{Ending}
use Rattle.b67_word.specs.declared.faults.Ending.TheVariants.{Deadlock}
use Rattle.b67_lemmas.specs.Lists.{Has}
use Rattle.b67_lemmas.proofs.Members.{filter_none, length_filter}
use Rattle.b67_model.specs.Common.{Task, JobConstants, Job, JobProgress, Line, Settled, among, released, all_with, deepest_first, is_ready, ends_all, ends_each_if, ends_task, ends_with, deadlocked, unsettled, Starts, IsSegment, TasksInOrder}
use Rattle.b67_model.specs.Endings.{goes_on}
use Rattle.b67_law.proofs.Deaths.{ends_good, ends_task_good, all_closed, all_among}
use Rattle.b67_law.specs.Orders.{SettlesInOrder}

pub each_good : (P : Starts) (constants : JobConstants) (test : Bool) (ending : Ending) (z : Settled) → TasksInOrder P constants z.job → TasksInOrder P constants (ends_each_if test ending z).job
each_good P constants false ending z g = g
each_good P constants true ending z g = ends_good P constants z (all_with ending (deepest_first z.job.tasks)) g (all_closed P constants z.job ending g)

pub all_gone : (P : Starts) (constants : JobConstants) (z : Settled) (ending : Ending) → TasksInOrder P constants z.job → (ends_each_if true ending z).job.tasks ≡ []
all_gone P constants z ending g =
    let numbers = map (λ (e : ℕ × Ending). e.0) (all_with ending (deepest_first z.job.tasks)) in
    let none : filter (λ (t : Task). not (among numbers t.number)) z.job.tasks ≡ [] =
    filter_none (λ (t : Task). not (among numbers t.number)) z.job.tasks (λ t h. let e = all_among P constants z.job ending g t h in rw e refl) in
    ap (λ (ts : List Task). map (λ (t : Task). record t { condition = released numbers t.condition }) ts) none

each_next : (test : Bool) (ending : Ending) (z : Settled) → (ends_each_if test ending z).job.next_task ≡ z.job.next_task
each_next true ending z = refl
each_next false ending z = refl

pub ends_fewer : (z : Settled) (endings : List (ℕ × Ending)) → length (ends_all z endings).job.tasks ≤ length z.job.tasks
ends_fewer z endings = grind (arith, length-map, length_filter)

each_fewer : (test : Bool) (ending : Ending) (z : Settled) → length (ends_each_if test ending z).job.tasks ≤ length z.job.tasks
each_fewer true ending z = ends_fewer z _
each_fewer false ending z = omega arith

-- who is ready where there is no deadlock
some_ready : (tasks : List Task) → list_all (λ t. not (is_ready t)) tasks ≡ false → (t : Task) × Has tasks t × IsTrue (is_ready t)
some_ready [] e = absurd (true≢false e)
some_ready (t ∷ tasks) e = grind (arith, some_ready tasks)

ready_by : (P : Starts) (constants : JobConstants) (z : Settled) (test : Bool) → list_all (λ t. not (is_ready t)) z.job.tasks ≡ test → TasksInOrder P constants z.job → (ends_each_if test Deadlock z).job.tasks ≢ []
    → (t : Task) × Has (ends_each_if test Deadlock z).job.tasks t × IsTrue (is_ready t)
ready_by P constants z true e g some = absurd (some (all_gone P constants z Deadlock g))
ready_by P constants z false e g some = some_ready z.job.tasks e

-- after the test for deadlock
pub deadlock_settles : (constants : JobConstants) (c : JobProgress) (alive : ℕ) (z : Settled) → TasksInOrder (IsSegment constants) constants z.job → z.job.next_task ≤ c.job.next_task + 1 → alive ≤ 15 → length z.job.tasks ≤ alive
    → SettlesInOrder constants c alive (deadlocked z)
deadlock_settles constants c alive z g next few fewer =
    let test = list_all (λ t. not (is_ready t)) z.job.tasks in
    record {
      tasks = each_good (IsSegment constants) constants test Deadlock z g;
      next = omega (arith, next, each_next test Deadlock z);
      few = few;
      fewer = omega (arith, fewer, each_fewer test Deadlock z);
      ready = ready_by (IsSegment constants) constants z test refl g;
    }

-- an operator that was made
pub made_settles : (constants : JobConstants) (c : JobProgress) (after : Job) (printed : List Line) (touched : Option ℕ) → TasksInOrder (IsSegment constants) constants after → after.next_task ≤ c.job.next_task + 1
    → SettlesInOrder constants c (goes_on after printed touched).alive (goes_on after printed touched).settled
made_settles constants c after printed touched g next = deadlock_settles constants c (length after.tasks) (unsettled after) g next g.few (omega arith)

-- the end of a task, whatever its ending is
pub ends_settle : (constants : JobConstants) (c : JobProgress) (number : ℕ) (ending : Ending) → TasksInOrder (IsSegment constants) constants c.job
    → SettlesInOrder constants c (ends_with c.job number ending).alive (ends_with c.job number ending).settled
ends_settle constants c number ending g =
    deadlock_settles constants c (length c.job.tasks) (ends_task c.job number ending) (ends_task_good (IsSegment constants) constants c.job number ending g) (omega arith) g.few (ends_fewer (unsettled c.job) _)
