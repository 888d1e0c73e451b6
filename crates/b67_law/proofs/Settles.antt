-- A whole step, with its endings and counts, keeps a job in order.
use Rattle.std.proofs.Common.{◌≡◌, ◌≢◌, ℕ, ◌+◌, ◌<◌, ◌≤◌, Bool, true, false, not, eqb, List, [], ◌∷◌, map, filter, Some, Ok, Err, IsTrue, refl, sym, ap, ◌∙◌, inl, inr, arith}
use Rattle.std.specs.List.{list_all}
use Rattle.std.proofs.lemmas.Bool.Decides.{eqb_tells}
use Rattle.std.proofs.lemmas.Bool.{cases_Bool, true≢false}
use Rattle.b67_word.specs.declared.faults.Ending.{Ending}
use Rattle.b67_word.specs.declared.faults.Ending.TheVariants.{Ended, Deadlock, Limit, Faulted}
use Rattle.b67_model.specs.Common.{Answer, Array, Condition, Ready, Task, JobConstants, Job, JobProgress, with_task, Done, Goes, Leaves, Waits, Reading, step, step_by, reading_of, among, all_with, deepest_first, Settled, ends_task, ends_each_if, unsettled, is_ready, settles, stepped, Starts, IsSegment, IsStart, known_of, from_frame, reach_of, originals_of, ConditionInOrder, TaskInOrder, TasksInOrder, JobInOrder}
use Rattle.b67_model.specs.Keyed.{keyed}
use Rattle.b67_lemmas.specs.Lists.{Has}
use Rattle.b67_lemmas.proofs.Members.{all_in, keyed_has, filter_none}
use Rattle.b67_model.specs.Endings as Endings
use Rattle.b67_model.specs.Alone.{whole}
use Rattle.b67_law.specs.Ends.{StepsFrom}
use Rattle.b67_law.specs.Keeping.{KeepsOrder}
use Rattle.b67_law.specs.Laws.{StepsKeepOrderButPlaces, StepsKeepOrder}
use Rattle.b67_law.proofs.Reaches.{alike_same}
use Rattle.b67_law.proofs.Replaced.{replaced}
use Rattle.b67_law.proofs.Deaths.{ends_good, ends_task_good, all_closed, all_among}
use Rattle.b67_law.proofs.Segments.{rows_keep_order_but_places}
use Rattle.b67_law.proofs.Places.{rows_keep_order}
use Rattle.b67_law.proofs.Posts.{Post}
use Rattle.b67_law.proofs.Identities as Identities

-- another condition of a task, one that its reach bears
pub condition_good : (P : Starts) (constants : JobConstants) (job : Job) (task : Task) (condition : Condition) → TasksInOrder P constants job → keyed (λ (u : Task). u.number) task.number job.tasks ≡ Some task
    → ConditionInOrder (reach_of job task) condition → TasksInOrder P constants (with_task job (record task { condition = condition }))
condition_good P constants job task condition order live bears =
    let own = all_in (TaskInOrder P constants job) job.tasks task order.tasks (keyed_has (λ (u : Task). u.number) task.number job.tasks task live).0 in
    replaced P constants job task (with_task job (record task { condition = condition })) (record task { condition = condition }) order live (record {
      number = refl;
      line = refl;
      critical = refl;
      tasks = refl;
      next_task = refl;
      next_frame = omega arith;
      frames = own.frames;
      returns = own.returns;
      some = own.some;
      falls = own.falls;
      not_higher = own.not_higher;
      place = own.place;
      condition = bears;
      alike = λ u k. alike_same (map known_of (from_frame u.critical task.frames));
      stays = λ u k c. c;
      fewer = λ n low. omega arith;
      kept = λ a k. record { case = inl (record { item = a; live = k; named = refl; owned = refl }) };
      arrays = order.arrays;
      once = λ a k. omega (arith, all_in (λ (x : Array). originals_of x.identity constants job ≡ 1) job.arrays a order.once k);
      names = order.names;
      reads = order.reads;
    })

each_good : (P : Starts) (constants : JobConstants) (test : Bool) (ending : Ending) (s : Settled) → TasksInOrder P constants s.job → TasksInOrder P constants (ends_each_if test ending s).job
each_good P constants false ending s g = g
each_good P constants true ending s g = ends_good P constants s (all_with ending (deepest_first s.job.tasks)) g (all_closed P constants s.job ending g)

settles_good : (P : Starts) (constants : JobConstants) (job : Job) (task : Task) (a : Answer Done) → StepsFrom P constants job task → KeepsOrder P constants job task a → TasksInOrder P constants (settles job task a).settled.job
settles_good P constants job task (Ok (Goes after printed touched)) s g = each_good P constants _ Deadlock (unsettled after) g
settles_good P constants job task (Ok (Waits condition)) s g = each_good P constants _ Deadlock (unsettled (with_task job (record task { condition = condition }))) (condition_good P constants job task condition s.order s.live g)
settles_good P constants job task (Ok Leaves) s g = each_good P constants _ Deadlock (ends_task job task.number Ended) (ends_task_good P constants job task.number Ended s.order)
settles_good P constants job task (Err fault) s g = each_good P constants _ Deadlock (ends_task job task.number (Faulted fault)) (ends_task_good P constants job task.number (Faulted fault) s.order)

pub stepped_good : (P : Starts) (constants : JobConstants) (job : Job) (task : Task) → StepsFrom P constants job task → KeepsOrder P constants job task (step constants job task) → TasksInOrder P constants (stepped constants job task).settled.job
unfolding stepped
stepped_good P constants job task s g = settles_good P constants job task (step constants job task) s g

-- the next number
each_next : (test : Bool) (ending : Ending) (s : Settled) → (ends_each_if test ending s).job.next_task ≡ s.job.next_task
each_next true ending s = refl
each_next false ending s = refl

abbrev NextLow : Job → Answer Done → Type 0
NextLow job (Ok (Goes after printed touched)) = after.next_task ≤ job.next_task + 1
NextLow job (Ok Leaves) = Unit {0}
NextLow job (Ok (Waits condition)) = Unit {0}
NextLow job (Err fault) = Unit {0}

next_of : (job : Job) (a : Answer Done) → Post (Identities.Keeps job) a → NextLow job a
next_of job a g = grind arith

settles_next : (job : Job) (task : Task) (a : Answer Done) → NextLow job a → (settles job task a).settled.job.next_task ≤ job.next_task + 1
settles_next job task (Ok (Goes after printed touched)) g = omega (arith, each_next (list_all (λ t. not (is_ready t)) after.tasks) Deadlock (unsettled after), g)
settles_next job task (Ok (Waits condition)) g = let e = each_next (list_all (λ t. not (is_ready t)) (with_task job (record task { condition = condition })).tasks) Deadlock (unsettled (with_task job (record task { condition = condition }))) in omega (arith, e)
settles_next job task (Ok Leaves) g = let e = each_next (list_all (λ t. not (is_ready t)) (ends_task job task.number Ended).job.tasks) Deadlock (ends_task job task.number Ended) in omega (arith, e)
settles_next job task (Err fault) g = let e = each_next (list_all (λ t. not (is_ready t)) (ends_task job task.number (Faulted fault)).job.tasks) Deadlock (ends_task job task.number (Faulted fault)) in omega (arith, e)

step_next : (constants : JobConstants) (job : Job) (task : Task) (r : Reading) → NextLow job (step_by constants job task r)
step_next constants job task r = grind (arith, Identities.row_good)

pub stepped_next : (constants : JobConstants) (job : Job) (task : Task) → (stepped constants job task).settled.job.next_task ≤ job.next_task + 1
unfolding step stepped
stepped_next constants job task = settles_next job task (step constants job task) (step_next constants job task (reading_of constants task))

all_gone : (P : Starts) (constants : JobConstants) (s : Settled) (ending : Ending) → TasksInOrder P constants s.job → (ends_each_if true ending s).job.tasks ≡ []
all_gone P constants s ending g =
    let numbers = map (λ (e : ℕ × Ending). e.0) (all_with ending (deepest_first s.job.tasks)) in
    let none : filter (λ (t : Task). not (among numbers t.number)) s.job.tasks ≡ [] = filter_none (λ (t : Task). not (among numbers t.number)) s.job.tasks (λ t h. let e = all_among P constants s.job ending g t h in rw e refl) in
    ap (λ (ts : List Task). map (λ (t : Task). record t { condition = Endings.released numbers t.condition }) ts) none

-- who is ready after the third item
some_ready : (tasks : List Task) → list_all (λ t. not (is_ready t)) tasks ≡ false → (t : Task) × Has tasks t × IsTrue (is_ready t)
some_ready [] e = absurd (true≢false e)
some_ready (t ∷ tasks) e = grind (arith, some_ready tasks)

ready_by : (P : Starts) (constants : JobConstants) (s : Settled) (test : Bool) → list_all (λ t. not (is_ready t)) s.job.tasks ≡ test → TasksInOrder P constants s.job → (ends_each_if test Deadlock s).job.tasks ≢ [] →
    (t : Task) × Has (ends_each_if test Deadlock s).job.tasks t × IsTrue (is_ready t)
ready_by P constants s true e g some = absurd (some (all_gone P constants s Deadlock g))
ready_by P constants s false e g some = some_ready s.job.tasks e

settles_ready : (P : Starts) (constants : JobConstants) (job : Job) (task : Task) (a : Answer Done) → StepsFrom P constants job task → KeepsOrder P constants job task a → (settles job task a).settled.job.tasks ≢ [] →
    (t : Task) × Has (settles job task a).settled.job.tasks t × IsTrue (is_ready t)
settles_ready P constants job task (Ok (Goes after printed touched)) s g some = ready_by P constants (unsettled after) _ refl g some
settles_ready P constants job task (Ok (Waits condition)) s g some = ready_by P constants (unsettled (with_task job (record task { condition = condition }))) _ refl (condition_good P constants job task condition s.order s.live g) some
settles_ready P constants job task (Ok Leaves) s g some = ready_by P constants (ends_task job task.number Ended) _ refl (ends_task_good P constants job task.number Ended s.order) some
settles_ready P constants job task (Err fault) s g some = ready_by P constants (ends_task job task.number (Faulted fault)) _ refl (ends_task_good P constants job task.number (Faulted fault) s.order) some

stepped_ready : (P : Starts) (constants : JobConstants) (job : Job) (task : Task) → StepsFrom P constants job task → KeepsOrder P constants job task (step constants job task) → (stepped constants job task).settled.job.tasks ≢ [] →
    (t : Task) × Has (stepped constants job task).settled.job.tasks t × IsTrue (is_ready t)
unfolding stepped
stepped_ready P constants job task s g some = settles_ready P constants job task (step constants job task) s g some

not_empty : (tasks : List Task) (t : Task) → Has tasks t → tasks ≢ []
not_empty tasks t h = grind arith

whole_by : (P : Starts) (constants : JobConstants) (c : JobProgress) (task : Task) (s : Settled) (test : Bool) → eqb (c.made + 1) constants.limit ≡ test → JobInOrder P constants c → c.made < constants.limit → TasksInOrder P constants s.job → s.job.next_task ≤ c.job.next_task + 1 →
    (s.job.tasks ≢ [] → (t : Task) × Has s.job.tasks t × IsTrue (is_ready t)) → (ended : List (ℕ × Ending)) →
    JobInOrder P constants (record { job = (ends_each_if test Limit s).job; made = c.made + 1; ended = ended })
whole_by P constants c task s true e j low g next ready ended = record {
  unchanging = j.unchanging;
  tasks = each_good P constants true Limit s g;
  counts = record { next = omega (arith, next, j.counts.next); within = omega (arith, low); goes_on = λ some. absurd (some (all_gone P constants s Limit g)) };
  below_limit = λ some. absurd (some (all_gone P constants s Limit g));
}
whole_by P constants c task s false e j low g next ready ended = record {
  unchanging = j.unchanging;
  tasks = g;
  counts = record { next = omega (arith, next, j.counts.next); within = omega (arith, low); goes_on = ready };
  below_limit = λ some. elim (eqb_tells (c.made + 1) constants.limit) [ inl y ↦ absurd (true≢false (sym y.0 ∙ e)) | inr n ↦ omega (arith, low, n.1) ];
}

steps_from : (P : Starts) (constants : JobConstants) (c : JobProgress) (task : Task) → JobInOrder P constants c → keyed (λ t. t.number) task.number c.job.tasks ≡ Some task → task.condition ≡ Ready → StepsFrom P constants c.job task
steps_from P constants c task j live ready = record { unchanging = j.unchanging; order = j.tasks; live = live; ready = ready; few = omega (arith, j.counts.next, j.counts.within, j.unchanging.limit) }

whole_good : (P : Starts) (constants : JobConstants) (c : JobProgress) (task : Task) → JobInOrder P constants c → (s : StepsFrom P constants c.job task) → KeepsOrder P constants c.job task (step constants c.job task) → JobInOrder P constants (whole constants c task).progress
whole_good P constants c task j s kept =
    let low = j.below_limit (not_empty c.job.tasks task (keyed_has (λ t. t.number) task.number c.job.tasks task s.live).0) in
    whole_by P constants c task (stepped constants c.job task).settled (eqb (c.made + 1) constants.limit) refl j low (stepped_good P constants c.job task s kept) (stepped_next constants c.job task) (stepped_ready P constants c.job task s kept) _

pub steps_keep_order_but_places : StepsKeepOrderButPlaces
steps_keep_order_but_places constants c task j live ready =
    let s = steps_from (IsSegment constants) constants c task j live ready in
    whole_good (IsSegment constants) constants c task j s (rows_keep_order_but_places constants c.job task s)

pub steps_keep_order : StepsKeepOrder
steps_keep_order p constants c task admitted same j live ready =
    let s = steps_from (IsStart constants) constants c task j live ready in
    whole_good (IsStart constants) constants c task j s (rows_keep_order p constants c.job task admitted same s)
