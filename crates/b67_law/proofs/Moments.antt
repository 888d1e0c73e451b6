-- A job after a whole step: in order, one operator further, with at most fifteen tasks before its endings.
use Rattle.std.proofs.Common.{◌≡◌, ℕ, ◌+◌, ◌≤◌, Bool, true, false, not, eqb, List, map, filter, length, Some, Ok, Err, refl, sym, subst, arith}
use Rattle.std.specs.List.{list_all}
use Rattle.std.proofs.lemmas.List.{length-map}
use Rattle.b67_word.specs.declared.faults.Ending.{Ending}
use Rattle.b67_word.specs.declared.faults.Ending.TheVariants.{Ended, Deadlock, Limit, Faulted}
use Rattle.b67_model.specs.Common.{Answer, Ready, Task, JobConstants, Job, JobProgress, with_task, Done, Goes, Leaves, Waits, step, Settled, among, released, is_ready, ends_all, ends_task, ends_each_if, unsettled, settles, stepped, JobMoment, by_task, step_of, Starts, TasksInOrder, JobInOrder}
use Rattle.b67_model.specs.Keyed.{keyed}
use Rattle.b67_model.specs.Alone.{whole}
use Rattle.b67_law.specs.Ends.{StepsFrom}
use Rattle.b67_law.specs.Keeping.{KeepsOrder}
use Rattle.b67_law.specs.Laws.{KeptBySteps}
use Rattle.b67_lemmas.proofs.Members.{length_change, length_filter}

ends_fewer : (s : Settled) (endings : List (ℕ × Ending)) → length (ends_all s endings).job.tasks ≤ length s.job.tasks
ends_fewer s endings = grind (arith, length-map, length_filter)

each_fewer : (test : Bool) (ending : Ending) (s : Settled) → length (ends_each_if test ending s).job.tasks ≤ length s.job.tasks
each_fewer true ending s = ends_fewer s _
each_fewer false ending s = omega arith

task_fewer : (job : Job) (number : ℕ) (ending : Ending) → length (ends_task job number ending).job.tasks ≤ length job.tasks
task_fewer job number ending = ends_fewer (unsettled job) _

settles_fewer : (job : Job) (task : Task) (a : Answer Done) → length (settles job task a).settled.job.tasks ≤ (settles job task a).alive
settles_fewer job task (Ok (Goes after printed touched)) = each_fewer _ Deadlock (unsettled after)
settles_fewer job task (Ok (Waits condition)) = each_fewer _ Deadlock (unsettled (with_task job (record task { condition = condition })))
settles_fewer job task (Ok Leaves) = omega (arith, each_fewer (list_all (λ (t : Task). not (is_ready t)) (ends_task job task.number Ended).job.tasks) Deadlock (ends_task job task.number Ended), task_fewer job task.number Ended)
settles_fewer job task (Err fault) = omega (arith, each_fewer (list_all (λ (t : Task). not (is_ready t)) (ends_task job task.number (Faulted fault)).job.tasks) Deadlock (ends_task job task.number (Faulted fault)), task_fewer job task.number (Faulted fault))

settles_few : (P : Starts) (constants : JobConstants) (job : Job) (task : Task) (a : Answer Done) → TasksInOrder P constants job → KeepsOrder P constants job task a → (settles job task a).alive ≤ 15
settles_few P constants job task (Ok (Goes after printed touched)) old new = new.few
settles_few P constants job task (Ok (Waits condition)) old new = grind (arith, length_change)
settles_few P constants job task (Ok Leaves) old new = old.few
settles_few P constants job task (Err fault) old new = old.few

stepped_fewer : (constants : JobConstants) (job : Job) (task : Task) → length (stepped constants job task).settled.job.tasks ≤ (stepped constants job task).alive
unfolding stepped
stepped_fewer constants job task = settles_fewer job task (step constants job task)

stepped_few : (P : Starts) (constants : JobConstants) (job : Job) (task : Task) → TasksInOrder P constants job → KeepsOrder P constants job task (step constants job task) → (stepped constants job task).alive ≤ 15
unfolding stepped
stepped_few P constants job task old new = settles_few P constants job task (step constants job task) old new

pub record Made (P : Starts) (constants : JobConstants) (c : JobProgress) (made : JobMoment) : Type 0 where
  pub order : JobInOrder P constants made.progress
  pub counted : made.progress.made ≡ c.made + 1
  pub few : made.alive ≤ 15
  pub fewer : length made.progress.job.tasks ≤ made.alive

-- what is known of the steps of a job's tasks
pub record Keeping (P : JobConstants → Starts) (constants : JobConstants) (c : JobProgress) : Type 0 where
  pub rows : (task : Task) → StepsFrom (P constants) constants c.job task → KeepsOrder (P constants) constants c.job task (step constants c.job task)
  pub steps : (task : Task) → KeptBySteps P constants c task

pub whole_made : (P : JobConstants → Starts) (constants : JobConstants) (c : JobProgress) (task : Task) → Keeping P constants c → JobInOrder (P constants) constants c →
    keyed (λ t. t.number) task.number c.job.tasks ≡ Some task → task.condition ≡ Ready → Made (P constants) constants c (whole constants c task)
whole_made P constants c task keeps j live ready =
    let from : StepsFrom (P constants) constants c.job task = record { unchanging = j.unchanging; order = j.tasks; live = live; ready = ready; few = omega (arith, j.counts.next, j.counts.within, j.unchanging.limit) } in
    record {
      order = keeps.steps task j live ready;
      counted = refl;
      few = stepped_few (P constants) constants c.job task j.tasks (keeps.rows task from);
      fewer = omega (arith, stepped_fewer constants c.job task, each_fewer (eqb (c.made + 1) constants.limit) Limit (stepped constants c.job task).settled);
    }

pub step_made : (P : JobConstants → Starts) (constants : JobConstants) (c : JobProgress) (number : ℕ) (task : Task) → Keeping P constants c → JobInOrder (P constants) constants c →
    keyed (λ t. t.number) number c.job.tasks ≡ Some task → task.number ≡ number → task.condition ≡ Ready → Made (P constants) constants c (step_of constants c number)
unfolding step_of
step_made P constants c number task keeps j found named ready = grind (arith, whole_made)
