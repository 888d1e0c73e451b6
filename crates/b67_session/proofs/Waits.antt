-- A step that makes its task wait keeps the order.
use Rattle.std.proofs.Common.{◌≡◌, ℕ, [], length, None, Some, Ok, refl, ap, ◌∙◌, arith}
use Rattle.b67_lemmas.specs.Lists.{Has}
use Rattle.b67_lemmas.proofs.Members.{all_in, keyed_has, length_change}
use Rattle.b67_model.specs.Common.{IsSegment, reach_of, ConditionInOrder, TaskInOrder, TasksInOrder, JobInOrder, IsInOrderButPlaces, step, number_of, Session, Condition, Task, Job, SessionJob, Waits}
use Rattle.b67_model.specs.Keyed.{keyed}
use Rattle.b67_law.specs.Ends.{StepsFrom}
use Rattle.b67_law.proofs.Segments.{rows_keep_order_but_places}
use Rattle.b67_law.proofs.Settles.{condition_good}
use Rattle.b67_law.specs.Orders.{SettlesInOrder}
use Rattle.b67_law.specs.Turns.{IsNext}
use Rattle.b67_law.proofs.Choices.{next_is_ready}
use Rattle.b67_law.proofs.Settled.{made_settles}
use Rattle.b67_layout.specs.Meets.{with_job}
use Rattle.b67_layout.specs.Orders.{IsInOrderButCounts}
use Rattle.b67_layout.proofs.Weaker.{but_counts}
use Rattle.b67_session.proofs.Closed.{ordered_with}
use Rattle.b67_session.specs.Holds.{held, waiting_step}

module _ (s : Session) (m : SessionJob) (t : Task) (condition : Condition) (o : IsInOrderButPlaces s) (n : IsNext s m t) (is : step m.constants m.progress.job t ≡ Ok (Waits condition)) where
  abbrev job : Job
  job = m.progress.job

  abbrev after : Job
  after = held job t condition

  member : Has s.jobs m × (m.constants.number ≡ n.chosen.who.job)
  member = keyed_has number_of n.chosen.who.job s.jobs m n.member

  task : Has job.tasks t × (t.number ≡ n.chosen.who.task)
  task = keyed_has (λ (u : Task). u.number) n.chosen.who.task job.tasks t n.task

  pub found : keyed number_of m.constants.number s.jobs ≡ Some m
  found = ap (λ (i : ℕ). keyed number_of i s.jobs) member.1 ∙ n.member

  pub live : keyed (λ (u : Task). u.number) t.number job.tasks ≡ Some t
  live = ap (λ (i : ℕ). keyed (λ (u : Task). u.number) i job.tasks) task.1 ∙ n.task

  order : JobInOrder (IsSegment m.constants) m.constants m.progress
  order = all_in (λ (y : SessionJob). JobInOrder (IsSegment y.constants) y.constants y.progress) s.jobs m o.jobs member.0

  own : TaskInOrder (IsSegment m.constants) m.constants job t
  own = all_in (TaskInOrder (IsSegment m.constants) m.constants job) job.tasks t order.tasks.tasks task.0

  from : StepsFrom (IsSegment m.constants) m.constants job t
  from = record { unchanging = order.unchanging; order = order.tasks; live = live; ready = next_is_ready s m t o n; few = omega (arith, order.counts.next, order.counts.within, order.unchanging.limit) }

  waits_in_order : ConditionInOrder (reach_of job t) condition
  waits_in_order = grind (arith, rows_keep_order_but_places, from)

  tasks_ordered : TasksInOrder (IsSegment m.constants) m.constants after
  tasks_ordered = condition_good (IsSegment m.constants) m.constants job t condition order.tasks live waits_in_order

  pub as_many : length after.tasks ≡ length job.tasks
  as_many = length_change (λ (u : Task). u.number) t.number (record t { condition = condition }) job.tasks

  -- the first part of the step leaves the session in order, but that its job may stand at its limit
  pub waits_settle : SettlesInOrder m.constants m.progress (waiting_step job t condition).alive (waiting_step job t condition).settled
  waits_settle = made_settles m.constants m.progress after [] None tasks_ordered (omega arith)

  -- before the test for deadlock
  pub held_ordered : IsInOrderButCounts (with_job s m after)
  held_ordered = ordered_with s m after found (but_counts s o) tasks_ordered refl (omega (arith, as_many))
