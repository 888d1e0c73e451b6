-- An operator that was made and counted: a step whose first part was made.
use Rattle.std.proofs.Common.{◌≡◌, ℕ, ◌+◌, ◌-◌, ◌≤◌, max, List, length, map, Option, Some, Ok, refl, sym, ap, ◌∙◌, subst, arith}
use Rattle.b67_lemmas.specs.Lists.{Has}
use Rattle.b67_lemmas.proofs.Members.{all_in, total_has}
use Rattle.b67_lemmas.proofs.Sums.{sum_total}
use Rattle.b67_model.specs.Common.{JobMoment, moment_with, Settled, Stepped, deadlocked, unsettled, IsSegment, JobInOrder, TasksInOrder, IsInOrderButPlaces, step, StepResult, number_of, of_job, live_tasks, with_moment, Session, Choice, Ready, Task, Job, SessionJob, Line, Goes}
use Rattle.b67_model.specs.Endings.{goes_on}
use Rattle.b67_model.specs.Keyed.{keyed}
use Rattle.b67_law.specs.Ends.{StepsFrom}
use Rattle.b67_law.proofs.Numbered.{tasks_of}
use Rattle.b67_law.proofs.Segments.{rows_keep_order_but_places}
use Rattle.b67_law.specs.Orders.{IsInOrderButLimit}
use Rattle.b67_law.specs.Turns.{IsNext, part_of}
use Rattle.b67_law.proofs.Parts.{first_parts_keep_order}
use Rattle.b67_law.proofs.Settled.{made_settles}
use Rattle.b67_law.proofs.Halves.{open_lines}
use Rattle.b67_stack.specs.Represents.{Storage}
use Rattle.b67_layout.specs.Placement.{Placement}
use Rattle.b67_layout.specs.Moved.{session_moved}
use Rattle.b67_task.specs.declared.tables.Tasks.{Tasks}
use Rattle.b67_task.specs.declared.tables.Machine.{Machine}
use Rattle.b67_task.specs.Tables.{MachineRepresents}
use Rattle.b67_task.specs.declared.counting.Chosen.{Chosen}
use Rattle.b67_task.specs.Counted.{choice_of}
use Rattle.b67_session.specs.Counts.{IsCounted}
use Rattle.b67_session.proofs.Counted.{counted_stands}
use Rattle.b67_session.proofs.Stuck.{one_not}
use Rattle.b67_session.proofs.Lively.{Stays}
use Rattle.b67_session.proofs.Next.{in_session, task_found}

-- where a task is ready there is no deadlock
no_deadlock : (z : Settled) (u : Task) → Has z.job.tasks u → u.condition ≡ Ready → deadlocked z ≡ z
no_deadlock z u here ready = grind (arith, one_not)

-- One operator more of a session whose peak counts the tasks that it started: its job's step, which had `alive` tasks live
-- before the endings
module _ (s : Session) (c : Chosen) (m : SessionJob) (moment : JobMoment) (o : IsInOrderButPlaces s) (found : keyed number_of c.job s.jobs ≡ Some m) (among : Has s.jobs m) (more : length m.progress.job.tasks ≤ moment.alive) where
  abbrev peak : ℕ
  peak = max s.peak (live_tasks s.jobs + (moment.alive - length m.progress.job.tasks))

  abbrev raised : Session
  raised = record s { peak = peak }

  -- the moment of a step that started none
  abbrev even : JobMoment
  even = record moment { alive = length m.progress.job.tasks }

  own : length m.progress.job.tasks ≤ live_tasks s.jobs
  own = omega (arith, total_has tasks_of s.jobs m among, sum_total tasks_of s.jobs)

  same_peak : max peak (live_tasks s.jobs - length m.progress.job.tasks + length m.progress.job.tasks) ≡ max s.peak (live_tasks s.jobs - length m.progress.job.tasks + moment.alive)
  same_peak = omega (arith, own, more)

  same : with_moment raised (choice_of c) m even ≡ with_moment s (choice_of c) m moment
  same = ap (λ (p : ℕ). record (with_moment s (choice_of c) m moment) { peak = p }) same_peak

  raised_stands : (x : Storage) (told : Option (List (List ℕ))) (k : Machine) (plan : Placement) (tasks : Tasks) → moment.progress.made ≡ m.progress.made + 1 → IsCounted c k.tasks tasks
      → MachineRepresents x told k plan (session_moved s m moment.progress.job (moment.alive - length m.progress.job.tasks)) → MachineRepresents x told (record k { tasks = tasks }) plan (with_moment s (choice_of c) m moment)
  raised_stands x told k plan tasks made counted h =
      let few : peak ≤ 120 = omega (arith, h.session.holds.fits.peak, h.session.holds.fits.few) in
      let ordered : IsInOrderButPlaces raised = record {
        few = o.few;
        numbered = o.numbered;
        one_size = o.one_size;
        jobs = o.jobs;
        switches = o.switches;
        peak_low = omega (arith, o.peak_low);
        peak_high = few;
        counted = o.counted;
        turn = o.turn;
      } in
      subst (λ (z : Session). MachineRepresents x told (record k { tasks = tasks }) plan z) same (counted_stands raised c m even ordered found refl x told k plan tasks made counted h)

module _ (s : Session) (m : SessionJob) (t : Task) (c : Chosen) (o : IsInOrderButPlaces s) (n : IsNext s m t) (chosen : n.chosen ≡ choice_of c) (ready : t.condition ≡ Ready)
    (job : Job) (printed : List Line) (touched : Option ℕ) (is : step m.constants m.progress.job t ≡ Ok (Goes job printed touched))
    (stays : Stays m.progress.job.tasks job.tasks) (next_is : job.next_task ≤ m.progress.job.next_task + 1) where
  order : JobInOrder (IsSegment m.constants) m.constants m.progress
  order = all_in (λ (y : SessionJob). JobInOrder (IsSegment y.constants) y.constants y.progress) s.jobs m o.jobs (in_session s m t n)

  from : StepsFrom (IsSegment m.constants) m.constants m.progress.job t
  from = record { unchanging = order.unchanging; order = order.tasks; live = task_found s m t n; ready = ready; few = omega (arith, order.counts.next, order.counts.within, order.unchanging.limit) }

  job_order : TasksInOrder (IsSegment m.constants) m.constants job
  job_order = grind (arith, rows_keep_order_but_places, from)

  -- a task goes on as ready as it was
  pub open_job : deadlocked (unsettled job) ≡ unsettled job
  open_job = no_deadlock (unsettled job) stays.who stays.among stays.ready

  abbrev pub made : Stepped
  made = goes_on job printed touched

  abbrev pub half : StepResult
  half = part_of s n.chosen m t made

  pub half_ordered : IsInOrderButLimit half.session
  half_ordered = first_parts_keep_order s m t n made o (made_settles m.constants m.progress job printed touched job_order next_is)

  pub half_lines : half.lines ≡ of_job n.chosen.who.job (map (λ line. (t.number, line)) printed)
  half_lines = open_lines s m t n job printed touched open_job

  -- the counted machine represents it
  pub half_stands : {told : Option (List (List ℕ))} (x : _) (k : Machine) (plan : _) (tasks : Tasks) → IsCounted c k.tasks tasks → MachineRepresents x told k plan (session_moved s m job (length job.tasks - length m.progress.job.tasks))
      → MachineRepresents x told (record k { tasks = tasks }) plan half.session
  half_stands {told} x k plan tasks counted h =
      let moment : JobMoment = moment_with m.progress t made made.settled in
      let job_same : moment.progress.job ≡ job = ap (λ (z : Settled). z.job) open_job in
      let there : keyed number_of c.job s.jobs ≡ Some m = ap (λ (z : Choice). keyed number_of z.who.job s.jobs) (sym chosen) ∙ n.member in
      let stood : MachineRepresents x told k plan (session_moved s m moment.progress.job (length job.tasks - length m.progress.job.tasks)) =
      subst (λ (j : Job). MachineRepresents x told k plan (session_moved s m j (length job.tasks - length m.progress.job.tasks))) (sym job_same) h in
      subst (λ (z : Choice). MachineRepresents x told (record k { tasks = tasks }) plan (with_moment s z m moment)) (sym chosen)
      (raised_stands s c m moment o there (in_session s m t n) stays.more x told k plan tasks refl counted stood)
