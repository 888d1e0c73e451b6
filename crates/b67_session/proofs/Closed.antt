-- The machine once the chosen task has ended, with those under it, those that are deadlocked then, and the step is counted.
use Rattle.std.proofs.Common.{◌≡◌, ℕ, ◌≤◌, Bool, true, false, not, List, [], length, Option, Some, refl, sym, ap, ◌∙◌, subst, inl, arith}
use Rattle.std.specs.List.{list_any, list_all}
use Rattle.b67_word.specs.declared.faults.Ending.{Ending}
use Rattle.b67_word.specs.declared.faults.Ending.TheVariants.{Deadlock}
use Rattle.b67_lemmas.specs.Lists.{Has}
use Rattle.b67_lemmas.proofs.Members.{all_in, keyed_has, length_change, total_change}
use Rattle.b67_lemmas.proofs.Keyed.{change_is, all_change, changed_there}
use Rattle.b67_lemmas.proofs.Sums.{sum_total}
use Rattle.b67_model.specs.Common.{JobMoment, moment_with, Task, Job, SessionJob, Settled, Stepped, is_ready, deadlocked, ends_each_if, ends_task, ends_with, unsettled, IsSegment, TasksInOrder, run_text, number_of, Session, Choice}
use Rattle.b67_model.specs.Keyed.{keyed, change_keyed}
use Rattle.b67_law.proofs.Numbered.{numbered_change}
use Rattle.b67_law.proofs.Deaths.{ends_task_good}
use Rattle.b67_law.specs.Turns.{part_of}
use Rattle.b67_law.proofs.Settled.{ends_fewer}
use Rattle.b67_stack.specs.Represents.{Storage}
use Rattle.b67_layout.specs.Common.{with_job, JobInOrderButCounts, IsInOrderButCounts, Placement}
use Rattle.b67_layout.proofs.Sessions.{course_twice}
use Rattle.b67_layout.proofs.Weaker.{but_counts}
use Rattle.b67_task.specs.declared.tables.Tasks.{Tasks}
use Rattle.b67_task.specs.declared.tables.Machine.{Machine}
use Rattle.b67_task.specs.Tables.{MachineRepresents, given_of}
use Rattle.b67_task.specs.Family.{TablesHold, HasSomeRow, HasSomeHead, endings_of}
use Rattle.b67_task.specs.declared.counting.Chosen.{Chosen}
use Rattle.b67_task.specs.Counted.{choice_of, CountsHaveRoom}
use Rattle.b67_task.specs.Runs.{Keeps}
use Rattle.b67_session.specs.Closing.{HasJobOf, StandsChosen, left_ready}
use Rattle.b67_session.specs.Counts.{IsCounted}
use Rattle.b67_session.specs.Ends.{StandsForSession, StandsInPlace, LeavesInPlace, IsFamilyOf, EndsFamily}
use Rattle.b67_session.specs.Texts.{endings_text}
use Rattle.b67_session.proofs.ByLimit.{reprinted}
use Rattle.b67_session.proofs.Deadlocks.{turned, stuck_is, wait_is}
use Rattle.b67_session.proofs.Counted.{counted_stands, counted_view}
use Rattle.b67_session.proofs.InPlace.{in_place_then, in_place_view}

-- a session with another job, which is in order and has no more tasks
module _ (s : Session) (m : SessionJob) (job : Job) (found : keyed number_of m.constants.number s.jobs ≡ Some m) (o : IsInOrderButCounts s) (g : TasksInOrder (IsSegment m.constants) m.constants job) (next : job.next_task ≡ m.progress.job.next_task) (fewer : length job.tasks ≤ length m.progress.job.tasks) where
  abbrev Good : SessionJob → Type 0
  Good y = JobInOrderButCounts (IsSegment y.constants) y.constants y.progress

  abbrev after : SessionJob
  after = record m { progress = record m.progress { job = job } }

  pub ordered_with : IsInOrderButCounts (with_job s m job)
  ordered_with =
      let there = (keyed_has number_of m.constants.number s.jobs m found).0 in
      let n : ℕ = m.constants.number in
      let jobs' : List SessionJob = change_keyed number_of n (λ (y : SessionJob). after) s.jobs in
      let changed : (with_job s m job).jobs ≡ jobs' = change_is number_of n (λ (y : SessionJob). record y { progress = record m.progress { job = job } }) m s.jobs found in
      let own = all_in Good s.jobs m o.jobs there in
      let size : SessionJob → Type 0 = λ y. y.constants.stack_size ≡ o.one_size.0 in
      let alive : SessionJob → ℕ = λ y. length y.progress.job.tasks in
      let P : List SessionJob → Type 0 = λ jobs. IsInOrderButCounts (record s { jobs = jobs }) in
      subst P (sym changed) (record {
        few = omega (arith, o.few, length_change number_of n after s.jobs);
        numbered = numbered_change 1 n after s.jobs o.numbered refl;
        one_size = (o.one_size.0, all_change size number_of n after s.jobs o.one_size.1 (all_in size s.jobs m o.one_size.1 there));
        jobs = all_change Good number_of n after s.jobs o.jobs (record { unchanging = own.unchanging; tasks = g; few_born = omega (arith, next, own.few_born) });
        peak_low = omega (arith, o.peak_low, fewer, sum_total alive s.jobs, sum_total alive jobs', total_change number_of alive n m after s.jobs found);
        peak_high = o.peak_high;
      })

settled_job : (b : Bool) (z : Settled) → (ends_each_if b Deadlock z).job ≡ (ends_each_if b Deadlock (unsettled z.job)).job
settled_job true z = refl
settled_job false z = refl

module _ (x : Storage) (told : Option (List (List ℕ))) (k : Machine) (plan : Placement) (s : Session) (m : SessionJob) (t : Task) (c : Chosen) (w : StandsChosen x told k plan s m t c) where
  abbrev pub o : IsInOrderButCounts s
  o = but_counts s w.ordered

  there : keyed number_of c.job s.jobs ≡ Some m
  there = ap (λ (z : Choice). keyed number_of z.who.job s.jobs) (sym w.chosen) ∙ w.next.member

  pub among : Has s.jobs m
  among = (keyed_has number_of c.job s.jobs m there).0

  pub own : m.constants.number ≡ c.job
  own = (keyed_has number_of c.job s.jobs m there).1

  found : keyed number_of m.constants.number s.jobs ≡ Some m
  found = ap (λ (n : ℕ). keyed number_of n s.jobs) own ∙ there

  pub holds : TablesHold plan s k.tasks
  holds = record { ordered = o; fits = w.stands.session.holds.fits.rows; few = w.stands.session.holds.fits.few; shows = w.stands.tables }

  pub has_row : HasSomeRow k.tasks c.row
  has_row = record { plan = plan; session = s; job_of = m; task = t; holds = holds; row = w.row }

  pub has_head : HasSomeHead k.tasks c.job 255
  has_head = record { plan = plan; session = s; job_of = m; has = record { holds = holds; member = among; number = own; heads = inl refl } }

  -- once the lines are printed
  module _ (printed : ℕ) where
    abbrev now : Machine
    now = record k { tasks = record k.tasks { printed = printed } }

    pub still : MachineRepresents x told now plan s
    still = reprinted x told k plan s printed w.stands

    pub is_family : (ending : Ending) (endings : List (ℕ × Ending)) → endings ≡ endings_of m.progress.job t.number ending → IsFamilyOf x told now plan s m t c.row c.job ending endings
    is_family ending endings listed = record { ordered = o; stands = still; at = w.row; number = own; listed = listed }

    pub ends_family : (ending : Ending) (endings : List (ℕ × Ending)) → endings ≡ endings_of m.progress.job t.number ending → EndsFamily now c.row c.job endings
    ends_family ending endings listed = record { storage = x; told = told; plan = plan; session = s; member = m; task = t; ending = ending; family = is_family ending endings listed }

    module _ (ending : Ending) (new : Machine) (d : StandsInPlace x told new plan s (with_job s m (ends_task m.progress.job t.number ending).job)) where
      abbrev e : StandsForSession told new (with_job s m (ends_task m.progress.job t.number ending).job)
      e = d.whole

      abbrev gone : Settled
      gone = ends_task m.progress.job t.number ending

      abbrev left : SessionJob
      left = record m { progress = record m.progress { job = gone.job } }

      order : TasksInOrder (IsSegment m.constants) m.constants m.progress.job
      order = (all_in (λ (y : SessionJob). JobInOrderButCounts (IsSegment y.constants) y.constants y.progress) s.jobs m o.jobs among).tasks

      pub left_ordered : IsInOrderButCounts (with_job s m gone.job)
      left_ordered = ordered_with s m gone.job found o (ends_task_good (IsSegment m.constants) m.constants m.progress.job t.number ending order) refl (ends_fewer (unsettled m.progress.job) _)

      pub left_among : Has (with_job s m gone.job).jobs left
      left_among = changed_there number_of m.constants.number (λ (y : SessionJob). record y { progress = record m.progress { job = gone.job } }) s.jobs m found

      pub has_job : HasJobOf new c.job
      has_job = record { storage = e.storage; told = told; plan = e.plan; session = with_job s m gone.job; member = left; ordered = left_ordered; stands = e.stands; among = left_among; number = own }

      -- who goes on now was seen before they ended
      pub goes_then : (dead : List (ℕ × Ending)) (goes : Bool) → goes ≡ list_any (left_ready c.job dead) k.tasks.rows.items → dead ≡ endings_of m.progress.job t.number ending
          → goes ≡ list_any (left_ready c.job []) new.tasks.rows.items
      goes_then dead goes seen listed =
          let waits : Bool = list_all (λ (u : Task). not (is_ready u)) gone.job.tasks in
          let before : waits ≡ not (list_any (left_ready c.job dead) k.tasks.rows.items) = stuck_is plan s k.tasks holds m among dead t.number ending listed c.job own in
          let after : waits ≡ not (list_any (left_ready c.job []) new.tasks.rows.items) = wait_is e.storage told new e.plan (with_job s m gone.job) left left_ordered e.stands left_among c.job own in
          seen ∙ turned (list_any (left_ready c.job dead) k.tasks.rows.items) waits before ∙ sym (turned (list_any (left_ready c.job []) new.tasks.rows.items) waits after)

      -- and those that are deadlocked
      module _ (last : Machine) (g : StandsInPlace e.storage told last e.plan (with_job s m gone.job) (with_job (with_job s m gone.job) left (deadlocked (unsettled gone.job)).job)) where
        abbrev f : StandsForSession told last (with_job (with_job s m gone.job) left (deadlocked (unsettled gone.job)).job)
        f = g.whole

        abbrev made : Stepped
        made = ends_with m.progress.job t.number ending

        -- all that end have ended
        stuck_same : with_job (with_job s m gone.job) left (deadlocked (unsettled gone.job)).job ≡ with_job s m made.settled.job
        stuck_same =
            let J : Job = (deadlocked (unsettled gone.job)).job in
            let twice : with_job (with_job s m gone.job) left J ≡ with_job s m J = ap (λ (js : List SessionJob). record s { jobs = js }) (course_twice s.jobs m.constants.number (record m.progress { job = gone.job }) (record m.progress { job = J })) in
            let same : made.settled.job ≡ J = settled_job (list_all (λ (u : Task). not (is_ready u)) gone.job.tasks) gone in
            twice ∙ ap (with_job s m) (sym same)

        stuck_stands : MachineRepresents f.storage told last f.plan (with_job s m made.settled.job)
        stuck_stands = subst (MachineRepresents f.storage told last f.plan) stuck_same f.stands

        pub closed : (counts : Tasks) → IsCounted c last.tasks counts → StandsInPlace x told (record last { tasks = counts }) plan s (part_of s (choice_of c) m t made).session
        closed counts counted =
            let moment : JobMoment = moment_with m.progress t made made.settled in
            let both = in_place_then x e.storage f.storage plan e.plan f.plan s (with_job s m gone.job) (with_job (with_job s m gone.job) left (deadlocked (unsettled gone.job)).job) d.left g.left in
            record {
              whole = record { storage = f.storage; plan = f.plan; stands = counted_stands s c m moment w.ordered there refl f.storage told last f.plan counts refl counted stuck_stands };
              left = in_place_view x f.storage plan f.plan s (with_job s m made.settled.job) (part_of s (choice_of c) m t made).session (counted_view s c m moment w.ordered there refl f.plan)
                  (subst (LeavesInPlace x f.storage plan f.plan s) stuck_same both);
            }

      -- by what is promised of the call that ends them
      pub closed_by : (last : Machine)
          → ((x : Storage) (told : Option (List (List ℕ))) (plan : Placement) (s : Session) (m : SessionJob) → IsInOrderButCounts s → MachineRepresents x told new plan s → Has s.jobs m → m.constants.number ≡ c.job
          → StandsInPlace x told last plan s (with_job s m (deadlocked (unsettled m.progress.job)).job))
          → (counts : Tasks) → IsCounted c last.tasks counts → StandsInPlace x told (record last { tasks = counts }) plan s (part_of s (choice_of c) m t (ends_with m.progress.job t.number ending)).session
      closed_by last ends counts counted = closed last (ends e.storage told e.plan (with_job s m gone.job) left left_ordered e.stands left_among own) counts counted

-- but for the rows, the one that runs and how much is printed the tables are as before the tasks' ends
pub same_tasks : (old mid last : Tasks) (printed : ℕ) → last ≡ record mid { rows = last.rows; running = last.running } → mid ≡ record old { rows = mid.rows; running = mid.running; printed = printed }
    → last ≡ record old { rows = last.rows; running = last.running; printed = printed }
same_tasks old mid last printed e f = e ∙ ap (λ (z : Tasks). record z { rows = last.rows; running = last.running }) f

-- the counts have room still
pub room_still : (old new : Tasks) (c : Chosen) (printed : ℕ) → new ≡ record old { rows = new.rows; running = new.running; printed = printed } → CountsHaveRoom old c → CountsHaveRoom new c
room_still old new c printed same r = subst (λ (z : Tasks). CountsHaveRoom z c) (sym same) (record { job = r.job; from_one = r.from_one; at = r.at; of_job = r.of_job; made = r.made; turn = r.turn; next = r.next })

-- ---- the text that is printed first

module _ (x : Storage) (told : Option (List (List ℕ))) (k : Machine) (plan : Placement) (s : Session) (m : SessionJob) (t : Task) (c : Chosen) (w : StandsChosen x told k plan s m t c) (ending : Ending) where
  -- all that end, by what was said of who they are
  pub all_text : (items dead all slice : List (ℕ × Ending)) → items ≡ endings_of m.progress.job t.number ending → dead ≡ items
      → ((plan : Placement) (s : Session) (m : SessionJob) (number : ℕ) (ending : Ending) → TablesHold plan s k.tasks → Has s.jobs m → m.constants.number ≡ c.job → dead ≡ (ends_task m.progress.job number ending).endings → all ≡ (deadlocked (ends_task m.progress.job number ending)).endings)
      → slice ≡ all → endings_text c.job slice ≡ run_text (part_of s (choice_of c) m t (ends_with m.progress.job t.number ending)).lines
  all_text items dead all slice first lent shows lent' =
      let dead_is : dead ≡ (ends_task m.progress.job t.number ending).endings = lent ∙ first in
      let all_is : all ≡ (deadlocked (ends_task m.progress.job t.number ending)).endings =
      shows plan s m t.number ending (holds x told k plan s m t c w) (among x told k plan s m t c w) (own x told k plan s m t c w) dead_is in
      ap (endings_text c.job) (lent' ∙ all_is)

-- ---- what stays

-- by tables of which the rows, the one that runs and how much is printed are others
pub keeps_rows : (old new : Machine) (printed : ℕ) → new.tasks ≡ record old.tasks { rows = new.tasks.rows; running = new.tasks.running; printed = printed } → length new.cpu.core ≡ length old.cpu.core → length new.sectors.links ≡ length old.sectors.links → Keeps old new
keeps_rows old new printed same core sectors = record { core = core; sectors = sectors; given = ap given_of same }

pub keeps_close : (c : Chosen) (old last : Machine) (counts : Tasks) (printed : ℕ) → last.tasks ≡ record old.tasks { rows = last.tasks.rows; running = last.tasks.running; printed = printed } → IsCounted c last.tasks counts
    → length last.cpu.core ≡ length old.cpu.core → length last.sectors.links ≡ length old.sectors.links → Keeps old (record last { tasks = counts })
keeps_close c old last counts printed same counted core sectors = record { core = core; sectors = sectors; given = counted.given ∙ ap given_of same }

pub keeps_cut : (old : Machine) (printed : ℕ) → Keeps old (record old { tasks = record old.tasks { printed = printed } })
keeps_cut old printed = record { core = refl; sectors = refl; given = refl }
