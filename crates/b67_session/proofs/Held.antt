-- The machine once the row of the chosen task shows that it waits, once those that are stuck have ended, and once the step is
-- counted.
use Rattle.std.proofs.Common.{◌≡◌, ℕ, ◌+◌, ◌<◌, List, [], length, map, Option, Some, Ok, Err, refl, sym, ap, ◌∙◌, subst, inl, arith, slice_set, length-set}
use Rattle.std.specs.List.{slice_get}
use Rattle.std.proofs.lemmas.Option.{slice_get_within}
use Rattle.b67_core.proofs.Writes.{slice_get-set_same}
use Rattle.b67_word.specs.declared.faults.Ending.{Ending}
use Rattle.b67_word.specs.declared.faults.Failed.{Failed}
use Rattle.b67_lemmas.specs.Lists.{Has}
use Rattle.b67_lemmas.proofs.Keyed.{change_same}
use Rattle.b67_lemmas.proofs.Members.{change_found, keyed_has}
use Rattle.b67_lemmas.proofs.Places.{at_mapped, map-slice_set, set-back}
use Rattle.b67_model.specs.Common.{JobMoment, moment_with, Stepped, deadlocked, unsettled, run_text, StepResult, number_of, Session, Choice, Condition, Task, Job, SessionJob, with_task}
use Rattle.b67_model.specs.Keyed.{keyed}
use Rattle.b67_law.specs.Turns.{part_of}
use Rattle.b67_session_lines.specs.Parts.{TookRest, TookMore}
use Rattle.b67_stack.specs.MachineView.{PagedObject}
use Rattle.b67_stack.specs.Represents.{Storage}
use Rattle.b67_layout.specs.Common.{with_job, machine_view, IsInOrderButCounts, Placement, TablesShow, IsRunning, RepresentsSession}
use Rattle.b67_layout.specs.Rows as rows
use Rattle.b67_layout.proofs.Common.{fresh, member-same, IsFree, but_counts, with_job-twice, RepresentsSession-condition}
use Rattle.b67_task.specs.declared.tables.TaskRow.{TaskRow}
use Rattle.b67_task.specs.declared.tables.TaskState.{TaskState}
use Rattle.b67_task.specs.declared.tables.Tasks.{Tasks}
use Rattle.b67_task.specs.declared.tables.Machine.{Machine}
use Rattle.b67_task.specs.Tables.{task_row, job_row, counts_of, MachineRepresents, TasksShow}
use Rattle.b67_task.specs.Family.{TablesHold, HasSomeHead}
use Rattle.b67_task.specs.declared.counting.Chosen.{Chosen}
use Rattle.b67_task.specs.Counted.{choice_of}
use Rattle.b67_session.specs.Closing.{HasJobOf, StandsChosen, Closes}
use Rattle.b67_session.specs.Counts.{IsCounted}
use Rattle.b67_session.specs.Ends.{StandsInPlace, LeavesInPlace}
use Rattle.b67_session.specs.Texts.{endings_text}
use Rattle.b67_session.proofs.ByLimit.{reprinted}
use Rattle.b67_session.proofs.Counted.{counted_stands, counted_view}
use Rattle.b67_session.proofs.InPlace.{in_place_then, in_place_view, objects_kept}
use Rattle.b67_session.specs.Holds.{held, waiting_step, HoldsSo, HoldsSome, with_state}
use Rattle.b67_session.proofs.Shown.{moved, tables_held}
use Rattle.b67_session.proofs.Waits.{found, live, as_many, held_ordered}

module _ (k : Machine) (c : Chosen) (state : TaskState) (h : HoldsSome k c state) where
  abbrev x : Storage
  x = h.storage

  abbrev told : Option (List (List ℕ))
  told = h.told

  abbrev plan : Placement
  plan = h.plan

  abbrev s : Session
  s = h.session

  abbrev m : SessionJob
  m = h.member

  abbrev t : Task
  t = h.task

  abbrev condition : Condition
  condition = h.condition

  abbrev w : StandsChosen x told k plan s m t c
  w = h.stands

  abbrev so : HoldsSo plan m t state condition
  so = h.so

  abbrev job : Job
  job = m.progress.job

  abbrev after : Job
  after = held job t condition

  abbrev member : SessionJob
  member = record m { progress = record m.progress { job = after } }

  abbrev session : Session
  session = with_job s m after

  abbrev row : TaskRow
  row = w.row.row

  o : IsInOrderButCounts s
  o = but_counts s w.ordered

  found_m : keyed number_of m.constants.number s.jobs ≡ Some m
  found_m = found s m t condition w.ordered w.next so.is

  live_t : keyed (λ (u : Task). u.number) t.number job.tasks ≡ Some t
  live_t = live s m t condition w.ordered w.next so.is

  own : m.constants.number ≡ c.job
  own = (keyed_has number_of w.next.chosen.who.job s.jobs m w.next.member).1 ∙ ap (λ (z : Choice). z.who.job) w.chosen

  ordered : IsInOrderButCounts session
  ordered = held_ordered s m t condition w.ordered w.next so.is

  in_session : Has session.jobs member
  in_session = moved plan s m t condition o w.row.member w.row.task

  runs : IsRunning plan s.jobs m t
  runs = record { member = found_m; task = live_t; slot = so.runs }

  -- the job with its task as it is
  same_job : with_task job t ≡ job
  same_job = ap (λ (ts : List Task). record job { tasks = ts }) (change_same (λ (u : Task). u.number) t.number (λ (u : Task). t) job.tasks t live_t refl)

  same_session : with_job s m (with_task job t) ≡ s
  same_session =
      ap (λ (i : Job). with_job s m i) same_job
      ∙ ap (λ (js : List SessionJob). record s { jobs = js }) (change_same number_of m.constants.number (λ (y : SessionJob). record y { progress = m.progress }) s.jobs m found_m refl)

  session_stands : RepresentsSession x k.cpu plan session
  session_stands =
      let as_is : SessionJob = record m { progress = record m.progress { job = with_task job t } } in
      let there_is : RepresentsSession x k.cpu plan (with_job s m (with_task job t)) = subst (RepresentsSession x k.cpu plan) (sym same_session) w.stands.session in
      let run : IsRunning plan (with_job s m (with_task job t)).jobs as_is t = record {
        member = member-same s.jobs m.constants.number (record m.progress { job = with_task job t }) m found_m;
        task = change_found (λ (u : Task). u.number) t.number t t job.tasks refl live_t;
        slot = so.runs;
      } in
      let free : IsFree (with_task job t) job.next_frame = subst (λ (i : Job). IsFree i job.next_frame) (sym same_job) (fresh plan s m t o runs) in
      RepresentsSession-condition [] x k.cpu plan s m job t t.condition condition job.next_frame there_is run free

  -- it has the same arrays
  held_objects : (machine_view plan session.jobs).objects ≡ (machine_view plan s.jobs).objects
  held_objects = objects_kept plan m.constants.number (λ (y : SessionJob). record y { progress = record m.progress { job = after } }) m s.jobs found_m refl

  pub inside : c.row < length k.tasks.rows.items
  inside = slice_get_within k.tasks.rows.items c.row row w.row.there

  set_shows : TasksShow plan session (with_state k.tasks c.row row state)
  set_shows =
      let new : TaskRow = record row { state = state } in
      let items : List TaskRow = k.tasks.rows.items in
      let P : List rows.TaskRow → Type 0 = λ z. TablesShow plan session z (map job_row k.tasks.jobs) (counts_of k.tasks) in
      let shows : P (slice_set (map task_row items) c.row (record (task_row row) { state = rows.shown plan m.constants.number job t condition })) =
      tables_held plan s m t condition o w.row.member w.row.task (map task_row items) (map job_row k.tasks.jobs) (counts_of k.tasks) w.stands.tables c.row (task_row row) (at_mapped task_row items c.row row w.row.there) w.row.shows in
      grind (arith, map-slice_set)

  -- by what is said of the tables whose row is set
  module _ (tasks : Tasks) (is : (r : TaskRow) → slice_get k.tasks.rows.items c.row ≡ Some r → tasks ≡ with_state k.tasks c.row r state) where
    set_is : tasks ≡ with_state k.tasks c.row row state
    set_is = is row w.row.there

    pub set_stands : MachineRepresents x told (record k { tasks = tasks }) plan session
    set_stands = subst (λ (z : Tasks). MachineRepresents x told (record k { tasks = z }) plan session) (sym set_is) (record { session = session_stands; storage = w.stands.storage; tables = set_shows })

    set_hold : TablesHold plan session tasks
    set_hold = record { ordered = ordered; fits = set_stands.session.holds.fits.rows; few = set_stands.session.holds.fits.few; shows = set_stands.tables }

    pub set_head : HasSomeHead tasks c.job 255
    set_head = record { plan = plan; session = session; job_of = member; has = record { holds = set_hold; member = in_session; number = own; heads = inl refl } }

    pub inside_set : c.row < length tasks.rows.items
    inside_set = subst (λ (z : Tasks). c.row < length z.rows.items) (sym set_is) (omega (arith, inside, length-set k.tasks.rows.items c.row (record row { state = state })))

    printed_set : tasks.printed ≡ k.tasks.printed
    printed_set = ap (λ (z : Tasks). z.printed) set_is

    still : (printed : ℕ) → MachineRepresents x told (record k { tasks = record tasks { printed = printed } }) plan session
    still printed = reprinted x told (record k { tasks = tasks }) plan session printed set_stands

    pub has_job : (printed : ℕ) → HasJobOf (record k { tasks = record tasks { printed = printed } }) c.job
    has_job printed = record { storage = x; told = told; plan = plan; session = session; member = member; ordered = ordered; stands = still printed; among = in_session; number = own }

    -- but for the rows, the one that runs and how much is printed the tables are as they were
    pub rest_after : (printed : ℕ) (last : Machine) → last.tasks ≡ record tasks { printed = printed; rows = last.tasks.rows; running = last.tasks.running } → last.tasks ≡ record k.tasks { rows = last.tasks.rows; running = last.tasks.running; printed = printed }
    rest_after printed last rest = grind (arith, set_is)

    -- the row as it was
    pub back_is : (printed : ℕ) (before : TaskState) → ((r : TaskRow) → slice_get k.tasks.rows.items c.row ≡ Some r → before ≡ r.state) → (back : Tasks)
        → ((r : TaskRow) → slice_get tasks.rows.items c.row ≡ Some r → back ≡ with_state (record tasks { printed = printed }) c.row r before) → back ≡ record k.tasks { printed = printed }
    back_is printed before was back again =
        let items : List TaskRow = k.tasks.rows.items in
        let new : TaskRow = record row { state = state } in
        let there : slice_get tasks.rows.items c.row ≡ Some new = ap (λ (z : Tasks). slice_get z.rows.items c.row) set_is ∙ slice_get-set_same items c.row new inside in
        again new there
        ∙ ap (λ (z : Tasks). with_state (record z { printed = printed }) c.row new before) set_is
        ∙ ap (λ (b : TaskState). record k.tasks { rows = record { items = slice_set (slice_set items c.row new) c.row (record row { state = b }) }; printed = printed }) (was row w.row.there)
        ∙ ap (λ (l : List TaskRow). record k.tasks { rows = record { items = l }; printed = printed }) (set-back items c.row new row w.row.there)

    abbrev made : Stepped
    made = waiting_step job t condition

    abbrev part : StepResult
    part = part_of s (choice_of c) m t made

    -- what ends by itself
    abbrev pub Stuck : List (ℕ × Ending) → Type 0
    Stuck items = (plan : Placement) (s : Session) (m : SessionJob) → TablesHold plan s tasks → Has s.jobs m → m.constants.number ≡ c.job → items ≡ (deadlocked (unsettled m.progress.job)).endings

    text_is : (items lent : List (ℕ × Ending)) → Stuck items → lent ≡ items → endings_text c.job lent ≡ run_text part.lines
    text_is items lent stuck same = ap (endings_text c.job) (same ∙ stuck plan session member set_hold in_session own)

    -- once the lines are printed
    module _ {K : Type 0} (taken : K → Option (List ℕ)) (paper paper' : K) (items lent : List (ℕ × Ending)) (stuck : Stuck items) (same : lent ≡ items) (printed : ℕ) where
      abbrev now : Machine
      now = record k { tasks = record tasks { printed = printed } }

      abbrev EndsStuck : Machine → Type 0
      EndsStuck last = (x : Storage) (told : Option (List (List ℕ))) (plan : Placement) (s : Session) (m : SessionJob) → IsInOrderButCounts s → MachineRepresents x told now plan s → Has s.jobs m → m.constants.number ≡ c.job
          → StandsInPlace x told last plan s (with_job s m (deadlocked (unsettled m.progress.job)).job)

      held_stands : (last : Machine) → EndsStuck last → (counts : Tasks) → IsCounted c last.tasks counts → StandsInPlace x told (record last { tasks = counts }) plan s part.session
      held_stands last ends counts counted =
          let g : StandsInPlace x told last plan session (with_job session member made.settled.job) = ends x told plan session member ordered (still printed) in_session own in
          let f = g.whole in
          let there : MachineRepresents f.storage told last f.plan (with_job s m made.settled.job) = subst (MachineRepresents f.storage told last f.plan) (with_job-twice s m after made.settled.job) f.stands in
          let moment : JobMoment = moment_with m.progress t made made.settled in
          let found_c : keyed number_of c.job s.jobs ≡ Some m = ap (λ (z : Choice). keyed number_of z.who.job s.jobs) (sym w.chosen) ∙ w.next.member in
          let many = as_many s m t condition w.ordered w.next so.is in
          let waits : LeavesInPlace x x plan plan s session = record { were = λ u i. subst (λ (us : List PagedObject). Has us u) held_objects i; held = λ u i. refl } in
          let both : LeavesInPlace x f.storage plan f.plan s (with_job session member made.settled.job) = in_place_then x x f.storage plan plan f.plan s session (with_job session member made.settled.job) waits g.left in
          record {
            whole = record { storage = f.storage; plan = f.plan; stands = counted_stands s c m moment w.ordered found_c many f.storage told last f.plan counts refl counted there };
            left = in_place_view x f.storage plan f.plan s (with_job s m made.settled.job) part.session (counted_view s c m moment w.ordered found_c many f.plan)
                (subst (LeavesInPlace x f.storage plan f.plan s) (with_job-twice s m after made.settled.job) both);
          }

      pub held_closed : TookRest taken paper paper' (endings_text c.job lent) tasks.printed → (last : Machine) → EndsStuck last → last.tasks ≡ record now.tasks { rows = last.tasks.rows; running = last.tasks.running }
          → (counts : Tasks) → IsCounted c last.tasks counts → Closes taken x told plan s part (Ok tt) k (record last { tasks = counts }) paper paper'
      held_closed took last ends rest counts counted = (
        subst (TookRest taken paper paper' (run_text part.lines)) printed_set (subst (λ (l : List ℕ). TookRest taken paper paper' l tasks.printed) (text_is items lent stuck same) took),
        counted.printed,
        counted.made ∙ ap (λ (z : Tasks). z.made + 1) (rest_after printed last rest),
        held_stands last ends counts counted,
      )

      pub held_cut : (failed : Failed) (back : Tasks) → back ≡ record k.tasks { printed = printed } → TookMore taken paper paper' (endings_text c.job lent) tasks.printed printed → Closes taken x told plan s part (Err failed) k (record k { tasks = back }) paper paper'
      held_cut failed back is took =
          let text : TookMore taken paper paper' (run_text part.lines) tasks.printed printed = subst (λ (l : List ℕ). TookMore taken paper paper' l tasks.printed printed) (text_is items lent stuck same) took in
          grind (arith, printed_set)
