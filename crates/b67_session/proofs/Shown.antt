-- The tables once the row of a task shows that it waits.
use Rattle.std.proofs.Common.{◌≡◌, ◌≢◌, ℕ, List, [], ◌∷◌, Option, Some, refl, sym, ◌∙◌, ap, ⊎_elim, subst, slice_set, arith}
use Rattle.std.specs.Prelude.{◌==◌}
use Rattle.std.specs.List.{slice_get}
use Rattle.std.proofs.lemmas.Bool.{cases_eq}
use Rattle.std.proofs.lemmas.Option.{same_Some, slice_get_within}
use Rattle.b67_core.proofs.Writes.{slice_get-set_same, slice_get-set_other}
use Rattle.b67_lemmas.specs.Lists.{Has}
use Rattle.b67_lemmas.proofs.Members.{change_found, change_other, has_change, has_get, keyed_has}
use Rattle.b67_lemmas.proofs.Places.{has_at, same_mapped}
use Rattle.b67_model.specs.Common.{Condition, Ready, Awaits, WaitsAt, Task, Job, SessionJob, frames_of_task, number_of, Session}
use Rattle.b67_model.specs.Keyed.{keyed, change_keyed}
use Rattle.b67_law.proofs.Numbered.{keyed_member}
use Rattle.b67_stack.specs.Stacks.{StackPlace}
use Rattle.b67_layout.specs.Common.{with_job, IsInOrderButCounts, Placement, slot_of, spots, address_of, WaitsAtCell, TaskRow, JobRow, JobCounts, shown, critical_disp, TaskShows, JobsShow, RunningRow, Differ, TablesShow}
use Rattle.b67_layout.proofs.Common.{job_in_order, change-kept, differ_at, live_in_order}
use Rattle.b67_task.specs.Likes.{SameStack, Like}
use Rattle.b67_task.proofs.Births.{changed_member, kept_member, moved_member}
use Rattle.b67_task.proofs.AlikePlans.{spots-twin}
use Rattle.b67_session.specs.Holds.{held}

like_frames : (a b : Option Task) → Like a b → frames_of_task a ≡ frames_of_task b
like_frames a b l = grind arith

module _ (plan : Placement) (s : Session) (m : SessionJob) (t : Task) (condition : Condition) (o : IsInOrderButCounts s) (in_m : Has s.jobs m) (in_t : Has m.progress.job.tasks t) where
  abbrev j : ℕ
  j = m.constants.number

  abbrev N : Task → ℕ
  N u = u.number

  abbrev job : Job
  job = m.progress.job

  abbrev waiting : Task
  waiting = record t { condition = condition }

  abbrev job' : Job
  job' = held job t condition

  abbrev after : SessionJob
  after = record m { progress = record m.progress { job = job' } }

  abbrev session : Session
  session = with_job s m job'

  live : keyed N t.number job.tasks ≡ Some t
  live = live_in_order s m t o in_m in_t

  there : keyed N t.number job'.tasks ≡ Some waiting
  there = change_found N t.number t waiting job.tasks refl live

  found : keyed number_of j s.jobs ≡ Some m
  found = keyed_member 1 s.jobs m o.numbered in_m

  pub moved : Has session.jobs after
  moved = moved_member j after.progress s.jobs m found

  in_after : Has job'.tasks waiting
  in_after = (keyed_has N t.number job'.tasks waiting there).0

  -- each task has the stack that it had
  like : (n : ℕ) → Like (keyed N n job'.tasks) (keyed N n job.tasks)
  like n = grind (arith, there, live, change_other)

  same_spots : (v u : Task) → SameStack v u → (id : ℕ) → spots plan j job' v id ≡ spots plan j job u id
  same_spots v u w id = spots-twin plan plan j job job' (λ (k : ℕ). Unit {0}) (λ (a : ℕ). ⊥) (λ k h. refl) (λ k h. like k) (λ a z. absurd z) v u w (λ k h. tt) tt id

  same_critical : (c : ℕ) (parents : List ℕ) → critical_disp plan j job' c parents ≡ critical_disp plan j job c parents
  same_critical c parents = grind (arith, like_frames, like)

  same_shown : (v u : Task) → SameStack v u → (c : Condition) → shown plan j job' v c ≡ shown plan j job u c
  same_shown v u w Ready = refl
  same_shown v u w (Awaits n) = refl
  same_shown v u w (WaitsAt frame offset) = ap (λ (p : StackPlace). WaitsAtCell (address_of plan p) offset) (same_spots v u w frame)

  -- the row of another task, and its own
  other_shows : (u : Task) (row : TaskRow) → TaskShows plan m u row → TaskShows plan after u row
  other_shows u row w = grind (arith, same_critical, same_shown)

  own_shows : (row : TaskRow) → TaskShows plan m t row → TaskShows plan after waiting (record row { state = shown plan j job t condition })
  own_shows row w = grind (arith, same_critical, same_shown)

  jobs_show : (ys : List SessionJob) (rows : List JobRow) → keyed number_of j ys ≡ Some m → JobsShow plan ys rows → JobsShow plan (change_keyed number_of j (λ (y : SessionJob). record y { progress = after.progress }) ys) rows
  jobs_show [] rows e shows = absurd cc
  jobs_show (y ∷ ys) [] e shows = absurd shows
  jobs_show (y ∷ ys) (row ∷ rows) e shows = grind (arith, jobs_show ys rows)

  module _ (rows : List TaskRow) (job_rows : List JobRow) (c : JobCounts) (shows : TablesShow plan s rows job_rows c) (at : ℕ) (row : TaskRow) (here : slice_get rows at ≡ Some row) (w : TaskShows plan m t row) where
    abbrev new : TaskRow
    new = record row { state = shown plan j job t condition }

    abbrev rows' : List TaskRow
    rows' = slice_set rows at new

    new_here : slice_get rows' at ≡ Some new
    new_here = slice_get-set_same rows at new (slice_get_within rows at row here)

    abbrev Shown : TaskRow → Type 0
    Shown y = (z : SessionJob) × (u : Task) × Has session.jobs z × Has z.progress.job.tasks u × TaskShows plan z u y

    own_row : (y : TaskRow) → slice_get rows' at ≡ Some y → Shown y
    own_row y at_k =
        let same : new ≡ y = same_Some new y (sym new_here ∙ at_k) in
        (after, waiting, moved, in_after, subst (λ (q : TaskRow). TaskShows plan after waiting q) same (own_shows row w))

    in_own : (u : Task) → Has job.tasks u → u.number ≢ t.number → Has job'.tasks u
    in_own u in_u ne = ⊎_elim (λ k. k) (λ k. absurd (ne (ap N k.0))) (change-kept N t.number (λ (v : Task). waiting) job.tasks t live u in_u)

    other_row : (k : ℕ) (y : TaskRow) → k ≢ at → slice_get rows k ≡ Some y → Shown y
    other_row k y ne at_k =
        let (z, u, in_z, in_u, v) = shows.tasks y (has_get rows k y at_k) in
        ⊎_elim
        (λ (e : z.constants.number ≡ j).
        let is : z ≡ m = same_Some z m (sym (keyed_member 1 s.jobs z o.numbered in_z) ∙ ap (λ (i : ℕ). keyed number_of i s.jobs) e ∙ found) in
        let own : Has job.tasks u = subst (λ (q : SessionJob). Has q.progress.job.tasks u) is in_u in
        let sh : TaskShows plan m u y = subst (λ (q : SessionJob). TaskShows plan q u y) is v in
        let other : u.number ≢ t.number = λ n. ne (differ_at (λ (q : TaskRow). q.slot) rows k at y row shows.once at_k here (sh.slot ∙ ap (slot_of plan j) n ∙ sym w.slot)) in
        (after, u, moved, in_own u own other, other_shows u y sh))
        (λ (e : z.constants.number ≡ j → ⊥). (z, u, kept_member j after.progress s.jobs z in_z e, in_u, v))
        (cases_eq z.constants.number j)

    each_row : (y : TaskRow) → Has rows' y → Shown y
    each_row y in_y =
        let (k, at_k) = has_at rows' y in_y in
        ⊎_elim
        (λ (e : k ≡ at). own_row y (ap (slice_get rows') (sym e) ∙ at_k))
        (λ (ne : k ≡ at → ⊥). other_row k y ne (sym (slice_get-set_other rows at k new ne) ∙ at_k))
        (cases_eq k at)

    -- a row that isn't the task's stays
    stays : (y : TaskRow) → Has rows y → (y ≡ row → ⊥) → Has rows' y
    stays y in_y ne =
        let (k, at_k) = has_at rows y in_y in
        let apart : k ≢ at = λ e. ne (same_Some y row (sym at_k ∙ ap (slice_get rows) e ∙ here)) in
        has_get rows' k y (slice_get-set_other rows at k new apart ∙ at_k)

    abbrev Has_row : SessionJob → Task → Type 0
    Has_row z u = (y : TaskRow) × Has rows' y × TaskShows plan z u y

    each_task : (z : SessionJob) (u : Task) → Has session.jobs z → Has z.progress.job.tasks u → Has_row z u
    each_task z u in_z in_u = ⊎_elim
        (λ (old : Has s.jobs z × (z.constants.number ≢ j)).
        let (y, in_y, v) = shows.each z u old.0 in_u in
        (y, stays y in_y (λ e. old.1 (sym v.job ∙ ap (λ (q : TaskRow). q.job) e ∙ w.job)), v))
        (λ (is : z ≡ after).
        let own : Has job'.tasks u = subst (λ (q : SessionJob). Has q.progress.job.tasks u) is in_u in
        let shown_so : Has_row after u = ⊎_elim
        (λ (e : waiting ≡ u). subst (Has_row after) e (new, has_get rows' at new new_here, own_shows row w))
        (λ (old : Has job.tasks u × (u.number ≢ t.number)).
        let (y, in_y, v) = shows.each m u in_m old.0 in
        (y, stays y in_y (λ e. old.1 (sym v.number ∙ ap (λ (q : TaskRow). q.number) e ∙ w.number)), other_shows u y v))
        (has_change N job.next_task t.number waiting job.tasks u (job_in_order s m o in_m).tasks.numbers own) in
        subst (λ (q : SessionJob). Has_row q u) (sym is) shown_so)
        (changed_member 1 j after.progress s.jobs m o.numbered found z in_z)

    running_same : RunningRow plan (slice_get rows' c.running) c.running
    running_same =
        let P : Option TaskRow → Type 0 = λ q. RunningRow plan q c.running in
        ⊎_elim
        (λ (e : c.running ≡ at).
        let old : slice_get rows c.running ≡ Some row = ap (slice_get rows) e ∙ here in
        let now : slice_get rows' c.running ≡ Some new = ap (slice_get rows') e ∙ new_here in
        let runs : P (Some row) = subst P old shows.counts.running in
        subst P (sym now) (runs.0, runs.1))
        (λ (ne : c.running ≡ at → ⊥). subst P (sym (slice_get-set_other rows at c.running new ne)) shows.counts.running)
        (cases_eq c.running at)

    pub tables_held : TablesShow plan session rows' job_rows c
    tables_held = record {
      tasks = each_row;
      each = each_task;
      once = subst Differ (sym (same_mapped (λ (q : TaskRow). q.slot) rows at row new here refl)) shows.once;
      jobs = jobs_show s.jobs job_rows found shows.jobs;
      counts = record {
        quantum = shows.counts.quantum;
        made = shows.counts.made;
        turn = shows.counts.turn;
        last_job = shows.counts.last_job;
        last_number = shows.counts.last_number;
        switches = shows.counts.switches;
        next = shows.counts.next;
        past = shows.counts.past;
        running = running_same;
      };
    }
