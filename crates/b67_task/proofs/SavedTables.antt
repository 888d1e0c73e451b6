-- The tables of a session, as its registers are put away and come into use.
use Rattle.std.proofs.Common.{◌≡◌, ◌≢◌, ℕ, ◌+◌, ◌≤◌, List, [], ◌∷◌, length, Option, Some, None, refl, sym, ◌∙◌, ap, arith, ⊎_elim, slice_set, subst, length-set}
use Rattle.std.specs.List.{slice_get}
use Rattle.std.proofs.lemmas.Option.{same_Some, slice_get_within, slice_get_past}
use Rattle.std.proofs.lemmas.Bool.{cases_eq}
use Rattle.b67_core.proofs.Writes.{slice_get-set_same, slice_get-set_other}
use Rattle.b67_word.specs.Tagged.{Tagged}
use Rattle.b67_ctl.specs.declared.registers.Regs.{Regs}
use Rattle.b67_lemmas.specs.Lists.{Has}
use Rattle.b67_lemmas.proofs.Members.{has_get}
use Rattle.b67_lemmas.proofs.Places.{has_at, same_mapped}
use Rattle.b67_model.specs.Common.{Task, SessionJob, Session}
use Rattle.b67_layout.specs.Common.{IsInOrderButCounts, Placement, slot_of, TaskRow, JobRow, JobCounts, TaskShows, JobsShow, RunningRow, Differ, TablesShow, RowsFit, IsRunning, SessionHolds}
use Rattle.b67_stack.specs.Represents.{Storage}
use Rattle.b67_layout.proofs.Common.{slot_below, differ_at, live_in_order}
use Rattle.b67_task.specs.Turns.{with_running}
use Rattle.b67_law.proofs.Numbered.{keyed_member}

-- a row of a task, whatever registers are in use
module _ (plan : Placement) (k : ℕ) where
  -- a row that is another but for segment and place
  pub TaskShows-replan : (m : SessionJob) (t : Task) (old row : TaskRow) → TaskShows plan m t old → row.job ≡ old.job → row.number ≡ old.number → row.slot ≡ old.slot → row.parent ≡ old.parent → row.critical ≡ old.critical → row.state ≡ old.state
      → (row.slot ≢ k → row.segment ≡ t.segment + 1) → (row.slot ≢ k → row.place ≡ t.place) → TaskShows (with_running plan k) m t row
  TaskShows-replan m t old row h ej en es ep ec et segment place = grind arith

  pub JobsShow-replan : (jobs : List SessionJob) (rows : List JobRow) → JobsShow plan jobs rows → JobsShow (with_running plan k) jobs rows
  JobsShow-replan [] [] h = h
  JobsShow-replan [] (r ∷ rows) h = absurd h
  JobsShow-replan (m ∷ more) [] h = absurd h
  JobsShow-replan (m ∷ more) (r ∷ rows) h = grind (arith, JobsShow-replan more rows h.1)

module _ (x : Storage) (core : List Tagged) (r : Regs) (marks : List ℕ) (plan : Placement) (s : Session) (o : IsInOrderButCounts s) (h : SessionHolds x core r marks plan s)
    (rows : List TaskRow) (job_rows : List JobRow) (c : JobCounts) (shows : TablesShow plan s rows job_rows c) (few : length rows ≤ 120) where
  is_running : (m : SessionJob) (t : Task) → Has s.jobs m → Has m.progress.job.tasks t → plan.running ≡ slot_of plan m.constants.number t.number → IsRunning plan s.jobs m t
  is_running m t inm int e = record { member = keyed_member 1 s.jobs m o.numbered inm; task = live_in_order s m t o inm int; slot = e }

  module _ (row : TaskRow) (at : slice_get rows c.running ≡ Some row) where
    abbrev pub noted : TaskRow
    noted = record row { segment = r.segment; place = r.place }

    in_use : row.slot ≡ plan.running
    in_use = let P : Option TaskRow → Type 0 = λ y. RunningRow plan y c.running in (subst P at shows.counts.running).1

    -- the row shows the running task, also under the plan where its registers aren't in use
    noted_shows : (m : SessionJob) (t : Task) → Has s.jobs m → Has m.progress.job.tasks t → TaskShows plan m t row → TaskShows (with_running plan 255) m t noted
    noted_shows m t inm int w =
        let stands = h.running m t (is_running m t inm int (sym in_use ∙ w.slot)) in
        TaskShows-replan plan 255 m t row noted w refl refl refl refl refl refl (λ ne. stands.segment) (λ ne. stands.place)

    other_shows : (k : ℕ) (y : TaskRow) (m : SessionJob) (t : Task) → k ≢ c.running → slice_get rows k ≡ Some y → TaskShows plan m t y → TaskShows (with_running plan 255) m t y
    other_shows k y m t ne at_k w = grind (arith, differ_at)

    abbrev pub new_rows : List TaskRow
    new_rows = slice_set rows c.running noted

    here : slice_get new_rows c.running ≡ Some noted
    here = slice_get-set_same rows c.running noted (slice_get_within rows c.running row at)

    none : slice_get new_rows 255 ≡ None
    none = slice_get_past new_rows 255 (omega (arith, few, length-set rows c.running noted))

    pub paused : TablesShow (with_running plan 255) s (slice_set rows c.running (record row { segment = r.segment; place = r.place })) job_rows (record c { running = 255 })
    paused = record {
      tasks = λ y in_y.
          let (k, at_k) = has_at new_rows y in_y in
          ⊎_elim
          (λ (e : k ≡ c.running).
          let same : noted ≡ y = same_Some noted y (sym here ∙ ap (slice_get new_rows) (sym e) ∙ at_k) in
          let (m, t, inm, int, w) = shows.tasks row (has_get rows c.running row at) in
          (m, t, inm, int, subst (λ (z : TaskRow). TaskShows (with_running plan 255) m t z) same (noted_shows m t inm int w)))
          (λ (ne : k ≡ c.running → ⊥).
          let old : slice_get rows k ≡ Some y = sym (slice_get-set_other rows c.running k noted ne) ∙ at_k in
          let (m, t, inm, int, w) = shows.tasks y (has_get rows k y old) in
          (m, t, inm, int, other_shows k y m t ne old w))
          (cases_eq k c.running);
      each = λ m t inm int.
          let (y, in_y, w) = shows.each m t inm int in
          let (k, at_k) = has_at rows y in_y in
          ⊎_elim
          (λ (e : k ≡ c.running).
          let same : y ≡ row = same_Some y row (sym at_k ∙ ap (slice_get rows) e ∙ at) in
          (noted, has_get new_rows c.running noted here, noted_shows m t inm int (subst (λ (z : TaskRow). TaskShows plan m t z) same w)))
          (λ (ne : k ≡ c.running → ⊥). (y, has_get new_rows k y (slice_get-set_other rows c.running k noted ne ∙ at_k), other_shows k y m t ne at_k w))
          (cases_eq k c.running);
      once = subst Differ (sym (same_mapped (λ (z : TaskRow). z.slot) rows c.running row noted at refl)) shows.once;
      jobs = JobsShow-replan plan 255 s.jobs job_rows shows.jobs;
      counts = record { quantum = shows.counts.quantum; made = shows.counts.made; turn = shows.counts.turn; last_job = shows.counts.last_job; last_number = shows.counts.last_number; switches = shows.counts.switches; next = shows.counts.next; past = shows.counts.past; running = subst (λ (y : Option TaskRow). RunningRow (with_running plan 255) y 255) (sym none) (refl, refl) };
    }

  -- no registers are in use where the tables say so
  pub rests : c.running ≡ 255 → plan.running ≡ 255
  rests e = grind arith

module _ (plan : Placement) (s : Session) (fit : RowsFit plan s.jobs) (small : plan.peak ≤ 120) (idle : plan.running ≡ 255)
    (rows : List TaskRow) (job_rows : List JobRow) (c : JobCounts) (shows : TablesShow plan s rows job_rows c) where
  -- every row says where its task goes on
  pub goes_on : (m : SessionJob) (t : Task) (y : TaskRow) → Has s.jobs m → Has m.progress.job.tasks t → TaskShows plan m t y → (y.segment ≡ t.segment + 1) × (y.place ≡ t.place)
  goes_on m t y inm int w = grind (arith, slot_below)

  again : (k : ℕ) (m : SessionJob) (t : Task) (y : TaskRow) → Has s.jobs m → Has m.progress.job.tasks t → TaskShows plan m t y → TaskShows (with_running plan k) m t y
  again k m t y inm int w =
      let on = goes_on m t y inm int w in
      TaskShows-replan plan k m t y y w refl refl refl refl refl refl (λ ne. on.0) (λ ne. on.1)

  -- the registers of a row's task come into use
  pub resumed : (i : ℕ) (row : TaskRow) → slice_get rows i ≡ Some row → i ≢ 255 → TablesShow (with_running plan row.slot) s rows job_rows (record c { running = i })
  resumed i row at ne = record {
    tasks = λ y in_y. let (m, t, inm, int, w) = shows.tasks y in_y in (m, t, inm, int, again row.slot m t y inm int w);
    each = λ m t inm int. let (y, in_y, w) = shows.each m t inm int in (y, in_y, again row.slot m t y inm int w);
    once = shows.once;
    jobs = JobsShow-replan plan row.slot s.jobs job_rows shows.jobs;
    counts = record { quantum = shows.counts.quantum; made = shows.counts.made; turn = shows.counts.turn; last_job = shows.counts.last_job; last_number = shows.counts.last_number; switches = shows.counts.switches; next = shows.counts.next; past = shows.counts.past; running = subst (λ (y : Option TaskRow). RunningRow (with_running plan row.slot) y i) (sym at) (ne, refl) };
  }
