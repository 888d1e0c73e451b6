-- What a machine shows is the session that it represents, in all but names.
use Rattle.std.proofs.Common.{◌≡◌, ℕ, ◌+◌, List, [], ◌∷◌, ◌++◌, map, length, None, refl, sym, ◌∙◌, ap, subst, arith, inl, inr}
use Rattle.std.specs.Prelude.{flat_map}
use Rattle.b67_lemmas.specs.Lists.{Has}
use Rattle.b67_lemmas.proofs.Members.{all_in, has_flat, has_append_left, has_append_right, has_map}
use Rattle.b67_model.specs.Common.{Entered, SessionJob, Session, IsSegment, ArrayInOrder, JobInOrder, NumberedFrom, IsInOrderButPlaces}
use Rattle.b67_stack.specs.declared.Cpu.{Cpu}
use Rattle.b67_stack.specs.MachineView.{PagedObject}
use Rattle.b67_stack.specs.Represents.{Storage}
use Rattle.b67_layout.specs.Common.{Placement, array_object, code_objects, objects_of, machine_view, TaskRow, JobRow, JobCounts, JobShows, JobsShow, TablesShow, RepresentsSession}
use Rattle.b67_layout.proofs.Weaker.{but_counts}
use Rattle.b67_task.specs.Tables.{task_row, job_row, counts_of}
use Rattle.b67_layout_shown.specs.Shown.{Sight, numbers_read, segments_from, row_cells, segment_cells, member_in, members_from, shown}
use Rattle.b67_layout_shown.specs.ButNames.{IsJobButNames, AreJobsButNames, IsSessionButNames, MachinesShowTheirSessions}
use Rattle.b67_layout_shown.proofs.Contents.{dictionary_is, AreShown, segments_read, array_fits}
use Rattle.b67_layout_shown.proofs.Ordered.{same_frame}
use Rattle.b67_layout_shown.proofs.Whole.{job_is}

module _ (x : Storage) (cpu : Cpu) (plan : Placement) (s : Session) (tasks : List TaskRow) (jobs : List JobRow) (c : JobCounts)
    (ordered : IsInOrderButPlaces s) (stands : RepresentsSession x cpu plan s) (tables : TablesShow plan s tasks jobs c) where
  abbrev k : Sight
  k = record { core = cpu.core; regs = cpu.regs; tasks = tasks; jobs = jobs; counts = c }

  job_but_names : (m : SessionJob) (row : JobRow) → Has s.jobs m → JobShows plan m row → IsJobButNames (member_in k row m.constants.number) m
  job_but_names m row there shows =
      let old = all_in (λ (y : SessionJob). JobInOrder (IsSegment y.constants) y.constants y.progress) s.jobs m ordered.jobs there in
      let set = old.unchanging in
      let rows_are : row.rows + length m.constants.segments ≡ length m.constants.dictionary.cells = let a = shows.segments in let b = shows.rows in omega (arith, a, b) in
      let words = ap (λ n. row_cells row.rows ++ segment_cells n) shows.segments ∙ dictionary_is row.rows m.constants.segments m.constants.dictionary.cells set.dictionary rows_are in
      let inside : (t : PagedObject) → Has (objects_of plan m) t → Has (flat_map (objects_of plan) s.jobs) t = λ t h. has_flat (objects_of plan) s.jobs m t there h in
      let dict = shows.dictionary in
      let segs : AreShown m.constants.segments (segments_from cpu.core (row.dictionary + 2) row.segments) =
      subst (λ n. AreShown m.constants.segments (segments_from cpu.core (row.dictionary + 2) n)) (sym shows.segments)
      (segments_read x cpu.core cpu.regs (machine_view plan s.jobs) stands.holds.memory plan m.constants.number 1 m.constants.segments
      (λ t h. inside t (has_append_left (code_objects plan m.constants.number 1 m.constants.segments) (map (array_object plan m.constants.number) m.progress.job.arrays) t h))
      set.segments (row.dictionary + 2) (omega (arith, dict))) in
      record {
        number = refl;
        stack_size = stands.holds.memory.slots.regs.size ∙ sym (stands.holds.fits.sizes m there);
        limit = shows.limit;
        dictionary = same_frame m.constants.dictionary 1 (Entered 1 0 None) (row_cells row.rows ++ segment_cells row.segments) (sym set.named) (sym set.stands) words;
        code = segs.lengths;
        made = shows.made;
        rows = row.rows;
        all = rows_are;
        numbers = numbers_read cpu.core (plan.home m.constants.number);
        long = λ a h.
            let own = all_in ArrayInOrder m.progress.job.arrays a old.tasks.arrays h in
            (array_fits x cpu.core cpu.regs (machine_view plan s.jobs) stands.holds.memory plan m.constants.number a
            (inside (array_object plan m.constants.number a) (has_append_right (code_objects plan m.constants.number 1 m.constants.segments) (map (array_object plan m.constants.number) m.progress.job.arrays) (array_object plan m.constants.number a) (has_map (array_object plan m.constants.number) m.progress.job.arrays a h))) own.length_high).long;
        job = job_is x cpu plan s m tasks jobs row c (but_counts s ordered) stands tables there shows;
      }

  jobs_but_names : (n : ℕ) (ms : List SessionJob) (rs : List JobRow) → NumberedFrom n ms → JobsShow plan ms rs → ((m : SessionJob) → Has ms m → Has s.jobs m) → AreJobsButNames (members_from k n rs) ms
  jobs_but_names n [] [] o shows inside = tt
  jobs_but_names n [] (r ∷ rs) o shows inside = absurd shows
  jobs_but_names n (m ∷ ms) [] o shows inside = absurd shows
  jobs_but_names n (m ∷ ms) (r ∷ rs) o shows inside = (
    subst (λ i. IsJobButNames (member_in k r i) m) o.0 (job_but_names m r (inside m (inl refl)) shows.0),
    jobs_but_names (n + 1) ms rs o.1 shows.1 (λ y h. inside y (inr h)),
  )

  pub session_but_names : IsSessionButNames (shown k) s
  session_but_names = grind (arith, jobs_but_names)

pub machines_but_names : MachinesShowTheirSessions
machines_but_names x told k plan s ordered r = session_but_names x k.cpu plan s (map task_row k.tasks.rows.items) (map job_row k.tasks.jobs) (counts_of k.tasks) ordered r.session r.tables
