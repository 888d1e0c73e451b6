-- The dump of a session that a machine represents is that of what the machine shows.
use Rattle.std.proofs.Common.{◌≡◌, ℕ, ◌+◌, List, [], ◌∷◌, ◌++◌, map, length, refl, sym, ◌∙◌, ap, arith}
use Rattle.std.specs.Prelude.{flat_map}
use Rattle.b67_lemmas.specs.Lists.{Has}
use Rattle.b67_lemmas.proofs.Members.{all_in, has_flat, has_append_right, has_map}
use Rattle.b67_model.specs.Common.{Array, SessionJob, Session, IsSegment, ArrayInOrder, JobInOrder, NumberedFrom, IsInOrderButPlaces}
use Rattle.b67_stack.specs.declared.Cpu.{Cpu}
use Rattle.b67_stack.specs.Common.{PagedObject, Storage}
use Rattle.b67_layout.specs.Common.{Placement, array_object, code_objects, objects_of, machine_view, TaskRow, JobRow, JobCounts, JobShows, JobsShow, TablesShow, RepresentsSession}
use Rattle.b67_layout.proofs.Weaker.{but_counts}
use Rattle.b67_task.specs.Tables.{task_row, job_row, counts_of}
use Rattle.b67_layout_shown.specs.Shown.{Sight, numbers_read, row_cells, segment_cells, member_in, members_from, shown}
use Rattle.b67_layout_shown.proofs.Contents.{dictionary_is, array_fits}
use Rattle.b67_layout_shown.proofs.Whole.{job_is}
use Rattle.b67_dump.specs.Dump.{tasks_text, dump_text}
use Rattle.b67_dump.specs.Laws.{DumpsAreShown, DumpsAreOne}
use Rattle.b67_dump.proofs.Unnamed.{job_same}

module _ (x : Storage) (cpu : Cpu) (plan : Placement) (s : Session) (tasks : List TaskRow) (jobs : List JobRow) (c : JobCounts)
    (ordered : IsInOrderButPlaces s) (stands : RepresentsSession x cpu plan s) (tables : TablesShow plan s tasks jobs c) where
  abbrev k : Sight
  k = record { core = cpu.core; regs = cpu.regs; tasks = tasks; jobs = jobs; counts = c }

  member_same : (m : SessionJob) (row : JobRow) → Has s.jobs m → JobShows plan m row
      → tasks_text (member_in k row m.constants.number) (member_in k row m.constants.number).progress.job.tasks ≡ tasks_text m m.progress.job.tasks
  member_same m row there shows =
      let old = all_in (λ (y : SessionJob). JobInOrder (IsSegment y.constants) y.constants y.progress) s.jobs m ordered.jobs there in
      let set = old.unchanging in
      let rows_are : row.rows + length m.constants.segments ≡ length m.constants.dictionary.cells = let a = shows.segments in let b = shows.rows in omega (arith, a, b) in
      let words : row_cells row.rows ++ segment_cells row.segments ≡ m.constants.dictionary.cells =
      ap (λ n. row_cells row.rows ++ segment_cells n) shows.segments ∙ dictionary_is row.rows m.constants.segments m.constants.dictionary.cells set.dictionary rows_are in
      let inside : (t : PagedObject) → Has (objects_of plan m) t → Has (flat_map (objects_of plan) s.jobs) t = λ t h. has_flat (objects_of plan) s.jobs m t there h in
      let fits : (a : Array) → Has m.progress.job.arrays a → length (numbers_read cpu.core (plan.home m.constants.number) a.identity) ≡ length a.numbers =
      λ a h.
      let own = all_in ArrayInOrder m.progress.job.arrays a old.tasks.arrays h in
      (array_fits x cpu.core cpu.regs (machine_view plan s.jobs) stands.holds.memory plan m.constants.number a
      (inside (array_object plan m.constants.number a) (has_append_right (code_objects plan m.constants.number 1 m.constants.segments) (map (array_object plan m.constants.number) m.progress.job.arrays) (array_object plan m.constants.number a) (has_map (array_object plan m.constants.number) m.progress.job.arrays a h))) own.length_high).long in
      job_same m (member_in k row m.constants.number) (numbers_read cpu.core (plan.home m.constants.number)) row.rows set old.tasks rows_are fits refl words
      (job_is x cpu plan s m tasks jobs row c (but_counts s ordered) stands tables there shows)

  members_same : (n : ℕ) (ms : List SessionJob) (rows : List JobRow) → NumberedFrom n ms → JobsShow plan ms rows → ((y : SessionJob) → Has ms y → Has s.jobs y)
      → flat_map (λ (m : SessionJob). tasks_text m m.progress.job.tasks) (members_from k n rows) ≡ flat_map (λ (m : SessionJob). tasks_text m m.progress.job.tasks) ms
  members_same n [] [] numbers shows inside = refl
  members_same n [] (row ∷ rows) numbers shows inside = absurd shows
  members_same n (m ∷ ms) [] numbers shows inside = absurd shows
  members_same n (m ∷ ms) (row ∷ rows) numbers shows inside = grind (arith, member_same, members_same (n + 1) ms rows numbers.1 shows.1)

  pub session_same : dump_text s ≡ dump_text (shown k)
  unfolding dump_text
  session_same = sym (members_same 1 s.jobs jobs ordered.numbered tables.jobs (λ y h. h))

pub dumps_shown : DumpsAreShown
dumps_shown x told k plan s ordered stands = session_same x k.cpu plan s (map task_row k.tasks.rows.items) (map job_row k.tasks.jobs) (counts_of k.tasks) ordered stands.session stands.tables

pub dumps_one : DumpsAreOne
dumps_one x x' told told' k k' plan plan' s ordered stands stands' = sym (dumps_shown x told k plan s ordered stands) ∙ dumps_shown x' told' k' plan' s ordered stands'
