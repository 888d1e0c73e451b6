-- A job that a machine shows is the session's, under names by place.
use Rattle.std.proofs.Common.{◌≡◌, ◌≢◌, ℕ, suc, ◌+◌, ◌<◌, true, List, [], ◌∷◌, ◌++◌, map, length, refl, ◌∙◌, ap, subst, arith}
use Rattle.std.specs.Prelude.{ℤ, flat_map}
use Rattle.b67_lemmas.specs.Lists.{Has}
use Rattle.b67_lemmas.proofs.Members.{all_in, has_map}
use Rattle.b67_model.specs.Common.{Frame, Array, Task, Job, SessionJob, Session, array, IsSegment, OwnsArray, TaskInOrder, ArrayInOrder, outer_of}
use Rattle.b67_stack.specs.declared.Cpu.{Cpu}
use Rattle.b67_stack.specs.Common.{Activation, mark_place, slot_base, Storage}
use Rattle.b67_layout.specs.Common.{Placement, slot_of, outer_spots, activations, stack_of_task, machine_view, TaskRow, JobRow, JobCounts, JobShows, TaskShows, TablesShow, JobInOrderButCounts, IsInOrderButCounts, RepresentsSession}
use Rattle.b67_layout_shown.specs.Reading.{word_seen_at, desc_in, stack_seen}
use Rattle.b67_layout_shown.specs.Places.{named, name_among, array_among, rows_down, array_named, task_by, job_placed}
use Rattle.b67_layout_shown.specs.Shown.{Sight, array_homed, contents_by, arrays_of, top_in, stack_of_row, rows_of, task_in, job_seen}
use Rattle.b67_layout_shown.proofs.Names.{named_frames}
use Rattle.b67_layout_shown.proofs.Outer.{name_low, above_base}
use Rattle.b67_layout_shown.proofs.Stacks.{stacks_read}
use Rattle.b67_layout_shown.proofs.Tasks.{callers}
use Rattle.b67_layout_shown.proofs.Read.{order, stack_is, slot_below, arrays_read}
use Rattle.b67_layout_shown.proofs.Owned.{entry, entry_owned, entry_named, found_array}
use Rattle.b67_layout_shown.proofs.Sorted.{paired, same_numbers, shows_task}
use Rattle.b67_layout_shown.proofs.Member.{top_is, many_words, task_is}
use Rattle.b67_layout_shown.proofs.Listed.{frames_shown, tasks_shown, rows_shown}

same_job : (a : Job) (xs : List Array) (ts : List Task) (ns : List ℤ) (n f i : ℕ) → xs ≡ a.arrays → ts ≡ a.tasks → ns ≡ a.numbers → n ≡ a.next_task → f ≡ a.next_frame → i ≡ a.next_array
    → record { arrays = xs; tasks = ts; numbers = ns; next_task = n; next_frame = f; next_array = i } ≡ a
same_job a xs ts ns n f i ex et en e1 e2 e3 = rw (ex, et, en, e1, e2, e3) refl

module _ (x : Storage) (cpu : Cpu) (plan : Placement) (s : Session) (m : SessionJob) (tasks : List TaskRow) (jobs : List JobRow) (row : JobRow) (c : JobCounts)
    (ordered : IsInOrderButCounts s) (stands : RepresentsSession x cpu plan s) (tables : TablesShow plan s tasks jobs c) (in_session : Has s.jobs m) (shows : JobShows plan m row) where
  abbrev k : Sight
  k = record { core = cpu.core; regs = cpu.regs; tasks = tasks; jobs = jobs; counts = c }

  -- the numbers that the machine has of an array
  abbrev pub numbers : ℕ → List ℕ
  numbers n = let d = desc_in (word_seen_at cpu.core (plan.home m.constants.number n)) in contents_by cpu.core d.length d.address d.present

  ord : JobInOrderButCounts (IsSegment m.constants) m.constants m.progress
  ord = order x cpu plan s m tasks jobs row c ordered stands tables in_session shows

  own : (t : Task) → Has m.progress.job.tasks t → TaskInOrder (IsSegment m.constants) m.constants m.progress.job t
  own t there = all_in (TaskInOrder (IsSegment m.constants) m.constants m.progress.job) m.progress.job.tasks t ord.tasks.tasks there

  rows_are : row.rows + length m.constants.segments ≡ length m.constants.dictionary.cells
  rows_are = let a = shows.segments in let b = shows.rows in omega (arith, a, b)

  arrays : (a : Array) → Has m.progress.job.arrays a → array_homed cpu.regs tasks row (plan.home m.constants.number a.identity) ≡ array_among m.progress.job.tasks a.identity
  arrays = arrays_read x cpu plan s m tasks jobs row c ordered stands tables in_session shows

  found : (a : Array) → Has m.progress.job.arrays a → array m.progress.job a.identity ≡ a
  found = found_array m.constants m.progress.job numbers row.rows ord.unchanging ord.tasks rows_are

  some_frames : (t : Task) (fs : List Frame) → fs ≢ [] → activations plan m.constants.number m.progress.job (slot_of plan m.constants.number t.number) (outer_spots plan m.constants.number m.progress.job t.critical t.parents) fs ≢ []
  some_frames t [] h e = h refl
  some_frames t (f ∷ below) h e = cc

  longer : (t : Task) (fs : List Frame) → length (activations plan m.constants.number m.progress.job (slot_of plan m.constants.number t.number) (outer_spots plan m.constants.number m.progress.job t.critical t.parents) fs) ≡ length fs
  longer t [] = refl
  longer t (f ∷ below) = ap suc (longer t below)

  pub stack_row : (t : Task) (r : TaskRow) → Has m.progress.job.tasks t → TaskShows plan m t r → stack_of_row k r ≡ stack_of_task plan m.constants.number m.progress.job (slot_of plan m.constants.number t.number) t
  stack_row t r there sh =
      let o = own t there in
      let top = top_is x cpu plan s m tasks jobs row c ordered stands tables in_session shows t r there sh in
      let stack = stack_of_task plan m.constants.number m.progress.job (slot_of plan m.constants.number t.number) t in
      let high = o.not_higher in
      let size = stands.holds.fits.sizes m in_session in
      let rz = stands.holds.memory.slots.regs.size in
      let many = many_words x cpu plan s m tasks jobs row c ordered stands tables in_session shows t.frames in
      let long = longer t t.frames in
      let read = stacks_read x cpu.core cpu.regs (machine_view plan s.jobs) stands.holds.memory (slot_of plan m.constants.number t.number)
      (slot_below x cpu plan s m tasks jobs row c ordered stands tables in_session shows t there) stack
      (stack_is x cpu plan s m tasks jobs row c ordered stands tables in_session shows t there) (some_frames t t.frames o.some)
      (callers plan m.constants.number m.progress.job (slot_of plan m.constants.number t.number) (outer_spots plan m.constants.number m.progress.job t.critical t.parents) (IsSegment m.constants) t.frames o.returns)
      cpu.regs.stack_size (omega (arith, high, size, rz, many, long)) in
      ap (λ a. stack_seen cpu.core cpu.regs.stack_size a (top_in k r).s) top.f_is
      ∙ ap (λ a. stack_seen cpu.core cpu.regs.stack_size (slot_base (machine_view plan s.jobs) (slot_of plan m.constants.number t.number) + mark_place stack) a) top.s_is ∙ read

  writes : (owner n : ℕ) (q : OwnsArray m.progress.job.arrays owner n) → 1 < owner → q.item.writable ≡ true
  writes owner n q high = grind (arith, all_in)

  arrays_is : (job_seen k row m.constants.number).arrays ≡ (job_placed row.rows numbers m.progress.job).arrays
  arrays_is =
      let F : ℕ → Array = λ n. array_named (name_among m.progress.job.tasks) (array_among m.progress.job.tasks) numbers (array m.progress.job n) in
      let dict = shows.dictionary in
      let segs = shows.segments in
      let rows = rows_shown cpu.core plan m.constants.number m.progress.job (array_homed cpu.regs tasks row) (name_among m.progress.job.tasks) (array_among m.progress.job.tasks) numbers arrays found (λ n. refl)
      (row.dictionary + 1 + row.segments) row.rows (name_low (IsSegment m.constants) m.constants m.progress.job ord.tasks 1 (omega arith))
      (λ i low high.
      let there = entry m.constants m.progress.job numbers row.rows ord.unchanging ord.tasks rows_are i low high in
      let q = entry_owned m.constants m.progress.job numbers row.rows ord.unchanging ord.tasks rows_are i there in
      let a = all_in ArrayInOrder m.progress.job.arrays q.item ord.tasks.arrays q.live in
      let home = stands.holds.fits.row_homes m in_session i low (omega (arith, high, rows_are)) in
      let name = subst (λ n. array_homed cpu.regs tasks row (plan.home m.constants.number n) ≡ array_among m.progress.job.tasks n) q.named (arrays q.item q.live) in
      (q, a.writes.1 q.owned, omega (arith, home, dict, segs), name ∙ entry_named m.constants m.progress.job numbers row.rows ord.unchanging ord.tasks rows_are i there)) in
      ap (λ (xs : List Array). flat_map (λ (r : TaskRow). arrays_of cpu.core r.number (array_homed cpu.regs tasks row) (stack_of_row k r)) (rows_of tasks m.constants.number) ++ xs) rows
      ∙ tasks_shown cpu.core plan m.constants.number m.progress.job (array_homed cpu.regs tasks row) (name_among m.progress.job.tasks) (array_among m.progress.job.tasks) numbers arrays found (λ n. refl)
      (λ (r : TaskRow). arrays_of cpu.core r.number (array_homed cpu.regs tasks row) (stack_of_row k r)) (rows_of tasks m.constants.number) m.progress.job.tasks (rows_down row.rows)
      (same_numbers plan s m tasks jobs c ordered.numbered in_session ord.tasks.numbers tables)
      (λ r t more hr ht e.
      let sh = shows_task plan s m tasks jobs c ordered.numbered in_session ord.tasks.numbers tables r t hr ht e in
      let o = own t ht in
      ap (λ n. arrays_of cpu.core n (array_homed cpu.regs tasks row) (stack_of_row k r) ++ map F more) e
      ∙ ap (λ (st : List Activation). arrays_of cpu.core t.number (array_homed cpu.regs tasks row) st ++ map F more) (stack_row t r ht sh)
      ∙ frames_shown cpu.core plan m.constants.number m.progress.job (array_homed cpu.regs tasks row) (name_among m.progress.job.tasks) (array_among m.progress.job.tasks) numbers arrays found (λ n. refl)
      (IsSegment m.constants) (slot_of plan m.constants.number t.number) t.number (outer_spots plan m.constants.number m.progress.job t.critical t.parents) (outer_of m.progress.job t) t.frames more
      writes (λ f h. above_base (IsSegment m.constants) m.constants m.progress.job t o f.identity (has_map (λ (g : Frame). g.identity) t.frames f h))
      (named_frames (IsSegment m.constants) m.constants m.progress.job t ord.tasks ht) o.frames)

  tasks_is : (job_seen k row m.constants.number).tasks ≡ (job_placed row.rows numbers m.progress.job).tasks
  tasks_is = paired (task_in k row m.constants.number) (task_by (name_among m.progress.job.tasks) (array_among m.progress.job.tasks)) (rows_of tasks m.constants.number) m.progress.job.tasks
      (same_numbers plan s m tasks jobs c ordered.numbered in_session ord.tasks.numbers tables)
      (λ r t hr ht e. task_is x cpu plan s m tasks jobs row c ordered stands tables in_session shows t r ht (shows_task plan s m tasks jobs c ordered.numbered in_session ord.tasks.numbers tables r t hr ht e))

  -- the job
  pub job_is : job_seen k row m.constants.number ≡ job_placed row.rows numbers m.progress.job
  job_is = grind (arith, arrays_is, tasks_is)
