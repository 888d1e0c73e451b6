-- The frames of a live task are read back.
use Rattle.std.proofs.Common.{◌≡◌, ◌≢◌, ℕ, suc, ◌+◌, ◌*◌, ◌<◌, ◌≤◌, List, [], ◌∷◌, map, reverse, length, refl, sym, ◌∙◌, ap, subst, arith, inl, inr}
use Rattle.std.specs.Prelude.{Bool, eqb, if◌then◌else◌}
use Rattle.std.proofs.lemmas.List.{length-reverse}
use Rattle.std.proofs.lemmas.Bool.{eq-eqb}
use Rattle.b67_lemmas.specs.Lists.{Has}
use Rattle.b67_lemmas.proofs.Members.{all_in, keyed_falls, has_reverse, total_has}
use Rattle.b67_model.specs.Common.{Word, Original, Frame, Task, SessionJob, Array, Session, IsSegment, TaskInOrder, NumberedFrom, is_original_of, originals_of}
use Rattle.b67_stack.specs.declared.Cpu.{Cpu}
use Rattle.b67_stack.specs.Common.{Fits, LieDownward, mark_place, stack_words, words, stack_of, Storage}
use Rattle.b67_layout.specs.Common.{Placement, slot_of, outer_spots, activations, stack_of_task, machine_view, slot_at, TaskRow, JobRow, JobCounts, JobShows, TablesShow, JobInOrderButCounts, IsInOrderButCounts, RepresentsSession}
use Rattle.b67_law.proofs.Numbered.{keyed_member}
use Rattle.b67_layout.proofs.Common.{task_row, stack_in_slot, original_of, entry_number}
use Rattle.b67_layout_shown.specs.Reading.{stack_seen}
use Rattle.b67_layout_shown.specs.Places.{name_among, array_among, frame_by}
use Rattle.b67_layout_shown.specs.Shown.{number_by, number_seen, frame_seen, array_homed, frames_of}
use Rattle.b67_layout_shown.proofs.Stacks.{stacks_read}
use Rattle.b67_layout_shown.proofs.Tasks.{row_in, callers, task_read}
use Rattle.b67_layout_shown.proofs.Arrays.{under_there, tasks_home, at_slot, at_dictionary, among_none, dictionary_under}

numbered_below : (n : ℕ) (ms : List SessionJob) (m : SessionJob) → NumberedFrom n ms → Has ms m → m.constants.number < n + length ms
numbered_below n [] m o h = absurd h
numbered_below n (y ∷ more) m o (inl e) = subst (λ (z : SessionJob). z.constants.number < n + length (y ∷ more)) e (omega (arith, o.0))
numbered_below n (y ∷ more) m o (inr h) = let low = numbered_below (n + 1) more m o.1 h in omega (arith, low)

module _ (x : Storage) (cpu : Cpu) (plan : Placement) (s : Session) (m : SessionJob) (tasks : List TaskRow) (jobs : List JobRow) (row : JobRow) (c : JobCounts)
    (ordered : IsInOrderButCounts s) (stands : RepresentsSession x cpu plan s) (tables : TablesShow plan s tasks jobs c) (in_session : Has s.jobs m) (shows : JobShows plan m row) where
  pub order : JobInOrderButCounts (IsSegment m.constants) m.constants m.progress
  order = all_in (λ (y : SessionJob). JobInOrderButCounts (IsSegment y.constants) y.constants y.progress) s.jobs m ordered.jobs in_session

  pub small_number : m.constants.number ≤ 8
  small_number = let few = ordered.few in let low = numbered_below 1 s.jobs m ordered.numbered in_session in omega (arith, few, low)

  -- the stack of a live task on its slot
  pub stack_is : (u : Task) → Has m.progress.job.tasks u → let k = slot_of plan m.constants.number u.number in stack_of (slot_at plan s.jobs k) ≡ stack_of_task plan m.constants.number m.progress.job k u
  stack_is u there = stack_in_slot plan s.jobs m u stands.holds.fits.rows in_session there (keyed_member 1 s.jobs m ordered.numbered in_session)
      (keyed_falls (λ (v : Task). v.number) m.progress.job.next_task m.progress.job.tasks u order.tasks.numbers there)

  pub slot_below : (u : Task) → Has m.progress.job.tasks u → slot_of plan m.constants.number u.number < plan.peak
  slot_below u there = let r = task_row plan s.jobs m u stands.holds.fits.rows in_session there in let low = stands.holds.fits.rows.below r.row r.among in let e = r.slot in omega (arith, low, e)

  pub lies : (u : Task) → Has m.progress.job.tasks u → let k = slot_of plan m.constants.number u.number in
      LieDownward (Fits x.held) cpu.core (suc (plan.stacks + k * plan.size)) (words k (stack_of_task plan m.constants.number m.progress.job k u))
  lies u there = grind (arith, stack_is, slot_below)

  pub slot_shows : (u : Task) → Has m.progress.job.tasks u → number_seen tasks (slot_of plan m.constants.number u.number) ≡ u.number
  slot_shows u there =
      let e = tables.each m u in_session there in
      ap (λ k. number_seen tasks k) (sym e.2.slot) ∙ ap number_by (row_in tasks e.0 tables.once e.1) ∙ e.2.number

  pub arrays_read : (a : Array) → Has m.progress.job.arrays a → array_homed cpu.regs tasks row (plan.home m.constants.number a.identity) ≡ array_among m.progress.job.tasks a.identity
  arrays_read a there = elim (original_of m.constants m.progress.job order.tasks a there) [
    | inl d ↦
        let e = entry_number 1 m.constants.segments (reverse m.constants.dictionary.cells) a.identity order.unchanging.dictionary (has_reverse m.constants.dictionary.cells (Original a.identity) d) in
        let n : length (reverse m.constants.dictionary.cells) ≡ length m.constants.dictionary.cells = length-reverse m.constants.dictionary.cells in
        let is = stands.holds.fits.row_homes m in_session a.identity e.0 (omega (arith, e.1, n)) in
        let up = dictionary_under plan 160 s.jobs m stands.holds.fits.dictionaries in_session in
        let dict = shows.dictionary in
        let segs = shows.segments in
        let at = stands.holds.memory.slots.regs.stacks in
        let one = all_in (λ (b : Array). originals_of b.identity m.constants m.progress.job ≡ 1) m.progress.job.arrays a order.tasks.once there in
        let self : ◌≡◌ {A = ℕ} (if eqb a.identity a.identity then 1 else 0) 1 = ap (λ (b : Bool). if b then 1 else 0) (eq-eqb a.identity a.identity refl) in
        let here = total_has (λ (w : Word). if is_original_of a.identity w then 1 else 0) m.constants.dictionary.cells (Original a.identity) d in
        at_dictionary cpu.regs tasks row (plan.home m.constants.number a.identity) a.identity (omega (arith, is, dict, segs)) (omega (arith, is, e.1, n, up, at))
        ∙ sym (among_none m.progress.job.tasks a.identity (omega (arith, one, here, self)))
    | inr q ↦
        let u = under_there cpu.core x.held plan m.constants.number m.progress.job a.identity q.task.number q.task.frames q.frame q.among q.word in
        let h = tasks_home cpu.core x.held plan m.constants.number m.progress.job a.identity m.progress.job.tasks lies q.task q.live u.0 u.1 in
        let own = all_in (TaskInOrder (IsSegment m.constants) m.constants m.progress.job) m.progress.job.tasks h.task order.tasks.tasks h.live in
        let high = own.not_higher in
        let size = stands.holds.fits.sizes m in_session in
        let low = h.below in
        let rs = stands.holds.memory.slots.regs.stacks in
        let rz = stands.holds.memory.slots.regs.size in
        let place : plan.home m.constants.number a.identity ≡ cpu.regs.stacks + slot_of plan m.constants.number h.task.number * cpu.regs.stack_size + h.disp =
        h.at ∙ ap (λ n. n + slot_of plan m.constants.number h.task.number * plan.size + h.disp) (sym rs) ∙ ap (λ n. cpu.regs.stacks + slot_of plan m.constants.number h.task.number * n + h.disp) (sym rz) in
        at_slot cpu.regs tasks row (plan.home m.constants.number a.identity) (slot_of plan m.constants.number h.task.number) h.disp h.task.number place (omega (arith, low, high, size, rz)) (slot_shows h.task h.live)
        ∙ sym h.name
  ]

  pub frames_are : (t : Task) → Has m.progress.job.tasks t → (n : ℕ) → length t.frames ≤ n →
      let stack = stack_of_task plan m.constants.number m.progress.job (slot_of plan m.constants.number t.number) t in
      let base = cpu.regs.stacks + slot_of plan m.constants.number t.number * cpu.regs.stack_size in
      frames_of t.number (frame_seen tasks m.constants.number) (array_homed cpu.regs tasks row) (stack_seen cpu.core n (base + mark_place stack) (base + stack_words stack))
      ≡ map (frame_by (name_among m.progress.job.tasks) (array_among m.progress.job.tasks)) t.frames
  frames_are t there n many =
      let k = slot_of plan m.constants.number t.number in
      let stack = stack_of_task plan m.constants.number m.progress.job k t in
      let own = all_in (TaskInOrder (IsSegment m.constants) m.constants m.progress.job) m.progress.job.tasks t order.tasks.tasks there in
      let rs = stands.holds.memory.slots.regs.stacks in
      let rz = stands.holds.memory.slots.regs.size in
      let base : cpu.regs.stacks + k * cpu.regs.stack_size ≡ plan.stacks + k * plan.size = ap (λ n. n + k * cpu.regs.stack_size) rs ∙ ap (λ n. plan.stacks + k * n) rz in
      let some : stack ≢ [] = some_frames t.frames own.some in
      let long = longer t.frames in
      let read = stacks_read x cpu.core cpu.regs (machine_view plan s.jobs) stands.holds.memory k (slot_below t there) stack (stack_is t there) some
      (callers plan m.constants.number m.progress.job k (outer_spots plan m.constants.number m.progress.job t.critical t.parents) (IsSegment m.constants) t.frames own.returns) n (omega (arith, many, long)) in
      ap (λ b. frames_of t.number (frame_seen tasks m.constants.number) (array_homed cpu.regs tasks row) (stack_seen cpu.core n (b + mark_place stack) (b + stack_words stack))) base
      ∙ ap (frames_of t.number (frame_seen tasks m.constants.number) (array_homed cpu.regs tasks row)) read
      ∙ task_read x cpu plan s m t tasks jobs c (array_homed cpu.regs tasks row) (array_among m.progress.job.tasks) order small_number in_session stands tables arrays_read there where
        some_frames : (fs : List Frame) → fs ≢ [] → activations plan m.constants.number m.progress.job (slot_of plan m.constants.number t.number) (outer_spots plan m.constants.number m.progress.job t.critical t.parents) fs ≢ []
        some_frames [] h e = h refl
        some_frames (f ∷ below) h e = cc

        longer : (fs : List Frame) → length (activations plan m.constants.number m.progress.job (slot_of plan m.constants.number t.number) (outer_spots plan m.constants.number m.progress.job t.critical t.parents) fs) ≡ length fs
        longer [] = refl
        longer (f ∷ below) = ap suc (longer below)
