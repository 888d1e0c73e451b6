-- A live task is read back from core and tables.
use Rattle.std.proofs.Common.{◌≡◌, ◌≢◌, ℕ, ◌+◌, ◌^◌, ◌<◌, ◌≤◌, ◌==◌, Bool, List, [], ◌∷◌, map, length, Some, None, refl, sym, ◌∙◌, ap, subst, arith, inl, inr, lt-ltb}
use Rattle.std.specs.Prelude.{if◌then◌else◌}
use Rattle.std.proofs.lemmas.Bool.{ne_eqb, eq-eqb}
use Rattle.b67_lemmas.specs.Lists.{Has}
use Rattle.b67_lemmas.proofs.Members.{all_in, has_map}
use Rattle.b67_model.specs.Keyed.{keyed}
use Rattle.b67_model.specs.Common.{Standing, Marked, Entered, Frame, Task, Job, SessionJob, Array, Session, Starts, IsSegment, ReturnsInOrder, StackInOrder, TaskInOrder, outer_of}
use Rattle.b67_stack.specs.declared.Cpu.{Cpu}
use Rattle.b67_stack.specs.Stacks.{StackPlace}
use Rattle.b67_stack.specs.Represents.{Storage}
use Rattle.b67_layout.specs.Common.{Placement, slot_of, spot_in, outer_spots, head, activations, stack_of_task, TablesShow, Differ, JobRow, JobCounts, RepresentsSession, JobInOrderButCounts}
use Rattle.b67_layout.specs.Rows as rows
use Rattle.b67_layout.proofs.Rows.{task_row}
use Rattle.std.proofs.lemmas.List.{length-reverse}
use Rattle.b67_layout.proofs.Sessions.{words_enough}
use Rattle.b67_layout_shown.specs.Places.{named, name_among, frame_by}
use Rattle.b67_layout_shown.specs.Shown.{frame_seen, number_by, number_seen, frames_of}
use Rattle.b67_layout_shown.specs.Laws.{HasCaller, HaveCallers}
use Rattle.b67_layout_shown.proofs.Frames.{frames_read}
use Rattle.b67_layout_shown.proofs.Names.{named_frames}
use Rattle.b67_layout_shown.proofs.Outer.{outer_read}

-- ---- tables

-- the row of a slot is found
pub row_in : (rs : List rows.TaskRow) (r : rows.TaskRow) → Differ (map (λ (q : rows.TaskRow). q.slot) rs) → Has rs r → keyed (λ (q : rows.TaskRow). q.slot) r.slot rs ≡ Some r
row_in [] r differ there = absurd there
row_in (q ∷ more) r differ (inl e) = subst (λ (p : rows.TaskRow). keyed (λ (q : rows.TaskRow). q.slot) p.slot (q ∷ more) ≡ Some p) e (rw (eq-eqb q.slot q.slot refl) refl)
row_in (q ∷ more) r differ (inr there) = rw (ne_eqb q.slot r.slot (λ e. differ.0 (subst (Has (map (λ (q : rows.TaskRow). q.slot) more)) (sym e) (has_map (λ (q : rows.TaskRow). q.slot) more r there)))) (row_in more r differ.1 there)

-- ---- callers

pub callers : (plan : Placement) (j : ℕ) (job : Job) (k : ℕ) (outer : ℕ → StackPlace) (P : Starts) (fs : List Frame) → StackInOrder P fs → HaveCallers (activations plan j job k outer fs)
callers plan j job k outer P [] o = tt
callers plan j job k outer P (f ∷ below) o = (by below f.standing o.0, callers plan j job k outer P below o.1) where
  some : (fs : List Frame) → fs ≢ [] → activations plan j job k outer fs ≢ []
  some [] h e = h refl
  some (g ∷ more) h e = cc

  by : (fs : List Frame) (s : Standing) → ReturnsInOrder P s fs → HasCaller (head (spot_in k outer fs) s) (activations plan j job k outer fs)
  by fs Marked o = tt
  by fs (Entered level environment None) o = tt
  by fs (Entered level environment (Some back)) o = some fs o.0

-- ---- a live task

module _ (x : Storage) (cpu : Cpu) (plan : Placement) (s : Session) (m : SessionJob) (t : Task) (rs : List rows.TaskRow) (js : List JobRow) (c : JobCounts) (array relabel : ℕ → ℕ)
    (ordered : JobInOrderButCounts (IsSegment m.constants) m.constants m.progress)
    (numbered : m.constants.number ≤ 8)
    (in_session : Has s.jobs m)
    (stands : RepresentsSession x cpu plan s)
    (tables : TablesShow plan s rs js c)
    (arrays : (a : Array) → Has m.progress.job.arrays a → array (plan.home m.constants.number a.identity) ≡ relabel a.identity) where
  j : ℕ
  j = m.constants.number

  slot_below : (u : Task) → Has m.progress.job.tasks u → slot_of plan m.constants.number u.number < 120
  slot_below u there =
      let r = task_row plan s.jobs m u stands.holds.fits.rows in_session there in
      let low = stands.holds.fits.rows.below r.row r.among in
      let few = stands.holds.fits.few in
      let e = r.slot in
      omega (arith, low, few, e)

  slot_shows : (u : Task) → Has m.progress.job.tasks u → (disp : ℕ) → frame_seen rs m.constants.number (record { stack = slot_of plan m.constants.number u.number; disp = disp }) ≡ named u.number disp
  slot_shows u there disp =
      let e = tables.each m u in_session there in
      let found = row_in rs e.0 tables.once e.1 in
      let is : number_seen rs (slot_of plan m.constants.number u.number) ≡ u.number = ap (λ k. number_seen rs k) (sym e.2.slot) ∙ ap number_by found ∙ e.2.number in
      ap (λ (b : Bool). if b then named (number_seen rs (slot_of plan m.constants.number u.number)) disp else (if slot_of plan m.constants.number u.number == 127 + m.constants.number then 1 else 0)) (lt-ltb (slot_of plan m.constants.number u.number) 120 (slot_below u there))
      ∙ ap (λ n. named n disp) is

  dictionary_read : frame_seen rs m.constants.number (record { stack = 127 + m.constants.number; disp = 0 }) ≡ 1
  dictionary_read = grind arith

  mcp_read : frame_seen rs m.constants.number (record { stack = 136; disp = 0 }) ≡ 0
  mcp_read = ap (λ (b : Bool). if b then 1 else 0) (ne_eqb 136 (127 + m.constants.number) (λ e. omega (arith, e, numbered)))

  pub few_segments : length m.constants.segments < 2 ^ 13
  few_segments = grind (arith, words_enough, length-reverse)

  pub task_read : Has m.progress.job.tasks t → frames_of t.number (frame_seen rs m.constants.number) array (stack_of_task plan m.constants.number m.progress.job (slot_of plan m.constants.number t.number) t) ≡ map (frame_by (name_among m.progress.job.tasks) relabel) t.frames
  task_read there =
      let own = all_in (TaskInOrder (IsSegment m.constants) m.constants m.progress.job) m.progress.job.tasks t ordered.tasks.tasks there in
      let low = slot_below t there in
      let high = own.not_higher in
      let size = ordered.unchanging.stack_high in
      frames_read plan m.constants.number m.constants m.progress.job (slot_of plan m.constants.number t.number) t.number (outer_spots plan m.constants.number m.progress.job t.critical t.parents) (outer_of m.progress.job t)
      (frame_seen rs m.constants.number) array (name_among m.progress.job.tasks) relabel few_segments arrays (omega (arith, low)) m.constants.stack_size (omega (arith, size)) (λ disp under. slot_shows t there disp)
      (outer_read plan m.constants.number m.constants m.progress.job (frame_seen rs m.constants.number) array relabel few_segments arrays numbered ordered.tasks size slot_below dictionary_read mcp_read (λ u h disp under. slot_shows u h disp) t.parents t own.birth)
      t.frames own.frames (named_frames (IsSegment m.constants) m.constants m.progress.job t ordered.tasks there) high
