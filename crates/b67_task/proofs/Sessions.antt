-- What dictionaries and stacks keep is the sector sum of the session.
use Rattle.std.proofs.Common.{◌≡◌, ◌≢◌, ℕ, zero, suc, ◌+◌, ◌-◌, ◌^◌, ◌<◌, ◌≤◌, ◌==◌, Bool, true, false, List, [], ◌∷◌, ◌++◌, map, flat_map, length, reverse, Option, Some, None, refl, sym, ◌∙◌, ap, arith, inl, inr, subst}
use Rattle.std.specs.Prelude.{if◌then◌else◌}
use Rattle.std.specs.List.{slice_get}
use Rattle.std.proofs.lemmas.Bool.{eqb-true}
use Rattle.std.proofs.lemmas.List.{length-reverse}
use Rattle.b67_word.specs.Tagged.{Tagged}
use Rattle.b67_area.specs.declared.Kind.TheVariants as kind
use Rattle.b67_area.proofs.Laws.{area_inside}
use Rattle.b67_lemmas.specs.Lists.{Has, total, how_many}
use Rattle.b67_lemmas.proofs.Members.{all_in, has_flat, has_flat_back, has_map, has_map_back, has_reverse_back, keyed_falls, total_append, total_flat, total_map, total_reverse, total_same, total_zero, found-has}
use Rattle.b67_lemmas.proofs.Sums.{sum_total, total_plus}
use Rattle.b67_model.specs.Words as Words
use Rattle.b67_model.specs.Common.{Word, Operand, Name, Ref, Row, Element, Original, Proc, Intrinsic, Frame, Array, Segment, JobConstants, Task, Job, SessionJob, sectors_for, sectors_of, sectors, Session, Starts, IsSegment, Known, OwnsArray, FramesInOrder, EntryInOrder, is_original_of, originals_of, outer_of, rows_after, DictionaryWords, TaskInOrder, TasksInOrder}
use Rattle.b67_model.specs.Keyed.{keyed}
use Rattle.b67_layout.specs.Common.{IsInOrderButCounts, Slotted, Placement, slot_of, spot_in, outer_spots, shape, head, activations, stack_of_task, slot_by, slot_at, array_object, code_objects, objects_of, machine_view, DictionariesFollow, RepresentsSession}
use Rattle.b67_stack.specs.declared.Cpu.{Cpu}
use Rattle.b67_stack.specs.Shapes as Shapes
use Rattle.b67_stack.specs.Common.{StackPlace, Activation, Head, headed, stack_words, words, PagedObject, stack_of, slot_base, address_or, Storage, info_of}
use Rattle.b67_stack.proofs.Heights.{words-length}
use Rattle.b67_stack.proofs.Homes.{chain_small}
use Rattle.b67_layout.proofs.Common.{task_row, slot_below, job_in_order, follow-up, stack_in_slot, entry_number, slots_of, jobs_differ}
use Rattle.b67_exec_cells.proofs.Replaced.{array_object-has, member_objects, before}
use Rattle.b67_exec_cells.proofs.Codes.{code_object}
use Rattle.b67_task.specs.Sums.{sectors_at, core_sectors_from, sectors_of_slot, sectors_of_slots}
use Rattle.b67_task.proofs.Totals.{upto, slots_total, range_split, range_first, kept, kept_once, kept_original}
use Rattle.b67_task.proofs.StackWords.{home_array, home_code, of_shape, lies_total, headed_total}
use Rattle.b67_law.proofs.Numbered.{keyed_member}

-- the sectors of segments, and of arrays
abbrev of_segments : List Segment → ℕ
of_segments segments = total (λ (g : Segment). sectors_for (length g.code)) segments

abbrev of_arrays : List Array → ℕ
of_arrays arrays = total (λ (a : Array). sectors_for (length a.numbers)) arrays

-- all cells of a job
abbrev cells_of_task : Task → List Word
cells_of_task t = flat_map (λ (f : Frame). f.cells) t.frames

abbrev cells_of : JobConstants → Job → List Word
cells_of constants job = constants.dictionary.cells ++ flat_map cells_of_task job.tasks

count_cells : (test : Word → Bool) (constants : JobConstants) (job : Job) → how_many test (cells_of constants job) ≡ how_many test constants.dictionary.cells + total (λ (t : Task). total (λ (f : Frame). how_many test f.cells) t.frames) job.tasks
count_cells test constants job = grind (arith, total_append, total_flat)

-- a job's cells keep what its arrays do
job_kept : (constants : JobConstants) (job : Job) → TasksInOrder (IsSegment constants) constants job
    → total (kept job.arrays) constants.dictionary.cells + total (λ (t : Task). total (kept job.arrays) (cells_of_task t)) job.tasks ≡ of_arrays job.arrays
job_kept constants job o =
    let once = kept_once job.arrays (cells_of constants job) (λ a there. count_cells (is_original_of a.identity) constants job ∙ all_in (λ (b : Array). originals_of b.identity constants job ≡ 1) job.arrays a o.once there) in
    omega (arith, once, total_append (kept job.arrays) constants.dictionary.cells (flat_map cells_of_task job.tasks), total_flat cells_of_task (kept job.arrays) job.tasks)

-- the original in a frame is that of a live array
frame_owns : (P : Starts) (arrays : List Array) (outer : List Known) (fs : List Frame) (g : Frame) (w : Word) → FramesInOrder P arrays outer fs → Has fs g → Has g.cells w → (a : ℕ) → w ≡ Original a → OwnsArray arrays g.identity a
frame_owns P arrays outer [] g w o h i a e = absurd h
frame_owns P arrays outer (f ∷ below) g w o (inl z) i a e = grind (arith, all_in)
frame_owns P arrays outer (f ∷ below) g w o (inr h) i a e = frame_owns P arrays outer below g w o.2 h i a e

-- words that begin with those of segments
segments_kept : (core : List Tagged) (from : ℕ) (ss : List Segment) → ((i : ℕ) (g : Segment) → slice_get ss i ≡ Some g → sectors_at true (slice_get core (from + i)) ≡ sectors_for (length g.code)) → core_sectors_from true core from (length ss) ≡ of_segments ss
segments_kept core from [] f = refl
segments_kept core from (g ∷ more) f =
    let first : from + 0 ≡ from = omega arith in
    omega (
      arith,
      range_first true core from (length (g ∷ more)) (length more) (omega arith),
      ap (λ (i : ℕ). sectors_at true (slice_get core i)) first,
      f 0 g refl,
      segments_kept core (from + 1) more (λ i y e. ap (λ (k : ℕ). sectors_at true (slice_get core k)) (let z : from + 1 + i ≡ from + suc i = omega arith in z) ∙ f (suc i) y e),
    )

rows_kept : (core : List Tagged) (arrays : List Array) (from n : ℕ) (ws : List Word) → rows_after n ws → ((a at : ℕ) → Has ws (Original a) → n ≤ a → at + n ≡ from + a → sectors_at true (slice_get core at) ≡ kept arrays (Original a))
    → core_sectors_from true core from (length ws) ≡ total (kept arrays) ws
rows_kept core arrays from n [] r f = refl
rows_kept core arrays from n (w ∷ more) r f = omega (
  arith,
  range_first true core from (length (w ∷ more)) (length more) (omega arith),
  f n from (inl r.0) (omega arith) refl,
  ap (kept arrays) r.0,
  rows_kept core arrays (from + 1) (n + 1) more r.1 (λ a at there low e. f a at (inr there) (omega arith) (omega (arith, e))),
)

-- the data rows among a dictionary's words
record Rows (arrays : List Array) (segments : List Segment) (ws : List Word) : Type 0 where
  pub rows : List Word
  pub after : rows_after 1 rows
  pub count : length ws ≡ length segments + length rows
  pub same : total (kept arrays) ws ≡ total (kept arrays) rows
  pub inside : (w : Word) → Has rows w → Has ws w

dict_rows : (arrays : List Array) (n : ℕ) (segments : List Segment) (ws : List Word) → DictionaryWords n segments ws → Rows arrays segments ws
dict_rows arrays n [] ws d = record { rows = ws; after = d; count = omega arith; same = refl; inside = λ w there. there }
dict_rows arrays n (g ∷ more) [] d = absurd d
dict_rows arrays n (g ∷ more) (w ∷ ws) d =
    let r = dict_rows arrays (n + 1) more ws d.1 in
    let none : kept arrays w ≡ 0 = ap (kept arrays) d.0 ∙ total_zero (λ (a : Array). if is_original_of a.identity (Words.Segment n) then sectors_for (length a.numbers) else 0) arrays (λ a there. refl) in
    record { rows = r.rows; after = r.after; count = omega (arith, r.count); same = omega (arith, none, r.same); inside = λ v there. inr (r.inside v there) }

module _ (x : Storage) (cpu : Cpu) (plan : Placement) (s : Session) (o : IsInOrderButCounts s) (h : RepresentsSession x cpu plan s) where
  abbrev core : List Tagged
  core = cpu.core

  address_small : (t : PagedObject) → Has (flat_map (objects_of plan) s.jobs) t → address_or (x.held t.home).area (x.held t.home).chain < 2 ^ 20
  address_small t there = by_area (x.held t.home).area refl where
    by_area : (a : Option ℕ) → (x.held t.home).area ≡ a → address_or a (x.held t.home).chain < 2 ^ 20
    by_area None e = chain_small x cpu.core t (x.held t.home).area (x.held t.home).chain (h.holds.memory.objects t there).content
    by_area (Some at) e =
        let w = h.holds.memory.owned.of_held t.home at e in
        let i = (area_inside cpu.core x.low x.spans at (info_of x w.0) h.holds.memory.directory w.3).1 in
        omega (arith, i, h.holds.memory.directory.small)

  no_code : (w : Bool) → (if w then kind.Array else kind.Row) ≢ kind.Code
  no_code w = grind arith

  -- the word at an array's home
  array_at : (m : SessionJob) (a : Array) → Has s.jobs m → Has m.progress.job.arrays a → (code : Bool) → sectors_at code (slice_get cpu.core (plan.home m.constants.number a.identity)) ≡ sectors_for (length a.numbers)
  array_at m a inm ina code =
      let t = array_object plan m.constants.number a in
      let there = array_object-has plan s.jobs m a inm ina in
      let short = (h.holds.memory.slots.laid.lengths t there).1 in
      ap (sectors_at code) (h.holds.memory.objects t there).home ∙ home_array (length a.numbers) (x.held t.home) short (address_small t there) code t.kind (no_code a.writable)

  original_at : (m : SessionJob) → Has s.jobs m → (owner n : ℕ) → OwnsArray m.progress.job.arrays owner n → (code : Bool) → sectors_at code (slice_get cpu.core (plan.home m.constants.number n)) ≡ kept m.progress.job.arrays (Original n)
  original_at m inm owner n own code = grind (arith, array_at, kept_original, job_in_order)

  nothing : (m : SessionJob) (w : Word) → ((a : Array) → is_original_of a.identity w ≡ false) → 0 ≡ kept m.progress.job.arrays w
  nothing m w misses = sym (total_zero (λ (a : Array). if is_original_of a.identity w then sectors_for (length a.numbers) else 0) m.progress.job.arrays (λ a there. rw (misses a) refl))

  cell_kept : (m : SessionJob) → Has s.jobs m → (owner : ℕ) (spot : ℕ → StackPlace) (w : Word) → ((a : ℕ) → w ≡ Original a → OwnsArray m.progress.job.arrays owner a)
      → of_shape cpu.core (shape plan m.constants.number m.progress.job spot w) ≡ kept m.progress.job.arrays w
  cell_kept m inm owner spot (Operand bits) own = nothing m (Operand bits) (λ a. refl)
  cell_kept m inm owner spot (Name couple) own = nothing m (Name couple) (λ a. refl)
  cell_kept m inm owner spot (Ref frame offset) own = nothing m (Ref frame offset) (λ a. refl)
  cell_kept m inm owner spot (Row n) own = nothing m (Row n) (λ a. refl)
  cell_kept m inm owner spot (Element n index) own = nothing m (Element n index) (λ a. refl)
  cell_kept m inm owner spot (Original n) own = original_at m inm owner n (own n refl) false
  cell_kept m inm owner spot (Proc segment level place) own = nothing m (Proc segment level place) (λ a. refl)
  cell_kept m inm owner spot (Intrinsic n) own = nothing m (Intrinsic n) (λ a. refl)
  cell_kept m inm owner spot (Words.Segment n) own = nothing m (Words.Segment n) (λ a. refl)

  -- the words of frames keep what their cells do
  frames_kept : (m : SessionJob) → Has s.jobs m → (k : ℕ) (outer : ℕ → StackPlace) (fs : List Frame) → ((f : Frame) (w : Word) → Has fs f → Has f.cells w → (a : ℕ) → w ≡ Original a → OwnsArray m.progress.job.arrays f.identity a)
      → total (of_shape cpu.core) (words k (activations plan m.constants.number m.progress.job k outer fs)) ≡ total (λ (f : Frame). total (kept m.progress.job.arrays) f.cells) fs
  frames_kept m inm k outer [] own = refl
  frames_kept m inm k outer (f ∷ below) own =
      let j = m.constants.number in
      let job = m.progress.job in
      let bs : List Activation = activations plan j job k outer below in
      let hd : Head = head (spot_in k outer below) f.standing in
      let sh : Word → Shapes.Shape = shape plan j job (spot_in k outer (f ∷ below)) in
      omega (
        arith,
        total_append (of_shape cpu.core) (map sh f.cells) (headed k hd bs (words k bs)),
        total_map sh (of_shape cpu.core) f.cells,
        total_same (λ (w : Word). of_shape cpu.core (sh w)) (kept job.arrays) f.cells (λ w there. cell_kept m inm f.identity (spot_in k outer (f ∷ below)) w (own f w (inl refl) there)),
        headed_total cpu.core k hd bs (words k bs),
        frames_kept m inm k outer below (λ g w there. own g w (inr there)),
      )

  abbrev slot_words : ℕ → ℕ
  slot_words k = sectors_of_slot cpu.core (machine_view plan s.jobs) k

  -- the words of a live task's slot
  task_kept : (m : SessionJob) (t : Task) → Has s.jobs m → Has m.progress.job.tasks t → slot_words (slot_of plan m.constants.number t.number) ≡ total (kept m.progress.job.arrays) (cells_of_task t)
  task_kept m t inm int =
      let j = m.constants.number in
      let job = m.progress.job in
      let k = slot_of plan j t.number in
      let p = machine_view plan s.jobs in
      let fit = h.holds.fits.rows in
      let w = job_in_order s m o inm in
      let order = all_in (TaskInOrder (IsSegment m.constants) m.constants job) job.tasks t w.tasks.tasks int in
      let is : stack_of (slot_at plan s.jobs k) ≡ stack_of_task plan j job k t = stack_in_slot plan s.jobs m t fit inm int (keyed_member 1 s.jobs m o.numbered inm) (keyed_falls (λ (u : Task). u.number) job.next_task job.tasks t w.tasks.numbers int) in
      let one : slot_base p k + 1 ≡ suc (slot_base p k) = omega arith in
      let lies = h.holds.memory.stacks k (slot_below plan s.jobs m t fit inm int) in
      ap (λ (at : ℕ). core_sectors_from false cpu.core at (stack_words (stack_of (p.slots k)))) one
      ∙ ap (core_sectors_from false cpu.core (suc (slot_base p k))) (sym (words-length k (stack_of (p.slots k))))
      ∙ lies_total x.held cpu.core (suc (slot_base p k)) (words k (stack_of (p.slots k))) lies
      ∙ ap (λ (st : List Activation). total (of_shape cpu.core) (words k st)) is
      ∙ frames_kept m inm k (outer_spots plan j job t.critical t.parents) t.frames (λ f v there iv a e. frame_owns (IsSegment m.constants) job.arrays (outer_of job t) t.frames f v order.frames there iv a e)
      ∙ sym (total_flat (λ (f : Frame). f.cells) (kept job.arrays) t.frames)

  -- a slot that keeps something is a live task's
  taken : (k : ℕ) (r : Slotted) → keyed (λ (q : Slotted). q.slot) k plan.rows ≡ Some r → Has (flat_map (slots_of plan) s.jobs) k
  taken k r e =
      let fit = h.holds.fits.rows in
      let f = found-has (λ (q : Slotted). q.slot == k) plan.rows r e in
      let (m, t, inm, en, int, et) = fit.live r f.0 in
      let a = task_row plan s.jobs m t fit inm int in
      let same : a.row ≡ r = fit.tasks_differ a.row r a.among f.0 (a.job ∙ en) (a.number ∙ et) in
      let is : slot_of plan m.constants.number t.number ≡ k = a.slot ∙ ap (λ (q : Slotted). q.slot) same ∙ eqb-true r.slot k f.1 in
      subst (Has (flat_map (slots_of plan) s.jobs)) is (has_flat (slots_of plan) s.jobs m (slot_of plan m.constants.number t.number) inm (has_map (λ (v : Task). slot_of plan m.constants.number v.number) m.progress.job.tasks t int))

  some_slot : (k : ℕ) → slot_words k ≢ 0 → Has (flat_map (slots_of plan) s.jobs) k
  some_slot k some = by_row (keyed (λ (r : Slotted). r.slot) k plan.rows) refl where
    by_row : (row : Option Slotted) → keyed (λ (r : Slotted). r.slot) k plan.rows ≡ row → Has (flat_map (slots_of plan) s.jobs) k
    by_row None e = absurd (some (ap (λ (row : Option Slotted). core_sectors_from false cpu.core (slot_base (machine_view plan s.jobs) k + 1) (stack_words (stack_of (slot_by plan s.jobs k row)))) e))
    by_row (Some r) e = taken k r e

  slots_upto : (n : ℕ) → sectors_of_slots cpu.core (machine_view plan s.jobs) n ≡ upto slot_words n
  slots_upto zero = refl
  slots_upto (suc n) = omega (arith, slots_upto n)

  abbrev of_tasks : SessionJob → ℕ
  of_tasks m = total (λ (t : Task). total (kept m.progress.job.arrays) (cells_of_task t)) m.progress.job.tasks

  -- all stacks
  stacks_kept : sectors_of_slots cpu.core (machine_view plan s.jobs) plan.peak ≡ total of_tasks s.jobs
  stacks_kept =
      let fit = h.holds.fits.rows in
      slots_upto plan.peak
      ∙ slots_total slot_words plan.peak (flat_map (slots_of plan) s.jobs) (jobs_differ plan s o fit 1 s.jobs o.numbered (λ m there. there))
      (λ k there.
      let y = has_flat_back (slots_of plan) s.jobs k there in
      let u = has_map_back (λ (v : Task). slot_of plan y.item.constants.number v.number) y.item.progress.job.tasks k y.inside in
      subst (λ (i : ℕ). i < plan.peak) u.is (slot_below plan s.jobs y.item u.item fit y.among u.among))
      (λ k less some. some_slot k some)
      ∙ total_flat (slots_of plan) slot_words s.jobs
      ∙ total_same (λ (m : SessionJob). total slot_words (slots_of plan m)) of_tasks s.jobs
      (λ m inm.
      total_map (λ (t : Task). slot_of plan m.constants.number t.number) slot_words m.progress.job.tasks
      ∙ total_same (λ (t : Task). slot_words (slot_of plan m.constants.number t.number)) (λ (t : Task). total (kept m.progress.job.arrays) (cells_of_task t)) m.progress.job.tasks (λ t int. task_kept m t inm int))

  -- the word of a segment's descriptor
  code_at : (m : SessionJob) → Has s.jobs m → (i : ℕ) (g : Segment) → slice_get m.constants.segments i ≡ Some g → sectors_at true (slice_get cpu.core (plan.dictionary m.constants.number + 2 + i)) ≡ sectors_for (length g.code)
  code_at m inm i g e =
      let at = plan.dictionary m.constants.number + 2 + i in
      let t : PagedObject = record { home = at; kind = kind.Code; numbers = g.code } in
      let there : Has (flat_map (objects_of plan) s.jobs) t =
      member_objects plan s.jobs m t inm
      (before (code_objects plan m.constants.number 1 m.constants.segments) (map (array_object plan m.constants.number) m.progress.job.arrays) t (code_object plan m.constants.number 1 m.constants.segments i at g e (omega arith))) in
      ap (sectors_at true) (h.holds.memory.objects t there).home ∙ home_code (length g.code) (x.held at) (h.holds.memory.slots.laid.lengths t there).1 (address_small t there)

  abbrev of_dictionary : SessionJob → ℕ
  of_dictionary m = of_segments m.constants.segments + total (kept m.progress.job.arrays) m.constants.dictionary.cells

  entries_kept : (m : SessionJob) → Has s.jobs m → core_sectors_from true cpu.core (plan.dictionary m.constants.number + 2) (length m.constants.dictionary.cells) ≡ of_dictionary m
  entries_kept m inm =
      let w = job_in_order s m o inm in
      let arrays = m.progress.job.arrays in
      let segments = m.constants.segments in
      let cells = m.constants.dictionary.cells in
      let from = plan.dictionary m.constants.number + 2 in
      let d = dict_rows arrays 1 segments (reverse cells) w.unchanging.dictionary in
      let count : length cells ≡ length segments + length d.rows = sym (length-reverse cells) ∙ d.count in
      let rows = rows_kept cpu.core arrays (from + length segments) 1 d.rows d.after
      (λ a at there low e.
      let back : Has (reverse cells) (Original a) = d.inside (Original a) there in
      let own : OwnsArray arrays 1 a = all_in (EntryInOrder arrays) cells (Original a) w.tasks.entries (has_reverse_back cells (Original a) back) in
      let bound = (entry_number 1 segments (reverse cells) a w.unchanging.dictionary back).1 in
      let home = h.holds.fits.row_homes m inm a low (omega (arith, bound, length-reverse cells)) in
      let is : at ≡ plan.home m.constants.number a = omega (arith, home, e) in
      ap (λ (i : ℕ). sectors_at true (slice_get cpu.core i)) is ∙ original_at m inm 1 a own true) in
      omega (arith, range_split true cpu.core from (length segments) (length cells) (length d.rows) count, segments_kept cpu.core from segments (code_at m inm), rows, d.same, total_reverse (kept arrays) cells)

  -- a dictionary with the two words before its entries
  dictionary_kept : (m : SessionJob) → Has s.jobs m → core_sectors_from true cpu.core (plan.dictionary m.constants.number) (2 + length m.constants.dictionary.cells) ≡ of_dictionary m
  dictionary_kept m inm =
      let at = plan.dictionary m.constants.number in
      let n = length m.constants.dictionary.cells in
      let d = h.holds.dictionaries m inm in
      let one = range_first true cpu.core at (2 + n) (1 + n) (omega arith) in
      let two = range_first true cpu.core (at + 1) (1 + n) n (omega arith) in
      grind (arith, entries_kept)

  dictionaries_kept : (at n : ℕ) (ms : List SessionJob) → DictionariesFollow plan at ms → at + n ≡ plan.stacks → ((m : SessionJob) → Has ms m → Has s.jobs m) → core_sectors_from true cpu.core at n ≡ total of_dictionary ms
  dictionaries_kept at n [] d e inside = ap (core_sectors_from true cpu.core at) (let z : n ≡ 0 = omega (arith, d, e) in z)
  dictionaries_kept at n (m ∷ more) d e inside =
      let size = 2 + length m.constants.dictionary.cells in
      let up = follow-up plan (at + size) more d.1 in
      let rest = n - size in
      let cut : n ≡ size + rest = omega (arith, e, up) in
      let first : core_sectors_from true cpu.core at size ≡ of_dictionary m = ap (λ (i : ℕ). core_sectors_from true cpu.core i size) (sym d.0) ∙ dictionary_kept m (inside m (inl refl)) in
      omega (arith, range_split true cpu.core at size n rest cut, first, dictionaries_kept (at + size) rest more d.1 (omega (arith, e, cut)) (λ y there. inside y (inr there)))

  -- dictionaries and stacks keep the sector sum
  pub session_kept : core_sectors_from true cpu.core 160 (plan.stacks - 160) + sectors_of_slots cpu.core (machine_view plan s.jobs) plan.peak ≡ sectors s.jobs
  session_kept =
      let up = follow-up plan 160 s.jobs h.holds.fits.dictionaries in
      let each = total_same (λ (m : SessionJob). of_dictionary m + of_tasks m) sectors_of s.jobs
      (λ m inm.
      let w = job_in_order s m o inm in
      omega (
        arith,
        job_kept m.constants m.progress.job w.tasks,
        sum_total (λ (g : Segment). sectors_for (length g.code)) m.constants.segments,
        sum_total (λ (a : Array). sectors_for (length a.numbers)) m.progress.job.arrays,
      )) in
      omega (
        arith,
        dictionaries_kept 160 (plan.stacks - 160) s.jobs h.holds.fits.dictionaries (omega (arith, up)) (λ m there. there),
        stacks_kept,
        total_plus of_dictionary of_tasks s.jobs,
        each,
        sum_total sectors_of s.jobs,
      )
