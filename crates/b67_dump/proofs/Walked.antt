-- What is read off a machine of a job is the dump of that job.
use Rattle.std.proofs.Common.{◌≡◌, ◌≢◌, ℕ, suc, ◌+◌, ◌-◌, ◌*◌, ◌/◌, ◌%◌, ◌^◌, ◌<◌, ◌≤◌, ◌==◌, Bool, List, [], ◌∷◌, ◌++◌, map, reverse, length, Option, Some, None, refl, sym, ◌∙◌, ap, subst, arith, inl, inr, lt-ltb, le-ltb}
use Rattle.std.specs.Prelude.{not, if◌then◌else◌, codes, decimal}
use Rattle.std.specs.List.{AllByRecursion}
use Rattle.std.proofs.lemmas.List.{length-map, length-reverse}
use Rattle.std.proofs.lemmas.Bool.{ne_eqb}
use Rattle.std.proofs.Math.Arith.{digits_div, digits_mod}
use Rattle.b67_word.specs.declared.couples.Place.{Place}
use Rattle.b67_ctl.specs.declared.descriptors.DataDesc.{DataDesc}
use Rattle.b67_io.specs.Line.{ended}
use Rattle.b67_lemmas.specs.Lists.{Has, Falls}
use Rattle.b67_lemmas.proofs.Members.{all_in, has_map, keyed_has, keyed_falls, falls_low, falls_more, has_flat, has_append_right, has_reverse}
use Rattle.b67_model.specs.Words as Words
use Rattle.b67_model.specs.State as State
use Rattle.b67_model.specs.Keyed.{keyed}
use Rattle.b67_model.specs.Lines.{task_name}
use Rattle.b67_model.specs.Common.{Word, Operand, Name, Ref, Row, Element, Original, Proc, Intrinsic, Standing, Frame, top, Array, Condition, Ready, Awaits, WaitsAt, Task, Job, SessionJob, Session, height, from_frame, frames_of_task, critical_of, outer_reach, outer_of, reach_of, Known, known_of, known_numbers, identities, IsSegment, WordInOrder, StandsInOrder, FramesInOrder, BirthInOrder, ConditionInOrder, ArrayInOrder, TaskInOrder}
use Rattle.b67_stack.specs.declared.Cpu.{Cpu}
use Rattle.b67_stack.specs.Common.{StackPlace, slot_base, home_desc, Storage}
use Rattle.b67_layout.specs.Common.{Placement, slot_of, spot_in, base_spot, outer_spots, address_of, shape, head, activations, stack_of_task, machine_view, slot_at, array_object, code_objects, objects_of, TaskRow, JobRow, JobCounts, JobShows, TaskShows, TablesShow, JobInOrderButCounts, IsInOrderButCounts, RepresentsSession}
use Rattle.b67_layout.specs.Rows as rows
use Rattle.b67_layout.proofs.Common.{dictionary_below, original_of, entry_number}
use Rattle.b67_layout_shown.specs.Reading.{word_seen_at, desc_in}
use Rattle.b67_layout_shown.specs.Shown.{Sight, place_seen, top_in, stack_of_row, rows_of, row_cells, segment_cells}
use Rattle.b67_layout_shown.specs.Places.{named, word_by}
use Rattle.b67_layout_shown.proofs.Bits.{desc_read}
use Rattle.b67_layout_shown.proofs.Stacks.{finds_homes, is_stack}
use Rattle.b67_layout_shown.proofs.Words.{word_read}
use Rattle.b67_layout_shown.proofs.Outer.{none_low}
use Rattle.b67_layout_shown.proofs.Tasks.{row_in, callers}
use Rattle.b67_layout_shown.proofs.Arrays.{dictionary_under}
use Rattle.b67_layout_shown.proofs.Contents.{dictionary_is, kinds, address_small, word_of_object}
use Rattle.b67_layout_shown.proofs.Read.{order, small_number, stack_is, slot_below, slot_shows, lies}
use Rattle.b67_layout_shown.proofs.Member.{top_is, place_in, base_is, many_words}
use Rattle.b67_layout_shown.proofs.Sorted.{paired, same_numbers, shows_task}
use Rattle.b67_layout_shown.proofs.Whole.{stack_row}
use Rattle.b67_dump.specs.Dump.{beside, record_among, name_of_record, record_name, cells_of_record, offset_of_original, array_found, name_of_array, array_name, length_of_array, cell_text, cells_text, standing_text, records_text, condition_text, place_text, task_text, tasks_text}
use Rattle.b67_dump.specs.Walk.{marks_in, marks_under, slot_start, record_at, top_mark_in, top_mark_by, owner_text, offset_from, array_at_home, number_of_place, place_of_number, word_text, shape_text, shapes_text, head_text, activations_text, state_text, row_dump, rows_dump}
use Rattle.b67_dump.proofs.Marks.{acts_long, StackStands, stands_under, stands_from, spot_stands, original_stands, places, marks_are}
use Rattle.b67_dump.proofs.Listed.{is_there, spot_out, own_or_outer, from_short, from_height, from_twice, from_falls, among_live, among_none, falls_front, known_split, words_long, offset_rows}

-- ---- places as numbers

place_back : (p : StackPlace) → p.disp < 2 ^ 16 → place_of_number (number_of_place p) ≡ p
place_back p low = ap (λ q. record { stack = q; disp = (p.stack * 2 ^ 16 + p.disp) % 2 ^ 16 }) (digits_div p.stack low) ∙ ap (λ q. record { stack = p.stack; disp = q }) (digits_mod p.stack low)

-- ---- a job of a session that a machine represents

module _ (x : Storage) (cpu : Cpu) (plan : Placement) (s : Session) (m : SessionJob) (tasks : List TaskRow) (jobs : List JobRow) (row : JobRow) (c : JobCounts)
    (ordered : IsInOrderButCounts s) (stands : RepresentsSession x cpu plan s) (tables : TablesShow plan s tasks jobs c) (in_session : Has s.jobs m) (shows : JobShows plan m row) where
  abbrev k : Sight
  k = record { core = cpu.core; regs = cpu.regs; tasks = tasks; jobs = jobs; counts = c }

  abbrev j : ℕ
  j = m.constants.number

  abbrev job : Job
  job = m.progress.job

  ord : JobInOrderButCounts (IsSegment m.constants) m.constants m.progress
  ord = order x cpu plan s m tasks jobs row c ordered stands tables in_session shows

  own : (t : Task) → Has job.tasks t → TaskInOrder (IsSegment m.constants) m.constants m.progress.job t
  own t there = all_in (TaskInOrder (IsSegment m.constants) m.constants m.progress.job) m.progress.job.tasks t ord.tasks.tasks there

  few_jobs : m.constants.number ≤ 8
  few_jobs = small_number x cpu plan s m tasks jobs row c ordered stands tables in_session shows

  slot_low : (u : Task) → Has job.tasks u → slot_of plan m.constants.number u.number < 120
  slot_low u there = grind (arith, slot_below)

  start_is : (n : ℕ) → slot_start k n ≡ slot_base (machine_view plan s.jobs) n
  start_is n = base_is x cpu plan s m tasks jobs row c ordered stands tables in_session shows n

  words_low : (u : Task) → Has job.tasks u → length u.frames ≤ cpu.regs.stack_size
  words_low u there =
      let high = (own u there).not_higher in
      let size = stands.holds.fits.sizes m in_session in
      let rz = stands.holds.memory.slots.regs.size in
      let many = many_words x cpu plan s m tasks jobs row c ordered stands tables in_session shows u.frames in
      omega (arith, high, size, rz, many)

  -- the stack of a live task stands
  task_stands : (u : Task) → Has job.tasks u → StackStands cpu.core x.held (finds_homes x cpu.core cpu.regs (machine_view plan s.jobs) stands.holds.memory) (slot_of plan m.constants.number u.number) (slot_base (machine_view plan s.jobs) (slot_of plan m.constants.number u.number))
      (stack_of_task plan m.constants.number m.progress.job (slot_of plan m.constants.number u.number) u)
  task_stands u there =
      let n = slot_of plan m.constants.number u.number in
      let stack = stack_of_task plan m.constants.number m.progress.job n u in
      let o = own u there in
      let is = is_stack (machine_view plan s.jobs) n (slot_at plan s.jobs n) stack (stands.holds.memory.slots.laid.slots n (slot_below x cpu plan s m tasks jobs row c ordered stands tables in_session shows u there))
      (stack_is x cpu plan s m tasks jobs row c ordered stands tables in_session shows u there) (some u.frames o.some) in
      let room = stands.holds.memory.slots.laid.room in
      let fits = is.fits in
      record {
        heads = is.heads;
        callers = callers plan m.constants.number m.progress.job n (outer_spots plan m.constants.number m.progress.job u.critical u.parents) (IsSegment m.constants) u.frames o.returns;
        small = omega (arith, room, fits);
        lies = lies x cpu plan s m tasks jobs row c ordered stands tables in_session shows u there;
      } where
        some : (fs : List Frame) → fs ≢ [] → activations plan m.constants.number m.progress.job (slot_of plan m.constants.number u.number) (outer_spots plan m.constants.number m.progress.job u.critical u.parents) fs ≢ []
        some [] h e = h refl
        some (f ∷ below) h e = cc

  own_falls : (u : Task) → Has job.tasks u → Falls job.next_frame (identities u.frames)
  own_falls u there = falls_front job.next_frame (identities u.frames) (known_numbers (outer_of job u)) (subst (Falls job.next_frame) (known_split u.frames (outer_of job u)) (own u there).falls)

  -- ---- names of records

  -- what a spot is to the machine, and to the session
  record SpotNamed (p : StackPlace) (n : ℕ) : Type 0 where
    pub stack : p.stack < 2 ^ 10
    pub disp : p.disp < 2 ^ 16
    pub is : record_at k m.constants.number p ≡ record_name m n
    pub back : place_seen cpu.regs row m.constants.number (address_of plan p) ≡ p

  live_named : (u : Task) → Has job.tasks u → (outer : ℕ → StackPlace) (fs : List Frame)
      → StackStands cpu.core x.held (finds_homes x cpu.core cpu.regs (machine_view plan s.jobs) stands.holds.memory) (slot_of plan m.constants.number u.number) (slot_base (machine_view plan s.jobs) (slot_of plan m.constants.number u.number))
      (activations plan m.constants.number m.progress.job (slot_of plan m.constants.number u.number) outer fs)
      → length fs ≤ cpu.regs.stack_size → height fs ≤ height u.frames → (n : ℕ) → Has (identities fs) n → (from_frame n fs ≡ from_frame n u.frames) × Has (identities u.frames) n
      → SpotNamed (spot_in (slot_of plan m.constants.number u.number) outer fs n) n
  live_named u there outer fs st many low n h same =
      let slot = slot_of plan m.constants.number u.number in
      let p = spot_in slot outer fs n in
      let r = spot_stands cpu.core x.held (finds_homes x cpu.core cpu.regs (machine_view plan s.jobs) stands.holds.memory) plan m.constants.number m.progress.job slot (slot_base (machine_view plan s.jobs) slot) outer cpu.regs.stack_size fs st many n h in
      let in_slot = r.stack in
      let at = r.disp in
      let small = slot_low u there in
      let high = (own u there).not_higher in
      let size = stands.holds.fits.sizes m in_session in
      let rz = stands.holds.memory.slots.regs.size in
      let stack_high = ord.unchanging.stack_high in
      let found = among_live job.tasks u n there same.1 (ord.tasks.apart n) in
      grind (arith, lt-ltb, slot_shows, place_in)

  low_none : (n : ℕ) → n ≤ 1 → record_among job.tasks n ≡ None
  low_none n low = among_none job.tasks n (λ t there. none_low (IsSegment m.constants) m.constants m.progress.job t (own t there) n low)

  dictionary_named : SpotNamed (record { stack = 127 + m.constants.number; disp = 0 }) 1
  dictionary_named = grind (arith, dictionary_below, le-ltb, few_jobs, low_none)

  mcp_named : SpotNamed (record { stack = 136; disp = 0 }) 0
  mcp_named = grind (arith, few_jobs, low_none)

  base_named : (q : Known) → Has ((1, State.Entered 1 0 None) ∷ (0, State.Entered 0 0 None) ∷ []) q → SpotNamed (base_spot m.constants.number q.0) q.0
  base_named q (inl e) = subst (λ n. SpotNamed (base_spot m.constants.number n) n) (ap (λ (z : Known). z.0) e) dictionary_named
  base_named q (inr (inl e)) = subst (λ n. SpotNamed (base_spot m.constants.number n) n) (ap (λ (z : Known). z.0) e) mcp_named
  base_named q (inr (inr z)) = absurd z

  -- the records of a task from one of them down, over those further out
  record IsPart (u : Task) (outer : ℕ → StackPlace) (fs : List Frame) : Type 0 where
    pub standing : StackStands cpu.core x.held (finds_homes x cpu.core cpu.regs (machine_view plan s.jobs) stands.holds.memory) (slot_of plan m.constants.number u.number) (slot_base (machine_view plan s.jobs) (slot_of plan m.constants.number u.number))
        (activations plan m.constants.number m.progress.job (slot_of plan m.constants.number u.number) outer fs)
    pub long : length fs ≤ cpu.regs.stack_size
    pub high : height fs ≤ height u.frames
    pub falls : Falls job.next_frame (identities fs)
    pub same : (n : ℕ) → Has (identities fs) n → (from_frame n fs ≡ from_frame n u.frames) × Has (identities u.frames) n

  spot_named : (u : Task) → Has job.tasks u → (outer : ℕ → StackPlace) (fs : List Frame) → IsPart u outer fs → (outside : List Known) → ((q : Known) → Has outside q → SpotNamed (outer q.0) q.0)
      → (q : Known) → Has (map known_of fs ++ outside) q → SpotNamed (spot_in (slot_of plan m.constants.number u.number) outer fs q.0) q.0
  spot_named u there outer fs part outside out q h = elim (is_there q.0 fs) [
    | inl i ↦ live_named u there outer fs part.standing part.long part.high q.0 i (part.same q.0 i)
    | inr n ↦ elim (own_or_outer fs outside q h) [
      | inl i ↦ absurd (n q.0 i refl)
      | inr o ↦ subst (λ p. SpotNamed p q.0) (sym (spot_out (slot_of plan m.constants.number u.number) outer fs q.0 n)) (out q o)
    ]
  ]

  part_from : (u : Task) → Has job.tasks u → (crit : ℕ) (outer : ℕ → StackPlace)
      → StackStands cpu.core x.held (finds_homes x cpu.core cpu.regs (machine_view plan s.jobs) stands.holds.memory) (slot_of plan m.constants.number u.number) (slot_base (machine_view plan s.jobs) (slot_of plan m.constants.number u.number))
      (activations plan m.constants.number m.progress.job (slot_of plan m.constants.number u.number) outer u.frames)
      → IsPart u outer (from_frame crit u.frames)
  part_from u there crit outer st =
      let short = from_short crit u.frames in
      let words = words_low u there in
      record {
        standing = stands_from cpu.core x.held (finds_homes x cpu.core cpu.regs (machine_view plan s.jobs) stands.holds.memory) plan m.constants.number m.progress.job (slot_of plan m.constants.number u.number) (slot_base (machine_view plan s.jobs) (slot_of plan m.constants.number u.number)) outer crit u.frames st;
        long = omega (arith, short, words);
        high = from_height crit u.frames;
        falls = from_falls crit job.next_frame u.frames (own_falls u there);
        same = λ n i. from_twice n crit job.next_frame u.frames (own_falls u there) i;
      }

  part_all : (u : Task) → Has job.tasks u → IsPart u (outer_spots plan m.constants.number m.progress.job u.critical u.parents) u.frames
  part_all u there = record { standing = task_stands u there; long = words_low u there; high = omega arith; falls = own_falls u there; same = λ n i. (refl, i) }

  part_below : (u : Task) (outer : ℕ → StackPlace) (f : Frame) (below : List Frame) → IsPart u outer (f ∷ below) → IsPart u outer below
  part_below u outer f below part =
      let long = part.long in
      let high = part.high in
      let falls = part.falls in
      record {
        standing = stands_under cpu.core x.held (finds_homes x cpu.core cpu.regs (machine_view plan s.jobs) stands.holds.memory) (slot_of plan m.constants.number u.number) (slot_base (machine_view plan s.jobs) (slot_of plan m.constants.number u.number))
            (record { head = head (spot_in (slot_of plan m.constants.number u.number) outer below) f.standing; cells = map (shape plan m.constants.number m.progress.job (spot_in (slot_of plan m.constants.number u.number) outer (f ∷ below))) f.cells })
            (activations plan m.constants.number m.progress.job (slot_of plan m.constants.number u.number) outer below) part.standing;
        long = omega (arith, long);
        high = omega (arith, high);
        falls = falls_more f.identity job.next_frame (identities below) (let z = falls.0 in omega (arith, z)) falls.1;
        same = λ n i. (let low = falls_low f.identity (identities below) n falls.1 i in
            let r = part.same n (inr i) in
            (ap (λ (b : Bool). if b then f ∷ below else from_frame n below) (sym (ne_eqb f.identity n (λ e. omega (arith, e, low)))) ∙ r.0, r.1));
      }

  outer_named : (parents : List ℕ) (t : Task) → BirthInOrder job t parents → (q : Known) → Has (outer_reach job t.critical parents) q → SpotNamed (outer_spots plan m.constants.number job t.critical parents q.0) q.0
  outer_named [] t birth q h = base_named q h
  outer_named (parent ∷ above) t birth q h =
      let p = birth.parent in
      let found = keyed_has (λ (t : Task). t.number) parent job.tasks p birth.found in
      let line = subst (BirthInOrder job p) birth.line (own p found.0).birth in
      let stands_p = subst (λ (ps : List ℕ). StackStands cpu.core x.held (finds_homes x cpu.core cpu.regs (machine_view plan s.jobs) stands.holds.memory) (slot_of plan m.constants.number p.number) (slot_base (machine_view plan s.jobs) (slot_of plan m.constants.number p.number))
      (activations plan m.constants.number m.progress.job (slot_of plan m.constants.number p.number) (outer_spots plan m.constants.number m.progress.job p.critical ps) p.frames)) birth.line (task_stands p found.0) in
      let G : Option Task → Type 0 = λ o. Has (map known_of (from_frame t.critical (frames_of_task o)) ++ outer_reach job (critical_of o) above) q
      → SpotNamed (spot_in (slot_of plan m.constants.number parent) (outer_spots plan m.constants.number job (critical_of o) above) (from_frame t.critical (frames_of_task o)) q.0) q.0 in
      let goal : G (Some p) = λ i. subst (λ n. SpotNamed (spot_in (slot_of plan m.constants.number n) (outer_spots plan m.constants.number job p.critical above) (from_frame t.critical p.frames) q.0) q.0) found.1
      (spot_named p found.0 (outer_spots plan m.constants.number job p.critical above) (from_frame t.critical p.frames) (part_from p found.0 t.critical (outer_spots plan m.constants.number job p.critical above) stands_p) (outer_reach job p.critical above) (λ r o. outer_named above p line r o) q i) in
      subst G (sym birth.found) goal h

  -- ---- names of arrays

  numbers_here : (a : Array) → Has job.arrays a → array_found m a.identity ≡ Some a
  numbers_here a there = keyed_falls (λ (b : Array). b.identity) job.next_array job.arrays a ord.tasks.names there

  row_found : (u : Task) → Has job.tasks u → (r : TaskRow) × ((keyed (λ (q : TaskRow). q.slot) (slot_of plan m.constants.number u.number) tasks ≡ Some r) × TaskShows plan m u r)
  row_found u there = let e = tables.each m u in_session there in (e.0, (ap (λ n. keyed (λ (q : TaskRow). q.slot) n tasks) (sym e.2.slot) ∙ row_in tasks e.0 tables.once e.1, e.2))

  -- an array whose original stands in a live record
  live_array : (a : Array) → Has job.arrays a → (u : Task) → Has job.tasks u → (g : Frame) → Has u.frames g → Has g.cells (Original a.identity) → a.owner ≡ g.identity
      → array_at_home k row m.constants.number (plan.home m.constants.number a.identity) ≡ array_name m a.identity
  live_array a there u live g among word owned =
      let slot = slot_of plan m.constants.number u.number in
      let base = slot_base (machine_view plan s.jobs) slot in
      let home = plan.home m.constants.number a.identity in
      let outer = outer_spots plan m.constants.number m.progress.job u.critical u.parents in
      let stack = stack_of_task plan m.constants.number m.progress.job slot u in
      let finds = finds_homes x cpu.core cpu.regs (machine_view plan s.jobs) stands.holds.memory in
      let o = original_stands cpu.core x.held finds plan m.constants.number m.progress.job slot base outer a.identity u.frames (task_stands u live) job.next_frame (own_falls u live) g among word in
      let r = row_found u live in
      let tip = top_is x cpu plan s m tasks jobs row c ordered stands tables in_session shows u r.0 live r.1.1 in
      let long = acts_long cpu.core x.held finds plan m.constants.number m.progress.job slot base outer u.frames in
      let words = words_low u live in
      let marks : marks_in cpu.core cpu.regs.stack_size (top_mark_in k slot) ≡ places base stack =
      ap (λ q. marks_in cpu.core cpu.regs.stack_size (top_mark_by k q)) r.1.0
      ∙ marks_are cpu.core x.held finds slot base stack (task_stands u live) (some u.frames (own u live).some) cpu.regs.stack_size (omega (arith, long, words)) (top_in k r.0).f tip.f_is in
      let start = start_is slot in
      let low = o.low in
      let high = o.high in
      let height_low = (own u live).not_higher in
      let size = stands.holds.fits.sizes m in_session in
      let rz = stands.holds.memory.slots.regs.size in
      let rest : home - cpu.regs.stacks ≡ slot * cpu.regs.stack_size + (home - base) = omega (arith, start, high) in
      let small : home - base < cpu.regs.stack_size = omega (arith, low, high, height_low, size, rz) in
      let slot_is : (home - cpu.regs.stacks) / cpu.regs.stack_size ≡ slot = ap (λ n. n / cpu.regs.stack_size) rest ∙ digits_div slot small in
      let found = among_live job.tasks u g.identity live (has_map (λ (f : Frame). f.identity) u.frames g among) (ord.tasks.apart g.identity) in
      let number = slot_shows x cpu plan s m tasks jobs row c ordered stands tables in_session shows u live in
      let name : record_name m a.owner ≡ beside (task_name m.constants.number u.number) (decimal (length (from_frame g.identity u.frames))) =
      ap (record_name m) owned ∙ ap (name_of_record m.constants.number g.identity) found in
      let cells : cells_of_record m.constants.dictionary.cells (record_among job.tasks a.owner) ≡ (top (from_frame g.identity u.frames)).cells =
      ap (λ n. cells_of_record m.constants.dictionary.cells (record_among job.tasks n)) owned ∙ ap (cells_of_record m.constants.dictionary.cells) found in
      ap (λ (b : Bool). if b then beside (beside (codes "DICT") (decimal m.constants.number)) (decimal (home - row.dictionary))
      else owner_text k m.constants.number ((home - cpu.regs.stacks) / cpu.regs.stack_size) home (marks_under home (marks_in cpu.core cpu.regs.stack_size (top_mark_in k ((home - cpu.regs.stacks) / cpu.regs.stack_size))))) (le-ltb home cpu.regs.stacks (omega (arith, start, high)))
      ∙ ap (λ n. owner_text k m.constants.number n home (marks_under home (marks_in cpu.core cpu.regs.stack_size (top_mark_in k n)))) slot_is
      ∙ ap (λ ms. owner_text k m.constants.number slot home (marks_under home ms)) marks
      ∙ ap (λ n. beside (beside (task_name m.constants.number n) (decimal (length (marks_under home (places base stack))))) (decimal (offset_from cpu.core home (marks_under home (places base stack))))) number
      ∙ ap (λ n. beside (beside (task_name m.constants.number u.number) (decimal n)) (decimal (offset_from cpu.core home (marks_under home (places base stack))))) o.number
      ∙ ap (λ n. beside (beside (task_name m.constants.number u.number) (decimal (length (from_frame g.identity u.frames)))) (decimal n)) o.offset
      ∙ ap (λ t. beside t (decimal (offset_of_original a.identity (top (from_frame g.identity u.frames)).cells))) (sym name)
      ∙ ap (λ ws. beside (record_name m a.owner) (decimal (offset_of_original a.identity ws))) (sym cells)
      ∙ ap (name_of_array m) (sym (numbers_here a there)) where
        some : (fs : List Frame) → fs ≢ [] → stack_of_task plan m.constants.number m.progress.job (slot_of plan m.constants.number u.number) (record u { frames = fs }) ≢ []
        some [] h e = h refl
        some (f ∷ below) h e = cc

  dictionary_words : row_cells row.rows ++ segment_cells row.segments ≡ m.constants.dictionary.cells
  dictionary_words =
      let a = shows.segments in
      let b = shows.rows in
      ap (λ n. row_cells row.rows ++ segment_cells n) shows.segments ∙ dictionary_is row.rows m.constants.segments m.constants.dictionary.cells ord.unchanging.dictionary (omega (arith, a, b))

  -- a data row
  row_array : (a : Array) → Has job.arrays a → Has m.constants.dictionary.cells (Original a.identity) → array_at_home k row m.constants.number (plan.home m.constants.number a.identity) ≡ array_name m a.identity
  row_array a there d =
      let home = plan.home m.constants.number a.identity in
      let e = entry_number 1 m.constants.segments (reverse m.constants.dictionary.cells) a.identity ord.unchanging.dictionary (has_reverse m.constants.dictionary.cells (Original a.identity) d) in
      grind (arith, length-reverse, dictionary_under, all_in, numbers_here, low_none, dictionary_words, offset_rows)

  array_is : (a : Array) → Has job.arrays a → array_at_home k row m.constants.number (plan.home m.constants.number a.identity) ≡ array_name m a.identity
  array_is a there = elim (original_of m.constants m.progress.job ord.tasks a there) [
    | inl d ↦ row_array a there d
    | inr q ↦ live_array a there q.task q.live q.frame q.among q.word q.owned
  ]

  length_is : (a : Array) → Has job.arrays a → (desc_in (word_seen_at cpu.core (plan.home m.constants.number a.identity))).length ≡ length_of_array (array_found m a.identity)
  length_is a there =
      let h = x.held (plan.home m.constants.number a.identity) in
      let small = (all_in ArrayInOrder job.arrays a ord.tasks.arrays there).length_high in
      let inside = has_flat (objects_of plan) s.jobs m (array_object plan m.constants.number a) in_session
      (has_append_right (code_objects plan m.constants.number 1 m.constants.segments) (map (array_object plan m.constants.number) job.arrays) (array_object plan m.constants.number a) (has_map (array_object plan m.constants.number) job.arrays a there)) in
      let desc = home_desc (not a.writable) (length a.numbers) h in
      let is : desc_in (word_seen_at cpu.core (plan.home m.constants.number a.identity)) ≡ desc =
      ap desc_in (word_of_object x cpu.core cpu.regs (machine_view plan s.jobs) stands.holds.memory (array_object plan m.constants.number a) inside ∙ kinds x cpu.core cpu.regs (machine_view plan s.jobs) stands.holds.memory a.writable (length a.numbers) h)
      ∙ desc_read desc (omega (arith, small)) (address_small x cpu.core cpu.regs (machine_view plan s.jobs) stands.holds.memory (array_object plan m.constants.number a) inside) in
      ap (λ (d : DataDesc). d.length) is ∙ ap length_of_array (sym (numbers_here a there))

  -- ---- lines

  few : length m.constants.segments < 2 ^ 13
  few =
      let d = words_long row.rows row.segments in
      let same = ap (λ (ws : List Word). length ws) dictionary_words in
      let low = ord.unchanging.entries in
      grind arith

  cell_is : (spot : ℕ → StackPlace) (reach : List Known) → ((q : Known) → Has reach q → SpotNamed (spot q.0) q.0) → (owner : ℕ) (w : Word) → WordInOrder (IsSegment m.constants) job.arrays reach owner w
      → shape_text k row m.constants.number (shape plan m.constants.number job spot w) ≡ cell_text m w
  cell_is spot reach named owner w o =
      ap (word_text k row m.constants.number) (word_read plan m.constants.number m.constants job spot reach number_of_place (λ home. home) (λ n. number_of_place (spot n)) (plan.home m.constants.number) few
      (λ n h. (let q = named (n, h.standing) h.among in record { stack = q.stack; disp = q.disp; is = refl })) (λ a h. refl) owner w o)
      ∙ by w o where
        by : (w : Word) → WordInOrder (IsSegment m.constants) job.arrays reach owner w → word_text k row m.constants.number (word_by (λ n. number_of_place (spot n)) (plan.home m.constants.number) w) ≡ cell_text m w
        by (Operand bits) h = refl
        by (Name couple) h = refl
        by (Ref identity offset) h =
            let q = named (identity, h.0.standing) h.0.among in
            ap (λ p. beside (codes "REF") (beside (record_at k m.constants.number p) (decimal offset))) (place_back (spot identity) q.disp) ∙ ap (λ t. beside (codes "REF") (beside t (decimal offset))) q.is
        by (Row a) h = subst (λ i. beside (codes "ROW") (array_at_home k row m.constants.number (plan.home m.constants.number i)) ≡ beside (codes "ROW") (array_name m i)) h.named (ap (beside (codes "ROW")) (array_is h.item h.live))
        by (Element a index) h =
            subst (λ i. beside (codes "ELEMENT") (beside (array_at_home k row m.constants.number (plan.home m.constants.number i)) (decimal index)) ≡ beside (codes "ELEMENT") (beside (array_name m i) (decimal index))) h.named
            (ap (λ t. beside (codes "ELEMENT") (beside t (decimal index))) (array_is h.item h.live))
        by (Original a) h =
            subst (λ i. beside (codes "ARRAY") (decimal (desc_in (word_seen_at cpu.core (plan.home m.constants.number i))).length) ≡ beside (codes "ARRAY") (decimal (length_of_array (array_found m i)))) h.named
            (ap (λ n. beside (codes "ARRAY") (decimal n)) (length_is h.item h.live))
        by (Proc segment level place) h = refl
        by (Intrinsic number) h = absurd h
        by (Words.Segment number) h = absurd h

  cells_are : (spot : ℕ → StackPlace) (reach : List Known) → ((q : Known) → Has reach q → SpotNamed (spot q.0) q.0) → (owner : ℕ) (ws : List Word) → AllByRecursion (WordInOrder (IsSegment m.constants) job.arrays reach owner) ws
      → shapes_text k row m.constants.number (map (shape plan m.constants.number job spot) ws) ≡ cells_text m ws
  cells_are spot reach named owner [] o = refl
  cells_are spot reach named owner (w ∷ ws) o = grind (arith, length-map, cell_is, cells_are spot reach named owner ws o.1)

  head_is : (spot : ℕ → StackPlace) (reach : List Known) → ((q : Known) → Has reach q → SpotNamed (spot q.0) q.0) → (st : Standing) → StandsInOrder reach st → head_text k m.constants.number (head spot st) ≡ standing_text m st
  head_is spot reach h st o = grind arith

  -- the records of a task from one of them down
  records_are : (u : Task) → Has job.tasks u → (outer : ℕ → StackPlace) (outside : List Known) → ((q : Known) → Has outside q → SpotNamed (outer q.0) q.0) → (fs : List Frame) → IsPart u outer fs → FramesInOrder (IsSegment m.constants) job.arrays outside fs
      → activations_text k row m.constants.number (activations plan m.constants.number job (slot_of plan m.constants.number u.number) outer fs) ≡ records_text m fs
  records_are u there outer outside out [] part o = refl
  records_are u there outer outside out (f ∷ below) part o =
      let n = slot_of plan m.constants.number u.number in
      let under = part_below u outer f below part in
      let rest = records_are u there outer outside out below under o.2 in
      let long = acts_same below in
      let cells = cells_are (spot_in n outer (f ∷ below)) (map known_of (f ∷ below) ++ outside) (spot_named u there outer (f ∷ below) part outside out) f.identity f.cells o.0.0 in
      let standing = head_is (spot_in n outer below) (map known_of below ++ outside) (spot_named u there outer below under outside out) f.standing o.1 in
      ap (λ t. t ++ (ended (beside (codes "FRAME") (beside (decimal (length (activations plan m.constants.number job n outer below) + 1)) (head_text k m.constants.number (head (spot_in n outer below) f.standing)))) ++ shapes_text k row m.constants.number (map (shape plan m.constants.number job (spot_in n outer (f ∷ below))) f.cells))) rest
      ∙ ap (λ q. records_text m below ++ (ended (beside (codes "FRAME") (beside (decimal (q + 1)) (head_text k m.constants.number (head (spot_in n outer below) f.standing)))) ++ shapes_text k row m.constants.number (map (shape plan m.constants.number job (spot_in n outer (f ∷ below))) f.cells))) long
      ∙ ap (λ t. records_text m below ++ (ended (beside (codes "FRAME") (beside (decimal (length below + 1)) t)) ++ shapes_text k row m.constants.number (map (shape plan m.constants.number job (spot_in n outer (f ∷ below))) f.cells))) standing
      ∙ ap (λ t. records_text m below ++ (ended (beside (codes "FRAME") (beside (decimal (length below + 1)) (standing_text m f.standing))) ++ t)) cells where
        acts_same : (gs : List Frame) → length (activations plan m.constants.number job (slot_of plan m.constants.number u.number) outer gs) ≡ length gs
        acts_same [] = refl
        acts_same (g ∷ gs) = ap suc (acts_same gs)

  -- ---- a task

  state_is : (t : Task) → Has job.tasks t → (w : Condition) → ConditionInOrder (reach_of job t) w → state_text k row m.constants.number (rows.shown plan m.constants.number job t w) ≡ condition_text m w
  state_is t there Ready o = refl
  state_is t there (Awaits n) o = refl
  state_is t there (WaitsAt frame offset) o =
      let q = spot_named t there (outer_spots plan m.constants.number job t.critical t.parents) t.frames (part_all t there) (outer_of job t) (outer_named t.parents t (own t there).birth) (frame, o.0.standing) o.0.among in
      ap (λ p. beside (codes "WAITS") (beside (record_at k m.constants.number p) (decimal offset))) q.back ∙ ap (λ t. beside (codes "WAITS") (beside t (decimal offset))) q.is

  task_is : (r : TaskRow) (t : Task) → Has job.tasks t → TaskShows plan m t r → row_dump k row m.constants.number r ≡ task_text m t
  task_is r t there sh =
      let o = own t there in
      let top = top_is x cpu plan s m tasks jobs row c ordered stands tables in_session shows t r there sh in
      let segment : (top_in k r).segment - 1 ≡ t.segment = (let e = top.segment in omega (arith, e)) in
      let A : List ℕ = activations_text k row m.constants.number (stack_of_row k r) in
      let state : state_text k row m.constants.number r.state ≡ condition_text m t.condition = ap (state_text k row m.constants.number) sh.state ∙ state_is t there t.condition o.condition in
      let records : A ≡ records_text m t.frames =
      ap (activations_text k row m.constants.number) (stack_row x cpu plan s m tasks jobs row c ordered stands tables in_session shows t r there sh)
      ∙ records_are t there (outer_spots plan m.constants.number job t.critical t.parents) (outer_of job t) (outer_named t.parents t o.birth) t.frames (part_all t there) o.frames in
      line r.number t.number ((top_in k r).segment - 1) t.segment (top_in k r).place t.place (state_text k row m.constants.number r.state) (condition_text m t.condition) A (records_text m t.frames) sh.number segment top.place state records where
        line : (n n' g g' : ℕ) (p p' : Place) (w w' a a' : List ℕ) → n ≡ n' → g ≡ g' → p ≡ p' → w ≡ w' → a ≡ a'
            → ended (beside (codes "TASK") (beside (task_name m.constants.number n) (beside w (beside (decimal g) (place_text p))))) ++ a
            ≡ ended (beside (codes "TASK") (beside (task_name m.constants.number n') (beside w' (beside (decimal g') (place_text p'))))) ++ a'
        line n n' g g' p p' w w' a a' en eg ep ew ea = rw (en, eg, ep, ew, ea) refl

  -- ---- the job

  pub job_walked : rows_dump k row m.constants.number (rows_of tasks m.constants.number) ≡ tasks_text m m.progress.job.tasks
  job_walked =
      rows_joined (rows_of tasks m.constants.number)
      ∙ ap joined (paired (row_dump k row m.constants.number) (task_text m) (rows_of tasks m.constants.number) job.tasks (same_numbers plan s m tasks jobs c ordered.numbered in_session ord.tasks.numbers tables)
      (λ r t hr ht e. task_is r t ht (shows_task plan s m tasks jobs c ordered.numbered in_session ord.tasks.numbers tables r t hr ht e)))
      ∙ sym (tasks_joined job.tasks) where
        joined : List (List ℕ) → List ℕ
        joined [] = []
        joined (t ∷ ts) = joined ts ++ t

        rows_joined : (rs : List TaskRow) → rows_dump k row m.constants.number rs ≡ joined (map (row_dump k row m.constants.number) rs)
        rows_joined [] = refl
        rows_joined (r ∷ rs) = ap (λ t. t ++ row_dump k row m.constants.number r) (rows_joined rs)

        tasks_joined : (ts : List Task) → tasks_text m ts ≡ joined (map (task_text m) ts)
        tasks_joined [] = refl
        tasks_joined (u ∷ ts) = ap (λ t. t ++ task_text m u) (tasks_joined ts)
