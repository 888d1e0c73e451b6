-- The machine represents what it shows.
use Rattle.std.proofs.Common.{◌≡◌, ◌≢◌, ℕ, zero, suc, ◌+◌, ◌*◌, ◌^◌, ◌<◌, ◌==◌, true, false, List, [], ◌∷◌, ◌++◌, map, length, Option, Some, None, refl, sym, ◌∙◌, ap, subst, arith, ◌-◌}
use Rattle.std.specs.Prelude.{if◌then◌else◌}
use Rattle.std.specs.List.{slice_get}
use Rattle.b67_word.specs.Tagged.{Tagged, word}
use Rattle.b67_lemmas.specs.Lists.{Has}
use Rattle.b67_lemmas.proofs.Members.{all_in, falls_low, keyed_has, keyed_falls, has_map, has_get}
use Rattle.b67_law.proofs.Numbered.{keyed_member}
use Rattle.b67_model.specs.Keyed.{keyed}
use Rattle.b67_model.specs.Common.{Word, Frame, Task, Job, SessionJob, Condition, Ready, Awaits, WaitsAt, height, number_of, Session, IsSegment, TaskInOrder, TasksInOrder, NumberedFrom, BirthInOrder, ConditionInOrder, Known, known_of, known_numbers, identities, reach_of, frames_of_task, critical_of, from_frame, IsInOrderButPlaces, JobInOrder}
use Rattle.b67_stack.specs.declared.Cpu.{Cpu}
use Rattle.b67_stack.specs.Stacks.{StackPlace}
use Rattle.b67_stack.specs.Represents.{Storage}
use Rattle.b67_layout.specs.Common.{Slotted, Placement, slot_of, spot_in, spots, base_spot, outer_spots, address_of, TaskRow, JobRow, JobCounts, JobShows, JobsShow, TaskShows, RunningRow, TablesShow, parent_slot, critical_disp, DictionariesFollow, RowHomes, PlanFits, RepresentsDictionary, RepresentsVector, RepresentsCritical, RepresentsTask, IsRunning, ShowsDisplay, vector_word, critical_mark, RepresentsSession}
use Rattle.b67_layout.specs.Rows as rows
use Rattle.b67_layout_shown.specs.Places.{named, name_among, array_among, frame_by, condition_by, task_by}
use Rattle.b67_layout_shown.specs.Shown.{Sight, segments_from, row_cells, segment_cells, dictionary_from, segments_of, constants_in, job_seen, member_in, members_from, shown, placed}
use Rattle.b67_layout_shown.proofs.Contents.{dictionary_is}
use Rattle.b67_layout_shown.proofs.Reach.{found_by}
use Rattle.b67_layout_shown.proofs.Member.{slot_runs, runs_is}
use Rattle.b67_layout.proofs.Rows.{task_row}
use Rattle.b67_layout_shown.proofs.Apart.{critical_mark_same}
use Rattle.b67_layout_shown.proofs.Shows.{at_level, levels_same}
use Rattle.b67_layout_shown.proofs.Renamed.{spot_same, spots_same, entered_known}
use Rattle.b67_layout_shown.proofs.Names.{named_frames}
use Rattle.b67_layout_shown.proofs.Jobs.{falls_known}
use Rattle.b67_layout_shown.proofs.Plans.{MemberOf, weak, member, back, is_placed, task_there, task_back, rows_fit, dictionary_same, slots_same, ord, home_row}
use Rattle.b67_layout_shown.proofs.Views.{memory_shown, settled_shown}

segments_long : (core : List Tagged) (at n : ℕ) → length (segments_from core at n) ≡ n
segments_long core at zero = refl
segments_long core at (suc n) = ap suc (segments_long core (at + 1) n)

module _ (x : Storage) (cpu : Cpu) (plan : Placement) (s : Session) (tasks : List TaskRow) (jobs : List JobRow) (c : JobCounts)
    (ordered : IsInOrderButPlaces s) (stands : RepresentsSession x cpu plan s) (tables : TablesShow plan s tasks jobs c)
    (shown_order : IsInOrderButPlaces (shown (record { core = cpu.core; regs = cpu.regs; tasks = tasks; jobs = jobs; counts = c }))) where
  abbrev k : Sight
  k = record { core = cpu.core; regs = cpu.regs; tasks = tasks; jobs = jobs; counts = c }

  abbrev plan' : Placement
  plan' = placed (record { core = cpu.core; regs = cpu.regs; tasks = tasks; jobs = jobs; counts = c })

  abbrev s' : Session
  s' = shown (record { core = cpu.core; regs = cpu.regs; tasks = tasks; jobs = jobs; counts = c })

  -- the words of a dictionary
  words_is : (m : SessionJob) (row : JobRow) → Has s.jobs m → JobShows plan m row → row_cells row.rows ++ segment_cells row.segments ≡ m.constants.dictionary.cells
  words_is m row there shows = grind (arith, dictionary_is, ord)

  dict : (m : SessionJob) → Has s.jobs m → dictionary_from jobs 1 m.constants.number ≡ plan.dictionary m.constants.number
  dict m there = dictionary_same x cpu plan s tasks jobs c ordered stands tables m there

  follow : (n at : ℕ) (ms : List SessionJob) (rs : List JobRow) → NumberedFrom n ms → JobsShow plan ms rs → ((m : SessionJob) → Has ms m → Has s.jobs m) → DictionariesFollow plan at ms → DictionariesFollow plan' at (members_from k n rs)
  follow n at [] [] o shows inside d = d ∙ sym stands.holds.memory.slots.regs.stacks
  follow n at [] (r ∷ rs) o shows inside d = absurd shows
  follow n at (m ∷ ms) [] o shows inside d = absurd shows
  follow n at (m ∷ ms) (r ∷ rs) o shows inside d = grind (arith, words_is, dict, follow (n + 1) (at + (2 + length m.constants.dictionary.cells)) ms rs o.1 shows.1)

  plan_fits : PlanFits plan' s'
  plan_fits = record {
    rows = rows_fit x cpu plan s tasks jobs c ordered stands tables;
    peak = refl;
    few = (let few = stands.holds.fits.few in let peak = stands.holds.memory.slots.regs.peak in omega (arith, few, peak));
    sizes = λ y h. (let b = back x cpu plan s tasks jobs c ordered stands tables y h in ap (λ (z : SessionJob). z.constants.stack_size) (sym b.is));
    dictionaries = follow 1 160 s.jobs jobs ordered.numbered tables.jobs (λ m h. h) stands.holds.fits.dictionaries;
    row_homes = λ y h.
        let b = back x cpu plan s tasks jobs c ordered stands tables y h in
        subst (RowHomes plan') b.is (λ n low high.
        let mo = member x cpu plan s tasks jobs c ordered stands tables b.member b.there in
        let few = (all_in (λ (z : SessionJob). JobInOrder (IsSegment z.constants) z.constants z.progress) s'.jobs y shown_order.jobs h).unchanging.entries in
        let same = ap (λ (z : SessionJob). length z.constants.dictionary.cells) b.is in
        let segs : segments_of jobs 1 b.member.constants.number ≡ length (segments_from cpu.core (b.row.dictionary + 2) b.row.segments) =
        mo.segments ∙ mo.shows.segments ∙ sym b.shows.segments ∙ sym (segments_long cpu.core (b.row.dictionary + 2) b.row.segments) in
        home_row x cpu plan s tasks jobs c ordered stands tables b.member.constants.number n (omega (arith, high, few, same))
        ∙ ap (λ q. dictionary_from jobs 1 b.member.constants.number + 1 + q + n) segs);
  }

  dictionary_shown : (y : SessionJob) → Has s'.jobs y → RepresentsDictionary cpu.core plan' y
  dictionary_shown y h =
      let b = back x cpu plan s tasks jobs c ordered stands tables y h in
      let old = stands.holds.dictionaries b.member b.there in
      let at = dict b.member b.there in
      let words = words_is b.member b.row b.there b.shows in
      subst (RepresentsDictionary cpu.core plan') b.is (record {
        mark = ap (slice_get cpu.core) at ∙ old.mark;
        entries = ap (λ q. slice_get cpu.core (q + 1)) at ∙ old.entries ∙ ap (λ (ws : List Word). Some (word 0 (length ws))) (sym words);
      })

  -- ---- who runs

  running_back : (m : SessionJob) (row : JobRow) (t : Task) → Has s.jobs m → JobShows plan m row → Has m.progress.job.tasks t → cpu.regs.slot ≡ slot_of plan m.constants.number t.number → IsRunning plan s.jobs m t
  running_back m row t there shows live e =
      let run = slot_runs x cpu plan s m tasks jobs row c (weak x cpu plan s tasks jobs c ordered stands tables) stands tables there shows t live e in
      runs_is x cpu plan s m tasks jobs row c (weak x cpu plan s tasks jobs c ordered stands tables) stands tables there shows t live run

  -- a running task of what is shown is one of the session's
  record RunsBack (y : SessionJob) (u : Task) : Type 0 where
    m : SessionJob
    there : Has s.jobs m
    row : JobRow
    tells : JobShows plan m row
    t : Task
    live : Has m.progress.job.tasks t
    old : IsRunning plan s.jobs m t
    job_is : member_in k row m.constants.number ≡ y
    task_is : task_by (name_among m.progress.job.tasks) (array_among m.progress.job.tasks) t ≡ u

  runs_back : (y : SessionJob) (u : Task) → IsRunning plan' s'.jobs y u → RunsBack y u
  runs_back y u r =
      let iny = (keyed_has number_of y.constants.number s'.jobs y r.member).0 in
      let inu = (keyed_has (λ (v : Task). v.number) u.number y.progress.job.tasks u r.task).0 in
      let b = back x cpu plan s tasks jobs c ordered stands tables y iny in
      let tb = task_back x cpu plan s tasks jobs c ordered stands tables b.member b.row u b.there b.shows (subst (λ (z : SessionJob). Has z.progress.job.tasks u) (sym b.is) inu) in
      let slot : cpu.regs.slot ≡ slot_of plan b.member.constants.number tb.task.number =
      r.slot ∙ ap (λ i. slot_of plan' i u.number) (sym (ap (λ (z : SessionJob). z.constants.number) b.is)) ∙ ap (slot_of plan' b.member.constants.number) (sym (ap (λ (z : Task). z.number) tb.is))
      ∙ slots_same x cpu plan s tasks jobs c ordered stands tables b.member tb.task b.there tb.live in
      record { m = b.member; there = b.there; row = b.row; tells = b.shows; t = tb.task; live = tb.live; old = running_back b.member b.row tb.task b.there b.shows tb.live slot; job_is = b.is; task_is = tb.is }

  task_runs : (y : SessionJob) (u : Task) → IsRunning plan' s'.jobs y u → RepresentsTask cpu.regs plan' y u
  task_runs y u r =
      let b = runs_back y u r in
      let q = stands.holds.running b.m b.t b.old in
      let words = words_is b.m b.row b.there b.tells in
      subst (λ (v : Task). RepresentsTask cpu.regs plan' y v) b.task_is (subst (λ (z : SessionJob). RepresentsTask cpu.regs plan' z (task_by (name_among b.m.progress.job.tasks) (array_among b.m.progress.job.tasks) b.t)) b.job_is (record {
        slot = q.slot ∙ sym (slots_same x cpu plan s tasks jobs c ordered stands tables b.m b.t b.there b.live);
        dict = q.dict ∙ sym (dict b.m b.there);
        entries = q.entries ∙ ap (λ (ws : List Word). length ws) (sym words);
        segment = q.segment;
        place = q.place;
      }))

  lives : cpu.regs.slot ≢ 255 → (y : SessionJob) × (u : Task) × IsRunning plan' s'.jobs y u
  lives some =
      let (m, t, r) = stands.holds.live (λ e. some (stands.holds.none e)) in
      let there = (keyed_has number_of m.constants.number s.jobs m r.member).0 in
      let live = (keyed_has (λ (v : Task). v.number) t.number m.progress.job.tasks t r.task).0 in
      let mo = member x cpu plan s tasks jobs c ordered stands tables m there in
      let o = all_in (λ (z : SessionJob). JobInOrder (IsSegment z.constants) z.constants z.progress) s'.jobs (member_in k mo.row m.constants.number) shown_order.jobs mo.among in (
        member_in k mo.row m.constants.number,
        task_by (name_among m.progress.job.tasks) (array_among m.progress.job.tasks) t,
        record {
          member = keyed_member 1 s'.jobs (member_in k mo.row m.constants.number) shown_order.numbered mo.among;
          task = keyed_falls (λ (v : Task). v.number) mo.row.next_task (job_seen k mo.row m.constants.number).tasks (task_by (name_among m.progress.job.tasks) (array_among m.progress.job.tasks) t) o.tasks.numbers
              (task_there x cpu plan s tasks jobs c ordered stands tables m mo.row t there mo.shows live);
          slot = (stands.holds.running m t r).slot ∙ sym (slots_same x cpu plan s tasks jobs c ordered stands tables m t there live);
        },
      )

  -- ---- parents

  order : (m : SessionJob) → Has s.jobs m → TasksInOrder (IsSegment m.constants) m.constants m.progress.job
  order m there = (ord x cpu plan s tasks jobs c ordered stands tables m there).tasks

  own : (m : SessionJob) (t : Task) → Has s.jobs m → Has m.progress.job.tasks t → TaskInOrder (IsSegment m.constants) m.constants m.progress.job t
  own m t there live = all_in (TaskInOrder (IsSegment m.constants) m.constants m.progress.job) m.progress.job.tasks t (order m there).tasks live

  tasks_are : (m : SessionJob) (row : JobRow) → Has s.jobs m → JobShows plan m row → (job_seen k row m.constants.number).tasks ≡ map (task_by (name_among m.progress.job.tasks) (array_among m.progress.job.tasks)) m.progress.job.tasks
  tasks_are m row there shows = ap (λ (q : Job). q.tasks) (is_placed x cpu plan s tasks jobs c ordered stands tables m row there shows)

  same_slot : (m : SessionJob) → Has s.jobs m → (t : Task) → Has m.progress.job.tasks t → slot_of plan' m.constants.number t.number ≡ slot_of plan m.constants.number t.number
  same_slot m there t live = slots_same x cpu plan s tasks jobs c ordered stands tables m t there live

  vector_same : (m : SessionJob) (t : Task) → Has s.jobs m → (ps : List ℕ) → BirthInOrder m.progress.job t ps → vector_word plan' m.constants.number ps ≡ vector_word plan m.constants.number ps
  vector_same m t there [] b = refl
  vector_same m t there (p ∷ above) b =
      let found = keyed_has (λ (v : Task). v.number) p m.progress.job.tasks b.parent b.found in
      ap (λ q. word 3 (2 ^ 46 + q * 2 ^ 36 + m.constants.number * 2 ^ 16)) (subst (λ i. slot_of plan' m.constants.number i ≡ slot_of plan m.constants.number i) found.1 (same_slot m there b.parent found.0))

  parent_same : (m : SessionJob) (t : Task) → Has s.jobs m → (ps : List ℕ) → BirthInOrder m.progress.job t ps → parent_slot plan' m.constants.number ps ≡ parent_slot plan m.constants.number ps
  parent_same m t there [] b = refl
  parent_same m t there (p ∷ above) b =
      let found = keyed_has (λ (v : Task). v.number) p m.progress.job.tasks b.parent b.found in
      subst (λ i. slot_of plan' m.constants.number i ≡ slot_of plan m.constants.number i) found.1 (same_slot m there b.parent found.0)

  -- a slot without a row of what is shown has none of the session
  no_row : (i : ℕ) → ((r : Slotted) → Has plan'.rows r → r.slot ≢ i) → (r : Slotted) → Has plan.rows r → r.slot ≢ i
  no_row i none r h e =
      let (m, t, there, ej, live, et) = stands.holds.fits.rows.live r h in
      let (q, inq, sh) = tables.each m t there live in
      let a = task_row plan s.jobs m t stands.holds.fits.rows there live in
      let same = stands.holds.fits.rows.tasks_differ a.row r a.among h (a.job ∙ ej) (a.number ∙ et) in
      none (record { job = q.job; task = q.number; slot = q.slot }) (has_map (λ (q : TaskRow). record { job = q.job; task = q.number; slot = q.slot }) tasks q inq) (sh.slot ∙ a.slot ∙ ap (λ (w : Slotted). w.slot) same ∙ e)

  vector_shown : RepresentsVector cpu.core plan' s'.jobs
  vector_shown = record {
    live = λ y u hy hu.
        let b = back x cpu plan s tasks jobs c ordered stands tables y hy in
        let tb = task_back x cpu plan s tasks jobs c ordered stands tables b.member b.row u b.there b.shows (subst (λ (z : SessionJob). Has z.progress.job.tasks u) (sym b.is) hu) in
        let old = stands.holds.vector.live b.member tb.task b.there tb.live in
        let word' = vector_same b.member tb.task b.there tb.task.parents (own b.member tb.task b.there tb.live).birth in
        subst (λ (v : Task). slice_get cpu.core (32 + slot_of plan' y.constants.number v.number) ≡ Some (vector_word plan' y.constants.number v.parents)) tb.is
        (subst (λ i. slice_get cpu.core (32 + slot_of plan' i tb.task.number) ≡ Some (vector_word plan' i tb.task.parents)) (ap (λ (z : SessionJob). z.constants.number) b.is)
        (ap (λ n. slice_get cpu.core (32 + n)) (same_slot b.member b.there tb.task tb.live) ∙ old ∙ ap (λ w. Some w) (sym word')));
    free = λ i small none. stands.holds.vector.free i small (no_row i none);
  }

  critical_shown : RepresentsCritical cpu.critical plan' s'.jobs
  critical_shown = record {
    live = λ y u hy hu.
        let b = back x cpu plan s tasks jobs c ordered stands tables y hy in
        let tb = task_back x cpu plan s tasks jobs c ordered stands tables b.member b.row u b.there b.shows (subst (λ (z : SessionJob). Has z.progress.job.tasks u) (sym b.is) hu) in
        let old = stands.holds.critical.live b.member tb.task b.there tb.live in
        let o = ord x cpu plan s tasks jobs c ordered stands tables b.member b.there in
        let mark = critical_mark_same (IsSegment b.member.constants) b.member.constants b.member.progress.job o.tasks o.unchanging.stack_high (array_among b.member.progress.job.tasks) (job_seen k b.row b.member.constants.number)
        (tasks_are b.member b.row b.there b.shows) tb.task tb.live tb.task.frames (λ d h. h) in
        subst (λ (v : Task). slice_get cpu.critical (slot_of plan' y.constants.number v.number) ≡ Some (critical_mark y.progress.job v.frames)) tb.is
        (subst (λ (z : SessionJob). slice_get cpu.critical (slot_of plan' z.constants.number tb.task.number) ≡ Some (critical_mark z.progress.job (map (frame_by (name_among b.member.progress.job.tasks) (array_among b.member.progress.job.tasks)) tb.task.frames))) b.is
        (ap (slice_get cpu.critical) (same_slot b.member b.there tb.task tb.live) ∙ old ∙ ap (λ n. Some n) (sym mark)));
    free = λ i small none. stands.holds.critical.free i small (no_row i none);
  }

  -- ---- addresses

  low_slot : (m : SessionJob) → Has s.jobs m → (t : Task) → Has m.progress.job.tasks t → slot_of plan m.constants.number t.number < 120
  low_slot m there t live =
      let a = task_row plan s.jobs m t stands.holds.fits.rows there live in
      let low = stands.holds.fits.rows.below a.row a.among in
      let few = stands.holds.fits.few in
      let e = a.slot in
      omega (arith, low, few, e)

  abbrev Same : StackPlace → Type 0
  Same p = address_of plan' p ≡ address_of plan p

  slot_address : (n d : ℕ) → n < 120 → Same (record { stack = n; disp = d })
  slot_address n d low = grind arith

  dictionary_address : (m : SessionJob) → Has s.jobs m → Same (record { stack = 127 + m.constants.number; disp = 0 })
  dictionary_address m there = grind (arith, dict)

  spot_all : (n : ℕ) (outer : ℕ → StackPlace) (fs : List Frame) → n < 120 → ((i : ℕ) → Same (outer i)) → (i : ℕ) → Same (spot_in n outer fs i)
  spot_all n outer [] low h i = h i
  spot_all n outer (f ∷ below) low h i =
      elim (f.identity == i) as (λ b. Same (if b then record { stack = n; disp = height below } else spot_in n outer below i)) [ true ↦ slot_address n (height below) low | false ↦ spot_all n outer below low h i ]

  base_all : (m : SessionJob) → Has s.jobs m → (i : ℕ) → Same (base_spot m.constants.number i)
  base_all m there i = elim (i == 1) as (λ b. Same (if b then record { stack = 127 + m.constants.number; disp = 0 } else record { stack = 136; disp = 0 })) [ true ↦ dictionary_address m there | false ↦ refl ]

  outer_all : (m : SessionJob) → Has s.jobs m → (c' : ℕ) (ps : List ℕ) (i : ℕ) → Same (outer_spots plan m.constants.number m.progress.job c' ps i)
  outer_all m there c' [] i = base_all m there i
  outer_all m there c' (p ∷ above) i = by (keyed (λ (t : Task). t.number) p m.progress.job.tasks) refl (λ c2 q. outer_all m there c2 above q) where
    by : (o : Option Task) → keyed (λ (t : Task). t.number) p m.progress.job.tasks ≡ o → ((c2 q : ℕ) → Same (outer_spots plan m.constants.number m.progress.job c2 above q))
        → Same (spot_in (slot_of plan m.constants.number p) (outer_spots plan m.constants.number m.progress.job (critical_of o) above) (from_frame c' (frames_of_task o)) i)
    by None e deeper = deeper 0 i
    by (Some t) e deeper =
        let found = keyed_has (λ (t : Task). t.number) p m.progress.job.tasks t e in
        spot_all (slot_of plan m.constants.number p) (outer_spots plan m.constants.number m.progress.job t.critical above) (from_frame c' t.frames)
        (subst (λ n. slot_of plan m.constants.number n < 120) found.1 (low_slot m there t found.0)) (deeper t.critical) i

  address_same : (m : SessionJob) (t : Task) → Has s.jobs m → Has m.progress.job.tasks t → (i : ℕ) → Same (spots plan m.constants.number m.progress.job t i)
  address_same m t there live i = spot_all (slot_of plan m.constants.number t.number) (outer_spots plan m.constants.number m.progress.job t.critical t.parents) t.frames (low_slot m there t live) (outer_all m there t.critical t.parents) i

  -- the address of a frame in reach, under its name
  frame_address_same : (m : SessionJob) (row : JobRow) (t : Task) → Has s.jobs m → JobShows plan m row → Has m.progress.job.tasks t → (n : ℕ) → Has (known_numbers (reach_of m.progress.job t)) n
      → address_of plan' (spots plan' m.constants.number (job_seen k row m.constants.number) (task_by (name_among m.progress.job.tasks) (array_among m.progress.job.tasks) t) (name_among m.progress.job.tasks n)) ≡ address_of plan (spots plan m.constants.number m.progress.job t n)
  frame_address_same m row t there shows live n h =
      let o = ord x cpu plan s tasks jobs c ordered stands tables m there in
      let born = falls_low m.progress.job.next_task (map (λ (u : Task). u.number) m.progress.job.tasks) t.number o.tasks.numbers (has_map (λ (u : Task). u.number) m.progress.job.tasks t live) in
      ap (address_of plan') (spots_same (IsSegment m.constants) m.constants m.progress.job o.tasks o.unchanging.stack_high (array_among m.progress.job.tasks) plan plan' m.constants.number (job_seen k row m.constants.number)
      (tasks_are m row there shows) (λ u h. same_slot m there u h) t live born n h)
      ∙ address_same m t there live n

  -- ---- tables

  state_same : (m : SessionJob) (row : JobRow) (t : Task) → Has s.jobs m → JobShows plan m row → Has m.progress.job.tasks t → (w : Condition) → ConditionInOrder (reach_of m.progress.job t) w
      → rows.shown plan' m.constants.number (job_seen k row m.constants.number) (task_by (name_among m.progress.job.tasks) (array_among m.progress.job.tasks) t) (condition_by (name_among m.progress.job.tasks) w) ≡ rows.shown plan m.constants.number m.progress.job t w
  state_same m row t there shows live Ready o = refl
  state_same m row t there shows live (Awaits n) o = refl
  state_same m row t there shows live (WaitsAt frame offset) o =
      ap (λ a. rows.WaitsAtCell a offset) (frame_address_same m row t there shows live frame (entered_known (reach_of m.progress.job t) frame o.0))

  critical_disp_same : (m : SessionJob) (row : JobRow) (t : Task) → Has s.jobs m → JobShows plan m row → (ps : List ℕ) → BirthInOrder m.progress.job t ps
      → critical_disp plan' m.constants.number (job_seen k row m.constants.number) (name_among m.progress.job.tasks t.critical) ps ≡ critical_disp plan m.constants.number m.progress.job t.critical ps
  critical_disp_same m row t there shows [] b = refl
  critical_disp_same m row t there shows (p ∷ above) b =
      let found = keyed_has (λ (v : Task). v.number) p m.progress.job.tasks b.parent b.found in
      let rename = name_among m.progress.job.tasks in
      let relabel = array_among m.progress.job.tasks in
      let names = named_frames (IsSegment m.constants) m.constants m.progress.job b.parent (order m there) found.0 in
      let slot : slot_of plan' m.constants.number p ≡ slot_of plan m.constants.number p = subst (λ i. slot_of plan' m.constants.number i ≡ slot_of plan m.constants.number i) found.1 (same_slot m there b.parent found.0) in
      ap (λ (o : Option Task). (spot_in (slot_of plan' m.constants.number p) (base_spot m.constants.number) (frames_of_task o) (rename t.critical)).disp)
      (found_by (IsSegment m.constants) m.constants m.progress.job (order m there) relabel (job_seen k row m.constants.number) (tasks_are m row there shows) p b.parent b.found)
      ∙ ap (λ (q : StackPlace). q.disp)
      (spot_same rename relabel (slot_of plan' m.constants.number p) (named b.parent.number (height b.parent.frames)) (base_spot m.constants.number) (base_spot m.constants.number) [] (λ n h. absurd h) b.parent.frames
      (falls_known rename relabel b.parent.number b.parent.frames [] names tt) t.critical
      (subst (λ (ns : List ℕ). Has ns t.critical) (sym (numbers-end b.parent.frames)) b.is_critical))
      ∙ ap (λ i. (spot_in i (base_spot m.constants.number) b.parent.frames t.critical).disp) slot
      ∙ ap (λ (o : Option Task). (spot_in (slot_of plan m.constants.number p) (base_spot m.constants.number) (frames_of_task o) t.critical).disp) (sym b.found) where
        numbers-end : (fs : List Frame) → known_numbers (map known_of fs ++ []) ≡ identities fs
        numbers-end [] = refl
        numbers-end (f ∷ below) = ap (λ ns. f.identity ∷ ns) (numbers-end below)

  task_shows : (m : SessionJob) (row : JobRow) (t : Task) (r : TaskRow) → Has s.jobs m → JobShows plan m row → Has m.progress.job.tasks t → TaskShows plan m t r
      → TaskShows plan' (member_in k row m.constants.number) (task_by (name_among m.progress.job.tasks) (array_among m.progress.job.tasks) t) r
  task_shows m row t r there shows live sh =
      let o = own m t there live in
      let runs : r.slot ≢ cpu.regs.slot → r.slot ≢ plan.running = λ ne e. ne (e ∙ (let is = runs_is x cpu plan s m tasks jobs row c (weak x cpu plan s tasks jobs c ordered stands tables) stands tables there shows t live (sym e ∙ sh.slot) in is.slot ∙ sym (stands.holds.running m t is).slot)) in
      record {
        job = sh.job;
        number = sh.number;
        slot = sh.slot ∙ sym (same_slot m there t live);
        parent = sh.parent ∙ sym (parent_same m t there t.parents o.birth);
        critical = sh.critical ∙ sym (critical_disp_same m row t there shows t.parents o.birth);
        state = sh.state ∙ sym (state_same m row t there shows live t.condition o.condition);
        segment = λ ne. sh.segment (runs ne);
        place = λ ne. sh.place (runs ne);
      }

  jobs_show : (n : ℕ) (ms : List SessionJob) (rs : List JobRow) → NumberedFrom n ms → JobsShow plan ms rs → ((m : SessionJob) → Has ms m → Has s.jobs m) → JobsShow plan' (members_from k n rs) rs
  jobs_show n [] [] o shows inside = tt
  jobs_show n [] (r ∷ rs) o shows inside = absurd shows
  jobs_show n (m ∷ ms) [] o shows inside = absurd shows
  jobs_show n (m ∷ ms) (r ∷ rs) o shows inside = grind (arith, words_is, dict, segments_long, jobs_show (n + 1) ms rs o.1 shows.1)

  running_row : (o : Option TaskRow) (running : ℕ) → ((r : TaskRow) → o ≡ Some r → Has tasks r) → RunningRow plan o running → RunningRow plan' o running
  running_row o running inside h = grind arith

  pub tables_shown : TablesShow plan' s' tasks jobs c
  tables_shown = record {
    tasks = λ r h.
        let (m, t, there, live, sh) = tables.tasks r h in
        let mo = member x cpu plan s tasks jobs c ordered stands tables m there in
        (member_in k mo.row m.constants.number, task_by (name_among m.progress.job.tasks) (array_among m.progress.job.tasks) t, mo.among, task_there x cpu plan s tasks jobs c ordered stands tables m mo.row t there mo.shows live, task_shows m mo.row t r there mo.shows live sh);
    each = λ y u hy hu.
        let b = back x cpu plan s tasks jobs c ordered stands tables y hy in
        let tb = task_back x cpu plan s tasks jobs c ordered stands tables b.member b.row u b.there b.shows (subst (λ (z : SessionJob). Has z.progress.job.tasks u) (sym b.is) hu) in
        let (r, inr', sh) = tables.each b.member tb.task b.there tb.live in
        (r, inr', subst (λ (v : Task). TaskShows plan' y v r) tb.is (subst (λ (z : SessionJob). TaskShows plan' z (task_by (name_among b.member.progress.job.tasks) (array_among b.member.progress.job.tasks) tb.task) r) b.is (task_shows b.member b.row tb.task r b.there b.shows tb.live sh)));
    once = tables.once;
    jobs = jobs_show 1 s.jobs jobs ordered.numbered tables.jobs (λ m h. h);
    counts = record {
      quantum = refl;
      made = refl;
      turn = refl;
      last_job = refl;
      last_number = refl;
      switches = refl;
      next = tables.counts.next;
      past = tables.counts.past;
      running = running_row (slice_get tasks c.running) c.running (λ r e. has_get tasks c.running r e) tables.counts.running;
    };
  }

  -- ---- the display

  display_shown : (y : SessionJob) (u : Task) → IsRunning plan' s'.jobs y u → ShowsDisplay cpu.display plan' y u
  display_shown y u r = subst (λ (v : Task). ShowsDisplay cpu.display plan' y v) b.task_is (subst (λ (z : SessionJob). ShowsDisplay cpu.display plan' z (task_by (name_among b.m.progress.job.tasks) (array_among b.m.progress.job.tasks) b.t)) b.job_is shows') where
    b : RunsBack y u
    b = runs_back y u r

    m : SessionJob
    m = b.m

    mo : MemberOf (record { core = cpu.core; regs = cpu.regs; tasks = tasks; jobs = jobs; counts = c }) plan 1 jobs b.m
    mo = member x cpu plan s tasks jobs c ordered stands tables b.m b.there

    inside : Has s'.jobs (member_in (record { core = cpu.core; regs = cpu.regs; tasks = tasks; jobs = jobs; counts = c }) b.row b.m.constants.number)
    inside = subst (λ (z : SessionJob). Has s'.jobs z) (sym b.job_is) (keyed_has number_of y.constants.number s'.jobs y r.member).0

    shows' : ShowsDisplay cpu.display plan' (member_in (record { core = cpu.core; regs = cpu.regs; tasks = tasks; jobs = jobs; counts = c }) b.row b.m.constants.number) (task_by (name_among b.m.progress.job.tasks) (array_among b.m.progress.job.tasks) b.t)
    shows' n low =
        let set' = all_in (λ (z : SessionJob). JobInOrder (IsSegment z.constants) z.constants z.progress) s'.jobs (member_in k b.row b.m.constants.number) shown_order.jobs inside in
        let o = ord x cpu plan s tasks jobs c ordered stands tables b.m b.there in
        let goes = at_level b.m.constants (constants_in k b.row b.m.constants.number) b.m.progress.job (job_seen k b.row b.m.constants.number) o.unchanging set'.unchanging o.tasks set'.tasks (array_among b.m.progress.job.tasks)
        (tasks_are b.m b.row b.there b.tells) b.t b.live n in
        let level = levels_same b.m.constants (constants_in k b.row b.m.constants.number) b.m.progress.job (job_seen k b.row b.m.constants.number) o.unchanging set'.unchanging o.tasks set'.tasks (array_among b.m.progress.job.tasks)
        (tasks_are b.m b.row b.there b.tells) b.t b.live in
        let old = stands.shows b.m b.t b.old n (omega (arith, low, level)) in
        let name = ap (λ (q : Known). q.0) goes.same in
        old
        ∙ ap (λ a. Some a) (sym (frame_address_same b.m b.row b.t b.there b.tells b.live _ goes.among))
        ∙ ap (λ i. Some (address_of plan' (spots plan' b.m.constants.number (job_seen k b.row b.m.constants.number) (task_by (name_among b.m.progress.job.tasks) (array_among b.m.progress.job.tasks) b.t) i))) (sym name)

  -- ---- the machine

  pub session_shown : x.device ≡ None → RepresentsSession x cpu plan' s'
  session_shown untold = record {
    holds = record {
      fits = plan_fits;
      memory = memory_shown x cpu plan s tasks jobs c ordered stands tables shown_order untold;
      settled = settled_shown x cpu plan s tasks jobs c ordered stands tables shown_order;
      dictionaries = dictionary_shown;
      mcp = stands.holds.mcp;
      vector = vector_shown;
      critical = critical_shown;
      live = lives;
      running = task_runs;
      none = λ e. e;
    };
    shows = display_shown;
  }
