-- The placement that a machine shows, against one by which it represents a session.
use Rattle.std.proofs.Common.{◌≡◌, ◌≢◌, ℕ, ◌+◌, ◌*◌, ◌/◌, ◌%◌, ◌^◌, ◌<◌, ◌≤◌, ◌==◌, Bool, true, false, List, [], ◌∷◌, reverse, length, Option, refl, sym, ◌∙◌, ap, subst, arith, inl, inr, lt-ltb}
use Rattle.std.specs.Prelude.{◌⊎◌, if◌then◌else◌, unwrap_or}
use Rattle.std.proofs.lemmas.List.{length-reverse}
use Rattle.std.proofs.lemmas.Bool.{ne_eqb}
use Rattle.std.proofs.lemmas.Bool.Decides.{eqb_tells}
use Rattle.std.proofs.lemmas.Option.{same_Some}
use Rattle.b67_lemmas.specs.Lists.{Has}
use Rattle.b67_lemmas.proofs.Members.{all_in, keyed_falls, has_map, has_map_back, has_reverse}
use Rattle.b67_model.specs.Keyed.{keyed}
use Rattle.b67_model.specs.Common.{Original, Array, Task, Job, SessionJob, no_array, array, Session, IsSegment, TaskInOrder, NumberedFrom, IsInOrderButPlaces}
use Rattle.b67_stack.specs.declared.Cpu.{Cpu}
use Rattle.b67_stack.specs.Represents.{Storage}
use Rattle.b67_layout.specs.Common.{Slotted, Placement, slot_of, TaskRow, JobRow, JobCounts, JobShows, JobsShow, TablesShow, JobInOrderButCounts, IsInOrderButCounts, RowsFit, RepresentsSession}
use Rattle.b67_layout.proofs.Common.{task_row, but_counts, original_of, entry_number}
use Rattle.b67_layout_shown.specs.Places.{named, name_among, array_among, task_by, array_named, originals_among, rows_down, job_placed}
use Rattle.b67_layout_shown.specs.Shown.{Sight, numbers_read, job_seen, member_in, members_from, shown, dictionary_from, segments_of, slot_numbered, home_of, placed}
use Rattle.b67_layout_shown.proofs.Tasks.{row_in}
use Rattle.b67_layout_shown.proofs.Arrays.{under_there, tasks_home}
use Rattle.b67_layout_shown.proofs.Read.{lies}
use Rattle.b67_layout_shown.proofs.Owned.{names_fall, found_array, entry_named, is_listed}
use Rattle.b67_layout_shown.proofs.Jobs.{task_number}
use Rattle.b67_layout_shown.proofs.Whole.{job_is}

-- ---- lists of jobs

numbered_low : (n : ℕ) (ms : List SessionJob) (m : SessionJob) → NumberedFrom n ms → Has ms m → n ≤ m.constants.number
numbered_low n [] m o h = absurd h
numbered_low n (y ∷ more) m o (inl e) = let same = ap (λ (z : SessionJob). z.constants.number) e in let is = o.0 in omega (arith, same, is)
numbered_low n (y ∷ more) m o (inr h) = let low = numbered_low (n + 1) more m o.1 h in omega (arith, low)

-- the row of a job, and what it is shown as
pub record MemberOf (k : Sight) (plan : Placement) (n : ℕ) (rows : List JobRow) (m : SessionJob) : Type 0 where
  pub row : JobRow
  pub shows : JobShows plan m row
  pub among : Has (members_from k n rows) (member_in k row m.constants.number)
  pub dictionary : dictionary_from rows n m.constants.number ≡ row.dictionary
  pub segments : segments_of rows n m.constants.number ≡ row.segments

pub member_of : (k : Sight) (plan : Placement) (n : ℕ) (ms : List SessionJob) (rows : List JobRow) (m : SessionJob) → NumberedFrom n ms → JobsShow plan ms rows → Has ms m → MemberOf k plan n rows m
member_of k plan n [] rows m o shows h = absurd h
member_of k plan n (y ∷ more) [] m o shows h = absurd shows
member_of k plan n (y ∷ more) (row ∷ rows) m o shows (inl e) = grind arith
member_of k plan n (y ∷ more) (row ∷ rows) m o shows (inr h) =
    let r = member_of k plan (n + 1) more rows m o.1 shows.1 h in
    let low = numbered_low (n + 1) more m o.1 h in
    let other = ne_eqb m.constants.number n (λ e. omega (arith, e, low)) in
    record {
      row = r.row;
      shows = r.shows;
      among = inr r.among;
      dictionary = ap (λ (b : Bool). if b then row.dictionary else dictionary_from rows (n + 1) m.constants.number) other ∙ r.dictionary;
      segments = ap (λ (b : Bool). if b then row.segments else segments_of rows (n + 1) m.constants.number) other ∙ r.segments;
    }

-- and back
pub record MemberBack (k : Sight) (plan : Placement) (ms : List SessionJob) (y : SessionJob) : Type 0 where
  pub member : SessionJob
  pub there : Has ms member
  pub row : JobRow
  pub shows : JobShows plan member row
  pub is : member_in k row member.constants.number ≡ y

member_back : (k : Sight) (plan : Placement) (n : ℕ) (ms : List SessionJob) (rows : List JobRow) (y : SessionJob) → NumberedFrom n ms → JobsShow plan ms rows → Has (members_from k n rows) y → MemberBack k plan ms y
member_back k plan n [] [] y o shows h = absurd h
member_back k plan n [] (row ∷ rows) y o shows h = absurd shows
member_back k plan n (m ∷ more) [] y o shows h = absurd shows
member_back k plan n (m ∷ more) (row ∷ rows) y o shows (inl e) = record { member = m; there = inl refl; row = row; shows = shows.0; is = ap (member_in k row) o.0 ∙ e }
member_back k plan n (m ∷ more) (row ∷ rows) y o shows (inr h) =
    let r = member_back k plan (n + 1) more rows y o.1 shows.1 h in record { member = r.member; there = inr r.there; row = r.row; shows = r.shows; is = r.is }

-- ---- the placement

module _ (x : Storage) (cpu : Cpu) (plan : Placement) (s : Session) (tasks : List TaskRow) (jobs : List JobRow) (c : JobCounts)
    (ordered : IsInOrderButPlaces s) (stands : RepresentsSession x cpu plan s) (tables : TablesShow plan s tasks jobs c) where
  abbrev pub k : Sight
  k = record { core = cpu.core; regs = cpu.regs; tasks = tasks; jobs = jobs; counts = c }

  abbrev image : TaskRow → Slotted
  image r = record { job = r.job; task = r.number; slot = r.slot }

  pub weak : IsInOrderButCounts s
  weak = but_counts s ordered

  pub member : (m : SessionJob) → Has s.jobs m → MemberOf (record { core = cpu.core; regs = cpu.regs; tasks = tasks; jobs = jobs; counts = c }) plan 1 jobs m
  member m there = member_of k plan 1 s.jobs jobs m ordered.numbered tables.jobs there

  pub back : (y : SessionJob) → Has (shown (record { core = cpu.core; regs = cpu.regs; tasks = tasks; jobs = jobs; counts = c })).jobs y → MemberBack (record { core = cpu.core; regs = cpu.regs; tasks = tasks; jobs = jobs; counts = c }) plan s.jobs y
  back y there = member_back k plan 1 s.jobs jobs y ordered.numbered tables.jobs there

  pub is_placed : (m : SessionJob) (row : JobRow) → Has s.jobs m → JobShows plan m row → job_seen k row m.constants.number ≡ job_placed row.rows (numbers_read cpu.core (plan.home m.constants.number)) m.progress.job
  is_placed m row there shows = job_is x cpu plan s m tasks jobs row c weak stands tables there shows

  -- a task under its name
  pub task_there : (m : SessionJob) (row : JobRow) (t : Task) → Has s.jobs m → JobShows plan m row → Has m.progress.job.tasks t
      → Has (member_in k row m.constants.number).progress.job.tasks (task_by (name_among m.progress.job.tasks) (array_among m.progress.job.tasks) t)
  task_there m row t there shows live =
      subst (λ (q : Job). Has q.tasks (task_by (name_among m.progress.job.tasks) (array_among m.progress.job.tasks) t)) (sym (is_placed m row there shows))
      (has_map (task_by (name_among m.progress.job.tasks) (array_among m.progress.job.tasks)) m.progress.job.tasks t live)

  pub record TaskBack (m : SessionJob) (u : Task) : Type 0 where
    pub task : Task
    pub live : Has m.progress.job.tasks task
    pub is : task_by (name_among m.progress.job.tasks) (array_among m.progress.job.tasks) task ≡ u

  pub task_back : (m : SessionJob) (row : JobRow) (u : Task) → Has s.jobs m → JobShows plan m row → Has (member_in k row m.constants.number).progress.job.tasks u → TaskBack m u
  task_back m row u there shows h =
      let b = has_map_back (task_by (name_among m.progress.job.tasks) (array_among m.progress.job.tasks)) m.progress.job.tasks u (subst (λ (q : Job). Has q.tasks u) (is_placed m row there shows) h) in
      record { task = b.item; live = b.among; is = b.is }

  same_row : (a b : TaskRow) → Has tasks a → Has tasks b → a.slot ≡ b.slot → a ≡ b
  same_row a b ha hb e = same_Some a b (sym (row_in tasks a tables.once ha) ∙ ap (λ n. keyed (λ (q : TaskRow). q.slot) n tasks) e ∙ row_in tasks b tables.once hb)

  -- job and number of a row tell its slot
  slot_told : (a b : TaskRow) → Has tasks a → Has tasks b → a.job ≡ b.job → a.number ≡ b.number → a.slot ≡ b.slot
  slot_told a b ha hb ej en = grind arith

  pub rows_fit : RowsFit (placed (record { core = cpu.core; regs = cpu.regs; tasks = tasks; jobs = jobs; counts = c })) (shown (record { core = cpu.core; regs = cpu.regs; tasks = tasks; jobs = jobs; counts = c })).jobs
  rows_fit = record {
    live = λ r h.
        let b = has_map_back image tasks r h in
        let (m, t, inm, int, sh) = tables.tasks b.item b.among in
        let q = member m inm in
        (member_in k q.row m.constants.number, task_by (name_among m.progress.job.tasks) (array_among m.progress.job.tasks) t, q.among, sym sh.job ∙ ap (λ (z : Slotted). z.job) b.is, task_there m q.row t inm q.shows int, sym sh.number ∙ ap (λ (z : Slotted). z.task) b.is);
    slotted = λ y u iny inu.
        let b = back y iny in
        let tb = task_back b.member b.row u b.there b.shows (subst (λ (z : SessionJob). Has z.progress.job.tasks u) (sym b.is) inu) in
        let (q, inq, sh) = tables.each b.member tb.task b.there tb.live in
        (image q, has_map image tasks q inq, sh.job ∙ ap (λ (z : SessionJob). z.constants.number) b.is, sh.number ∙ ap (λ (z : Task). z.number) tb.is);
    below = λ r h.
        let b = has_map_back image tasks r h in
        let (m, t, inm, int, sh) = tables.tasks b.item b.among in
        let a = task_row plan s.jobs m t stands.holds.fits.rows inm int in
        let low = stands.holds.fits.rows.below a.row a.among in
        let peak = stands.holds.memory.slots.regs.peak in
        let is = ap (λ (z : Slotted). z.slot) b.is in
        let e = sh.slot in
        let f = a.slot in
        omega (arith, low, peak, is, e, f);
    differ = λ a b ha hb e.
        let p = has_map_back image tasks a ha in
        let q = has_map_back image tasks b hb in
        sym p.is ∙ ap image (same_row p.item q.item p.among q.among (ap (λ (z : Slotted). z.slot) p.is ∙ e ∙ ap (λ (z : Slotted). z.slot) (sym q.is))) ∙ q.is;
    tasks_differ = λ a b ha hb ej et.
        let p = has_map_back image tasks a ha in
        let q = has_map_back image tasks b hb in
        sym p.is ∙ ap image (same_row p.item q.item p.among q.among (slot_told p.item q.item p.among q.among (ap (λ (z : Slotted). z.job) p.is ∙ ej ∙ ap (λ (z : Slotted). z.job) (sym q.is)) (ap (λ (z : Slotted). z.task) p.is ∙ et ∙ ap (λ (z : Slotted). z.task) (sym q.is)))) ∙ q.is;
  }

  -- a task's slot is the same
  pub slots_same : (m : SessionJob) (t : Task) → Has s.jobs m → Has m.progress.job.tasks t → slot_of (placed (record { core = cpu.core; regs = cpu.regs; tasks = tasks; jobs = jobs; counts = c })) m.constants.number t.number ≡ slot_of plan m.constants.number t.number
  slots_same m t there live =
      let q = member m there in
      let (r, inr', sh) = tables.each m t there live in
      let a = task_row (placed k) (shown k).jobs (member_in k q.row m.constants.number) (task_by (name_among m.progress.job.tasks) (array_among m.progress.job.tasks) t) rows_fit q.among (task_there m q.row t there q.shows live) in
      let same = rows_fit.tasks_differ a.row (image r) a.among (has_map image tasks r inr') (a.job ∙ sym sh.job) (a.number ∙ sym sh.number) in
      a.slot ∙ ap (λ (z : Slotted). z.slot) same ∙ sh.slot

  pub dictionary_same : (m : SessionJob) → Has s.jobs m → dictionary_from jobs 1 m.constants.number ≡ plan.dictionary m.constants.number
  dictionary_same m there = let q = member m there in q.dictionary ∙ q.shows.dictionary

  -- ---- arrays

  slot_by_number : (rs : List TaskRow) → ((r : TaskRow) → Has rs r → Has tasks r) → (r : TaskRow) → Has rs r → slot_numbered rs r.job r.number ≡ r.slot
  slot_by_number [] inside r h = absurd h
  slot_by_number (q ∷ more) inside r h = by (eqb_tells q.job r.job) (eqb_tells q.number r.number) h (λ z. slot_by_number more (λ w a. inside w (inr a)) r z) where
    rest : ℕ
    rest = slot_numbered more r.job r.number

    by : ((q.job == r.job ≡ true) × (q.job ≡ r.job)) ⊎ ((q.job == r.job ≡ false) × (q.job ≢ r.job)) → ((q.number == r.number ≡ true) × (q.number ≡ r.number)) ⊎ ((q.number == r.number ≡ false) × (q.number ≢ r.number))
        → Has (q ∷ more) r → (Has more r → slot_numbered more r.job r.number ≡ r.slot) → slot_numbered (q ∷ more) r.job r.number ≡ r.slot
    by (inl a) (inl b) z go =
        ap (λ (i : Bool). if i then (if q.number == r.number then q.slot else slot_numbered more r.job r.number) else slot_numbered more r.job r.number) a.0
        ∙ ap (λ (i : Bool). if i then q.slot else slot_numbered more r.job r.number) b.0 ∙ slot_told q r (inside q (inl refl)) (inside r z) a.1 b.1
    by (inl a) (inr b) (inl e) go = absurd (b.1 (ap (λ (w : TaskRow). w.number) e))
    by (inl a) (inr b) (inr z) go =
        ap (λ (i : Bool). if i then (if q.number == r.number then q.slot else slot_numbered more r.job r.number) else slot_numbered more r.job r.number) a.0
        ∙ ap (λ (i : Bool). if i then q.slot else slot_numbered more r.job r.number) b.0 ∙ go z
    by (inr a) b (inl e) go = absurd (a.1 (ap (λ (w : TaskRow). w.job) e))
    by (inr a) b (inr z) go = ap (λ (i : Bool). if i then (if q.number == r.number then q.slot else slot_numbered more r.job r.number) else slot_numbered more r.job r.number) a.0 ∙ go z

  slot_found : (m : SessionJob) (t : Task) → Has s.jobs m → Has m.progress.job.tasks t → slot_numbered tasks m.constants.number t.number ≡ slot_of plan m.constants.number t.number
  slot_found m t there live =
      let (r, hr, sh) = tables.each m t there live in
      ap (λ i. slot_numbered tasks i t.number) (sym sh.job) ∙ ap (slot_numbered tasks r.job) (sym sh.number) ∙ slot_by_number tasks (λ w a. a) r hr ∙ sh.slot

  home_frame : (j number disp : ℕ) → 1 ≤ number → disp < 2 ^ 14 → home_of k j (named number disp) ≡ cpu.regs.stacks + slot_numbered tasks j number * cpu.regs.stack_size + disp
  home_frame j number disp some small = grind arith

  pub home_row : (j n : ℕ) → n < 2 ^ 14 → home_of k j n ≡ dictionary_from jobs 1 j + 1 + segments_of jobs 1 j + n
  home_row j n small = ap (λ (b : Bool). if b then dictionary_from jobs 1 j + 1 + segments_of jobs 1 j + n else cpu.regs.stacks + slot_numbered tasks j (n / 2 ^ 14) * cpu.regs.stack_size + n % 2 ^ 14) (lt-ltb n (2 ^ 14) small)

  pub ord : (m : SessionJob) → Has s.jobs m → JobInOrderButCounts (IsSegment m.constants) m.constants m.progress
  ord m there = all_in (λ (y : SessionJob). JobInOrderButCounts (IsSegment y.constants) y.constants y.progress) s.jobs m weak.jobs there

  pub rows_are : (m : SessionJob) (row : JobRow) → JobShows plan m row → row.rows + length m.constants.segments ≡ length m.constants.dictionary.cells
  rows_are m row shows = let a = shows.segments in let b = shows.rows in omega (arith, a, b)

  pub homes_same : (m : SessionJob) (a : Array) → Has s.jobs m → Has m.progress.job.arrays a → home_of (record { core = cpu.core; regs = cpu.regs; tasks = tasks; jobs = jobs; counts = c }) m.constants.number (array_among m.progress.job.tasks a.identity) ≡ plan.home m.constants.number a.identity
  homes_same m a there live = elim (original_of m.constants m.progress.job (ord m there).tasks a live) [
    | inl d ↦
        let q = member m there in
        let e = entry_number 1 m.constants.segments (reverse m.constants.dictionary.cells) a.identity (ord m there).unchanging.dictionary (has_reverse m.constants.dictionary.cells (Original a.identity) d) in
        let n : length (reverse m.constants.dictionary.cells) ≡ length m.constants.dictionary.cells = length-reverse m.constants.dictionary.cells in
        let is = stands.holds.fits.row_homes m there a.identity e.0 (omega (arith, e.1, n)) in
        let few = (ord m there).unchanging.entries in
        let dict = dictionary_same m there in
        let segs : segments_of jobs 1 m.constants.number ≡ length m.constants.segments = q.segments ∙ q.shows.segments in
        let name = entry_named m.constants m.progress.job (λ i. []) q.row.rows (ord m there).unchanging (ord m there).tasks (rows_are m q.row q.shows) a.identity d in
        ap (home_of k m.constants.number) name ∙ home_row m.constants.number a.identity (omega (arith, e.1, n, few)) ∙ (let z : dictionary_from jobs 1 m.constants.number + 1 + segments_of jobs 1 m.constants.number + a.identity ≡ plan.home m.constants.number a.identity = omega (arith, is, dict, segs) in z)
    | inr f ↦
        let q = member m there in
        let u = under_there cpu.core x.held plan m.constants.number m.progress.job a.identity f.task.number f.task.frames f.frame f.among f.word in
        let h = tasks_home cpu.core x.held plan m.constants.number m.progress.job a.identity m.progress.job.tasks (lies x cpu plan s m tasks jobs q.row c weak stands tables there q.shows) f.task f.live u.0 u.1 in
        let own = all_in (TaskInOrder (IsSegment m.constants) m.constants m.progress.job) m.progress.job.tasks h.task (ord m there).tasks.tasks h.live in
        let high = own.not_higher in
        let small = (ord m there).unchanging.stack_high in
        let low = h.below in
        let rs = stands.holds.memory.slots.regs.stacks in
        let rz = stands.holds.memory.slots.regs.size in
        let number = task_number (IsSegment m.constants) m.constants m.progress.job h.task own in
        ap (home_of k m.constants.number) h.name ∙ home_frame m.constants.number h.task.number h.disp number (omega (arith, low, high, small))
        ∙ ap (λ n. cpu.regs.stacks + n * cpu.regs.stack_size + h.disp) (slot_found m h.task there h.live)
        ∙ ap (λ n. n + slot_of plan m.constants.number h.task.number * cpu.regs.stack_size + h.disp) rs ∙ ap (λ n. plan.stacks + slot_of plan m.constants.number h.task.number * n + h.disp) rz
        ∙ sym h.at
  ]

  -- an array under its name
  pub array_is : (m : SessionJob) (row : JobRow) (a : Array) → Has s.jobs m → JobShows plan m row → Has m.progress.job.arrays a
      → array (job_seen k row m.constants.number) (array_among m.progress.job.tasks a.identity) ≡ array_named (name_among m.progress.job.tasks) (array_among m.progress.job.tasks) (numbers_read cpu.core (plan.home m.constants.number)) a
  array_is m row a there shows live =
      let numbers = numbers_read cpu.core (plan.home m.constants.number) in
      let o = ord m there in
      let are = rows_are m row shows in
      let rename = name_among m.progress.job.tasks in
      let relabel = array_among m.progress.job.tasks in
      let falls = names_fall m.constants m.progress.job numbers row.rows o.unchanging o.tasks are in
      let found = found_array m.constants m.progress.job numbers row.rows o.unchanging o.tasks are a live in
      let item : Array = array_named rename relabel numbers (array m.progress.job a.identity) in
      let among = has_map (λ n. array_named rename relabel numbers (array m.progress.job n)) (originals_among m.progress.job.tasks (rows_down row.rows)) a.identity (is_listed m.constants m.progress.job numbers row.rows o.unchanging o.tasks are a live) in
      let name : item.identity ≡ relabel a.identity = ap (λ (b : Array). relabel b.identity) found in
      ap (λ (q : Job). array q (relabel a.identity)) (is_placed m row there shows)
      ∙ ap (λ i. unwrap_or (keyed (λ (b : Array). b.identity) i (job_placed row.rows numbers m.progress.job).arrays) no_array) (sym name)
      ∙ ap (λ (o : Option Array). unwrap_or o no_array) (keyed_falls (λ (b : Array). b.identity) (named (m.progress.job.next_task + 1) 0) (job_placed row.rows numbers m.progress.job).arrays item falls among)
      ∙ ap (array_named rename relabel numbers) found
