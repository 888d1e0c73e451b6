-- The view of what a machine shows: the same slots, and the same objects with the numbers that are in core.
use Rattle.std.proofs.Common.{◌≡◌, ◌≢◌, ℕ, ◌+◌, ◌<◌, ◌≤◌, ◌==◌, Bool, List, [], map, Option, Some, None, refl, sym, ◌∙◌, ap, subst, arith, inl, inr}
use Rattle.std.specs.Prelude.{if◌then◌else◌, flat_map}
use Rattle.std.proofs.lemmas.Bool.{ne_eqb, eq-eqb, eqb-true}
use Rattle.std.proofs.lemmas.Bool.Decides.{eqb_tells}
use Rattle.std.proofs.lemmas.Option.{none-some}
use Rattle.b67_lemmas.specs.Lists.{Has}
use Rattle.b67_lemmas.proofs.Members.{all_in, falls_low, keyed_falls, keyed_has, has_map, has_map_back, has_flat, has_flat_back, has_append_left, has_append_right, has_append_cases, find_none}
use Rattle.b67_law.proofs.Numbered.{keyed_member}
use Rattle.b67_model.specs.Keyed.{keyed}
use Rattle.b67_model.specs.Common.{Array, Task, Job, SessionJob, number_of, Session, IsSegment, IsInOrderButPlaces, ArrayInOrder, JobInOrder, array}
use Rattle.b67_stack.specs.declared.Cpu.{Cpu}
use Rattle.b67_stack.specs.Common.{Activation, stack_words, PagedObject, Free, Running, Waiting, slot_base, stack_of, NoOriginalAboveTop, Storage, Represents}
use Rattle.b67_layout.specs.Common.{Slotted, Placement, slot_of, stack_of_task, slot_with, slot_in, slot_by, slot_at, array_object, code_objects, objects_of, machine_view, TaskRow, JobRow, JobCounts, JobShows, TablesShow, RowsFit, RepresentsSession}
use Rattle.b67_layout.proofs.Rows.{task_row, finds}
use Rattle.b67_layout_shown.specs.Places.{name_among, array_among, task_by, array_named, originals_among, rows_down, job_placed}
use Rattle.b67_layout_shown.specs.Shown.{Sight, numbers_read, segments_from, job_seen, member_in, shown, placed}
use Rattle.b67_layout_shown.proofs.Member.{slot_runs, runs_is}
use Rattle.b67_layout_shown.proofs.Contents.{array_read, codes_read}
use Rattle.b67_layout_shown.proofs.Over.{read_object, Reads, represents_over}
use Rattle.b67_area.specs.declared.Kind.TheVariants as kind
use Rattle.b67_layout_shown.proofs.Renamed.{task_same}
use Rattle.b67_layout_shown.proofs.Plans.{weak, member, back, is_placed, task_there, rows_fit, rows_are, dictionary_same, slots_same, homes_same, array_is, ord}
use Rattle.b67_layout_shown.proofs.Owned.{found_array, is_listed, listed_is}

-- the slot of a live task
live_slot : (plan : Placement) (jobs : List SessionJob) (y : SessionJob) (u : Task) → RowsFit plan jobs → Has jobs y → Has y.progress.job.tasks u → keyed number_of y.constants.number jobs ≡ Some y
    → keyed (λ (v : Task). v.number) u.number y.progress.job.tasks ≡ Some u → (k : ℕ) → k ≡ slot_of plan y.constants.number u.number → slot_at plan jobs k ≡ slot_with plan k y.constants.number y.progress.job (Some u)
live_slot plan jobs y u fit in_y in_u ky ku k at =
    let a = task_row plan jobs y u fit in_y in_u in
    let f = finds (λ (r : Slotted). r.slot == k) plan.rows a.row a.among (eq-eqb a.row.slot k (sym a.slot ∙ sym at)) in
    let same : f.item ≡ a.row = fit.differ f.item a.row f.among a.among (eqb-true f.item.slot k f.passes ∙ at ∙ a.slot) in
    ap (slot_by plan jobs k) (f.found ∙ ap Some same)
    ∙ ap (λ (i : ℕ). slot_in plan k i a.row.task (keyed number_of i jobs)) a.job
    ∙ ap (slot_in plan k y.constants.number a.row.task) ky
    ∙ ap (λ (i : ℕ). slot_with plan k y.constants.number y.progress.job (keyed (λ (v : Task). v.number) i y.progress.job.tasks)) a.number
    ∙ ap (slot_with plan k y.constants.number y.progress.job) ku

-- a slot that no row has
free_slot : (plan : Placement) (jobs : List SessionJob) (k : ℕ) → ((r : Slotted) → Has plan.rows r → r.slot ≢ k) → slot_at plan jobs k ≡ Free
free_slot plan jobs k none = ap (slot_by plan jobs k) (find_none (λ (r : Slotted). r.slot == k) plan.rows (λ r h. ne_eqb r.slot k (none r h)))

module _ (x : Storage) (cpu : Cpu) (plan : Placement) (s : Session) (tasks : List TaskRow) (jobs : List JobRow) (c : JobCounts)
    (ordered : IsInOrderButPlaces s) (stands : RepresentsSession x cpu plan s) (tables : TablesShow plan s tasks jobs c)
    (shown_order : IsInOrderButPlaces (shown (record { core = cpu.core; regs = cpu.regs; tasks = tasks; jobs = jobs; counts = c }))) where
  abbrev k : Sight
  k = record { core = cpu.core; regs = cpu.regs; tasks = tasks; jobs = jobs; counts = c }

  abbrev plan' : Placement
  plan' = placed (record { core = cpu.core; regs = cpu.regs; tasks = tasks; jobs = jobs; counts = c })

  abbrev jobs' : List SessionJob
  jobs' = (shown (record { core = cpu.core; regs = cpu.regs; tasks = tasks; jobs = jobs; counts = c })).jobs

  fit' : RowsFit plan' jobs'
  fit' = rows_fit x cpu plan s tasks jobs c ordered stands tables

  born : (m : SessionJob) (t : Task) → Has s.jobs m → Has m.progress.job.tasks t → t.number < m.progress.job.next_task
  born m t there live = falls_low m.progress.job.next_task (map (λ (u : Task). u.number) m.progress.job.tasks) t.number (ord x cpu plan s tasks jobs c ordered stands tables m there).tasks.numbers (has_map (λ (u : Task). u.number) m.progress.job.tasks t live)

  -- a task's stack is the same
  stack_same : (m : SessionJob) (row : JobRow) (t : Task) → Has s.jobs m → JobShows plan m row → Has m.progress.job.tasks t → (i : ℕ)
      → stack_of_task plan' m.constants.number (job_seen k row m.constants.number) i (task_by (name_among m.progress.job.tasks) (array_among m.progress.job.tasks) t) ≡ stack_of_task plan m.constants.number m.progress.job i t
  stack_same m row t there shows live i =
      let o = ord x cpu plan s tasks jobs c ordered stands tables m there in
      task_same (IsSegment m.constants) m.constants m.progress.job o.tasks o.unchanging.stack_high (array_among m.progress.job.tasks) plan plan' m.constants.number (job_seen k row m.constants.number)
      (ap (λ (q : Job). q.tasks) (is_placed x cpu plan s tasks jobs c ordered stands tables m row there shows))
      (λ u h. slots_same x cpu plan s tasks jobs c ordered stands tables m u there h)
      (λ a h. homes_same x cpu plan s tasks jobs c ordered stands tables m a there h)
      (λ a h. ap (λ (b : Array). b.writable) (array_is x cpu plan s tasks jobs c ordered stands tables m row a there shows h)
      ∙ ap (λ (b : Array). b.writable) (sym (found m row a there shows h)))
      t live (born m t there live) i where
        found : (m : SessionJob) (row : JobRow) (a : Array) → Has s.jobs m → JobShows plan m row → Has m.progress.job.arrays a → array m.progress.job a.identity ≡ a
        found m row a there shows live = found_array m.constants m.progress.job (λ n. []) row.rows (ord x cpu plan s tasks jobs c ordered stands tables m there).unchanging (ord x cpu plan s tasks jobs c ordered stands tables m there).tasks (rows_are x cpu plan s tasks jobs c ordered stands tables m row shows) a live

  -- ---- slots

  runs_same : (m : SessionJob) (t : Task) (row : JobRow) → Has s.jobs m → JobShows plan m row → Has m.progress.job.tasks t → (i : ℕ) → i ≡ slot_of plan m.constants.number t.number → (i == cpu.regs.slot) ≡ (i == plan.running)
  runs_same m t row there shows live i e = elim (eqb_tells i cpu.regs.slot) [
    | inl q ↦
        let run = slot_runs x cpu plan s m tasks jobs row c (weak x cpu plan s tasks jobs c ordered stands tables) stands tables there shows t live (sym q.1 ∙ e) in
        q.0 ∙ sym (eq-eqb i plan.running (e ∙ sym run))
    | inr q ↦ q.0 ∙ sym (ne_eqb i plan.running (λ z.
        let is = runs_is x cpu plan s m tasks jobs row c (weak x cpu plan s tasks jobs c ordered stands tables) stands tables there shows t live (sym z ∙ e) in
        q.1 (e ∙ sym (stands.holds.running m t is).slot)))
  ]

  -- the jobs of what is shown are found by their numbers, and its tasks by theirs
  job_found : (m : SessionJob) (row : JobRow) → Has jobs' (member_in k row m.constants.number) → keyed number_of m.constants.number jobs' ≡ Some (member_in k row m.constants.number)
  job_found m row among = keyed_member 1 jobs' (member_in k row m.constants.number) shown_order.numbered among

  task_found : (m : SessionJob) (row : JobRow) (t : Task) → Has s.jobs m → JobShows plan m row → Has jobs' (member_in k row m.constants.number) → Has m.progress.job.tasks t
      → keyed (λ (v : Task). v.number) t.number (job_seen k row m.constants.number).tasks ≡ Some (task_by (name_among m.progress.job.tasks) (array_among m.progress.job.tasks) t)
  task_found m row t there shows among live =
      let o = all_in (λ (y : SessionJob). JobInOrder (IsSegment y.constants) y.constants y.progress) jobs' (member_in k row m.constants.number) shown_order.jobs among in
      keyed_falls (λ (v : Task). v.number) row.next_task (job_seen k row m.constants.number).tasks (task_by (name_among m.progress.job.tasks) (array_among m.progress.job.tasks) t) o.tasks.numbers
      (task_there x cpu plan s tasks jobs c ordered stands tables m row t there shows live)

  slot_same : (i : ℕ) → slot_at plan' jobs' i ≡ slot_at plan s.jobs i
  slot_same i = by (keyed (λ (q : TaskRow). q.slot) i tasks) refl where
    by : (o : Option TaskRow) → keyed (λ (q : TaskRow). q.slot) i tasks ≡ o → slot_at plan' jobs' i ≡ slot_at plan s.jobs i
    by (Some q) e =
        let f = keyed_has (λ (q : TaskRow). q.slot) i tasks q e in
        let (m, t, there, live, sh) = tables.tasks q f.0 in
        let mo = member x cpu plan s tasks jobs c ordered stands tables m there in
        let at : i ≡ slot_of plan m.constants.number t.number = sym f.1 ∙ sh.slot in
        let at' : i ≡ slot_of plan' m.constants.number t.number = at ∙ sym (slots_same x cpu plan s tasks jobs c ordered stands tables m t there live) in
        let t' = task_by (name_among m.progress.job.tasks) (array_among m.progress.job.tasks) t in
        let old = live_slot plan s.jobs m t stands.holds.fits.rows there live (keyed_member 1 s.jobs m ordered.numbered there)
        (keyed_falls (λ (v : Task). v.number) m.progress.job.next_task m.progress.job.tasks t (ord x cpu plan s tasks jobs c ordered stands tables m there).tasks.numbers live) i at in
        let new = live_slot plan' jobs' (member_in k mo.row m.constants.number) t' fit' mo.among (task_there x cpu plan s tasks jobs c ordered stands tables m mo.row t there mo.shows live)
        (job_found m mo.row mo.among) (task_found m mo.row t there mo.shows mo.among live) i at' in
        new
        ∙ ap (λ (st : List Activation). if i == cpu.regs.slot then Running st else Waiting st) (stack_same m mo.row t there mo.shows live i)
        ∙ ap (λ (b : Bool). if b then Running (stack_of_task plan m.constants.number m.progress.job i t) else Waiting (stack_of_task plan m.constants.number m.progress.job i t)) (runs_same m t mo.row there mo.shows live i at)
        ∙ sym old
    by None e =
        free_slot plan' jobs' i (λ r h z.
        let b = has_map_back (λ (q : TaskRow). record { job = q.job; task = q.number; slot = q.slot }) tasks r h in
        none b.item b.among (ap (λ (w : Slotted). w.slot) b.is ∙ z) e)
        ∙ sym (free_slot plan s.jobs i (λ r h z.
        let (m, t, there, ej, live, et) = stands.holds.fits.rows.live r h in
        let (q, inq, sh) = tables.each m t there live in
        let a = task_row plan s.jobs m t stands.holds.fits.rows there live in
        let same = stands.holds.fits.rows.tasks_differ a.row r a.among h (a.job ∙ ej) (a.number ∙ et) in
        none q inq (sh.slot ∙ a.slot ∙ ap (λ (w : Slotted). w.slot) same ∙ z) e)) where
          none : (q : TaskRow) → Has tasks q → q.slot ≡ i → keyed (λ (q : TaskRow). q.slot) i tasks ≡ None → ⊥
          none q h z e = let f = finds (λ (w : TaskRow). w.slot == i) tasks q h (eq-eqb q.slot i z) in none-some f.item (sym e ∙ f.found)

  -- ---- objects

  inside : (m : SessionJob) → Has s.jobs m → (t : PagedObject) → Has (objects_of plan m) t → Has (flat_map (objects_of plan) s.jobs) t
  inside m there t h = has_flat (objects_of plan) s.jobs m t there h

  array_inside : (m : SessionJob) → Has s.jobs m → (a : Array) → Has m.progress.job.arrays a → Has (flat_map (objects_of plan) s.jobs) (array_object plan m.constants.number a)
  array_inside m there a h = inside m there (array_object plan m.constants.number a) (has_append_right (code_objects plan m.constants.number 1 m.constants.segments) (map (array_object plan m.constants.number) m.progress.job.arrays) (array_object plan m.constants.number a) (has_map (array_object plan m.constants.number) m.progress.job.arrays a h))

  array_seen : (m : SessionJob) (a : Array) → Has s.jobs m → Has m.progress.job.arrays a
      → array_object plan' m.constants.number (array_named (name_among m.progress.job.tasks) (array_among m.progress.job.tasks) (numbers_read cpu.core (plan.home m.constants.number)) a) ≡ read_object x cpu.core (array_object plan m.constants.number a)
  array_seen m a there live =
      let own = all_in ArrayInOrder m.progress.job.arrays a (ord x cpu plan s tasks jobs c ordered stands tables m there).tasks.arrays live in
      ap (λ h. record { home = h; kind = if a.writable then kind.Array else kind.Row; numbers = numbers_read cpu.core (plan.home m.constants.number) a.identity }) (homes_same x cpu plan s tasks jobs c ordered stands tables m a there live)
      ∙ ap (λ (ns : List ℕ). record { home = plan.home m.constants.number a.identity; kind = if a.writable then kind.Array else kind.Row; numbers = ns })
      (array_read x cpu.core cpu.regs (machine_view plan s.jobs) stands.holds.memory plan m.constants.number a (array_inside m there a live) own.length_high)

  codes_seen : (m : SessionJob) (row : JobRow) → Has s.jobs m → JobShows plan m row
      → code_objects plan' m.constants.number 1 (member_in k row m.constants.number).constants.segments ≡ map (read_object x cpu.core) (code_objects plan m.constants.number 1 m.constants.segments)
  codes_seen m row there shows =
      let dict = shows.dictionary in
      let set = (ord x cpu plan s tasks jobs c ordered stands tables m there).unchanging in
      ap (λ n. code_objects plan' m.constants.number 1 (segments_from cpu.core (row.dictionary + 2) n)) shows.segments
      ∙ codes_read x cpu.core cpu.regs (machine_view plan s.jobs) stands.holds.memory plan plan' m.constants.number 1 m.constants.segments
      (λ t h. inside m there t (has_append_left (code_objects plan m.constants.number 1 m.constants.segments) (map (array_object plan m.constants.number) m.progress.job.arrays) t h))
      set.segments (dictionary_same x cpu plan s tasks jobs c ordered stands tables m there) (row.dictionary + 2) (omega (arith, dict))

  array_live : (m : SessionJob) (row : JobRow) (a : Array) → Has s.jobs m → JobShows plan m row → Has m.progress.job.arrays a
      → Has (job_seen k row m.constants.number).arrays (array_named (name_among m.progress.job.tasks) (array_among m.progress.job.tasks) (numbers_read cpu.core (plan.home m.constants.number)) a)
  array_live m row a there shows live =
      let o = ord x cpu plan s tasks jobs c ordered stands tables m there in
      let are = rows_are x cpu plan s tasks jobs c ordered stands tables m row shows in
      let numbers = numbers_read cpu.core (plan.home m.constants.number) in
      let named' = array_named (name_among m.progress.job.tasks) (array_among m.progress.job.tasks) numbers in
      let among = has_map (λ n. named' (array m.progress.job n)) (originals_among m.progress.job.tasks (rows_down row.rows)) a.identity (is_listed m.constants m.progress.job numbers row.rows o.unchanging o.tasks are a live) in
      subst (λ (q : Job). Has q.arrays (named' a)) (sym (is_placed x cpu plan s tasks jobs c ordered stands tables m row there shows))
      (subst (λ (b : Array). Has (job_placed row.rows numbers m.progress.job).arrays (named' b)) (found_array m.constants m.progress.job numbers row.rows o.unchanging o.tasks are a live) among)

  record ArrayBack (m : SessionJob) (b : Array) : Type 0 where
    item : Array
    live : Has m.progress.job.arrays item
    is : array_named (name_among m.progress.job.tasks) (array_among m.progress.job.tasks) (numbers_read cpu.core (plan.home m.constants.number)) item ≡ b

  array_back : (m : SessionJob) (row : JobRow) (b : Array) → Has s.jobs m → JobShows plan m row → Has (job_seen k row m.constants.number).arrays b → ArrayBack m b
  array_back m row b there shows h =
      let o = ord x cpu plan s tasks jobs c ordered stands tables m there in
      let are = rows_are x cpu plan s tasks jobs c ordered stands tables m row shows in
      let numbers = numbers_read cpu.core (plan.home m.constants.number) in
      let named' = array_named (name_among m.progress.job.tasks) (array_among m.progress.job.tasks) numbers in
      let q = has_map_back (λ n. named' (array m.progress.job n)) (originals_among m.progress.job.tasks (rows_down row.rows)) b
      (subst (λ (q : Job). Has q.arrays b) (is_placed x cpu plan s tasks jobs c ordered stands tables m row there shows) h) in
      let l = listed_is m.constants m.progress.job numbers row.rows o.unchanging o.tasks are q.item q.among in
      record { item = l.item; live = l.live; is = ap named' (sym l.is) ∙ q.is }

  pub reads : Reads x cpu.core (flat_map (objects_of plan) s.jobs) (flat_map (objects_of plan') jobs')
  reads = record {
    to = λ t h.
        let q = has_flat_back (objects_of plan) s.jobs t h in
        let mo = member x cpu plan s tasks jobs c ordered stands tables q.item q.among in
        let codes = code_objects plan' q.item.constants.number 1 (member_in k mo.row q.item.constants.number).constants.segments in
        let arrays = map (array_object plan' q.item.constants.number) (job_seen k mo.row q.item.constants.number).arrays in
        has_flat (objects_of plan') jobs' (member_in k mo.row q.item.constants.number) (read_object x cpu.core t) mo.among
        (elim (has_append_cases (code_objects plan q.item.constants.number 1 q.item.constants.segments) (map (array_object plan q.item.constants.number) q.item.progress.job.arrays) t q.inside) [
          | inl z ↦ has_append_left codes arrays (read_object x cpu.core t)
              (subst (λ (ts : List PagedObject). Has ts (read_object x cpu.core t)) (sym (codes_seen q.item mo.row q.among mo.shows)) (has_map (read_object x cpu.core) (code_objects plan q.item.constants.number 1 q.item.constants.segments) t z))
          | inr z ↦
              let b = has_map_back (array_object plan q.item.constants.number) q.item.progress.job.arrays t z in
              has_append_right codes arrays (read_object x cpu.core t)
              (subst (Has arrays) (array_seen q.item b.item q.among b.among ∙ ap (read_object x cpu.core) b.is)
              (has_map (array_object plan' q.item.constants.number) (job_seen k mo.row q.item.constants.number).arrays _ (array_live q.item mo.row b.item q.among mo.shows b.among)))
        ]);
    from = λ u h.
        let q = has_flat_back (objects_of plan') jobs' u h in
        let b = back x cpu plan s tasks jobs c ordered stands tables q.item q.among in
        let m = b.member in
        let there = subst (λ (y : SessionJob). Has (objects_of plan' y) u) (sym b.is) q.inside in
        elim (has_append_cases (code_objects plan' m.constants.number 1 (member_in k b.row m.constants.number).constants.segments) (map (array_object plan' m.constants.number) (job_seen k b.row m.constants.number).arrays) u there) [
          | inl z ↦
              let w = has_map_back (read_object x cpu.core) (code_objects plan m.constants.number 1 m.constants.segments) u (subst (λ (ts : List PagedObject). Has ts u) (codes_seen m b.row b.there b.shows) z) in
              (w.item, inside m b.there w.item (has_append_left (code_objects plan m.constants.number 1 m.constants.segments) (map (array_object plan m.constants.number) m.progress.job.arrays) w.item w.among), w.is)
          | inr z ↦
              let w = has_map_back (array_object plan' m.constants.number) (job_seen k b.row m.constants.number).arrays u z in
              let a = array_back m b.row w.item b.there b.shows w.among in
              (array_object plan m.constants.number a.item, array_inside m b.there a.item a.live, sym (array_seen m a.item b.there a.live) ∙ ap (array_object plan' m.constants.number) a.is ∙ w.is)
        ];
  }

  view_is : machine_view plan' jobs' ≡ record (machine_view plan s.jobs) { objects = flat_map (objects_of plan') jobs' }
  view_is = grind (arith, slot_same)

  pub memory_shown : x.device ≡ None → Represents x cpu.core cpu.regs (machine_view plan' jobs')
  memory_shown untold = subst (Represents x cpu.core cpu.regs) (sym view_is) (represents_over x cpu.core cpu.regs (machine_view plan s.jobs) (flat_map (objects_of plan') jobs') stands.holds.memory reads untold)

  pub settled_shown : NoOriginalAboveTop (machine_view plan' jobs')
  settled_shown = subst NoOriginalAboveTop (sym view_is) (λ u hu i small low high.
      let (t, ht, et) = reads.from u hu in
      let home = ap (λ (q : PagedObject). q.home) et in
      subst (λ h. h ≤ slot_base (machine_view plan s.jobs) i + stack_words (stack_of (slot_at plan s.jobs i))) home
      (stands.holds.settled t ht i small (omega (arith, home, low)) (omega (arith, home, high))))
