-- A number stored into an element of a present array: the machine represents the session with that array changed.
use Rattle.std.proofs.Common.{◌≡◌, ◌≢◌, ℕ, ◌+◌, ◌<◌, ◌≤◌, List, [], ◌∷◌, flat_map, length, Some, sym, ◌∙◌, ap, arith, Bool, true, ⊎_elim, subst, slice_set}
use Rattle.std.specs.List.{slice_get}
use Rattle.std.proofs.Math.ListN.{length-set}
use Rattle.b67_core.proofs.Writes.{slice_get-set_other}
use Rattle.b67_word.specs.Tagged.{Tagged, word}
use Rattle.b67_area.specs.declared.Kind.TheVariants as kind
use Rattle.b67_area.proofs.Laws.{area_inside}
use Rattle.b67_lemmas.specs.Lists.{Has}
use Rattle.b67_lemmas.proofs.Members.{keyed_has}
use Rattle.b67_model.specs.Keyed.{keyed}
use Rattle.b67_model.specs.Common.{Array, Task, Job, JobProgress, SessionJob, with_element, number_of, Session}
use Rattle.b67_model.specs.Arrays as Arrays
use Rattle.b67_layout.specs.Common.{IsInOrderButCounts, Placement, slot_of, array_object, objects_of, machine_view, RowsFit, DictionariesFollow, RowHomes, PlanFits, RepresentsDictionary, vector_word, critical_mark, RepresentsTask, IsRunning, ShowsDisplay, SessionHolds, RepresentsSession}
use Rattle.b67_stack.specs.declared.Cpu.{Cpu}
use Rattle.b67_stack.specs.Common.{PagedObject, Slot, MachineView, NoOriginalAboveTop, Storage, Represents, info_of}
use Rattle.b67_layout.proofs.Common.{with_course, member-same, slot_below, change-has, change-kept, dictionary_below, running_only}
use Rattle.b67_layout_step.proofs.Elements.{with_number, Replaces, Represents-element}
use Rattle.b67_layout_step.proofs.Arrays.{number_renumbers, mark_same, slots_same}
use Rattle.b67_layout_step.proofs.Objects.{old_object, replaces}

-- the display
pub Shows-element : (display : List ℕ) (plan : Placement) (m : SessionJob) (t : Task) (id i v : ℕ) → ShowsDisplay display plan m t → ShowsDisplay display plan (record m { progress = record m.progress { job = with_element m.progress.job id i v } }) t
Shows-element display plan m t id i v shown n up = grind arith

module _ (x : Storage) (old : Cpu) (plan : Placement) (s : Session) (m : SessionJob) (t : Task) (o : IsInOrderButCounts s) (h : RepresentsSession x old plan s) (runs : IsRunning plan s.jobs m t)
    (a : Array) (found : keyed (λ (z : Array). z.identity) a.identity m.progress.job.arrays ≡ Some a) (writable : a.writable ≡ true) (i v b : ℕ) (low : i < length a.numbers) (held : (x.held (plan.home m.constants.number a.identity)).area ≡ Some b) where
  abbrev pub job' : Job
  job' = with_element m.progress.job a.identity i v

  abbrev pub c' : JobProgress
  c' = record m.progress { job = with_element m.progress.job a.identity i v }

  abbrev pub moved : SessionJob
  moved = record m { progress = record m.progress { job = with_element m.progress.job a.identity i v } }

  abbrev pub jobs' : List SessionJob
  jobs' = with_course s.jobs m.constants.number (record m.progress { job = with_element m.progress.job a.identity i v })

  abbrev pub s' : Session
  s' = record s { jobs = with_course s.jobs m.constants.number (record m.progress { job = with_element m.progress.job a.identity i v }) }

  abbrev pub new : List Tagged
  new = slice_set old.core (b + i) (word 0 v)

  abbrev object : PagedObject
  object = array_object plan m.constants.number a

  has_m : Has s.jobs m
  has_m = (keyed_has number_of m.constants.number s.jobs m runs.member).0

  is_array : object.kind ≡ kind.Array
  is_array = ap (λ (w : Bool). Rattle.std.specs.Prelude.if◌then◌else◌ w kind.Array kind.Row) writable

  has_object : Has (machine_view plan s.jobs).objects object
  has_object = old_object x old.core old.regs plan s o h.holds.fits h.holds.memory m runs.member a found (Arrays.with_number i v) (number_renumbers i v)

  re : Replaces (machine_view plan s.jobs).objects (flat_map (objects_of plan) jobs') object i v
  re =
      let long = length-set a.numbers i v in
      let l = h.holds.memory.slots.laid.lengths object has_object in
      let k = replaces x old.core old.regs plan s o h.holds.fits h.holds.memory m runs.member a found (Arrays.with_number i v) (number_renumbers i v) (omega (arith, l.0, long)) (omega (arith, l.1, long)) in
      record { new = k.new; each = k.each; kept = k.kept }

  above : x.low < b
  above =
      let q = h.holds.memory.owned.of_held (plan.home m.constants.number a.identity) b held in
      (area_inside old.core x.low x.spans b (info_of x q.0) h.holds.memory.directory q.3).0

  same : (k : ℕ) → k ≤ x.low → slice_get (slice_set old.core (b + i) (word 0 v)) k ≡ slice_get old.core k
  same k down = slice_get-set_other old.core (b + i) k (word 0 v) (λ z. omega (arith, z, down, above))

  machine_view_is : machine_view plan (with_course s.jobs m.constants.number (record m.progress { job = with_element m.progress.job a.identity i v })) ≡ record (machine_view plan s.jobs) { objects = flat_map (objects_of plan) (with_course s.jobs m.constants.number (record m.progress { job = with_element m.progress.job a.identity i v })) }
  machine_view_is =
      let F : (ℕ → Slot) → MachineView = λ slots. record { stacks = plan.stacks; size = plan.size; peak = plan.peak; slots = slots; objects = flat_map (objects_of plan) jobs' } in
      ap F (slots_same plan s.jobs m a.identity (Arrays.with_number i v) (number_renumbers i v) runs.member)

  memory : Represents x (slice_set old.core (b + i) (word 0 v)) old.regs (machine_view plan (with_course s.jobs m.constants.number (record m.progress { job = with_element m.progress.job a.identity i v })))
  memory =
      let P : MachineView → Type 0 = λ p. Represents x (slice_set old.core (b + i) (word 0 v)) old.regs p in
      subst P (sym machine_view_is) (Represents-element x old.core old.regs (machine_view plan s.jobs) (flat_map (objects_of plan) jobs') object i v b h.holds.memory has_object is_array low held re)

  settled : NoOriginalAboveTop (machine_view plan (with_course s.jobs m.constants.number (record m.progress { job = with_element m.progress.job a.identity i v })))
  settled =
      let P : MachineView → Type 0 = λ p. NoOriginalAboveTop p in
      let now : NoOriginalAboveTop (record (machine_view plan s.jobs) { objects = flat_map (objects_of plan) jobs' }) = λ u int k small from up. ⊎_elim
      (λ (e : u ≡ with_number i v object).
      (let home : u.home ≡ object.home = ap (λ (z : PagedObject). z.home) e in
      let was = h.holds.settled object has_object k small (omega (arith, from, home)) (omega (arith, up, home)) in
      omega (arith, was, home)))
      (λ q. h.holds.settled u q.0 k small from up)
      (re.each u int) in
      subst P (sym machine_view_is) now

  -- each job is an old one or the one that moved
  for_members : (P : SessionJob → Type 0) → ((y : SessionJob) → Has s.jobs y → P y) → P moved → (y : SessionJob) → Has jobs' y → P y
  for_members P before here y in_y = ⊎_elim (λ k. before y k) (λ (e : y ≡ moved). subst P (sym e) here) (change-has number_of m.constants.number (λ (z : SessionJob). record z { progress = c' }) s.jobs m runs.member y in_y)

  for_tasks : (P : SessionJob → Task → Type 0) → ((y : SessionJob) (u : Task) → Has s.jobs y → Has y.progress.job.tasks u → P y u) → ((u : Task) → Has m.progress.job.tasks u → P moved u) → (y : SessionJob) (u : Task) → Has jobs' y → Has y.progress.job.tasks u → P y u
  for_tasks P before here y u in_y in_u = for_members (λ z. Has z.progress.job.tasks u → P z u) (λ z in_z in_u. before z u in_z in_u) (λ in_u. here u in_u) y in_y in_u

  follow : (from : ℕ) (xs : List SessionJob) → DictionariesFollow plan from xs → DictionariesFollow plan from (with_course xs m.constants.number c')
  follow from [] d = d
  follow from (y ∷ more) d = grind (arith, follow (from + (2 + length y.constants.dictionary.cells)) more d.1)

  rows : RowsFit plan jobs'
  rows = let fit = h.holds.fits.rows in record {
    live = λ q in_q.
        let (y, u, in_y, ej, in_u, et) = fit.live q in_q in
        ⊎_elim
        (λ (k : Has jobs' y). (y, u, k, ej, in_u, et))
        (λ k.
        let in_m : Has m.progress.job.tasks u = (let Q : SessionJob → Type 0 = λ z. Has z.progress.job.tasks u in subst Q k.0 in_u) in
        let ej' : m.constants.number ≡ q.job = ap (λ (z : SessionJob). z.constants.number) (sym k.0) ∙ ej in
        (moved, u, k.1, ej', in_m, et))
        (change-kept number_of m.constants.number (λ (z : SessionJob). record z { progress = c' }) s.jobs m runs.member y in_y);
    slotted = for_tasks (λ y u. (q : Rattle.b67_layout.specs.Placement.Slotted) × Has plan.rows q × (q.job ≡ y.constants.number) × (q.task ≡ u.number)) fit.slotted (λ u in_u. fit.slotted m u has_m in_u);
    below = fit.below;
    differ = fit.differ;
    tasks_differ = fit.tasks_differ;
  }

  fits : PlanFits plan s'
  fits = record {
    rows = rows;
    peak = h.holds.fits.peak;
    few = h.holds.fits.few;
    sizes = for_members (λ y. y.constants.stack_size ≡ plan.size) h.holds.fits.sizes (h.holds.fits.sizes m has_m);
    dictionaries = follow 160 s.jobs h.holds.fits.dictionaries;
    row_homes = for_members (λ y. RowHomes plan y) h.holds.fits.row_homes (h.holds.fits.row_homes m has_m);
  }

  still : IsRunning plan jobs' moved t
  still = record { member = member-same s.jobs m.constants.number c' m runs.member; task = runs.task; slot = runs.slot }

  task_stands : RepresentsTask old.regs plan moved t
  task_stands = let q = h.holds.running m t runs in record { slot = q.slot; dict = q.dict; entries = q.entries; segment = q.segment; place = q.place }

  slot_small : plan.running ≢ 255
  slot_small e = let d = slot_below plan s.jobs m t h.holds.fits.rows has_m (keyed_has (λ (u : Task). u.number) t.number m.progress.job.tasks t runs.task).0 in let few = h.holds.fits.few in let r = runs.slot in omega (arith, e, d, few, r)

  -- all words up to the first area's are as before, and what lies there
  stacks_under : plan.stacks ≤ x.low
  stacks_under = let e = h.holds.memory.slots.laid.low in omega (arith, e)

  vector : (y : SessionJob) (u : Task) → Has s.jobs y → Has y.progress.job.tasks u → slice_get (slice_set old.core (b + i) (word 0 v)) (32 + slot_of plan y.constants.number u.number) ≡ Some (vector_word plan y.constants.number u.parents)
  vector y u in_y in_u = same (32 + slot_of plan y.constants.number u.number) (let d = slot_below plan s.jobs y u h.holds.fits.rows in_y in_u in let few = h.holds.fits.few in let first = h.holds.memory.slots.laid.first in omega (arith, d, few, first, stacks_under)) ∙ h.holds.vector.live y u in_y in_u

  dictionary : (y : SessionJob) → Has s.jobs y → RepresentsDictionary (slice_set old.core (b + i) (word 0 v)) plan y
  dictionary y in_y = grind (arith, dictionary_below, same)

  SessionHolds-element : SessionHolds x (slice_set old.core (b + i) (word 0 v)) old.regs old.critical plan s'
  SessionHolds-element = record {
    fits = fits;
    memory = memory;
    settled = settled;
    dictionaries = for_members (RepresentsDictionary (slice_set old.core (b + i) (word 0 v)) plan) dictionary (let d = dictionary m has_m in record { mark = d.mark; entries = d.entries });
    mcp = (let first = h.holds.memory.slots.laid.first in record { mark = same 0 (omega (arith, first)) ∙ h.holds.mcp.mark; intrinsics = λ k down up. same k (omega (arith, up, first, stacks_under)) ∙ h.holds.mcp.intrinsics k down up });
    vector = record {
      live = for_tasks (λ y u. slice_get (slice_set old.core (b + i) (word 0 v)) (32 + slot_of plan y.constants.number u.number) ≡ Some (vector_word plan y.constants.number u.parents)) vector (λ u in_u. vector m u has_m in_u);
      free = λ k small others. same (32 + k) (let first = h.holds.memory.slots.laid.first in omega (arith, small, first, stacks_under)) ∙ h.holds.vector.free k small others;
    };
    critical = record {
      live = for_tasks (λ y u. slice_get old.critical (slot_of plan y.constants.number u.number) ≡ Some (critical_mark y.progress.job u.frames)) h.holds.critical.live
          (λ u in_u. h.holds.critical.live m u has_m in_u ∙ ap Some (sym (mark_same plan m.constants.number m.progress.job a.identity (Arrays.with_number i v) (number_renumbers i v) u.frames)));
      free = h.holds.critical.free;
    };
    live = λ z. (moved, t, still);
    running = λ y u q. running_only plan jobs' moved y t u (RepresentsTask old.regs plan) rows still q task_stands;
    none = λ e. absurd (slot_small e);
  }

  -- the whole machine
  pub RepresentsSession-element : RepresentsSession x (record old { core = slice_set old.core (b + i) (word 0 v) }) plan (record s { jobs = with_course s.jobs m.constants.number (record m.progress { job = with_element m.progress.job a.identity i v }) })
  RepresentsSession-element = record {
    holds = SessionHolds-element;
    shows = λ y u q. running_only plan jobs' moved y t u (ShowsDisplay old.display plan) rows still q (Shows-element old.display plan m t a.identity i v (h.shows m t runs));
  }

  pub still_runs : IsRunning plan (with_course s.jobs m.constants.number (record m.progress { job = with_element m.progress.job a.identity i v })) (record m { progress = record m.progress { job = with_element m.progress.job a.identity i v } }) t
  still_runs = still
