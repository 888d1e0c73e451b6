-- The machine with the original of a new array on the running task's top frame.
use Rattle.std.proofs.Common.{◌≡◌, ◌≢◌, ℕ, ◌+◌, ◌<◌, ◌≤◌, ◌^◌, List, [], ◌∷◌, map, length, Some, refl, sym, ◌∙◌, ap, arith, true, inl, inr, ◌⊎◌, subst, slice_set}
use Rattle.std.specs.Prelude.{if◌then◌else◌, flat_map}
use Rattle.std.specs.List.{AllByRecursion, slice_get}
use Rattle.std.proofs.lemmas.Bool.{cases_eq, cases_lt}
use Rattle.b67_word.specs.Tagged.{Tagged}
use Rattle.b67_area.specs.declared.Kind.TheVariants as kind
use Rattle.b67_ctl.specs.declared.registers.Regs.{Regs}
use Rattle.b67_core.proofs.Writes.{slice_get-set_same, slice_get-set_other}
use Rattle.b67_lemmas.specs.Lists.{Has}
use Rattle.b67_lemmas.proofs.Members.{has_append_cases, has_append_left, has_append_right, has_flat, has_flat_back, keyed_has}
use Rattle.b67_model.specs.Common.{Word, Original, Frame, Array, Task, Job, JobProgress, SessionJob, top, with_top_cells, array, number_of, Session}
use Rattle.b67_model.specs.Keyed.{keyed, change_keyed}
use Rattle.b67_stack.specs.declared.Cpu.{Cpu}
use Rattle.b67_stack.specs.Shapes as Shapes
use Rattle.b67_stack.specs.Common.{Shape, IsOriginal, nowhere, StackPlace, Activation, stack_words, PagedObject, Running, stack_of, MachineView, NoOriginalAboveTop, AreZero, slot_base, home_word_of, Storage, RepresentsRunning, Represents, pushed, with_stack, stack_with_cells, top_cells}
use Rattle.b67_stack.proofs.Bases.{base-apart}
use Rattle.b67_stack.proofs.Slots.{by_slot, running_fits}
use Rattle.b67_stack.proofs.Helds.{held-same}
use Rattle.b67_layout.specs.Common.{Placement, slot_of, spot_in, outer_spots, spots, shape, stack_of_task, code_objects, array_object, objects_of, machine_view, RepresentsTask, IsRunning, ShowsDisplay, SessionHolds, RepresentsSession, with_job, cells}
use Rattle.b67_layout.proofs.Common.{with_course, member-same, row_of, Replaces, change-has, change-kept, SessionHoldsBut-after, for_running, activations-with, seen-with, critical-with, Shows-same, spots-with, of_objects}
use Rattle.b67_layout.proofs.Replaces.{outer_spots-after}
use Rattle.b67_layout.proofs.Nowhere.{SameArray, SameArrays, activations-same}
use Rattle.b67_layout.proofs.Slots.{OthersSame, stack-after, slots-after}
use Rattle.b67_exec_cells.proofs.Replaced.{cells-are}
use Rattle.b67_mcp.specs.Declaring.{storage_without}
use Rattle.b67_mcp.proofs.Pushed.{stack, on_slot, registers, room}
use Rattle.b67_mcp.proofs.Avoiding.{Avoids, FramesAvoid, JobAvoids}
use Rattle.b67_mcp.proofs.Unheld.{Represents-unheld}
use Rattle.b67_mcp.proofs.Added.{Fresh, Added, each, Represents-added}
use Rattle.b67_mcp.proofs.OriginalsOnTop.{next_apart, Represents-original}
use Rattle.b67_law.proofs.Looks.{known_cells}

-- the task with the original of an array on top
abbrev pub task_with : Task → ℕ → Task
task_with t n = record t { frames = with_top_cells t.frames (Original n ∷ cells t) }

-- a job that differs by a new array, whose original the task has on top and which stands at an address
pub record Declares (plan : Placement) (m : SessionJob) (t : Task) (job : Job) (a : Array) (at : ℕ) : Type 0 where
  pub arrays : job.arrays ≡ a ∷ m.progress.job.arrays
  pub tasks : job.tasks ≡ change_keyed (λ (u : Task). u.number) t.number (λ (u : Task). task_with t a.identity) m.progress.job.tasks
  pub home : plan.home m.constants.number a.identity ≡ at
  pub writable : a.writable ≡ true
  pub zeros : AreZero a.numbers
  pub long : (0 < length a.numbers) × (length a.numbers < 2 ^ 16)
  pub avoids : JobAvoids a.identity m.progress.job

module _ (old new : Job) (a : Array) (is : new.arrays ≡ a ∷ old.arrays) where
  array_same : (i : ℕ) → i ≢ a.identity → array new i ≡ array old i
  array_same i ne = grind arith

  word_same : (w : Word) → Avoids a.identity w → SameArray new old w
  word_same w ne = grind arith

  words_same : (ws : List Word) → AllByRecursion (Avoids a.identity) ws → AllByRecursion (SameArray new old) ws
  words_same [] ne = tt
  words_same (w ∷ ws) ne = (word_same w ne.0, words_same ws ne.1)

  pub frames_same : (fs : List Frame) → FramesAvoid a.identity fs → SameArrays new old fs
  frames_same [] ne = tt
  frames_same (f ∷ fs) ne = (words_same f.cells ne.0, frames_same fs ne.1)

-- with an original more on top
original_same : (old new : Job) (n : ℕ) (fs : List Frame) (ws : List Word) → AllByRecursion (SameArray new old) ws → SameArrays new old fs → SameArrays new old (with_top_cells fs (Original n ∷ ws))
original_same old e n fs ws u h = grind arith

top_same : (old new : Job) (fs : List Frame) → SameArrays new old fs → AllByRecursion (SameArray new old) (top fs).cells
top_same old e fs h = grind arith

-- the objects with the array's
module _ (plan : Placement) (jobs : List SessionJob) (m : SessionJob) (t : Task) (job : Job) (a : Array) (at : ℕ) (d : Declares plan m t job a at) (found : keyed number_of m.constants.number jobs ≡ Some m) where
  abbrev pub progress : JobProgress
  progress = record m.progress { job = job }

  abbrev pub moved : SessionJob
  moved = record m { progress = record m.progress { job = job } }

  abbrev pub object : PagedObject
  object = record { home = at; kind = kind.Array; numbers = a.numbers }

  object_is : array_object plan m.constants.number a ≡ object
  object_is = grind arith

  abbrev codes : List PagedObject
  codes = code_objects plan m.constants.number 1 m.constants.segments

  in_arrays : (z : PagedObject) → Has (map (array_object plan m.constants.number) (a ∷ m.progress.job.arrays)) z → Has (objects_of plan moved) z
  in_arrays z h = has_append_right codes (map (array_object plan m.constants.number) job.arrays) z (subst (λ (xs : List Array). Has (map (array_object plan m.constants.number) xs) z) (sym d.arrays) h)

  in_new : (z : PagedObject) → Has (objects_of plan m) z → Has (objects_of plan moved) z
  in_new z h = grind (arith, has_append_cases, has_append_left, in_arrays)

  in_old : (z : PagedObject) → Has (objects_of plan moved) z → (z ≡ object) ⊎ Has (objects_of plan m) z
  in_old z h = grind (arith, has_append_cases, has_append_left, has_append_right)

  now : Has (with_course jobs m.constants.number progress) moved
  now = (keyed_has number_of m.constants.number (with_course jobs m.constants.number progress) moved (member-same jobs m.constants.number progress m found)).0

  pub objects_added : Added (flat_map (objects_of plan) jobs) object (flat_map (objects_of plan) (with_course jobs m.constants.number progress))
  objects_added = record {
    there = λ z h.
        let r = has_flat_back (objects_of plan) jobs z h in
        elim (change-kept number_of m.constants.number (λ (y : SessionJob). record y { progress = progress }) jobs m found r.item r.among) [
          | inl k ↦ has_flat (objects_of plan) (with_course jobs m.constants.number progress) r.item z k r.inside
          | inr k ↦ has_flat (objects_of plan) (with_course jobs m.constants.number progress) moved z now (in_new z (subst (λ (y : SessionJob). Has (objects_of plan y) z) k.0 r.inside))
        ];
    mine = has_flat (objects_of plan) (with_course jobs m.constants.number progress) moved object now (in_arrays object (inl object_is));
    back = λ z h.
        let r = has_flat_back (objects_of plan) (with_course jobs m.constants.number progress) z h in
        elim (change-has number_of m.constants.number (λ (y : SessionJob). record y { progress = progress }) jobs m found r.item r.among) [
          | inl k ↦ inr (has_flat (objects_of plan) jobs r.item z k r.inside)
          | inr e ↦ elim (in_old z (subst (λ (y : SessionJob). Has (objects_of plan y) z) e r.inside)) [
            | inl i ↦ inl i
            | inr i ↦ inr (has_flat (objects_of plan) jobs m z (keyed_has number_of m.constants.number jobs m found).0 i)
          ]
        ];
  }

module _ (x : Storage) (cpu : Cpu) (plan : Placement) (s : Session) (m : SessionJob) (t : Task) (h : RepresentsSession x cpu plan s) (runs : IsRunning plan s.jobs m t) (job : Job) (a : Array) (d : Declares plan m t job a (cpu.regs.s + 1))
    (w : Tagged) (original : IsOriginal w) (is : w ≡ home_word_of kind.Array (length a.numbers) nowhere) (higher : cpu.regs.s < cpu.regs.losr) where
  abbrev at : ℕ
  at = cpu.regs.s + 1

  abbrev y : Storage
  y = storage_without x at

  abbrev p : MachineView
  p = machine_view plan s.jobs

  abbrev k : ℕ
  k = plan.running

  abbrev before : List Activation
  before = stack x cpu plan s m t h runs

  abbrev after : List Activation
  after = stack_with_cells before (Shapes.Original at ∷ top_cells before)

  abbrev core' : List Tagged
  core' = slice_set cpu.core at w

  abbrev regs' : Regs
  regs' = record cpu.regs { s = at }

  abbrev new : PagedObject
  new = record { home = at; kind = kind.Array; numbers = a.numbers }

  abbrev jobs' : List SessionJob
  jobs' = with_course s.jobs m.constants.number (record m.progress { job = job })

  abbrev all : List PagedObject
  all = flat_map (objects_of plan) jobs'

  abbrev t' : Task
  t' = task_with t a.identity

  has_m : Has s.jobs m
  has_m = (keyed_has number_of m.constants.number s.jobs m runs.member).0

  has_t : Has m.progress.job.tasks t
  has_t = (keyed_has (λ (u : Task). u.number) t.number m.progress.job.tasks t runs.task).0

  apart : (z : PagedObject) → Has p.objects z → z.home ≢ at
  apart = next_apart x cpu.core cpu.regs p k h.holds.memory h.holds.settled w original higher before (on_slot x cpu plan s m t h runs)

  -- where the word isn't held yet
  unheld : Represents y cpu.core cpu.regs p
  unheld = Represents-unheld x cpu.core cpu.regs p at h.holds.memory apart

  holds : SessionHolds y cpu.core cpu.regs cpu.critical plan s
  holds = grind (arith, unheld)

  with_original : Represents y core' regs' (with_stack p k after) × NoOriginalAboveTop (with_stack p k after) × (stack_words after ≡ stack_words before + 1)
  with_original = Represents-original y cpu.core cpu.regs p k unheld h.holds.settled w original higher before (on_slot x cpu plan s m t h runs)

  g : RepresentsRunning cpu.regs p k before
  g = registers x cpu plan s m t h runs

  some_room : 0 < plan.size
  some_room = let f = (running_fits x cpu.core cpu.regs p k before h.holds.memory (on_slot x cpu plan s m t h runs)).0 in omega (arith, f.fits)

  elsewhere : (i : ℕ) → i ≢ k → slot_base p i ≤ at → at < slot_base p i + plan.size → ⊥
  elsewhere i ne low up = elim (cases_lt i k) [
    | inl b ↦ let z : ⊥ = omega (arith, base-apart p i k b, up, g.top) in z
    | inr b ↦ let z : ⊥ = omega (arith, base-apart p k i (omega (arith, b, ne)), low, g.last, higher) in z
  ]

  fresh : Fresh y core' (with_stack p k after) new
  fresh =
      let r = room x cpu plan s m t h runs in
      record {
        array = refl;
        zeros = d.zeros;
        long = d.long;
        apart = apart;
        low = omega (arith, r.low, r.mark, r.top);
        high = omega (arith, r.under, higher);
        not_base = λ i hi e. elim (cases_eq i k) [
          | inl z ↦ let same : slot_base p i ≡ slot_base p k = ap (slot_base p) z in let b : ⊥ = omega (arith, e, same, g.top) in b
          | inr z ↦ elsewhere i z (omega (arith, e)) (omega (arith, e, some_room))
        ];
        held = held-same x.held at nowhere;
        word = slice_get-set_same cpu.core at w (omega (arith, r.under, r.inside, higher)) ∙ ap Some is;
      }

  added : Added p.objects new all
  added = objects_added plan s.jobs m t job a at d runs.member

  by : Replaces m.progress.job job t t'
  by = record { there = runs.task; number = refl; critical = refl; parents = refl; tasks = d.tasks; seen = λ c q outer id depended. seen-with t.frames (Original a.identity ∷ cells t) c q outer id }

  own : SameArrays job m.progress.job t.frames
  own = frames_same m.progress.job job a d.arrays t.frames (d.avoids.tasks t has_t)

  others : OthersSame job m.progress.job t
  others u i ne = frames_same m.progress.job job a d.arrays u.frames (d.avoids.tasks u i)

  stack_is : stack_of_task plan m.constants.number job k t' ≡ after
  stack_is =
      let j = m.constants.number in
      let outer = outer_spots plan j m.progress.job t.critical t.parents in
      let shaped = shape plan j m.progress.job (spot_in k outer t.frames) in
      stack-after plan j m.progress.job job t t' by k
      ∙ activations-same plan j job m.progress.job k outer t'.frames (original_same m.progress.job job a.identity t.frames (cells t) (top_same m.progress.job job t.frames own) own)
      ∙ activations-with plan j m.progress.job k outer t.frames (Original a.identity ∷ cells t)
      ∙ ap (λ (i : ℕ). stack_with_cells before (Shapes.Original i ∷ map shaped (cells t))) d.home
      ∙ ap (λ (cs : List Shape). stack_with_cells before (Shapes.Original at ∷ cs)) (sym (cells-are plan j m.progress.job k outer t.frames))

  machine_view_is : machine_view plan jobs' ≡ of_objects (with_stack p k after) all
  machine_view_is =
      let row = row_of plan s.jobs m t h.holds.fits.rows has_m has_t runs.slot in
      grind (arith, slots-after, by, others, stack_is)

  settled' : NoOriginalAboveTop (of_objects (with_stack p k after) all)
  settled' = each p.objects new all added (λ z. (i : ℕ) → i < plan.peak → slot_base p i ≤ z.home → z.home < slot_base p i + plan.size → z.home ≤ slot_base p i + stack_words (stack_of ((with_stack p k after).slots i)))
      (λ i hi low up. by_slot p k (Running after) (λ q st. slot_base p q ≤ at → at < slot_base p q + plan.size → at ≤ slot_base p q + stack_words (stack_of st))
      (λ l u. omega (arith, g.top, with_original.2)) (λ q hq ne l u. absurd (elsewhere q ne l u)) i hi low up)
      (λ z int i hi low up. with_original.1 z int i hi low up)

  task_stands : RepresentsTask regs' plan (record m { progress = record m.progress { job = job } }) t'
  task_stands = let r = h.holds.running m t runs in record { slot = r.slot; dict = r.dict; entries = r.entries; segment = r.segment; place = r.place }

  pub stands_declared : RepresentsSession (storage_without x (cpu.regs.s + 1)) (pushed cpu w) plan (with_job s m job)
  stands_declared =
      let c : JobProgress = record m.progress { job = job } in
      let low : (i : ℕ) → i < plan.stacks → slice_get core' i ≡ slice_get cpu.core i = λ i small. slice_get-set_other cpu.core at i w (λ e. omega (arith, e, small, g.first, g.top)) in
      let memory : Represents y core' regs' (machine_view plan jobs') = subst (λ (q : MachineView). Represents y core' regs' q) (sym machine_view_is) (Represents-added y core' regs' (with_stack p k after) new all with_original.0 fresh added) in
      let places : (id : ℕ) → spots plan m.constants.number job t' id ≡ spots plan m.constants.number m.progress.job t id = λ id.
      (let outer : outer_spots plan m.constants.number job t.critical t.parents ≡ outer_spots plan m.constants.number m.progress.job t.critical t.parents =
      λ z i. outer_spots-after plan m.constants.number m.progress.job job t t' by t.parents t.critical (inr (t, has_t, refl)) i z in
      ap (λ (q : ℕ → StackPlace). spot_in (slot_of plan m.constants.number t.number) q t'.frames id) outer
      ∙ spots-with (slot_of plan m.constants.number t.number) (outer_spots plan m.constants.number m.progress.job t.critical t.parents) t.frames (Original a.identity ∷ cells t) id) in
      let shown : ShowsDisplay cpu.display plan (record m { progress = c }) t' = Shows-same cpu.display plan m c t t' runs.task d.tasks (known_cells t.frames (Original a.identity ∷ cells t)) places (h.shows m t runs) in
      record {
        holds = SessionHoldsBut-after [] [] y cpu.core core' cpu.regs regs' cpu.critical plan s m c t t' holds runs by low (critical-with m.progress.job t.frames (Original a.identity ∷ cells t)) memory (subst NoOriginalAboveTop (sym machine_view_is) settled') task_stands;
        shows = for_running [] [] y cpu.core core' cpu.regs regs' cpu.critical plan s m c t t' holds runs by (ShowsDisplay cpu.display plan) shown;
      }
