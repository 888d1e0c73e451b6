-- What the machine represents doesn't depend on who waits for what.
use Rattle.std.proofs.Common.{◌≡◌, ℕ, ◌+◌, List, [], ◌∷◌, ◌++◌, map, flat_map, length, Option, Some, None, refl, sym, ◌∙◌, ap, Bool, ◌==◌, ⊎_elim, subst, arith}
use Rattle.std.specs.Prelude.{if◌then◌else◌, option_map, ◌||◌}
use Rattle.std.specs.List.{slice_get, list_any}
use Rattle.std.proofs.lemmas.Bool.{cases_eq}
use Rattle.b67_lemmas.specs.Lists.{Has}
use Rattle.b67_lemmas.proofs.Members.{has_map, has_map_back, keyed_has}
use Rattle.b67_model.specs.Keyed.{keyed}
use Rattle.b67_model.specs.State as State
use Rattle.b67_model.specs.Common.{Frame, Condition, Task, Job, JobProgress, SessionJob, OperatorContext, all_frames, frame_at, is_critical, number_of, Session, Known, known_of}
use Rattle.b67_stack.specs.declared.Cpu.{Cpu}
use Rattle.b67_stack.specs.Common.{StackPlace, Activation, Slot, Running, Waiting, MachineView, NoOriginalAboveTop, Storage, Represents}
use Rattle.b67_layout.specs.Common.{Slotted, Placement, slot_of, spots, address_of, stack_of_task, slot_with, slot_in, slot_by, slot_at, machine_view, RowsFit, DictionariesFollow, RowHomes, PlanFits, RepresentsDictionary, vector_word, critical_mark, RepresentsTask, IsRunning, ShowsDisplay, SessionHolds, RepresentsSession, with_job}
use Rattle.b67_layout.proofs.Common.{with_course, member-same, member-other, change-has, change-kept, running_only, same_frame_at}
use Rattle.b67_layout.proofs.MachineViews.{objects-after}
use Rattle.b67_task.specs.Likes.{Like}
use Rattle.b67_task.proofs.AlikePlans.{stack-twin, spots-twin, name_all}

-- each task with another condition
abbrev pub wake_task : (Condition → Condition) → Task → Task
wake_task g t = record t { condition = g t.condition }

abbrev pub wake_job : (Condition → Condition) → Job → Job
wake_job g job = record job { tasks = map (λ (t : Task). record t { condition = g t.condition }) job.tasks }

pub keyed_wake : (g : Condition → Condition) (n : ℕ) (xs : List Task) → keyed (λ (v : Task). v.number) n (map (wake_task g) xs) ≡ option_map (wake_task g) (keyed (λ (v : Task). v.number) n xs)
keyed_wake g n [] = refl
keyed_wake g n (x ∷ xs) = grind (arith, keyed_wake g n xs)

like_by : (g : Condition → Condition) (o : Option Task) → Like (option_map (wake_task g) o) o
like_by g o = grind arith

like_wake : (g : Condition → Condition) (job : Job) (u : ℕ) → Like (keyed (λ (t : Task). t.number) u (wake_job g job).tasks) (keyed (λ (t : Task). t.number) u job.tasks)
like_wake g job u =
    let P : Option Task → Type 0 = λ o. Like o (keyed (λ (t : Task). t.number) u job.tasks) in
    subst P (sym (keyed_wake g u job.tasks)) (like_by g (keyed (λ (t : Task). t.number) u job.tasks))

flat_wake : (g : Condition → Condition) (xs : List Task) → flat_map (λ (t : Task). t.frames) (map (wake_task g) xs) ≡ flat_map (λ (t : Task). t.frames) xs
flat_wake g [] = refl
flat_wake g (x ∷ xs) = ap (λ (fs : List Frame). x.frames ++ fs) (flat_wake g xs)

module _ (plan : Placement) (j : ℕ) (job : Job) (g : Condition → Condition) where
  pub spots_wake : (t : Task) → spots plan j (wake_job g job) (wake_task g t) ≡ spots plan j job t
  spots_wake t = λ z id. spots-twin plan plan j job (wake_job g job) (λ u. Unit {0}) (λ a. Unit {0}) (λ u w. refl) (λ u w. like_wake g job u) (λ a w. (refl, refl)) (wake_task g t) t
      (record { number = refl; parents = refl; critical = refl; frames = refl }) (λ u h. tt) tt id z

  stack_wake : (k : ℕ) (t : Task) → stack_of_task plan j (wake_job g job) k (wake_task g t) ≡ stack_of_task plan j job k t
  stack_wake k t = stack-twin plan plan j job (wake_job g job) (λ u. Unit {0}) (λ a. Unit {0}) (λ u w. refl) (λ u w. like_wake g job u) (λ a w. (refl, refl)) (wake_task g t) t
      (record { number = refl; parents = refl; critical = refl; frames = refl }) (λ u h. tt) k (name_all t.frames)

  slot_wake : (k : ℕ) (o : Option Task) → slot_with plan k j (wake_job g job) (option_map (wake_task g) o) ≡ slot_with plan k j job o
  slot_wake k None = refl
  slot_wake k (Some t) = let S : List Activation → Slot = λ xs. if k == plan.running then Running xs else Waiting xs in ap S (stack_wake k t)

  any_wake : (id : ℕ) (xs : List Task) → list_any (λ (t : Task). t.critical == id) (map (wake_task g) xs) ≡ list_any (λ (t : Task). t.critical == id) xs
  any_wake id [] = refl
  any_wake id (x ∷ xs) = ap (λ (b : Bool). (x.critical == id) || b) (any_wake id xs)

  pub critical_wake : (id : ℕ) → is_critical (wake_job g job) id ≡ is_critical job id
  critical_wake id = any_wake id job.tasks

  mark_wake : (fs : List Frame) → critical_mark (wake_job g job) fs ≡ critical_mark job fs
  mark_wake [] = refl
  mark_wake (f ∷ fs) = grind (arith, critical_wake)

module _ (x : Storage) (cpu : Cpu) (plan : Placement) (s : Session) (m : SessionJob) (t : Task) (h : RepresentsSession x cpu plan s) (runs : IsRunning plan s.jobs m t) (g : Condition → Condition) where
  abbrev c : JobProgress
  c = record m.progress { job = wake_job g m.progress.job }

  abbrev moved : SessionJob
  moved = record m { progress = record m.progress { job = wake_job g m.progress.job } }

  abbrev jobs' : List SessionJob
  jobs' = with_course s.jobs m.constants.number (record m.progress { job = wake_job g m.progress.job })

  has_m : Has s.jobs m
  has_m = (keyed_has number_of m.constants.number s.jobs m runs.member).0

  slots_wake : (q : ℕ) → slot_at plan jobs' q ≡ slot_at plan s.jobs q
  slots_wake q = by_row (keyed (λ (r : Slotted). r.slot) q plan.rows) where
    by_row : (o : Option Slotted) → slot_by plan jobs' q o ≡ slot_by plan s.jobs q o
    by_row None = refl
    by_row (Some r) = ⊎_elim
        (λ (z : r.job ≡ m.constants.number).
        let new : keyed number_of r.job jobs' ≡ Some moved = ap (λ (n : ℕ). keyed number_of n jobs') z ∙ member-same s.jobs m.constants.number c m runs.member in
        let old : keyed number_of r.job s.jobs ≡ Some m = ap (λ (n : ℕ). keyed number_of n s.jobs) z ∙ runs.member in
        ap (slot_in plan q r.job r.task) new
        ∙ ap (λ (n : ℕ). slot_with plan q n (wake_job g m.progress.job) (keyed (λ (v : Task). v.number) r.task (wake_job g m.progress.job).tasks)) z
        ∙ ap (slot_with plan q m.constants.number (wake_job g m.progress.job)) (keyed_wake g r.task m.progress.job.tasks)
        ∙ slot_wake plan m.constants.number m.progress.job g q (keyed (λ (v : Task). v.number) r.task m.progress.job.tasks)
        ∙ ap (λ (n : ℕ). slot_with plan q n m.progress.job (keyed (λ (v : Task). v.number) r.task m.progress.job.tasks)) (sym z)
        ∙ ap (slot_in plan q r.job r.task) (sym old))
        (λ (z : r.job ≡ m.constants.number → ⊥). ap (slot_in plan q r.job r.task) (member-other s.jobs m.constants.number c r.job z))
        (cases_eq r.job m.constants.number)

  view_wake : machine_view plan jobs' ≡ machine_view plan s.jobs
  view_wake = grind (arith, slots_wake, objects-after)

  -- each job is an old one or the one that moved
  for_members : (P : SessionJob → Type 0) → ((y : SessionJob) → Has s.jobs y → P y) → P moved → (y : SessionJob) → Has jobs' y → P y
  for_members P before here y in_y = ⊎_elim (λ k. before y k) (λ (e : y ≡ moved). subst P (sym e) here) (change-has number_of m.constants.number (λ (z : SessionJob). record z { progress = c }) s.jobs m runs.member y in_y)

  for_tasks : (P : SessionJob → Task → Type 0) → ((y : SessionJob) (v : Task) → Has s.jobs y → Has y.progress.job.tasks v → P y v) → ((v : Task) → Has m.progress.job.tasks v → P moved (wake_task g v))
      → (y : SessionJob) (v : Task) → Has jobs' y → Has y.progress.job.tasks v → P y v
  for_tasks P before here y v in_y in_v = for_members (λ z. Has z.progress.job.tasks v → P z v) (λ z in_z in_v. before z v in_z in_v)
      (λ in_v. (let b = has_map_back (wake_task g) m.progress.job.tasks v in_v in subst (λ z. P moved z) b.is (here b.item b.among))) y in_y in_v

  follow : (from : ℕ) (xs : List SessionJob) → DictionariesFollow plan from xs → DictionariesFollow plan from (with_course xs m.constants.number c)
  follow from [] d = d
  follow from (y ∷ more) d = grind (arith, follow (from + (2 + length y.constants.dictionary.cells)) more d.1)

  rows : RowsFit plan jobs'
  rows = let fit = h.holds.fits.rows in record {
    live = λ q in_q.
        let (y, v, in_y, ej, in_v, et) = fit.live q in_q in
        ⊎_elim
        (λ (k : Has jobs' y). (y, v, k, ej, in_v, et))
        (λ k.
        let in_m : Has m.progress.job.tasks v = (let Q : SessionJob → Type 0 = λ z. Has z.progress.job.tasks v in subst Q k.0 in_v) in
        let ej' : m.constants.number ≡ q.job = ap (λ (z : SessionJob). z.constants.number) (sym k.0) ∙ ej in
        (moved, wake_task g v, k.1, ej', has_map (wake_task g) m.progress.job.tasks v in_m, et))
        (change-kept number_of m.constants.number (λ (z : SessionJob). record z { progress = c }) s.jobs m runs.member y in_y);
    slotted = for_tasks (λ y v. (q : Slotted) × Has plan.rows q × (q.job ≡ y.constants.number) × (q.task ≡ v.number)) fit.slotted (λ v in_v. fit.slotted m v has_m in_v);
    below = fit.below;
    differ = fit.differ;
    tasks_differ = fit.tasks_differ;
  }

  fits : PlanFits plan (record s { jobs = jobs' })
  fits = record {
    rows = rows;
    peak = h.holds.fits.peak;
    few = h.holds.fits.few;
    sizes = for_members (λ y. y.constants.stack_size ≡ plan.size) h.holds.fits.sizes (h.holds.fits.sizes m has_m);
    dictionaries = follow 160 s.jobs h.holds.fits.dictionaries;
    row_homes = for_members (λ y. RowHomes plan y) h.holds.fits.row_homes (h.holds.fits.row_homes m has_m);
  }

  still : IsRunning plan jobs' moved (wake_task g t)
  still = record {
    member = member-same s.jobs m.constants.number c m runs.member;
    task = keyed_wake g t.number m.progress.job.tasks ∙ ap (option_map (wake_task g)) runs.task;
    slot = runs.slot;
  }

  task_stands : RepresentsTask cpu.regs plan moved (wake_task g t)
  task_stands = let q = h.holds.running m t runs in record { slot = q.slot; dict = q.dict; entries = q.entries; segment = q.segment; place = q.place }

  shown : ShowsDisplay cpu.display plan moved (wake_task g t)
  shown n up =
      let a : OperatorContext = record { constants = m.constants; job = m.progress.job; task = t; at = t.place } in
      let b : OperatorContext = record { constants = m.constants; job = wake_job g m.progress.job; task = wake_task g t; at = t.place } in
      let frames : map known_of (all_frames b) ≡ map known_of (all_frames a) = ap (λ (fs : List Frame). map known_of (fs ++ (m.constants.dictionary ∷ State.mcp ∷ []))) (flat_wake g m.progress.job.tasks) in
      let same : (frame_at b n).identity ≡ (frame_at a n).identity = ap (λ (k : Known). k.0) (same_frame_at a b frames n refl) in
      h.shows m t runs n up
      ∙ ap (λ (i : ℕ). Some (address_of plan (spots plan m.constants.number m.progress.job t i))) (sym same)
      ∙ ap (λ (z : ℕ → StackPlace). Some (address_of plan (z (frame_at b n).identity))) (sym (spots_wake plan m.constants.number m.progress.job g t))

  holds : SessionHolds x cpu.core cpu.regs cpu.critical plan (record s { jobs = jobs' })
  holds = record {
    fits = fits;
    memory = (let P : MachineView → Type 0 = λ z. Represents x cpu.core cpu.regs z in subst P (sym view_wake) h.holds.memory);
    settled = subst NoOriginalAboveTop (sym view_wake) h.holds.settled;
    dictionaries = for_members (RepresentsDictionary cpu.core plan) h.holds.dictionaries (let d = h.holds.dictionaries m has_m in record { mark = d.mark; entries = d.entries });
    mcp = h.holds.mcp;
    vector = record {
      live = for_tasks (λ y v. slice_get cpu.core (32 + slot_of plan y.constants.number v.number) ≡ Some (vector_word plan y.constants.number v.parents)) h.holds.vector.live (λ v in_v. h.holds.vector.live m v has_m in_v);
      free = h.holds.vector.free;
    };
    critical = record {
      live = for_tasks (λ y v. slice_get cpu.critical (slot_of plan y.constants.number v.number) ≡ Some (critical_mark y.progress.job v.frames)) h.holds.critical.live
          (λ v in_v. h.holds.critical.live m v has_m in_v ∙ ap Some (sym (mark_wake plan m.constants.number m.progress.job g v.frames)));
      free = h.holds.critical.free;
    };
    live = λ z. (moved, wake_task g t, still);
    running = λ y v q. running_only plan jobs' moved y (wake_task g t) v (RepresentsTask cpu.regs plan) rows still q task_stands;
    none = h.holds.none;
  }

  -- the machine represents the session in which each task of the job has another condition
  pub RepresentsSession-wake : RepresentsSession x cpu plan (with_job s m (wake_job g m.progress.job))
  RepresentsSession-wake = record {
    holds = holds;
    shows = λ y v q. running_only plan jobs' moved y (wake_task g t) v (ShowsDisplay cpu.display plan) rows still q shown;
  }
