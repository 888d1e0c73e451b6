-- A task is replaced by one of whose frames others see the same: what the machine represents beside the view.
use Rattle.std.proofs.Common.{◌≡◌, ℕ, ◌+◌, ◌<◌, ◌≤◌, List, [], ◌∷◌, length, Some, refl, sym, ◌∙◌, ap, arith, Bool, true, false, ◌==◌, ⊎_elim, inl, inr, ◌⊎◌, subst, zero, suc}
use Rattle.std.specs.Prelude.{if◌then◌else◌, ◌||◌}
use Rattle.std.specs.List.{slice_get, list_any}
use Rattle.std.proofs.lemmas.Option.{same_Some, none-some}
use Rattle.std.proofs.lemmas.Bool.{cases_Bool}
use Rattle.b67_word.specs.Tagged.{Tagged}
use Rattle.b67_ctl.specs.declared.registers.Regs.{Regs}
use Rattle.b67_lemmas.specs.Lists.{Has}
use Rattle.b67_lemmas.proofs.Members.{keyed_has}
use Rattle.b67_model.specs.Common.{Frame, Task, Job, JobProgress, SessionJob, height, Segment, number_of, is_critical, Session, Word, Original, rows_after, DictionaryWords}
use Rattle.b67_model.specs.Keyed.{keyed, change_keyed}
use Rattle.b67_stack.specs.Common.{NoOriginalAboveTop, PagedObject, Storage, Represents}
use Rattle.b67_layout.specs.Common.{Placement, Slotted, slot_of, machine_view, code_objects, RowsFit, DictionariesFollow, RowHomes, PlanFits, RepresentsDictionary, vector_word, critical_mark, RepresentsTask, IsRunning, with_objects, SessionHoldsBut}
use Rattle.b67_layout.proofs.Replaces.{Replaces, task-same}
use Rattle.b67_layout.proofs.MachineViews.{with_course, member-same}
use Rattle.b67_layout.proofs.Rows.{task_row, slot_below}
use Rattle.b67_area.specs.declared.Kind.TheVariants as kind

-- the items after the first one of a number changed
module _ {A : Type 0} (key : A → ℕ) (n : ℕ) (f : A → A) where
  pub change-has : (xs : List A) (x : A) → keyed key n xs ≡ Some x → (z : A) → Has (change_keyed key n f xs) z → Has xs z ⊎ (z ≡ f x)
  change-has [] x e z h = absurd h
  change-has (y ∷ ys) x e z h = grind (arith, change-has ys x)

  pub change-kept : (xs : List A) (x : A) → keyed key n xs ≡ Some x → (z : A) → Has xs z → Has (change_keyed key n f xs) z ⊎ ((z ≡ x) × Has (change_keyed key n f xs) (f x))
  change-kept [] x e z h = absurd h
  change-kept (y ∷ ys) x e z h = grind (arith, change-kept ys x)

-- which frames are critical is the same
pub any-change : (id n : ℕ) (t t' : Task) → t'.critical ≡ t.critical → (xs : List Task) → keyed (λ (u : Task). u.number) n xs ≡ Some t
    → list_any (λ (u : Task). u.critical == id) (change_keyed (λ (u : Task). u.number) n (λ u. t') xs) ≡ list_any (λ (u : Task). u.critical == id) xs
any-change id n t t' c [] e = refl
any-change id n t t' c (y ∷ ys) e = grind (arith, any-change id n t t' c ys)

pub critical_mark-same : (job job' : Job) → ((id : ℕ) → is_critical job' id ≡ is_critical job id) → (fs : List Frame) → critical_mark job' fs ≡ critical_mark job fs
critical_mark-same job job' e [] = refl
critical_mark-same job job' e (f ∷ below) = grind arith

pub follow-up : (plan : Placement) (at : ℕ) (jobs : List SessionJob) → DictionariesFollow plan at jobs → at ≤ plan.stacks
follow-up plan at [] d = omega arith
follow-up plan at (m ∷ more) d = omega (arith, follow-up plan (at + (2 + length m.constants.dictionary.cells)) more d.1)

-- a dictionary's head lies below slot 0
pub dictionary_below : (plan : Placement) (at : ℕ) (jobs : List SessionJob) (y : SessionJob) → DictionariesFollow plan at jobs → Has jobs y → plan.dictionary y.constants.number + 2 ≤ plan.stacks
dictionary_below plan at [] y d h = absurd h
dictionary_below plan at (m ∷ more) y d (inl e) = grind (arith, follow-up)
dictionary_below plan at (m ∷ more) y d (inr k) = dictionary_below plan (at + (2 + length m.constants.dictionary.cells)) more y d.1 k

pub follow-course : (plan : Placement) (at j : ℕ) (c : JobProgress) (jobs : List SessionJob) → DictionariesFollow plan at jobs → DictionariesFollow plan at (with_course jobs j c)
follow-course plan at j c [] d = d
follow-course plan at j c (m ∷ more) d = grind (arith, follow-course plan (at + (2 + length m.constants.dictionary.cells)) j c more d.1)

-- one task runs
pub running_only : (plan : Placement) (jobs : List SessionJob) (m y : SessionJob) (t u : Task) (P : SessionJob → Task → Type 0) → RowsFit plan jobs → IsRunning plan jobs m t → IsRunning plan jobs y u → P m t → P y u
running_only plan jobs m y t u P fit a b h =
    let N : Task → ℕ = λ (v : Task). v.number in
    let ra = task_row plan jobs m t fit (keyed_has number_of m.constants.number jobs m a.member).0 (keyed_has N t.number m.progress.job.tasks t a.task).0 in
    let rb = task_row plan jobs y u fit (keyed_has number_of y.constants.number jobs y b.member).0 (keyed_has N u.number y.progress.job.tasks u b.task).0 in
    let same : rb.row ≡ ra.row = fit.differ rb.row ra.row rb.among ra.among (sym rb.slot ∙ sym b.slot ∙ a.slot ∙ ra.slot) in
    grind (arith, same_Some)

-- a task is replaced: what else the machine represents stays
module _ (before left : List PagedObject) (x : Storage) (core new : List Tagged) (r r' : Regs) (marks : List ℕ) (plan : Placement) (s : Session) (m : SessionJob) (c : JobProgress) (t t' : Task)
    (h : SessionHoldsBut before x core r marks plan s) (runs : IsRunning plan s.jobs m t) (by : Replaces m.progress.job c.job t t') where
  abbrev pub moved : SessionJob
  moved = record m { progress = c }

  abbrev pub jobs' : List SessionJob
  jobs' = with_course s.jobs m.constants.number c

  has_m : Has s.jobs m
  has_m = (keyed_has number_of m.constants.number s.jobs m runs.member).0

  has_t : Has m.progress.job.tasks t
  has_t = (keyed_has (λ (u : Task). u.number) t.number m.progress.job.tasks t runs.task).0

  -- each job is an old one or the one that moved, and each of that one's tasks an old one or the new one
  for_members : (P : SessionJob → Type 0) → ((y : SessionJob) → Has s.jobs y → P y) → P moved → (y : SessionJob) → Has jobs' y → P y
  for_members P old here y in_y = ⊎_elim (λ k. old y k) (λ (e : y ≡ moved). subst P (sym e) here) (change-has number_of m.constants.number (λ (z : SessionJob). record z { progress = c }) s.jobs m runs.member y in_y)

  for_tasks : (P : Task → Type 0) → ((u : Task) → Has m.progress.job.tasks u → P u) → P t' → (u : Task) → Has c.job.tasks u → P u
  for_tasks P old here u in_u = grind (arith, change-has)

  for_both : (P : SessionJob → Task → Type 0) → ((y : SessionJob) (u : Task) → Has s.jobs y → Has y.progress.job.tasks u → P y u) → ((u : Task) → Has m.progress.job.tasks u → P moved u) → P moved t' → (y : SessionJob) (u : Task) → Has jobs' y → Has y.progress.job.tasks u → P y u
  for_both P old kept here y u in_y = for_members (λ z. Has z.progress.job.tasks u → P z u) (λ z in_z in_u. old z u in_z in_u) (λ in_u. for_tasks (P moved) kept here u in_u) y in_y

  criticals : (id : ℕ) → is_critical c.job id ≡ is_critical m.progress.job id
  criticals id = ap (λ (ts : List Task). list_any (λ (u : Task). u.critical == id) ts) by.tasks ∙ any-change id t.number t t' by.critical m.progress.job.tasks by.there

  rows : RowsFit plan jobs'
  rows = record {
    live = λ q in_q.
        let (y, u, in_y, ej, in_u, et) = h.fits.rows.live q in_q in
        ⊎_elim
        (λ (k : Has jobs' y). (y, u, k, ej, in_u, et))
        (λ k.
        let in_m : Has m.progress.job.tasks u = (let Q : SessionJob → Type 0 = λ z. Has z.progress.job.tasks u in subst Q k.0 in_u) in
        let ej' : m.constants.number ≡ q.job = ap (λ (z : SessionJob). z.constants.number) (sym k.0) ∙ ej in
        let Q : List Task → Type 0 = λ ts. Has ts u in
        let R : List Task → Type 0 = λ ts. Has ts t' in
        ⊎_elim
        (λ (w : Has (change_keyed (λ (v : Task). v.number) t.number (λ (v : Task). t') m.progress.job.tasks) u). (moved, u, k.1, ej', subst Q (sym by.tasks) w, et))
        (λ w. (moved, t', k.1, ej', subst R (sym by.tasks) w.1, by.number ∙ ap (λ (v : Task). v.number) (sym w.0) ∙ et))
        (change-kept (λ (v : Task). v.number) t.number (λ (v : Task). t') m.progress.job.tasks t by.there u in_m))
        (change-kept number_of m.constants.number (λ (z : SessionJob). record z { progress = c }) s.jobs m runs.member y in_y);
    slotted = for_both (λ y u. (q : Slotted) × Has plan.rows q × (q.job ≡ y.constants.number) × (q.task ≡ u.number)) h.fits.rows.slotted (λ u in_u. h.fits.rows.slotted m u has_m in_u)
        (let (q, in_q, a, b) = h.fits.rows.slotted m t has_m has_t in (q, in_q, a, b ∙ sym by.number));
    below = h.fits.rows.below;
    differ = h.fits.rows.differ;
    tasks_differ = h.fits.rows.tasks_differ;
  }

  plan_fits : PlanFits plan (record s { jobs = jobs' })
  plan_fits = record {
    rows = rows;
    peak = h.fits.peak;
    few = h.fits.few;
    sizes = for_members (λ y. y.constants.stack_size ≡ plan.size) h.fits.sizes (h.fits.sizes m has_m);
    dictionaries = follow-course plan 160 m.constants.number c s.jobs h.fits.dictionaries;
    row_homes = for_members (λ y. RowHomes plan y) h.fits.row_homes (h.fits.row_homes m has_m);
  }

  pub still_running : IsRunning plan jobs' moved t'
  still_running = grind (arith, member-same, task-same)

  -- what is shown of the running task, is shown of the one that runs
  pub for_running : (P : SessionJob → Task → Type 0) → P moved t' → (y : SessionJob) (u : Task) → IsRunning plan jobs' y u → P y u
  for_running P here y u q = running_only plan jobs' moved y t' u P rows still_running q here

  -- the session after the step, where no word below slot 0 changed and no critical frame of the task came or went
  pub SessionHoldsBut-after : ((i : ℕ) → i < plan.stacks → slice_get new i ≡ slice_get core i) → critical_mark m.progress.job t'.frames ≡ critical_mark m.progress.job t.frames
      → Represents x new r' (with_objects left (machine_view plan jobs')) → NoOriginalAboveTop (machine_view plan jobs') → RepresentsTask r' plan moved t'
      → SessionHoldsBut left x new r' marks plan (record s { jobs = jobs' })
  SessionHoldsBut-after same criticals_same stands settled task = record {
    fits = plan_fits;
    memory = stands;
    settled = settled;
    dictionaries = for_members (RepresentsDictionary new plan) dictionary (record { mark = (dictionary m has_m).mark; entries = (dictionary m has_m).entries });
    mcp = record { mark = same 0 (omega arith) ∙ h.mcp.mark; intrinsics = λ i low up. same i (omega arith) ∙ h.mcp.intrinsics i low up };
    vector = record {
      live = for_both (λ y u. slice_get new (32 + slot_of plan y.constants.number u.number) ≡ Some (vector_word plan y.constants.number u.parents)) vector (λ u in_u. vector m u has_m in_u)
          (ap (λ (i : ℕ). slice_get new (32 + slot_of plan m.constants.number i)) by.number ∙ vector m t has_m has_t ∙ ap (λ (ps : List ℕ). Some (vector_word plan m.constants.number ps)) (sym by.parents));
      free = λ k small others. same (32 + k) (omega arith) ∙ h.vector.free k small others;
    };
    critical = record {
      live = for_both (λ y u. slice_get marks (slot_of plan y.constants.number u.number) ≡ Some (critical_mark y.progress.job u.frames)) h.critical.live
          (λ u in_u. h.critical.live m u has_m in_u ∙ ap Some (sym (critical_mark-same m.progress.job c.job criticals u.frames)))
          (ap (λ (i : ℕ). slice_get marks (slot_of plan m.constants.number i)) by.number ∙ h.critical.live m t has_m has_t ∙ ap Some (sym criticals_same ∙ sym (critical_mark-same m.progress.job c.job criticals t'.frames)));
      free = h.critical.free;
    };
    live = λ z. (moved, t', still_running);
    running = λ y u q. for_running (RepresentsTask r' plan) task y u q;
    none = λ e. absurd (let z : ⊥ = omega (arith, e, runs.slot, slot_small) in z);
  } where
    low : 160 ≤ plan.stacks
    low = h.memory.slots.laid.first

    slot_small : slot_of plan m.constants.number t.number < 120
    slot_small = omega (arith, slot_below plan s.jobs m t h.fits.rows has_m has_t, h.fits.few)

    dictionary : (y : SessionJob) → Has s.jobs y → RepresentsDictionary new plan y
    dictionary y in_y =
        let d = dictionary_below plan 160 s.jobs y h.fits.dictionaries in_y in
        let o = h.dictionaries y in_y in
        record { mark = same (plan.dictionary y.constants.number) (omega arith) ∙ o.mark; entries = same (plan.dictionary y.constants.number + 1) (omega arith) ∙ o.entries }

    vector : (y : SessionJob) (u : Task) → Has s.jobs y → Has y.progress.job.tasks u → slice_get new (32 + slot_of plan y.constants.number u.number) ≡ Some (vector_word plan y.constants.number u.parents)
    vector y u in_y in_u = same (32 + slot_of plan y.constants.number u.number) (omega (arith, slot_below plan s.jobs y u h.fits.rows in_y in_u, h.fits.few)) ∙ h.vector.live y u in_y in_u

-- dictionaries don't overlap
pub dictionary_above : (plan : Placement) (at : ℕ) (ms : List SessionJob) (y : SessionJob) → DictionariesFollow plan at ms → Has ms y → at ≤ plan.dictionary y.constants.number
dictionary_above plan at [] y d h = absurd h
dictionary_above plan at (m ∷ more) y d (inl e) = omega (arith, d.0, ap (λ (z : SessionJob). plan.dictionary z.constants.number) e)
dictionary_above plan at (m ∷ more) y d (inr h) = omega (arith, dictionary_above plan (at + (2 + length m.constants.dictionary.cells)) more y d.1 h)

-- a job that is changed twice
pub course_twice : (jobs : List SessionJob) (j : ℕ) (c d : JobProgress) → with_course (with_course jobs j c) j d ≡ with_course jobs j d
course_twice [] j c d = refl
course_twice (x ∷ xs) j c d = grind (arith, course_twice xs j c d)

-- the objects of segments
pub code_object : (plan : Placement) (j n : ℕ) (ss : List Segment) (i : ℕ) → i < length ss → (t : PagedObject) × Has (code_objects plan j n ss) t × (t.home ≡ plan.dictionary j + 1 + (n + i)) × (t.kind ≡ kind.Code)
code_object plan j n [] i low = absurd (omega (arith, low))
code_object plan j n (s ∷ ss) zero low = (record { home = plan.dictionary j + 1 + n; kind = kind.Code; numbers = s.code }, inl refl, omega arith, refl)
code_object plan j n (s ∷ ss) (suc i) low = let r = code_object plan j (n + 1) ss i (omega (arith, low)) in (r.0, inr r.1, r.2 ∙ (let z : plan.dictionary j + 1 + (n + 1 + i) ≡ plan.dictionary j + 1 + (n + suc i) = omega arith in z), r.3)

-- the words of a dictionary by their numbers
pub entry_row : (n : ℕ) (ws : List Word) (i : ℕ) (w : Word) → rows_after n ws → slice_get ws i ≡ Some w → w ≡ Original (n + i)
entry_row n [] i w d e = absurd (none-some w e)
entry_row n (v ∷ ws) zero w d e = sym (same_Some v w e) ∙ d.0 ∙ ap Original (let z : n ≡ n + 0 = omega arith in z)
entry_row n (v ∷ ws) (suc i) w d e = entry_row (n + 1) ws i w d.1 e ∙ ap Original (let z : n + 1 + i ≡ n + suc i = omega arith in z)

-- a job has at most as many segments as entries in its dictionary
pub words_enough : (n : ℕ) (segments : List Segment) (words : List Word) → DictionaryWords n segments words → length segments ≤ length words
words_enough n [] words d = omega arith
words_enough n (s ∷ more) [] d = absurd d
words_enough n (s ∷ more) (w ∷ words) d = omega (arith, words_enough (n + 1) more words d.1)
