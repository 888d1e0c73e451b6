-- The machine represents the session with a new task, once its stack waits in its slot.
use Rattle.std.proofs.Common.{◌≡◌, ◌≢◌, ℕ, ◌+◌, ◌*◌, ◌^◌, ◌<◌, ◌≤◌, List, [], ◌∷◌, length, Some, refl, sym, ◌∙◌, ap, arith, Bool, ◌==◌, inl, inr, ◌⊎◌, ⊎_elim, subst}
use Rattle.std.specs.Prelude.{if◌then◌else◌}
use Rattle.std.specs.List.{slice_get, list_any}
use Rattle.std.proofs.lemmas.Bool.{cases_eq, eq-eqb, ne_eqb}
use Rattle.std.proofs.lemmas.Option.{same_Some}
use Rattle.b67_word.specs.Tagged.{Tagged, word}
use Rattle.b67_ctl.specs.declared.registers.Regs.{Regs}
use Rattle.b67_lemmas.specs.Lists.{Has}
use Rattle.b67_model.specs.State as State
use Rattle.b67_model.specs.Common.{Frame, Task, Job, JobProgress, SessionJob, OperatorContext, frame, height, number_of, is_critical, Session, frame_at, IsSegment, NumberedFrom, SettingInOrder, TasksInOrder}
use Rattle.b67_model.specs.Keyed.{keyed}
use Rattle.b67_stack.specs.Common.{StackPlace, NoOriginalAboveTop, Storage, Represents}
use Rattle.b67_layout.specs.Common.{Placement, Slotted, slot_of, spots, address_of, machine_view, RowsFit, DictionariesFollow, RowHomes, PlanFits, RepresentsDictionary, vector_word, critical_mark, RepresentsTask, IsRunning, ShowsDisplay, SessionHolds}
use Rattle.b67_layout.proofs.Common.{with_course, member-same, task_row, slot_below, dictionary_below, running_only}
use Rattle.b67_law.proofs.LowNames.{frame_at_same}
use Rattle.b67_task.specs.Born.{with_task_at}
use Rattle.b67_task.specs.Joining.{Joins}
use Rattle.b67_lemmas.proofs.Members.{keyed_has}
use Rattle.b67_task.proofs.OneMore.{slot_of-other, slot_of-new, keyed_old, spots_own}

-- jobs are numbered in order, so one job has a number
numbered_low : (k : ℕ) (jobs : List SessionJob) (y : SessionJob) → NumberedFrom k jobs → Has jobs y → k ≤ y.constants.number
numbered_low k [] y n h = absurd h
numbered_low k (x ∷ xs) y n (inl e) = omega (arith, n.0, ap number_of e)
numbered_low k (x ∷ xs) y n (inr h) = omega (arith, numbered_low (k + 1) xs y n.1 h)

pub keyed_numbered : (n : ℕ) (jobs : List SessionJob) → NumberedFrom n jobs → (z : SessionJob) → Has jobs z → keyed number_of z.constants.number jobs ≡ Some z
keyed_numbered n [] g z i = absurd i
keyed_numbered n (w ∷ ws) g z (inl e) = rw (eq-eqb (number_of w) z.constants.number (ap number_of e)) (ap Some e)
keyed_numbered n (w ∷ ws) g z (inr i) = rw (ne_eqb (number_of w) z.constants.number (λ e. omega (arith, numbered_low (n + 1) ws z g.1 i, g.0, e))) (keyed_numbered (n + 1) ws g.1 z i)

-- after a change of one job each is that one, or has another number
pub changed_member : (k j : ℕ) (c : JobProgress) (jobs : List SessionJob) (m : SessionJob) → NumberedFrom k jobs → keyed number_of j jobs ≡ Some m → (y : SessionJob) → Has (with_course jobs j c) y
    → (Has jobs y × (y.constants.number ≢ j)) ⊎ (y ≡ record m { progress = c })
changed_member k j c [] m n e y h = absurd h
changed_member k j c (x ∷ xs) m n e y h = grind (arith, numbered_low, changed_member (k + 1) j c xs m n.1)

pub kept_member : (j : ℕ) (c : JobProgress) (jobs : List SessionJob) (y : SessionJob) → Has jobs y → y.constants.number ≢ j → Has (with_course jobs j c) y
kept_member j c [] y h ne = absurd h
kept_member j c (x ∷ xs) y h ne = grind (arith, kept_member j c xs y)

pub moved_member : (j : ℕ) (c : JobProgress) (jobs : List SessionJob) (m : SessionJob) → keyed number_of j jobs ≡ Some m → Has (with_course jobs j c) (record m { progress = c })
moved_member j c jobs m e = (keyed_has number_of j (with_course jobs j c) (record m { progress = c }) (member-same jobs j c m e)).0

follow-more : (plan : Placement) (j n k peak i at : ℕ) (c : JobProgress) (jobs : List SessionJob) → DictionariesFollow plan at jobs → DictionariesFollow (with_task_at plan j n k peak) at (with_course jobs i c)
follow-more plan j n k peak i at c [] d = d
follow-more plan j n k peak i at c (m ∷ rest) d = grind (arith, follow-more plan j n k peak i (at + (2 + length m.constants.dictionary.cells)) c rest d.1)

vector-more : (plan : Placement) (j n k peak i : ℕ) (parents : List ℕ) → (i ≡ j → (u : ℕ) → Has parents u → u ≢ n) → vector_word (with_task_at plan j n k peak) i parents ≡ vector_word plan i parents
vector-more plan j n k peak i [] old = refl
vector-more plan j n k peak i (parent ∷ above) old = ap (λ (q : ℕ). word 3 (2 ^ 46 + q * 2 ^ 36 + i * 2 ^ 16)) (slot_of-other plan j n k peak i parent (λ e. old e parent (inl refl)))

-- a frame that the new task's critical one isn't is as critical as before
mark_same : (job job' : Job) (child : Task) → job'.tasks ≡ child ∷ job.tasks → (fs : List Frame) → ((f : Frame) → Has fs f → child.critical ≢ f.identity) → critical_mark job' fs ≡ critical_mark job fs
mark_same job job' child is [] apart = refl
mark_same job job' child is (f ∷ below) apart =
    let test : is_critical job' f.identity ≡ is_critical job f.identity = ap (λ (ts : List Task). list_any (λ (u : Task). u.critical == f.identity) ts) is ∙ rw (ne_eqb child.critical f.identity (apart f (inl refl))) refl in
    ap (λ (b : Bool). if b then height below else critical_mark job' below) test
    ∙ ap (λ (n : ℕ). if is_critical job f.identity then height below else n) (mark_same job job' child is below (λ g i. apart g (inr i)))

-- what the machine's parts are to show beside the view: words below the slots, critical marks and registers
pub record Shown (core new : List Tagged) (r r' : Regs) (marks marks' : List ℕ) (plan : Placement) (m : SessionJob) (t : Task) (job' : Job) (child : Task) (k peak : ℕ) : Type 0 where
  pub few : peak ≤ 120
  pub words : (i : ℕ) → i < plan.stacks → i ≢ 152 → i ≢ 32 + k → slice_get new i ≡ slice_get core i
  pub vector : slice_get new (32 + k) ≡ Some (vector_word (with_task_at plan m.constants.number child.number k peak) m.constants.number child.parents)
  pub others : (q : ℕ) → q ≢ slot_of plan m.constants.number t.number → slice_get marks' q ≡ slice_get marks q
  pub own : slice_get marks' (slot_of plan m.constants.number t.number) ≡ Some (critical_mark job' t.frames)
  pub childless : critical_mark job' child.frames ≡ 0
  pub unseen : (u : Task) → Has m.progress.job.tasks u → u.number ≢ t.number → (f : Frame) → Has u.frames f → child.critical ≢ f.identity
  pub regs : r' ≡ record r { peak = r'.peak }
  -- a task is looked up by its number
  pub distinct : (u : Task) → Has m.progress.job.tasks u → keyed (λ (v : Task). v.number) u.number m.progress.job.tasks ≡ Some u

module _ (x y : Storage) (core new : List Tagged) (r r' : Regs) (marks marks' : List ℕ) (plan : Placement) (s : Session) (m : SessionJob) (t : Task) (job' : Job) (child : Task) (k peak : ℕ)
    (numbered : NumberedFrom 1 s.jobs) (h : SessionHolds x core r marks plan s) (runs : IsRunning plan s.jobs m t) (joins : Joins plan s.jobs m job' child k peak)
    (shown : Shown core new r r' marks marks' plan m t job' child k peak) where
  abbrev j : ℕ
  j = m.constants.number

  abbrev pub after_plan : Placement
  after_plan = with_task_at plan m.constants.number child.number k peak

  abbrev pub after_member : SessionJob
  after_member = record m { progress = record m.progress { job = job' } }

  abbrev pub after : Session
  after = record s { jobs = with_course s.jobs m.constants.number (record m.progress { job = job' }); peak = peak }

  low : 160 ≤ plan.stacks
  low = h.memory.slots.laid.first

  has_m : Has s.jobs m
  has_m = (keyed_has number_of m.constants.number s.jobs m runs.member).0

  has_t : Has m.progress.job.tasks t
  has_t = (keyed_has (λ (u : Task). u.number) t.number m.progress.job.tasks t runs.task).0

  has_moved : Has after.jobs after_member
  has_moved = moved_member m.constants.number (record m.progress { job = job' }) s.jobs m runs.member

  member_of : (z : SessionJob) → Has after.jobs z → (Has s.jobs z × (z.constants.number ≢ m.constants.number)) ⊎ (z ≡ after_member)
  member_of z i = changed_member 1 m.constants.number (record m.progress { job = job' }) s.jobs m numbered runs.member z i

  for_members : (P : SessionJob → Type 0) → ((z : SessionJob) → Has s.jobs z → z.constants.number ≢ m.constants.number → P z) → P after_member → (z : SessionJob) → Has after.jobs z → P z
  for_members P old here z i = ⊎_elim (λ q. old z q.0 q.1) (λ (e : z ≡ after_member). subst P (sym e) here) (member_of z i)

  for_tasks : (P : Task → Type 0) → ((u : Task) → Has m.progress.job.tasks u → P u) → P child → (u : Task) → Has job'.tasks u → P u
  for_tasks P old here u i = ⊎_elim (λ (e : child ≡ u). subst P e here) (λ q. old u q) (subst (λ (ts : List Task). Has ts u) joins.tasks i)

  old_task : (u : Task) → Has m.progress.job.tasks u → Has job'.tasks u
  old_task u i = subst (λ (ts : List Task). Has ts u) (sym joins.tasks) (inr i)

  has_child : Has job'.tasks child
  has_child = subst (λ (ts : List Task). Has ts child) (sym joins.tasks) (inl refl)

  -- a task's slot is the one that it had, and not the child's
  slot_same : (z : SessionJob) (u : Task) → Has s.jobs z → Has z.progress.job.tasks u → slot_of after_plan z.constants.number u.number ≡ slot_of plan z.constants.number u.number
  slot_same z u i l =
      let q = task_row plan s.jobs z u h.fits.rows i l in
      slot_of-other plan m.constants.number child.number k peak z.constants.number u.number (λ e d. joins.row q.row q.among (q.job ∙ e) (q.number ∙ d))

  slot_apart : (z : SessionJob) (u : Task) → Has s.jobs z → Has z.progress.job.tasks u → slot_of plan z.constants.number u.number ≢ k
  slot_apart z u i l e = let q = task_row plan s.jobs z u h.fits.rows i l in joins.free q.row q.among (sym q.slot ∙ e)

  slot_child : slot_of after_plan m.constants.number child.number ≡ k
  slot_child = slot_of-new plan m.constants.number child.number k peak

  small : k < 120
  small = omega (arith, joins.inside, shown.few)

  pub rows : RowsFit after_plan after.jobs
  rows = record {
    live = λ q i. ⊎_elim
        (λ (e : record { job = m.constants.number; task = child.number; slot = k } ≡ q). (after_member, child, has_moved, ap (λ (z : Slotted). z.job) e, has_child, ap (λ (z : Slotted). z.task) e))
        (λ (old : Has plan.rows q).
        let (z, u, in_z, ej, in_u, et) = h.fits.rows.live q old in
        ⊎_elim
        (λ (e : z.constants.number ≡ m.constants.number).
        let is : z ≡ m = same_Some z m (sym (let w : keyed number_of m.constants.number s.jobs ≡ Some z = found_of z in_z e in w) ∙ runs.member) in
        (after_member, u, has_moved, sym e ∙ ej, old_task u (subst (λ (w : SessionJob). Has w.progress.job.tasks u) is in_u), et))
        (λ (ne : z.constants.number ≡ m.constants.number → ⊥). (z, u, kept_member m.constants.number (record m.progress { job = job' }) s.jobs z in_z ne, ej, in_u, et))
        (cases_eq z.constants.number m.constants.number))
        i;
    slotted = λ z u in_z in_u. for_members (λ z. (u : Task) → Has z.progress.job.tasks u → (q : Slotted) × Has after_plan.rows q × (q.job ≡ z.constants.number) × (q.task ≡ u.number))
        (λ z in_z ne u in_u. let (q, in_q, a, b) = h.fits.rows.slotted z u in_z in_u in (q, inr in_q, a, b))
        (for_tasks (λ u. (q : Slotted) × Has after_plan.rows q × (q.job ≡ m.constants.number) × (q.task ≡ u.number))
        (λ u in_u. let (q, in_q, a, b) = h.fits.rows.slotted m u has_m in_u in (q, inr in_q, a, b))
        (record { job = m.constants.number; task = child.number; slot = k }, inl refl, refl, refl))
        z in_z u in_u;
    below = λ q i. ⊎_elim
        (λ (e : record { job = m.constants.number; task = child.number; slot = k } ≡ q). subst (λ (z : Slotted). z.slot < peak) e joins.inside)
        (λ (old : Has plan.rows q). omega (arith, h.fits.rows.below q old, joins.wider))
        i;
    differ = λ a b ia ib e. ⊎_elim
        (λ (ea : record { job = m.constants.number; task = child.number; slot = k } ≡ a). ⊎_elim
        (λ (eb : record { job = m.constants.number; task = child.number; slot = k } ≡ b). sym ea ∙ eb)
        (λ (ob : Has plan.rows b). absurd (joins.free b ob (sym e ∙ ap (λ (z : Slotted). z.slot) (sym ea))))
        ib)
        (λ (oa : Has plan.rows a). ⊎_elim
        (λ (eb : record { job = m.constants.number; task = child.number; slot = k } ≡ b). absurd (joins.free a oa (e ∙ ap (λ (z : Slotted). z.slot) (sym eb))))
        (λ (ob : Has plan.rows b). h.fits.rows.differ a b oa ob e)
        ib)
        ia;
    tasks_differ = λ a b ia ib ej et. ⊎_elim
        (λ (ea : record { job = m.constants.number; task = child.number; slot = k } ≡ a). ⊎_elim
        (λ (eb : record { job = m.constants.number; task = child.number; slot = k } ≡ b). sym ea ∙ eb)
        (λ (ob : Has plan.rows b). absurd (joins.row b ob (sym ej ∙ ap (λ (z : Slotted). z.job) (sym ea)) (sym et ∙ ap (λ (z : Slotted). z.task) (sym ea))))
        ib)
        (λ (oa : Has plan.rows a). ⊎_elim
        (λ (eb : record { job = m.constants.number; task = child.number; slot = k } ≡ b). absurd (joins.row a oa (ej ∙ ap (λ (z : Slotted). z.job) (sym eb)) (et ∙ ap (λ (z : Slotted). z.task) (sym eb))))
        (λ (ob : Has plan.rows b). h.fits.rows.tasks_differ a b oa ob ej et)
        ib)
        ia;
  } where
    found_of : (z : SessionJob) → Has s.jobs z → z.constants.number ≡ m.constants.number → keyed number_of m.constants.number s.jobs ≡ Some z
    found_of z i e = ap (λ (n : ℕ). keyed number_of n s.jobs) (sym e) ∙ keyed_numbered 1 s.jobs numbered z i

  plan_fits : PlanFits after_plan after
  plan_fits = record {
    rows = rows;
    peak = refl;
    few = shown.few;
    sizes = for_members (λ z. z.constants.stack_size ≡ plan.size) (λ z i ne. h.fits.sizes z i) (h.fits.sizes m has_m);
    dictionaries = follow-more plan m.constants.number child.number k peak m.constants.number 160 (record m.progress { job = job' }) s.jobs h.fits.dictionaries;
    row_homes = for_members (λ z. RowHomes after_plan z) (λ z i ne. h.fits.row_homes z i) (h.fits.row_homes m has_m);
  }

  pub still_running : IsRunning after_plan after.jobs after_member t
  still_running = record {
    member = member-same s.jobs m.constants.number (record m.progress { job = job' }) m runs.member;
    task = keyed_old plan s.jobs m job' child k peak joins t.number (joins.newest t has_t) ∙ runs.task;
    slot = runs.slot ∙ sym (slot_same m t has_m has_t);
  }

  task_stands : RepresentsTask r' after_plan after_member t
  task_stands =
      let q = h.running m t runs in
      let same : (f : Regs → ℕ) → ((n : ℕ) → f (record r { peak = n }) ≡ f r) → f r' ≡ f r = λ f e. ap f shown.regs ∙ e r'.peak in
      record {
        slot = same (λ z. z.slot) (λ n. refl) ∙ q.slot ∙ sym (slot_same m t has_m has_t);
        dict = same (λ z. z.dict) (λ n. refl) ∙ q.dict;
        entries = same (λ z. z.entries) (λ n. refl) ∙ q.entries;
        segment = same (λ z. z.segment) (λ n. refl) ∙ q.segment;
        place = ap (λ (z : Regs). z.place) shown.regs ∙ q.place;
      }

  dictionary : (z : SessionJob) → Has s.jobs z → RepresentsDictionary new after_plan z
  dictionary z i =
      let d = dictionary_below plan 160 s.jobs z h.fits.dictionaries i in
      let o = h.dictionaries z i in
      let up : 160 ≤ plan.dictionary z.constants.number = dictionary_above 160 s.jobs h.fits.dictionaries i in
      record {
        mark = shown.words (plan.dictionary z.constants.number) (omega (arith, d)) (λ e. omega (arith, e, up)) (λ e. omega (arith, e, up, small)) ∙ o.mark;
        entries = shown.words (plan.dictionary z.constants.number + 1) (omega (arith, d)) (λ e. omega (arith, e, up)) (λ e. omega (arith, e, up, small)) ∙ o.entries;
      }
    where
      dictionary_above : (at : ℕ) (jobs : List SessionJob) → DictionariesFollow plan at jobs → Has jobs z → at ≤ plan.dictionary z.constants.number
      dictionary_above at [] d h = absurd h
      dictionary_above at (w ∷ ws) d (inl e) = let P : SessionJob → Type 0 = λ q. at ≤ plan.dictionary q.constants.number in subst P e (omega (arith, d.0))
      dictionary_above at (w ∷ ws) d (inr h) = omega (arith, dictionary_above (at + (2 + length w.constants.dictionary.cells)) ws d.1 h)

  vector_old : (z : SessionJob) (u : Task) → Has s.jobs z → Has z.progress.job.tasks u → (z.constants.number ≡ m.constants.number → (p : ℕ) → Has u.parents p → p ≢ child.number)
      → slice_get new (32 + slot_of after_plan z.constants.number u.number) ≡ Some (vector_word after_plan z.constants.number u.parents)
  vector_old z u i l old =
      let apart = slot_apart z u i l in
      let under : slot_of plan z.constants.number u.number < 120 = omega (arith, slot_below plan s.jobs z u h.fits.rows i l, h.fits.few) in
      ap (λ (n : ℕ). slice_get new (32 + n)) (slot_same z u i l)
      ∙ shown.words (32 + slot_of plan z.constants.number u.number) (omega (arith, under, low)) (λ e. omega (arith, e, under)) (λ e. apart (omega (arith, e)))
      ∙ h.vector.live z u i l
      ∙ ap Some (sym (vector-more plan m.constants.number child.number k peak z.constants.number u.parents old))

  marks_old : (z : SessionJob) (u : Task) → Has s.jobs z → Has z.progress.job.tasks u → slot_of plan z.constants.number u.number ≢ slot_of plan m.constants.number t.number
      → slice_get marks' (slot_of after_plan z.constants.number u.number) ≡ Some (critical_mark z.progress.job u.frames)
  marks_old z u i l ne = ap (slice_get marks') (slot_same z u i l) ∙ shown.others (slot_of plan z.constants.number u.number) ne ∙ h.critical.live z u i l

  -- another task's slot isn't the running one
  other_slot : (z : SessionJob) (u : Task) → Has s.jobs z → Has z.progress.job.tasks u → (z.constants.number ≡ m.constants.number → u.number ≢ t.number) → slot_of plan z.constants.number u.number ≢ slot_of plan m.constants.number t.number
  other_slot z u i l ne e =
      let a = task_row plan s.jobs z u h.fits.rows i l in
      let b = task_row plan s.jobs m t h.fits.rows has_m has_t in
      let same : a.row ≡ b.row = h.fits.rows.differ a.row b.row a.among b.among (sym a.slot ∙ e ∙ b.slot) in
      ne (sym a.job ∙ ap (λ (q : Slotted). q.job) same ∙ b.job) (sym a.number ∙ ap (λ (q : Slotted). q.task) same ∙ b.number)

  marks_own : (u : Task) → Has m.progress.job.tasks u → slice_get marks' (slot_of after_plan m.constants.number u.number) ≡ Some (critical_mark job' u.frames)
  marks_own u l = ⊎_elim
      (λ (e : u.number ≡ t.number).
      let is : u ≡ t = same_Some u t (sym (let w : keyed (λ (v : Task). v.number) t.number m.progress.job.tasks ≡ Some u = one_task u l e in w) ∙ runs.task) in
      subst (λ (v : Task). slice_get marks' (slot_of after_plan m.constants.number v.number) ≡ Some (critical_mark job' v.frames)) (sym is)
      (ap (slice_get marks') (slot_same m t has_m has_t) ∙ shown.own))
      (λ (ne : u.number ≡ t.number → ⊥).
      marks_old m u has_m l (other_slot m u has_m l (λ e. ne)) ∙ ap Some (sym (mark_same m.progress.job job' child joins.tasks u.frames (shown.unseen u l ne))))
      (cases_eq u.number t.number)
    where
      one_task : (u : Task) → Has m.progress.job.tasks u → u.number ≡ t.number → keyed (λ (v : Task). v.number) t.number m.progress.job.tasks ≡ Some u
      one_task u l e = ap (λ (n : ℕ). keyed (λ (v : Task). v.number) n m.progress.job.tasks) (sym e) ∙ shown.distinct u l

  pub SessionHolds-born : Represents y new r' (machine_view after_plan after.jobs) → NoOriginalAboveTop (machine_view after_plan after.jobs) → SessionHolds y new r' marks' after_plan after
  SessionHolds-born memory settled = record {
    fits = plan_fits;
    memory = memory;
    settled = settled;
    dictionaries = for_members (RepresentsDictionary new after_plan) (λ z i ne. dictionary z i) (let d = dictionary m has_m in record { mark = d.mark; entries = d.entries });
    mcp = record {
      mark = shown.words 0 (omega (arith, low)) (λ e. omega (arith, e)) (λ e. omega (arith, e)) ∙ h.mcp.mark;
      intrinsics = λ i a b. shown.words i (omega (arith, low, b)) (λ e. omega (arith, e, b)) (λ e. omega (arith, e, b)) ∙ h.mcp.intrinsics i a b;
    };
    vector = record {
      live = λ z u i l. for_members (λ z. (u : Task) → Has z.progress.job.tasks u → slice_get new (32 + slot_of after_plan z.constants.number u.number) ≡ Some (vector_word after_plan z.constants.number u.parents))
          (λ z i ne u l. vector_old z u i l (λ e. absurd (ne e)))
          (for_tasks (λ u. slice_get new (32 + slot_of after_plan m.constants.number u.number) ≡ Some (vector_word after_plan m.constants.number u.parents))
          (λ u l. vector_old m u has_m l (λ e. joins.above u l))
          (ap (λ (n : ℕ). slice_get new (32 + n)) slot_child ∙ shown.vector))
          z i u l;
      free = λ q hq none.
          let apart : q ≢ k = λ e. none (record { job = m.constants.number; task = child.number; slot = k }) (inl refl) (sym e) in
          shown.words (32 + q) (omega (arith, hq, low)) (λ e. omega (arith, e, hq)) (λ e. apart (omega (arith, e))) ∙ h.vector.free q hq (λ w i. none w (inr i));
    };
    critical = record {
      live = λ z u i l. for_members (λ z. (u : Task) → Has z.progress.job.tasks u → slice_get marks' (slot_of after_plan z.constants.number u.number) ≡ Some (critical_mark z.progress.job u.frames))
          (λ z i ne u l. marks_old z u i l (other_slot z u i l (λ e. absurd (ne e))))
          (for_tasks (λ u. slice_get marks' (slot_of after_plan m.constants.number u.number) ≡ Some (critical_mark job' u.frames))
          marks_own
          (ap (slice_get marks') slot_child ∙ shown.others k (λ e. slot_apart m t has_m has_t (sym e)) ∙ h.critical.free k small (λ w i. joins.free w i) ∙ ap Some (sym shown.childless)))
          z i u l;
      free = λ q hq none. shown.others q (λ e. (let b = task_row plan s.jobs m t h.fits.rows has_m has_t in none b.row (inr b.among) (sym b.slot ∙ sym e))) ∙ h.critical.free q hq (λ w i. none w (inr i));
    };
    live = λ ne. (after_member, t, still_running);
    running = λ z u q. running_only after_plan after.jobs after_member z t u (RepresentsTask r' after_plan) rows still_running q task_stands;
    none = λ e. absurd (let w : ⊥ = omega (arith, e, runs.slot, slot_below plan s.jobs m t h.fits.rows has_m has_t, h.fits.few) in w);
  }

  -- the display stays: no frame that the running task names has the new identity
  module _ (constants : SettingInOrder m.constants) (tasks : TasksInOrder (IsSegment m.constants) m.constants m.progress.job) (f : Frame) (one : child.frames ≡ f ∷ []) (new_id : f.identity ≡ m.progress.job.next_frame) where
    abbrev before : OperatorContext
    before = record { constants = m.constants; job = m.progress.job; task = t; at = t.place }

    abbrev now : OperatorContext
    now = record { constants = m.constants; job = job'; task = t; at = t.place }

    frames_same : (id : ℕ) → id < m.progress.job.next_frame → frame now id ≡ frame before id
    frames_same id small = grind arith

    pub ShowsDisplay-born : (display : List ℕ) → ShowsDisplay display plan m t → ShowsDisplay display after_plan after_member t
    ShowsDisplay-born display d n up =
        let same = frame_at_same (IsSegment m.constants) before constants tasks has_t now frames_same refl n in
        d n up
        ∙ ap (λ (i : ℕ). Some (address_of plan (spots plan m.constants.number m.progress.job t i))) (ap (λ (g : Frame). g.identity) (sym same.0))
        ∙ ap (λ (q : StackPlace). Some (address_of plan q)) (sym (spots_own plan s.jobs m job' child k peak joins t has_t (frame_at now n).identity))
