-- The view of the session without some of its tasks.
use Rattle.std.proofs.Common.{◌≡◌, ◌≢◌, ℕ, ◌+◌, ◌<◌, List, [], ◌∷◌, ◌++◌, map, Option, Some, None, refl, sym, ◌∙◌, ap, arith, inl, inr, ◌⊎◌, ⊎_elim, subst}
use Rattle.std.specs.Prelude.{flat_map}
use Rattle.std.specs.List.{AllByRecursion}
use Rattle.std.proofs.lemmas.Bool.{cases_eq}
use Rattle.std.proofs.lemmas.Option.{same_Some}
use Rattle.b67_word.specs.Tagged.{Tagged}
use Rattle.b67_ctl.specs.declared.registers.Regs.{Regs}
use Rattle.b67_lemmas.specs.Lists.{Has, Falls}
use Rattle.b67_model.specs.Words as Words
use Rattle.b67_model.specs.Common.{Word, Operand, Name, Ref, Row, Element, Original, Proc, Intrinsic, Frame, Array, Segment, Task, Job, JobProgress, SessionJob, array, number_of, Session, Starts, IsSegment, Known, known_of, WordInOrder, FramesInOrder, outer_of}
use Rattle.b67_model.specs.Keyed.{keyed}
use Rattle.b67_lemmas.proofs.Members.{has_append_left, has_append_right, has_append_cases, has_flat, has_map, has_map_back, keyed_has, falls_same, has_flat_back}
use Rattle.b67_area.specs.declared.Kind.TheVariants as kind
use Rattle.b67_stack.specs.Common.{PagedObject, Slot, Storage, Represents}
use Rattle.b67_layout.specs.Common.{Placement, Slotted, slot_of, slot_with, slot_in, slot_by, slot_at, code_objects, array_object, objects_of, machine_view, SessionHolds, IsInOrderButCounts}
use Rattle.b67_layout.proofs.Common.{with_course, member-same, member-other, task_row, change-has, change-kept, numbered_course, Represents-objects}
use Rattle.b67_task.proofs.AlikePlans.{NamesOnly, FramesName, like_same, slot_with-twin, name_all}
use Rattle.b67_task.specs.Leaves.{Lost, Stays, NotTheirs, IsKeptArray, EndingLeaves}
use Rattle.b67_task.proofs.Owners.{NamesForeign, words_foreign}
use Rattle.b67_task.proofs.Slotwise.{In, frames_in_order, order_of, found_member, not_there, owned_lies}
use Rattle.b67_law.proofs.Numbered.{keyed_member}
use Rattle.b67_task.proofs.DeathTurns.{SomeDied, pic}

-- a slot is that of one of some tasks or not
pub lost_or_not : (plan : Placement) (j : ℕ) (gone : List Task) (q : ℕ) → Lost plan j gone q ⊎ (Lost plan j gone q → ⊥)
lost_or_not plan j [] q = inr (λ l. absurd l.1)
lost_or_not plan j (g ∷ gs) q = elim (cases_eq (slot_of plan j g.number) q) [
  | inl e ↦ inl (g, inl refl, e)
  | inr n ↦ elim (lost_or_not plan j gs q) [
    | inl l ↦ inl (l.0, inr l.1, l.2)
    | inr away ↦ inr (λ l. ⊎_elim (λ (e : g ≡ l.0). n (ap (λ (v : Task). slot_of plan j v.number) e ∙ l.2)) (λ (i : Has gs l.0). away (l.0, i, l.2)) l.1)
  ]
]

module _ (P : Starts) (arrays : List Array) (gone : List Task) (bound : ℕ) (falls : Falls bound (map (λ (a : Array). a.identity) arrays)) where
  the_same : (g : Task) (a : ℕ) (item other : Array) → Has arrays item → item.identity ≡ a → Has arrays other → other.identity ≡ a → other ≡ item
  the_same g a item other i e k f = falls_same (λ (b : Array). b.identity) bound arrays other item falls k i (f ∙ sym e)

  kept_word : (reach : List Known) (owner : ℕ) (w : Word) → WordInOrder P arrays reach owner w → ((g : Task) → Has gone g → NamesForeign arrays g w) → NamesOnly (IsKeptArray arrays gone) w
  kept_word reach owner (Row a) o away = (o.item, o.live, o.named, λ g i own. let n = away g i in n.3 (subst (λ (b : Array). Has (map (λ (f : Frame). f.identity) g.frames) b.owner) (sym (the_same g a o.item n.0 o.live o.named n.1 n.2)) own))
  kept_word reach owner (Element a index) o away = (o.item, o.live, o.named, λ g i own. let n = away g i in n.3 (subst (λ (b : Array). Has (map (λ (f : Frame). f.identity) g.frames) b.owner) (sym (the_same g a o.item n.0 o.live o.named n.1 n.2)) own))
  kept_word reach owner (Original a) o away = (o.item, o.live, o.named, λ g i own. let n = away g i in n.3 (subst (λ (b : Array). Has (map (λ (f : Frame). f.identity) g.frames) b.owner) (sym (the_same g a o.item n.0 o.live o.named n.1 n.2)) own))
  kept_word reach owner (Operand bits) o away = tt
  kept_word reach owner (Name couple) o away = tt
  kept_word reach owner (Ref frame offset) o away = tt
  kept_word reach owner (Proc segment level place) o away = tt
  kept_word reach owner (Intrinsic number) o away = tt
  kept_word reach owner (Words.Segment number) o away = tt

  kept_words : (reach : List Known) (owner : ℕ) (ws : List Word) → AllByRecursion (WordInOrder P arrays reach owner) ws → ((w : Word) → Has ws w → (g : Task) → Has gone g → NamesForeign arrays g w) → AllByRecursion (NamesOnly (IsKeptArray arrays gone)) ws
  kept_words reach owner [] o away = tt
  kept_words reach owner (w ∷ ws) o away = (kept_word reach owner w o.0 (away w (inl refl)), kept_words reach owner ws o.1 (λ v i. away v (inr i)))

  kept_frames : (outer : List Known) (fs : List Frame) → FramesInOrder P arrays outer fs → ((f : Frame) → Has fs f → (w : Word) → Has f.cells w → (g : Task) → Has gone g → NamesForeign arrays g w) → FramesName (IsKeptArray arrays gone) fs
  kept_frames outer [] o away = tt
  kept_frames outer (f ∷ below) o away = (kept_words (map known_of (f ∷ below) ++ outer) f.identity f.cells o.0.0 (away f (inl refl)), kept_frames outer below o.2 (λ g i. away g (inr i)))

module _ (x : Storage) (core : List Tagged) (r : Regs) (marks : List ℕ) (plan : Placement) (s : Session) (o : IsInOrderButCounts s) (h : SessionHolds x core r marks plan s)
    (m : SessionJob) (in_m : Has s.jobs m) (some : 0 < plan.size) (rows : List Slotted) (running : ℕ) (job' : Job) (gone : List Task) (lv : EndingLeaves plan m gone rows running job') where
  abbrev j : ℕ
  j = m.constants.number

  abbrev job : Job
  job = m.progress.job

  abbrev N : Task → ℕ
  N t = t.number

  abbrev pub plan_left : Placement
  plan_left = record plan { rows = rows; running = running }

  abbrev pub course_left : JobProgress
  course_left = record m.progress { job = job' }

  abbrev pub jobs_left : List SessionJob
  jobs_left = with_course s.jobs m.constants.number course_left

  module _ (closed : (g : Task) → Has gone g → (u : Task) → Has m.progress.job.tasks u → Has u.parents g.number → Has gone u) (alive : (g : Task) → Has gone g → Has m.progress.job.tasks g) where
    -- what a task that stays names stays
    pub above : (u : Task) → Has m.progress.job.tasks u → Stays gone u.number → (n : ℕ) → Has u.parents n → Stays gone n
    above u in_u stays n i g in_g e = stays u (closed g in_g u in_u (subst (Has u.parents) (sym e) i)) refl

    pub named : (u : Task) → Has m.progress.job.tasks u → Stays gone u.number → FramesName (IsKeptArray m.progress.job.arrays gone) u.frames
    named u in_u stays =
        let order = order_of x core r marks plan s o h m in_m in
        kept_frames (IsSegment m.constants) job.arrays gone job.next_array order.tasks.names (outer_of job u) u.frames (frames_in_order s o m u in_m in_u)
        (λ f i w k g in_g. words_foreign (IsSegment m.constants) m.constants job order.tasks g u (alive g in_g) in_u (stays g in_g) (λ a. stays u (closed g in_g u in_u a) refl) f i w k)

    other_slots : (i : ℕ) → i ≢ j → (u : ℕ) → Unit {0} → slot_of plan_left i u ≡ slot_of plan i u
    other_slots i ne u ok = lv.slots i u (λ e. absurd (ne e))

    kept_arrays : (a : ℕ) → IsKeptArray m.progress.job.arrays gone a → (array job' a ≡ array job a) × (plan_left.home j a ≡ plan.home j a)
    kept_arrays a k = (lv.arrays a k, refl)

    own_slot : (q u : ℕ) → q < 120 → (Lost plan m.constants.number gone q → ⊥) → Stays gone u → slot_with plan_left q m.constants.number job' (keyed (λ (t : Task). t.number) u job'.tasks) ≡ slot_with plan q m.constants.number m.progress.job (keyed (λ (t : Task). t.number) u m.progress.job.tasks)
    own_slot q u low away stays =
        slot_with-twin plan plan_left m.constants.number m.progress.job job' (Stays gone) (IsKeptArray m.progress.job.arrays gone) (λ n k. lv.slots m.constants.number n (λ e. k)) lv.tasks kept_arrays q (lv.runs q low away) (keyed N u job'.tasks) (keyed N u job.tasks) (lv.tasks u stays)
        (λ t e. let g = keyed_has N u job.tasks t e in let st = subst (Stays gone) (sym g.1) stays in (above t g.0 st, named t g.0 st))

    other_slot : (q i u : ℕ) → q < 120 → (Lost plan m.constants.number gone q → ⊥) → i ≢ m.constants.number → (z : Option SessionJob) → slot_in plan_left q i u z ≡ slot_in plan q i u z
    other_slot q i u low away ne None = refl
    other_slot q i u low away ne (Some y) = slot_with-twin plan plan_left i y.progress.job y.progress.job (λ u. Unit {0}) (λ a. Unit {0}) (other_slots i ne) (λ u ok. like_same (keyed N u y.progress.job.tasks)) (λ a ok. (refl, refl)) q (lv.runs q low away)
        (keyed N u y.progress.job.tasks) (keyed N u y.progress.job.tasks) (like_same (keyed N u y.progress.job.tasks)) (λ t e. (λ u z. tt, name_all t.frames))

    -- the row of a slot that stays is that of a task that stays
    pub stays_row : (q : ℕ) → (Lost plan m.constants.number gone q → ⊥) → (z : Slotted) → Has plan.rows z → z.slot ≡ q → z.job ≡ m.constants.number → Stays gone z.task
    stays_row q away z in_z at e g in_g n =
        let a = task_row plan s.jobs m g h.fits.rows in_m (alive g in_g) in
        let same : a.row ≡ z = h.fits.rows.tasks_differ a.row z a.among in_z (a.job ∙ sym e) (a.number ∙ n) in
        away (g, in_g, a.slot ∙ ap (λ (v : Slotted). v.slot) same ∙ at)

    pub kept_slot : (q : ℕ) → (Lost plan m.constants.number gone q → ⊥) → slot_at plan_left jobs_left q ≡ slot_at plan s.jobs q
    kept_slot q away = ap (slot_by plan_left jobs_left q) (lv.row_other q away) ∙ by_row (keyed (λ (r : Slotted). r.slot) q plan.rows) refl where
      low : (z : Slotted) → Has plan.rows z × (z.slot ≡ q) → q < 120
      low z g = omega (arith, h.fits.rows.below z g.0, h.fits.few, g.1)

      by_row : (z : Option Slotted) → keyed (λ (r : Slotted). r.slot) q plan.rows ≡ z → slot_by plan_left jobs_left q z ≡ slot_by plan s.jobs q z
      by_row None e = refl
      by_row (Some z) e = ⊎_elim
          (λ (i : z.job ≡ m.constants.number).
          let g = keyed_has (λ (r : Slotted). r.slot) q plan.rows z e in
          let new : keyed number_of z.job jobs_left ≡ Some (record m { progress = course_left }) = ap (λ (n : ℕ). keyed number_of n jobs_left) i ∙ member-same s.jobs m.constants.number course_left m (found_member x core r marks plan s o h m in_m) in
          let old : keyed number_of z.job s.jobs ≡ Some m = ap (λ (n : ℕ). keyed number_of n s.jobs) i ∙ found_member x core r marks plan s o h m in_m in
          ap (slot_in plan_left q z.job z.task) new
          ∙ ap (λ (n : ℕ). slot_with plan_left q n job' (keyed N z.task job'.tasks)) i
          ∙ own_slot q z.task (low z (keyed_has (λ (r : Slotted). r.slot) q plan.rows z e)) away (stays_row q away z g.0 g.1 i)
          ∙ ap (λ (n : ℕ). slot_with plan q n job (keyed N z.task job.tasks)) (sym i)
          ∙ ap (slot_in plan q z.job z.task) (sym old))
          (λ (i : z.job ≡ m.constants.number → ⊥).
          ap (slot_in plan_left q z.job z.task) (member-other s.jobs m.constants.number course_left z.job i)
          ∙ other_slot q z.job z.task (low z (keyed_has (λ (r : Slotted). r.slot) q plan.rows z e)) away i (keyed number_of z.job s.jobs))
          (cases_eq z.job m.constants.number)

    code_left : (i at : ℕ) (segments : List Segment) → code_objects plan_left i at segments ≡ code_objects plan i at segments
    code_left i at [] = refl
    code_left i at (q ∷ more) = ap (λ (us : List PagedObject). record { home = plan.dictionary i + 1 + at; kind = kind.Code; numbers = q.code } ∷ us) (code_left i (at + 1) more)

    things_left : (y : SessionJob) → objects_of plan_left y ≡ objects_of plan y
    things_left y = ap (λ (us : List PagedObject). us ++ map (array_object plan y.constants.number) y.progress.job.arrays) (code_left y.constants.number 1 y.constants.segments)

    pub member_m : keyed number_of m.constants.number s.jobs ≡ Some m
    member_m = found_member x core r marks plan s o h m in_m

    abbrev pub m_left : SessionJob
    m_left = record m { progress = course_left }

    left_found : keyed number_of m.constants.number jobs_left ≡ Some m_left
    left_found = member-same s.jobs m.constants.number course_left m member_m

    -- the members afterwards
    member_left : (z : SessionJob) → Has jobs_left z → (z ≡ m_left) ⊎ (Has s.jobs z × (z.constants.number ≢ m.constants.number))
    member_left z in_z = elim (cases_eq z.constants.number m.constants.number) [
      | inl e ↦ inl (same_Some z m_left (sym (keyed_member 1 jobs_left z (numbered_course 1 m.constants.number course_left s.jobs o.numbered) in_z) ∙ ap (λ (n : ℕ). keyed number_of n jobs_left) e ∙ left_found))
      | inr n ↦ ⊎_elim
          (λ (i : Has s.jobs z). let w : (z ≡ m_left) ⊎ (Has s.jobs z × (z.constants.number ≢ m.constants.number)) = inr (i, n) in w)
          (λ (e : z ≡ m_left). absurd (n (ap (λ (v : SessionJob). v.constants.number) e)))
          (change-has number_of m.constants.number (λ (v : SessionJob). record v { progress = course_left }) s.jobs m member_m z in_z)
    ]

    member_there : (z : SessionJob) → Has s.jobs z → z.constants.number ≢ m.constants.number → Has jobs_left z
    member_there z in_z n = ⊎_elim
        (λ (i : Has jobs_left z). i)
        (λ (e : (z ≡ m) × Has jobs_left m_left). absurd (n (ap (λ (v : SessionJob). v.constants.number) e.0)))
        (change-kept number_of m.constants.number (λ (v : SessionJob). record v { progress = course_left }) s.jobs m member_m z in_z)

    code_kind : (j n : ℕ) (segments : List Segment) (u : PagedObject) → Has (code_objects plan j n segments) u → u.kind ≡ kind.Code
    code_kind j n [] u i = absurd i
    code_kind j n (q ∷ more) u (inl e) = ap (λ (v : PagedObject). v.kind) (sym e)
    code_kind j n (q ∷ more) u (inr i) = code_kind j (n + 1) more u i

    module _ (f : ℕ → Slot) (ts : List PagedObject) (d : SomeDied x core r marks plan s o h m in_m some f ts gone) where
      pub slots_left : (q : ℕ) → slot_at plan_left jobs_left q ≡ f q
      slots_left q = elim (lost_or_not plan m.constants.number gone q) [
        | inl l ↦ ap (slot_by plan_left jobs_left q) (lv.row_gone q l) ∙ sym (d.lost l.0 l.1) ∙ ap f l.2
        | inr n ↦ kept_slot q n ∙ sym (d.stays q (λ g i e. n (g, i, e)))
      ]

      -- an object of the session that stays
      code_stays : (y : SessionJob) → Has s.jobs y → (u : PagedObject) → Has (code_objects plan y.constants.number 1 y.constants.segments) u → Has ts u
      code_stays y in_y u i = grind (arith, has_flat, has_append_left, code_kind)

      array_stays : (y : SessionJob) → Has s.jobs y → (b : Array) → Has y.progress.job.arrays b → (y ≡ m → NotTheirs gone b) → Has ts (array_object plan y.constants.number b)
      array_stays y in_y b in_b away =
          let j = y.constants.number in
          let u = array_object plan j b in
          let there = has_flat (objects_of plan) s.jobs y u in_y (has_append_right (code_objects plan j 1 y.constants.segments) (map (array_object plan j) y.progress.job.arrays) u (has_map (array_object plan j) y.progress.job.arrays b in_b)) in
          d.still u there (λ g in_g q. not_there x core r marks plan s o h m in_m g (alive g in_g) some y in_y b in_b (λ e own. away e g in_g own) q)

      pub back : (u : PagedObject) → Has (flat_map (objects_of plan_left) jobs_left) u → Has ts u
      back u i =
          let part = has_flat_back (objects_of plan_left) jobs_left u i in
          let inside : Has (objects_of plan part.item) u = subst (λ (us : List PagedObject). Has us u) (things_left part.item) part.inside in
          by part.item (member_left part.item part.among) inside where
            by : (z : SessionJob) → (z ≡ m_left) ⊎ (Has s.jobs z × (z.constants.number ≢ m.constants.number)) → Has (objects_of plan z) u → Has ts u
            by z (inl e) i = elim (has_append_cases (code_objects plan m.constants.number 1 m.constants.segments) (map (array_object plan m.constants.number) job'.arrays) u (subst (λ (v : SessionJob). Has (objects_of plan v) u) e i)) [
              | inl c ↦ code_stays m in_m u c
              | inr c ↦
                  let b = has_map_back (array_object plan m.constants.number) job'.arrays u c in
                  let k = lv.array_in b.item b.among in
                  subst (Has ts) b.is (array_stays m in_m b.item k.0 (λ e. k.1))
            ]
            by z (inr e) i = elim (has_append_cases (code_objects plan z.constants.number 1 z.constants.segments) (map (array_object plan z.constants.number) z.progress.job.arrays) u i) [
              | inl c ↦ code_stays z e.0 u c
              | inr c ↦
                  let b = has_map_back (array_object plan z.constants.number) z.progress.job.arrays u c in
                  subst (Has ts) b.is (array_stays z e.0 b.item b.among (λ w. absurd (e.1 (ap (λ (v : SessionJob). v.constants.number) w))))
            ]

      in_left : (z : SessionJob) → Has jobs_left z → (u : PagedObject) → Has (objects_of plan z) u → Has (flat_map (objects_of plan_left) jobs_left) u
      in_left z in_z u i = has_flat (objects_of plan_left) jobs_left z u in_z (subst (λ (us : List PagedObject). Has us u) (sym (things_left z)) i)

      there : (u : PagedObject) → Has ts u → Has (flat_map (objects_of plan_left) jobs_left) u
      there u in_u =
          let part = has_flat_back (objects_of plan) s.jobs u (d.was u in_u) in
          by part.item part.among part.inside (cases_eq part.item.constants.number m.constants.number) where
            in_m_left : Has (objects_of plan m) u → Has (objects_of plan m_left) u
            in_m_left i = elim (has_append_cases (code_objects plan m.constants.number 1 m.constants.segments) (map (array_object plan m.constants.number) m.progress.job.arrays) u i) [
              | inl c ↦ has_append_left (code_objects plan m.constants.number 1 m.constants.segments) (map (array_object plan m.constants.number) job'.arrays) u c
              | inr c ↦
                  let b = has_map_back (array_object plan m.constants.number) m.progress.job.arrays u c in
                  let away : NotTheirs gone b.item = λ g in_g own. d.out u in_u g in_g (subst (λ (v : PagedObject). In x core r marks plan s o h (slot_of plan m.constants.number g.number) v.home) b.is (owned_lies x core r marks plan s o h m in_m g (alive g in_g) b.item b.among some own)) in
                  has_append_right (code_objects plan m.constants.number 1 m.constants.segments) (map (array_object plan m.constants.number) job'.arrays) u
                  (subst (Has (map (array_object plan m.constants.number) job'.arrays)) b.is (has_map (array_object plan m.constants.number) job'.arrays b.item (lv.array_kept b.item b.among away)))
            ]

            by : (y : SessionJob) → Has s.jobs y → Has (objects_of plan y) u → (y.constants.number ≡ m.constants.number) ⊎ (y.constants.number ≢ m.constants.number) → Has (flat_map (objects_of plan_left) jobs_left) u
            by y in_y i (inl e) =
                let is : y ≡ m = same_Some y m (sym (found_member x core r marks plan s o h y in_y) ∙ ap (λ (n : ℕ). keyed number_of n s.jobs) e ∙ member_m) in
                in_left m_left (keyed_has number_of m.constants.number jobs_left m_left left_found).0 u (in_m_left (subst (λ (v : SessionJob). Has (objects_of plan v) u) is i))
            by y in_y i (inr n) = in_left y (member_there y in_y n) u i

      -- a machine that represents the view after the deaths represents that of the session afterwards
      pub Represents-left : (y : Storage) (new : List Tagged) (r' : Regs) → Represents y new r' (pic x core r marks plan s o h m in_m some f ts) → Represents y new r' (machine_view plan_left jobs_left)
      Represents-left y new r' st =
          let us = flat_map (objects_of plan_left) jobs_left in
          let same : slot_at plan_left jobs_left ≡ f = λ z q. slots_left q z in
          let P : (ℕ → Slot) → Type 0 = λ g. Represents y new r' (record { stacks = plan.stacks; size = plan.size; peak = plan.peak; slots = g; objects = us }) in
          subst P (sym same) (Represents-objects y new r' (pic x core r marks plan s o h m in_m some f ts) us (record { there = there; back = back }) st)
