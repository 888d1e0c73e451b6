-- The marks of the tables' rows are those on which live tasks depend.
use Rattle.std.proofs.Common.{◌≡◌, ◌≢◌, ℕ, ◌<◌, ◌≤◌, max, List, [], ◌∷◌, map, Option, true, refl, sym, ◌∙◌, ap, arith, inl, inr, ◌⊎◌, ⊎_elim, subst, ◌==◌}
use Rattle.std.proofs.lemmas.Bool.{cases_Bool, cases_eq, eqb-true, true≢false}
use Rattle.std.proofs.lemmas.Option.{same_Some}
use Rattle.b67_lemmas.specs.Lists.{Has}
use Rattle.b67_lemmas.proofs.Members.{all_in, any_has, any_some, falls_same, has_map, has_map_back, keyed_has}
use Rattle.b67_model.specs.Common.{Frame, Task, Job, SessionJob, height, is_critical, number_of, Session, IsSegment, NumberedFrom, BirthInOrder, ParentInOrder, TaskInOrder, TasksInOrder, identities, frames_named, frames_of_task}
use Rattle.b67_model.specs.Keyed.{keyed}
use Rattle.b67_law.proofs.Looks.{above_one}
use Rattle.b67_law.proofs.Numbered.{keyed_member}
use Rattle.b67_stack.specs.Stacks.{StackPlace}
use Rattle.b67_layout.specs.Common.{Placement, Slotted, slot_of, spot_in, base_spot, JobRow, JobCounts, parent_slot, critical_disp, TaskShows, TablesShow, RowsFit, RepresentsCritical, critical_mark}
use Rattle.b67_layout.specs.Rows as rows
use Rattle.b67_layout.proofs.Rows.{task_row, slot_below}
use Rattle.b67_task.proofs.Owners.{counted, total_two}
use Rattle.b67_task.specs.declared.tables.TaskRow.{TaskRow}
use Rattle.b67_task.specs.Tables as tables
use Rattle.b67_task.specs.RowMarks.{top_critical, ShowsMarks}

pub top_high : (k : ℕ) (rs : List TaskRow) (q : TaskRow) → Has rs q → q.parent ≡ k → q.critical ≤ top_critical k rs
top_high k [] q i e = absurd i
top_high k (r ∷ rs) q (inl same) e = grind arith
top_high k (r ∷ rs) q (inr i) e = grind (arith, top_high k rs q i e)

pub top_low : (k n : ℕ) (rs : List TaskRow) → ((q : TaskRow) → Has rs q → q.parent ≡ k → q.critical ≤ n) → top_critical k rs ≤ n
top_low k n [] low = omega arith
top_low k n (r ∷ rs) low =
    let rest = top_low k n rs (λ q i. low q (inr i)) in
    elim (cases_Bool (r.parent == k)) [
      | inl t ↦ (let here = low r (inl refl) (eqb-true r.parent k t) in rw t (let g : max r.critical (top_critical k rs) ≤ n = omega (arith, rest, here) in g))
      | inr t ↦ rw t rest
    ]

spot_low : (k : ℕ) (outer : ℕ → StackPlace) (fs : List Frame) (c : ℕ) → Has (identities fs) c → (spot_in k outer fs c).disp ≤ height fs
spot_low k outer [] c i = absurd i
spot_low k outer (f ∷ below) c i = grind (arith, spot_low k outer below c)

-- where a critical frame is found is no higher than the mark
mark_high : (job : Job) (k : ℕ) (outer : ℕ → StackPlace) (fs : List Frame) (c : ℕ) → Has (identities fs) c → is_critical job c ≡ true → (spot_in k outer fs c).disp ≤ critical_mark job fs
mark_high job k outer [] c i t = absurd i
mark_high job k outer (f ∷ below) c i t = grind (arith, spot_low, mark_high job k outer below c)

-- the mark is at a critical frame, or there is none
pub record MarkAt (job : Job) (k : ℕ) (outer : ℕ → StackPlace) (fs : List Frame) : Type 0 where
  pub frame : ℕ
  pub among : Has (identities fs) frame
  pub critical : is_critical job frame ≡ true
  pub at : (spot_in k outer fs frame).disp ≡ critical_mark job fs

mark_from : (job : Job) (k : ℕ) (outer : ℕ → StackPlace) (fs : List Frame) → (critical_mark job fs ≡ 0) ⊎ MarkAt job k outer fs
mark_from job k outer [] = inl refl
mark_from job k outer (f ∷ below) = grind (arith, mark_from job k outer below)

module _ (plan : Placement) (s : Session) (numbered : NumberedFrom 1 s.jobs) (fits : RowsFit plan s.jobs) (few : plan.peak ≤ 120)
    (good : (y : SessionJob) → Has s.jobs y → TasksInOrder (IsSegment y.constants) y.constants y.progress.job)
    (rs : List TaskRow) (job_rows : List JobRow) (c : JobCounts) (shows : TablesShow plan s (map tables.task_row rs) job_rows c) where
  pub one_task : (y : SessionJob) → Has s.jobs y → (u v : Task) → Has y.progress.job.tasks u → Has y.progress.job.tasks v → u.number ≡ v.number → u ≡ v
  one_task y in_y u v iu iv e = falls_same (λ (t : Task). t.number) y.progress.job.next_task y.progress.job.tasks u v (good y in_y).numbers iu iv e

  pub one_slot : (y z : SessionJob) (u v : Task) → Has s.jobs y → Has s.jobs z → Has y.progress.job.tasks u → Has z.progress.job.tasks v → slot_of plan y.constants.number u.number ≡ slot_of plan z.constants.number v.number → (y ≡ z) × (u.number ≡ v.number)
  one_slot y z u v in_y in_z in_u in_v e =
      let a = task_row plan s.jobs y u fits in_y in_u in
      let b = task_row plan s.jobs z v fits in_z in_v in
      let same : a.row ≡ b.row = fits.differ a.row b.row a.among b.among (sym a.slot ∙ e ∙ b.slot) in
      let numbers : y.constants.number ≡ z.constants.number = sym a.job ∙ ap (λ (q : Slotted). q.job) same ∙ b.job in (
        same_Some y z (sym (keyed_member 1 s.jobs y numbered in_y) ∙ ap (λ (n : ℕ). keyed number_of n s.jobs) numbers ∙ keyed_member 1 s.jobs z numbered in_z),
        sym a.number ∙ ap (λ (q : Slotted). q.task) same ∙ b.number,
      )

  pub one_frame : (y : SessionJob) → Has s.jobs y → (u v : Task) → Has y.progress.job.tasks u → Has y.progress.job.tasks v → (id : ℕ) → Has (identities u.frames) id → Has (identities v.frames) id → u ≡ v
  one_frame y in_y u v iu iv id a b = elim (cases_eq u.number v.number) [
    | inl e ↦ one_task y in_y u v iu iv e
    | inr ne ↦
        absurd (let both = total_two (λ (t : Task). t.number) (λ (t : Task). frames_named id t.frames) y.progress.job.tasks u v iu iv ne in
        let w : ⊥ = omega (arith, both, (good y in_y).apart id, counted id u.frames a, counted id v.frames b) in w)
  ]

  -- the parent of a task with a parent's slot
  pub record Under (y : SessionJob) (u : Task) : Type 0 where
    pub parent : Task
    pub live : Has y.progress.job.tasks parent
    pub critical : Has (identities parent.frames) u.critical
    pub slot : parent_slot plan y.constants.number u.parents ≡ slot_of plan y.constants.number parent.number
    pub disp : critical_disp plan y.constants.number y.progress.job u.critical u.parents ≡ (spot_in (slot_of plan y.constants.number parent.number) (base_spot y.constants.number) parent.frames u.critical).disp

  pub under_of : (y : SessionJob) (u : Task) → Has s.jobs y → Has y.progress.job.tasks u → (ps : List ℕ) → u.parents ≡ ps → ((ps ≡ []) × (u.critical ≡ 0)) ⊎ Under y u
  under_of y u in_y in_u [] e = grind (arith, all_in)
  under_of y u in_y in_u (p ∷ more) e =
      let birth : ParentInOrder y.progress.job u p more = subst (BirthInOrder y.progress.job u) e (all_in (TaskInOrder (IsSegment y.constants) y.constants y.progress.job) y.progress.job.tasks u (good y in_y).tasks in_u).birth in
      let found = keyed_has (λ (v : Task). v.number) p y.progress.job.tasks birth.parent birth.found in
      let j = y.constants.number in
      inr (record {
        parent = birth.parent;
        live = found.0;
        critical = birth.is_critical;
        slot = ap (parent_slot plan j) e ∙ ap (slot_of plan j) (sym found.1);
        disp = ap (critical_disp plan j y.progress.job u.critical) e
            ∙ ap (λ (o : Option Task). (spot_in (slot_of plan j p) (base_spot j) (frames_of_task o) u.critical).disp) birth.found
            ∙ ap (λ (n : ℕ). (spot_in (slot_of plan j n) (base_spot j) birth.parent.frames u.critical).disp) (sym found.1);
      })

  -- a row with a slot for its parent's is that of a task under the slot's
  pub under_row : (k : ℕ) → k < 120 → (q : TaskRow) → Has rs q → q.parent ≡ k → (y : SessionJob) × (u : Task) × Has s.jobs y × Has y.progress.job.tasks u × TaskShows plan y u (tables.task_row q) × Under y u
  under_row k low q i e =
      let (y, u, in_y, in_u, w) = shows.tasks (tables.task_row q) (has_map tables.task_row rs q i) in
      ⊎_elim
      (λ (n : (u.parents ≡ []) × (u.critical ≡ 0)). absurd (let none : q.parent ≡ 255 = w.parent ∙ ap (parent_slot plan y.constants.number) n.0 in let z : ⊥ = omega (arith, none, e, low) in z))
      (λ (p : Under y u). (y, u, in_y, in_u, w, p))
      (under_of y u in_y in_u u.parents refl)

  at_most : (m : SessionJob) (t : Task) → Has s.jobs m → Has m.progress.job.tasks t → (y : SessionJob) (u : Task) → Has s.jobs y → Has y.progress.job.tasks u → (q : TaskRow) → TaskShows plan y u (tables.task_row q) → (p : Under y u) → y ≡ m → p.parent.number ≡ t.number
      → q.critical ≤ critical_mark m.progress.job t.frames
  at_most m t in_m in_t y u in_y in_u q w p same n = grind (arith, one_task, any_some, mark_high)

  at_least : (m : SessionJob) (t : Task) → Has s.jobs m → Has m.progress.job.tasks t → MarkAt m.progress.job (slot_of plan m.constants.number t.number) (base_spot m.constants.number) t.frames
      → critical_mark m.progress.job t.frames ≤ top_critical (slot_of plan m.constants.number t.number) rs
  at_least m t in_m in_t w =
      let (u, in_u, at) = any_has (λ (v : Task). v.critical == w.frame) m.progress.job.tasks w.critical in
      let is : u.critical ≡ w.frame = eqb-true u.critical w.frame at in
      let f = has_map_back (λ (g : Frame). g.identity) t.frames w.frame w.among in
      let high = above_one (IsSegment m.constants) m.constants m.progress.job (good m in_m) t in_t f.item f.among in
      ⊎_elim
      (λ (n : (u.parents ≡ []) × (u.critical ≡ 0)). absurd (let z : ⊥ = omega (arith, n.1, is, f.is, high) in z))
      (λ (p : Under m u).
      (let same : p.parent ≡ t = one_frame m in_m p.parent t p.live in_t w.frame (subst (Has (identities p.parent.frames)) is p.critical) w.among in
      let (row, in_row, sh) = shows.each m u in_m in_u in
      let b = has_map_back tables.task_row rs row in_row in
      let j = m.constants.number in
      let parent : b.item.parent ≡ slot_of plan j t.number = ap (λ (z : rows.TaskRow). z.parent) b.is ∙ sh.parent ∙ p.slot ∙ ap (λ (v : Task). slot_of plan j v.number) same in
      let critical : b.item.critical ≡ critical_mark m.progress.job t.frames =
      ap (λ (z : rows.TaskRow). z.critical) b.is ∙ sh.critical ∙ p.disp ∙ ap (λ (v : Task). (spot_in (slot_of plan j v.number) (base_spot j) v.frames u.critical).disp) same
      ∙ ap (λ (n : ℕ). (spot_in (slot_of plan j t.number) (base_spot j) t.frames n).disp) is ∙ w.at in
      let top = top_high (slot_of plan j t.number) rs b.item b.among parent in
      omega (arith, top, critical)))
      (under_of m u in_m in_u u.parents refl)

  top_is : (m : SessionJob) (t : Task) → Has s.jobs m → Has m.progress.job.tasks t → top_critical (slot_of plan m.constants.number t.number) rs ≡ critical_mark m.progress.job t.frames
  top_is m t in_m in_t =
      let k = slot_of plan m.constants.number t.number in
      let j = m.constants.number in
      let low : k < 120 = omega (arith, slot_below plan s.jobs m t fits in_m in_t, few) in
      let down : top_critical k rs ≤ critical_mark m.progress.job t.frames = top_low k (critical_mark m.progress.job t.frames) rs (λ q i e.
      (let (y, u, in_y, in_u, w, p) = under_row k low q i e in
      let one = one_slot y m p.parent t in_y in_m p.live in_t (sym p.slot ∙ sym w.parent ∙ e) in
      at_most m t in_m in_t y u in_y in_u q w p one.0 one.1)) in
      let up : critical_mark m.progress.job t.frames ≤ top_critical k rs = ⊎_elim
      (λ (z : critical_mark m.progress.job t.frames ≡ 0). omega (arith, z))
      (λ (w : MarkAt m.progress.job k (base_spot j) t.frames). at_least m t in_m in_t w)
      (mark_from m.progress.job k (base_spot j) t.frames) in
      omega (arith, down, up)

  top_free : (k : ℕ) → k < 120 → ((r : Slotted) → Has plan.rows r → r.slot ≢ k) → top_critical k rs ≡ 0
  top_free k low none =
      let zero = top_low k 0 rs (λ q i e.
      (let (y, u, in_y, in_u, w, p) = under_row k low q i e in
      let a = task_row plan s.jobs y p.parent fits in_y p.live in
      absurd (none a.row a.among (sym a.slot ∙ sym p.slot ∙ sym w.parent ∙ e)))) in
      omega (arith, zero)

  pub marks_show : (marks : List ℕ) → ShowsMarks marks rs → RepresentsCritical marks plan s.jobs
  marks_show marks w = grind (arith, slot_below, top_is, top_free)
