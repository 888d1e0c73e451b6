-- The tables show the session with a new task once its row is appended.
use Rattle.std.proofs.Common.{◌≡◌, ◌≢◌, ℕ, zero, suc, List, [], ◌∷◌, ◌++◌, map, Option, Some, refl, sym, ◌∙◌, ap, inl, inr, ⊎_elim, subst, arith}
use Rattle.std.specs.List.{slice_get}
use Rattle.std.proofs.lemmas.Bool.{cases_eq}
use Rattle.std.proofs.lemmas.Option.{same_Some, none-some}
use Rattle.std.proofs.lemmas.List.{map-append}
use Rattle.b67_lemmas.specs.Lists.{Has}
use Rattle.b67_model.specs.Common.{Condition, Ready, Awaits, WaitsAt, Task, Job, SessionJob, number_of, Session, NumberedFrom, frames_of_task}
use Rattle.b67_model.specs.Keyed.{keyed}
use Rattle.b67_lemmas.proofs.Members.{has_append_left, has_append_right, has_append_cases, keyed_has}
use Rattle.b67_stack.specs.Stacks.{StackPlace}
use Rattle.b67_layout.specs.Common.{Placement, slot_of, spot_in, base_spot, spots, address_of, WaitsAtCell, TaskRow, JobRow, JobCounts, shown, parent_slot, critical_disp, TaskShows, JobsShow, RunningRow, Differ, TablesShow}
use Rattle.b67_layout.proofs.MachineViews.{with_course}
use Rattle.b67_layout.proofs.Rows.{task_row}
use Rattle.b67_task.specs.Born.{with_task_at}
use Rattle.b67_task.specs.Joining.{Joins}
use Rattle.b67_task.proofs.OneMore.{slot_of-other, keyed_old, spots_own, spots_other}
use Rattle.b67_task.proofs.Births.{keyed_numbered, changed_member, kept_member, moved_member}

differ_more : (xs : List ℕ) (n : ℕ) → Differ xs → (Has xs n → ⊥) → Differ (xs ++ n ∷ [])
differ_more [] n d new = (λ h. h, tt)
differ_more (x ∷ xs) n d new = (λ h. ⊎_elim d.0 (λ (l : Has (n ∷ []) x). ⊎_elim (λ (e : n ≡ x). new (inl (sym e))) (λ (z : ⊥). absurd z) l) (has_append_cases xs (n ∷ []) x h), differ_more xs n d.1 (λ h. new (inr h)))

get_front : {A : Type 0} (xs : List A) (x : A) (i : ℕ) (y : A) → slice_get xs i ≡ Some y → slice_get (xs ++ x ∷ []) i ≡ Some y
get_front [] x i y e = absurd (none-some y e)
get_front (z ∷ zs) x zero y e = e
get_front (z ∷ zs) x (suc i) y e = get_front zs x i y e

module _ (plan : Placement) (s : Session) (m : SessionJob) (job' : Job) (child : Task) (k peak : ℕ) (numbered : NumberedFrom 1 s.jobs) (joins : Joins plan s.jobs m job' child k peak) where
  abbrev j : ℕ
  j = m.constants.number

  abbrev more : Placement
  more = with_task_at plan m.constants.number child.number k peak

  abbrev new_member : SessionJob
  new_member = record m { progress = record m.progress { job = job' } }

  abbrev after : Session
  after = record s { jobs = with_course s.jobs m.constants.number (record m.progress { job = job' }); peak = peak }

  slot_more : (i u : ℕ) → (i ≡ m.constants.number → u ≢ child.number) → slot_of more i u ≡ slot_of plan i u
  slot_more i u ne = slot_of-other plan m.constants.number child.number k peak i u ne

  parent_more : (i : ℕ) (parents : List ℕ) → (i ≡ m.constants.number → (u : ℕ) → Has parents u → u ≢ child.number) → parent_slot more i parents ≡ parent_slot plan i parents
  parent_more i [] old = refl
  parent_more i (parent ∷ above) old = slot_more i parent (λ e. old e parent (inl refl))

  shown_more : (i : ℕ) (job job2 : Job) (t : Task) → ((id : ℕ) → spots more i job2 t id ≡ spots plan i job t id) → (c : Condition) → shown more i job2 t c ≡ shown plan i job t c
  shown_more i job job2 t same Ready = refl
  shown_more i job job2 t same (Awaits n) = refl
  shown_more i job job2 t same (WaitsAt frame offset) = ap (λ (q : StackPlace). WaitsAtCell (address_of plan q) offset) (same frame)

  critical_own : (c : ℕ) (parents : List ℕ) → ((u : ℕ) → Has parents u → u ≢ child.number) → critical_disp more m.constants.number job' c parents ≡ critical_disp plan m.constants.number m.progress.job c parents
  critical_own c [] old = refl
  critical_own c (parent ∷ above) old =
      let o = keyed (λ (t : Task). t.number) parent m.progress.job.tasks in
      ap (λ (q : Option Task). (spot_in (slot_of more m.constants.number parent) (base_spot m.constants.number) (frames_of_task q) c).disp) (keyed_old plan s.jobs m job' child k peak joins parent (old parent (inl refl)))
      ∙ ap (λ (n : ℕ). (spot_in n (base_spot m.constants.number) (frames_of_task o) c).disp) (slot_more m.constants.number parent (λ e. old parent (inl refl)))

  critical_other : (i : ℕ) → i ≢ m.constants.number → (job : Job) (c : ℕ) (parents : List ℕ) → critical_disp more i job c parents ≡ critical_disp plan i job c parents
  critical_other i ne job c parents = grind arith

  -- an old task's row shows it still
  own_shows : (t : Task) → Has m.progress.job.tasks t → (row : TaskRow) → TaskShows plan m t row → TaskShows more new_member t row
  own_shows t i row h = record {
    job = h.job;
    number = h.number;
    slot = h.slot ∙ sym (slot_more m.constants.number t.number (λ e. joins.newest t i));
    parent = h.parent ∙ sym (parent_more m.constants.number t.parents (λ e. joins.above t i));
    critical = h.critical ∙ sym (critical_own t.critical t.parents (joins.above t i));
    state = h.state ∙ sym (shown_more m.constants.number m.progress.job job' t (spots_own plan s.jobs m job' child k peak joins t i) t.condition);
    segment = h.segment;
    place = h.place;
  }

  other_shows : (y : SessionJob) → y.constants.number ≢ m.constants.number → (t : Task) (row : TaskRow) → TaskShows plan y t row → TaskShows more y t row
  other_shows y ne t row h = record {
    job = h.job;
    number = h.number;
    slot = h.slot ∙ sym (slot_more y.constants.number t.number (λ e. absurd (ne e)));
    parent = h.parent ∙ sym (parent_more y.constants.number t.parents (λ e. absurd (ne e)));
    critical = h.critical ∙ sym (critical_other y.constants.number ne y.progress.job t.critical t.parents);
    state = h.state ∙ sym (shown_more y.constants.number y.progress.job y.progress.job t (spots_other plan s.jobs m job' child k peak joins y.constants.number ne y.progress.job t) t.condition);
    segment = h.segment;
    place = h.place;
  }

  old_task : (t : Task) → Has m.progress.job.tasks t → Has job'.tasks t
  old_task t i = subst (λ (ts : List Task). Has ts t) (sym joins.tasks) (inr i)

  pub tables_born : (rows : List TaskRow) (job_rows job_rows' : List JobRow) (c : JobCounts) (row : TaskRow) → TablesShow plan s rows job_rows c → TaskShows more new_member child row → row.slot ≡ k
      → JobsShow more after.jobs job_rows' → (running : TaskRow) → slice_get rows c.running ≡ Some running → TablesShow more after (rows ++ row ∷ []) job_rows' c
  tables_born rows job_rows job_rows' c row h new at jobs running runs = record {
    tasks = λ w i. ⊎_elim
        (λ (old : Has rows w).
        let (y, t, in_y, in_t, sh) = h.tasks w old in
        ⊎_elim
        (λ (e : y.constants.number ≡ m.constants.number).
        let is : y ≡ m = one_member y in_y e in (
          new_member,
          t,
          moved_member m.constants.number (record m.progress { job = job' }) s.jobs m joins.member,
          old_task t (subst (λ (z : SessionJob). Has z.progress.job.tasks t) is in_t),
          own_shows t (subst (λ (z : SessionJob). Has z.progress.job.tasks t) is in_t) w (subst (λ (z : SessionJob). TaskShows plan z t w) is sh),
        ))
        (λ (ne : y.constants.number ≡ m.constants.number → ⊥). (y, t, kept_member m.constants.number (record m.progress { job = job' }) s.jobs y in_y ne, in_t, other_shows y ne t w sh))
        (cases_eq y.constants.number m.constants.number))
        (λ (l : Has (row ∷ []) w). ⊎_elim
        (λ (e : row ≡ w). (new_member, child, moved_member m.constants.number (record m.progress { job = job' }) s.jobs m joins.member, subst (λ (ts : List Task). Has ts child) (sym joins.tasks) (inl refl), subst (TaskShows more new_member child) e new))
        (λ (z : ⊥). absurd z) l)
        (has_append_cases rows (row ∷ []) w i);
    each = λ y t in_y in_t. ⊎_elim
        (λ (old : Has s.jobs y × (y.constants.number ≢ m.constants.number)). let (w, i, sh) = h.each y t old.0 in_t in (w, has_append_left rows (row ∷ []) w i, other_shows y old.1 t w sh))
        (λ (e : y ≡ new_member).
        let there : Has (child ∷ m.progress.job.tasks) t = subst (λ (ts : List Task). Has ts t) joins.tasks (subst (λ (z : SessionJob). Has z.progress.job.tasks t) e in_t) in
        subst (λ (z : SessionJob). (w : TaskRow) × Has (rows ++ row ∷ []) w × TaskShows more z t w) (sym e) (⊎_elim
        (λ (is : child ≡ t). (row, has_append_right rows (row ∷ []) row (inl refl), subst (λ (u : Task). TaskShows more new_member u row) is new))
        (λ (old : Has m.progress.job.tasks t). let (w, i, sh) = h.each m t (keyed_has number_of m.constants.number s.jobs m joins.member).0 old in (w, has_append_left rows (row ∷ []) w i, own_shows t old w sh))
        there))
        (changed_member 1 m.constants.number (record m.progress { job = job' }) s.jobs m numbered joins.member y in_y);
    once = subst Differ (sym (map-append (λ (w : TaskRow). w.slot) rows (row ∷ []))) (differ_more (map (λ (w : TaskRow). w.slot) rows) row.slot h.once (λ i. new_slot rows (λ w l. l) i));
    jobs = jobs;
    counts =
        let o = h.counts in
        record {
          quantum = o.quantum;
          made = o.made;
          turn = o.turn;
          last_job = o.last_job;
          last_number = o.last_number;
          switches = o.switches;
          next = o.next;
          past = o.past;
          running = subst (λ (q : Option TaskRow). RunningRow more q c.running) (sym (get_front rows row c.running running runs)) (same_running running (subst (λ (q : Option TaskRow). RunningRow plan q c.running) runs o.running));
        };
  } where
    one_member : (y : SessionJob) → Has s.jobs y → y.constants.number ≡ m.constants.number → y ≡ m
    one_member y i e = same_Some y m (sym (ap (λ (n : ℕ). keyed number_of n s.jobs) (sym e) ∙ keyed_numbered 1 s.jobs numbered y i) ∙ joins.member)

    -- no row has the new slot
    new_slot : (ws : List TaskRow) → ((w : TaskRow) → Has ws w → Has rows w) → Has (map (λ (w : TaskRow). w.slot) ws) row.slot → ⊥
    new_slot [] all i = absurd i
    new_slot (w ∷ ws) all (inl e) =
        let (y, t, in_y, in_t, sh) = h.tasks w (all w (inl refl)) in
        let q = task_row plan s.jobs y t joins.rows in_y in_t in
        joins.free q.row q.among (sym q.slot ∙ sym sh.slot ∙ e ∙ at)
    new_slot (w ∷ ws) all (inr i) = new_slot ws (λ v l. all v (inr l)) i

    same_running : (w : TaskRow) → RunningRow plan (Some w) c.running → RunningRow more (Some w) c.running
    same_running w r = r
