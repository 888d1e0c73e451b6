-- The tables show the session without the tasks that ended, once their rows are out and who awaited one of them is ready.
use Rattle.std.proofs.Common.{◌≡◌, ◌≢◌, ℕ, ◌≤◌, List, [], ◌∷◌, map, filter, length, not, Option, Some, None, true, false, refl, sym, ◌∙◌, ap, arith, inl, inr, ◌⊎◌, ⊎_elim, subst, ◌==◌}
use Rattle.std.specs.List.{slice_get}
use Rattle.std.proofs.lemmas.Bool.{cases_eq, eq-eqb, ne_eqb, true≢false}
use Rattle.std.proofs.lemmas.List.{length-map}
use Rattle.std.proofs.lemmas.Option.{same_Some, slice_get_past}
use Rattle.std.proofs.lemmas.Simd.{map-map}
use Rattle.b67_word.specs.Tagged.{Tagged}
use Rattle.b67_ctl.specs.declared.registers.Regs.{Regs}
use Rattle.b67_lemmas.specs.Lists.{Has}
use Rattle.b67_lemmas.proofs.Members.{has_filter, has_filter_in, has_map, has_map_back}
use Rattle.b67_model.specs.Common.{Condition, Ready, Awaits, WaitsAt, Frame, Task, Job, SessionJob, among, released, number_of, Session, frames_of_task}
use Rattle.b67_model.specs.Keyed.{keyed}
use Rattle.b67_law.proofs.Deaths.{IsClosed}
use Rattle.b67_stack.specs.Represents.{Storage}
use Rattle.b67_stack.specs.Stacks.{StackPlace}
use Rattle.b67_layout.specs.Common.{Placement, slot_of, spot_in, base_spot, spots, address_of, AwaitsTask, WaitsAtCell, JobRow, JobCounts, shown, parent_slot, critical_disp, TaskShows, JobsShow, RunningRow, Differ, TablesShow, RowsFit, SessionHolds, IsInOrderButCounts}
use Rattle.b67_layout.specs.Rows as rows
use Rattle.b67_layout.proofs.MachineViews.{with_course}
use Rattle.b67_layout.proofs.Rows.{slot_below}
use Rattle.b67_task.specs.declared.tables.TaskRow.{TaskRow}
use Rattle.b67_task.specs.declared.tables.TaskState.{TaskState}
use Rattle.b67_task.specs.declared.tables.TaskState.TheVariants as states
use Rattle.b67_task.specs.Tables.{state_of, task_row}
use Rattle.b67_task.specs.Likes.{Like}
use Rattle.b67_task.proofs.AlikePlans.{like_same, spots-twin}
use Rattle.b67_task.proofs.Births.{changed_member, kept_member, moved_member}
use Rattle.b67_task.specs.TakenOut.{plan_without, session_without}
use Rattle.b67_task.specs.Ends.{gone_of, job_without, rows_without}
use Rattle.b67_task.specs.Leaves.{Lost, Stays, EndingLeaves, Lists}
use Rattle.b67_task.proofs.EndsAlone.{leaves, lists}
use Rattle.b67_task.proofs.Slotwise.{found_member, one_each}
use Rattle.b67_task.specs.LeftRows.{freed_state, freed, row_is_kept, rows_left}
use Rattle.b67_task.proofs.Kept.{kept_differ, kept_length}

frames_like : (o' o : Option Task) → Like o' o → frames_of_task o' ≡ frames_of_task o
frames_like o' o l = grind arith

-- a row that stays
pub stays_then : (j : ℕ) (numbers : List ℕ) (q : TaskRow) → row_is_kept j numbers q ≡ true → q.job ≡ j → among numbers q.number ≡ false
stays_then j numbers q t e = grind arith

pub stays_if : (j : ℕ) (numbers : List ℕ) (q : TaskRow) → (q.job ≡ j → among numbers q.number ≡ false) → row_is_kept j numbers q ≡ true
stays_if j numbers q f = elim (cases_eq q.job j) [ inl e ↦ rw (eq-eqb q.job j e) (ap not (f e)) | inr n ↦ rw (ne_eqb q.job j n) refl ]

pub freed_own : (j : ℕ) (numbers : List ℕ) (q : TaskRow) → q.job ≡ j → freed j numbers q ≡ record q { state = freed_state numbers q.state }
freed_own j numbers q e = rw (eq-eqb q.job j e) refl

pub freed_other : (j : ℕ) (numbers : List ℕ) (q : TaskRow) → q.job ≢ j → freed j numbers q ≡ q
freed_other j numbers q e = rw (ne_eqb q.job j e) refl

pub freed_slot : (j : ℕ) (numbers : List ℕ) (q : TaskRow) → (freed j numbers q).slot ≡ q.slot
freed_slot j numbers q = elim (cases_eq q.job j) [ inl e ↦ ap (λ (z : TaskRow). z.slot) (freed_own j numbers q e) | inr e ↦ ap (λ (z : TaskRow). z.slot) (freed_other j numbers q e) ]

-- what a state shows once these have ended
freed_shows : (plan plan' : Placement) (j : ℕ) (job job' : Job) (t t' : Task) (numbers : List ℕ) → ((id : ℕ) → address_of plan' (spots plan' j job' t' id) ≡ address_of plan (spots plan j job t id))
    → (w : TaskState) (c : Condition) → state_of w ≡ shown plan j job t c → state_of (freed_state numbers w) ≡ shown plan' j job' t' (released numbers c)
freed_shows plan plan' j job job' t t' numbers same states.Ready Ready e = refl
freed_shows plan plan' j job job' t t' numbers same (states.Awaits n) (Awaits k) e = grind arith
freed_shows plan plan' j job job' t t' numbers same (states.WaitsAt mark offset) (WaitsAt frame off) e =
    e ∙ ap (λ (q : ℕ). WaitsAtCell q off) (sym (same frame))
freed_shows plan plan' j job job' t t' numbers same states.Ready (Awaits k) e = (let w : rows.IsReady ≡ AwaitsTask k = e in let z : ⊥ = cc in absurd z)
freed_shows plan plan' j job job' t t' numbers same states.Ready (WaitsAt frame off) e = (let w : rows.IsReady ≡ WaitsAtCell (address_of plan (spots plan j job t frame)) off = e in let z : ⊥ = cc in absurd z)
freed_shows plan plan' j job job' t t' numbers same (states.Awaits n) Ready e = (let w : AwaitsTask n ≡ rows.IsReady = e in let z : ⊥ = cc in absurd z)
freed_shows plan plan' j job job' t t' numbers same (states.Awaits n) (WaitsAt frame off) e = (let w : AwaitsTask n ≡ WaitsAtCell (address_of plan (spots plan j job t frame)) off = e in let z : ⊥ = cc in absurd z)
freed_shows plan plan' j job job' t t' numbers same (states.WaitsAt mark offset) Ready e = (let w : WaitsAtCell mark offset ≡ rows.IsReady = e in let z : ⊥ = cc in absurd z)
freed_shows plan plan' j job job' t t' numbers same (states.WaitsAt mark offset) (Awaits k) e = (let w : WaitsAtCell mark offset ≡ AwaitsTask k = e in let z : ⊥ = cc in absurd z)

module _ (x : Storage) (core : List Tagged) (r : Regs) (marks : List ℕ) (plan : Placement) (s : Session) (o : IsInOrderButCounts s) (h : SessionHolds x core r marks plan s)
    (m : SessionJob) (in_m : Has s.jobs m) (numbers : List ℕ) (stopped : (plan.running ≡ 255) ⊎ Lost plan m.constants.number (gone_of m.progress.job numbers) plan.running)
    (closed : IsClosed m.progress.job numbers) where
  abbrev j : ℕ
  j = m.constants.number

  abbrev gone : List Task
  gone = gone_of m.progress.job numbers

  abbrev pub job' : Job
  job' = job_without m.progress.job numbers

  abbrev pub after_plan : Placement
  after_plan = plan_without plan m numbers

  abbrev pub after : Session
  after = session_without s m numbers

  abbrev pub member' : SessionJob
  member' = record m { progress = record m.progress { job = job_without m.progress.job numbers } }

  abbrev left_task : Task → Task
  left_task t = record t { condition = released numbers t.condition }

  lv : EndingLeaves plan m gone (rows_without plan m.constants.number numbers) 255 job'
  lv = leaves x core r marks plan s o h m in_m numbers stopped

  ls : Lists plan m gone (rows_without plan m.constants.number numbers) job'
  ls = lists x core r marks plan s o h m in_m numbers

  found_m : keyed number_of m.constants.number s.jobs ≡ Some m
  found_m = found_member x core r marks plan s o h m in_m

  is_m : (z : SessionJob) → Has s.jobs z → z.constants.number ≡ m.constants.number → z ≡ m
  is_m z i e = same_Some z m (sym (found_member x core r marks plan s o h z i) ∙ ap (λ (n : ℕ). keyed number_of n s.jobs) e ∙ found_m)

  moved : Has after.jobs member'
  moved = moved_member m.constants.number member'.progress s.jobs m found_m

  pub member_of : (z : SessionJob) → Has after.jobs z → (Has s.jobs z × (z.constants.number ≢ m.constants.number)) ⊎ (z ≡ member')
  member_of z i = changed_member 1 m.constants.number member'.progress s.jobs m o.numbered found_m z i

  kept : (z : SessionJob) → Has s.jobs z → z.constants.number ≢ m.constants.number → Has after.jobs z
  kept z i ne = kept_member m.constants.number member'.progress s.jobs z i ne

  among_gone : (g : Task) → Has gone g → Has m.progress.job.tasks g × (among numbers g.number ≡ true)
  among_gone g i = has_filter (λ (t : Task). among numbers t.number) m.progress.job.tasks g i

  out_stays : (u : ℕ) → among numbers u ≡ false → Stays gone u
  out_stays u e g i n = true≢false (sym (among_gone g i).1 ∙ ap (among numbers) n ∙ e)

  parents_stay : (t : Task) → Has m.progress.job.tasks t → among numbers t.number ≡ false → (u : ℕ) → Has t.parents u → Stays gone u
  parents_stay t i e u above g in_g n = true≢false (sym (closed t i u above (ap (among numbers) (sym n) ∙ (among_gone g in_g).1)) ∙ e)

  slot_left : (i u : ℕ) → (i ≡ m.constants.number → Stays gone u) → slot_of after_plan i u ≡ slot_of plan i u
  slot_left i u st = lv.slots i u st

  parent_left : (i : ℕ) (parents : List ℕ) → (i ≡ m.constants.number → (u : ℕ) → Has parents u → Stays gone u) → parent_slot after_plan i parents ≡ parent_slot plan i parents
  parent_left i [] old = refl
  parent_left i (parent ∷ above) old = slot_left i parent (λ e. old e parent (inl refl))

  critical_own : (c : ℕ) (parents : List ℕ) → ((u : ℕ) → Has parents u → Stays gone u) → critical_disp after_plan m.constants.number job' c parents ≡ critical_disp plan m.constants.number m.progress.job c parents
  critical_own c [] old = refl
  critical_own c (parent ∷ above) old =
      let q' = keyed (λ (t : Task). t.number) parent job'.tasks in
      let q = keyed (λ (t : Task). t.number) parent m.progress.job.tasks in
      ap (λ (fs : List Frame). (spot_in (slot_of after_plan m.constants.number parent) (base_spot m.constants.number) fs c).disp) (frames_like q' q (lv.tasks parent (old parent (inl refl))))
      ∙ ap (λ (n : ℕ). (spot_in n (base_spot m.constants.number) (frames_of_task q) c).disp) (slot_left m.constants.number parent (λ e. old parent (inl refl)))

  critical_other : (i : ℕ) → i ≢ m.constants.number → (job : Job) (c : ℕ) (parents : List ℕ) → critical_disp after_plan i job c parents ≡ critical_disp plan i job c parents
  critical_other i ne job c parents = grind (arith, slot_left)

  spots_own : (t : Task) → Has m.progress.job.tasks t → among numbers t.number ≡ false → (id : ℕ) → spots after_plan m.constants.number job' (left_task t) id ≡ spots plan m.constants.number m.progress.job t id
  spots_own t i out id =
      spots-twin plan after_plan m.constants.number m.progress.job job' (Stays gone) (λ (a : ℕ). ⊥) (λ u st. slot_left m.constants.number u (λ e. st)) (λ u st. lv.tasks u st) (λ a z. absurd z)
      (left_task t) t (record { number = refl; parents = refl; critical = refl; frames = refl }) (parents_stay t i out) (out_stays t.number out) id

  spots_other : (i : ℕ) → i ≢ m.constants.number → (job : Job) (t : Task) (id : ℕ) → spots after_plan i job t id ≡ spots plan i job t id
  spots_other i ne job t id =
      spots-twin plan after_plan i job job (λ (u : ℕ). Unit {0}) (λ (a : ℕ). ⊥) (λ u w. slot_left i u (λ e. absurd (ne e))) (λ u w. like_same (keyed (λ (v : Task). v.number) u job.tasks)) (λ a z. absurd z)
      t t (record { number = refl; parents = refl; critical = refl; frames = refl }) (λ u w. tt) tt id

  -- the registers of who stays aren't in use
  not_running : (z : SessionJob) (t : Task) → Has s.jobs z → Has z.progress.job.tasks t → (z.constants.number ≡ m.constants.number → among numbers t.number ≡ false) → slot_of plan z.constants.number t.number ≢ plan.running
  not_running z t in_z in_t out e = ⊎_elim
      (λ (none : plan.running ≡ 255). let w : ⊥ = omega (arith, e, none, slot_below plan s.jobs z t h.fits.rows in_z in_t, h.fits.few) in w)
      (λ (l : Lost plan m.constants.number gone plan.running).
      (let (g, in_g, at) = l in
      let k = among_gone g in_g in
      let one = one_each x core r marks plan s o h z m t g in_z in_m in_t k.0 (e ∙ sym at) in
      true≢false (sym k.1 ∙ ap (λ (v : Task). among numbers v.number) (sym one.1) ∙ out (ap (λ (v : SessionJob). v.constants.number) one.0))))
      stopped

  own_shows : (t : Task) → Has m.progress.job.tasks t → among numbers t.number ≡ false → (q : TaskRow) → TaskShows plan m t (task_row q) → TaskShows after_plan member' (left_task t) (task_row (freed m.constants.number numbers q))
  own_shows t i out q w =
      let away : q.slot ≢ plan.running = λ e. not_running m t in_m i (λ z. out) (sym w.slot ∙ e) in
      let same : (id : ℕ) → address_of after_plan (spots after_plan m.constants.number job' (left_task t) id) ≡ address_of plan (spots plan m.constants.number m.progress.job t id) = λ id. ap (λ (p : StackPlace). address_of plan p) (spots_own t i out id) in
      let here : TaskShows after_plan member' (left_task t) (task_row (record q { state = freed_state numbers q.state })) = record {
        job = w.job;
        number = w.number;
        slot = w.slot ∙ sym (slot_left m.constants.number t.number (λ e. out_stays t.number out));
        parent = w.parent ∙ sym (parent_left m.constants.number t.parents (λ e. parents_stay t i out));
        critical = w.critical ∙ sym (critical_own t.critical t.parents (parents_stay t i out));
        state = freed_shows plan after_plan m.constants.number m.progress.job job' t (left_task t) numbers same q.state t.condition w.state;
        segment = λ e. w.segment away;
        place = λ e. w.place away;
      } in
      subst (λ (z : TaskRow). TaskShows after_plan member' (left_task t) (task_row z)) (sym (freed_own m.constants.number numbers q w.job)) here

  shown_other : (i : ℕ) → i ≢ m.constants.number → (job : Job) (t : Task) (c : Condition) → shown after_plan i job t c ≡ shown plan i job t c
  shown_other i ne job t Ready = refl
  shown_other i ne job t (Awaits n) = refl
  shown_other i ne job t (WaitsAt frame offset) = ap (λ (q : StackPlace). WaitsAtCell (address_of plan q) offset) (spots_other i ne job t frame)

  other_shows : (y : SessionJob) → Has s.jobs y → y.constants.number ≢ m.constants.number → (t : Task) → Has y.progress.job.tasks t → (q : TaskRow) → TaskShows plan y t (task_row q) → TaskShows after_plan y t (task_row (freed m.constants.number numbers q))
  other_shows y in_y ne t i q w =
      let away : q.slot ≢ plan.running = λ e. not_running y t in_y i (λ z. absurd (ne z)) (sym w.slot ∙ e) in
      let here : TaskShows after_plan y t (task_row q) = record {
        job = w.job;
        number = w.number;
        slot = w.slot ∙ sym (slot_left y.constants.number t.number (λ e. absurd (ne e)));
        parent = w.parent ∙ sym (parent_left y.constants.number t.parents (λ e. absurd (ne e)));
        critical = w.critical ∙ sym (critical_other y.constants.number ne y.progress.job t.critical t.parents);
        state = w.state ∙ sym (shown_other y.constants.number ne y.progress.job t t.condition);
        segment = λ e. w.segment away;
        place = λ e. w.place away;
      } in
      subst (λ (z : TaskRow). TaskShows after_plan y t (task_row z)) (sym (freed_other m.constants.number numbers q (λ e. ne (sym w.job ∙ e)))) here

  left_in : (t : Task) → Has m.progress.job.tasks t → among numbers t.number ≡ false → Has job'.tasks (left_task t)
  left_in t i out = has_map left_task (filter (λ (u : Task). not (among numbers u.number)) m.progress.job.tasks) t (has_filter_in (λ (u : Task). not (among numbers u.number)) m.progress.job.tasks t i (ap not out))

  left_back : (u : Task) → Has job'.tasks u → (t : Task) × Has m.progress.job.tasks t × (among numbers t.number ≡ false) × (left_task t ≡ u)
  left_back u i =
      let b = has_map_back left_task (filter (λ (t : Task). not (among numbers t.number)) m.progress.job.tasks) u i in
      grind (arith, has_filter)

  -- each live task has a slot of its own still
  pub rows_fit : RowsFit after_plan after.jobs
  rows_fit = record {
    live = λ q i.
        let k = ls.row_in q i in
        let (z, u, in_z, ej, in_u, et) = h.fits.rows.live q k.0 in
        ⊎_elim
        (λ (e : z.constants.number ≡ m.constants.number).
        let v = ls.task_kept u (subst (λ (w : SessionJob). Has w.progress.job.tasks u) (is_m z in_z e) in_u) (subst (Stays gone) (sym et) (k.1 (sym ej ∙ e))) in
        (member', v.0, moved, sym e ∙ ej, v.1, v.2.number ∙ et))
        (λ (ne : z.constants.number ≡ m.constants.number → ⊥). (z, u, kept z in_z ne, ej, in_u, et))
        (cases_eq z.constants.number m.constants.number);
    slotted = λ z u in_z in_u. ⊎_elim
        (λ (old : Has s.jobs z × (z.constants.number ≢ m.constants.number)). let (q, in_q, a, b) = h.fits.rows.slotted z u old.0 in_u in (q, ls.row_kept q in_q (λ e. absurd (old.1 (sym a ∙ e))), a, b))
        (λ (is : z ≡ member').
        let here : Has job'.tasks u = subst (λ (w : SessionJob). Has w.progress.job.tasks u) is in_u in
        let v = ls.task_in u here in
        let (q, in_q, a, b) = h.fits.rows.slotted m v.0 in_m v.1 in
        (q, ls.row_kept q in_q (λ e. subst (Stays gone) (sym b) v.3), a ∙ ap (λ (w : SessionJob). w.constants.number) (sym is), b ∙ sym v.2.number))
        (member_of z in_z);
    below = λ q i. h.fits.rows.below q (ls.row_in q i).0;
    differ = λ a b ia ib. h.fits.rows.differ a b (ls.row_in a ia).0 (ls.row_in b ib).0;
    tasks_differ = λ a b ia ib. h.fits.rows.tasks_differ a b (ls.row_in a ia).0 (ls.row_in b ib).0;
  }

  rest_shows : (jobs : List SessionJob) (js : List JobRow) → JobsShow plan jobs js → JobsShow after_plan jobs js
  rest_shows [] [] w = w
  rest_shows [] (q ∷ js) w = absurd w
  rest_shows (y ∷ ys) [] w = absurd w
  rest_shows (y ∷ ys) (q ∷ js) w = grind (arith, rest_shows ys js w.1)

  jobs_left : (jobs : List SessionJob) (js : List JobRow) → keyed number_of m.constants.number jobs ≡ Some m → JobsShow plan jobs js → JobsShow after_plan (with_course jobs m.constants.number member'.progress) js
  jobs_left [] [] found w = w
  jobs_left [] (q ∷ js) found w = absurd w
  jobs_left (y ∷ ys) [] found w = absurd w
  jobs_left (y ∷ ys) (q ∷ js) found w = grind (arith, rest_shows, jobs_left ys js)

  module _ (rs : List TaskRow) (few : length rs ≤ 120) (job_rows : List JobRow) (c : JobCounts) (shows : TablesShow plan s (map task_row rs) job_rows c) where
    abbrev pub left : List TaskRow
    left = rows_left m.constants.number numbers rs

    abbrev pub RowShows : rows.TaskRow → Type 0
    RowShows row = (z : SessionJob) × (t : Task) × Has after.jobs z × Has z.progress.job.tasks t × TaskShows after_plan z t row

    row_shows : (q : TaskRow) → Has rs q → row_is_kept m.constants.number numbers q ≡ true → RowShows (task_row (freed m.constants.number numbers q))
    row_shows q i st =
        let (y, t, in_y, in_t, w) = shows.tasks (task_row q) (has_map task_row rs q i) in
        ⊎_elim
        (λ (e : y.constants.number ≡ m.constants.number).
        let is : y ≡ m = is_m y in_y e in
        let own : Has m.progress.job.tasks t = subst (λ (z : SessionJob). Has z.progress.job.tasks t) is in_t in
        let sh : TaskShows plan m t (task_row q) = subst (λ (z : SessionJob). TaskShows plan z t (task_row q)) is w in
        let out : among numbers t.number ≡ false = ap (among numbers) (sym sh.number) ∙ stays_then m.constants.number numbers q st sh.job in
        (member', left_task t, moved, left_in t own out, own_shows t own out q sh))
        (λ (ne : y.constants.number ≡ m.constants.number → ⊥). (y, t, kept y in_y ne, in_t, other_shows y in_y ne t in_t q w))
        (cases_eq y.constants.number m.constants.number)

    row_back : (row : rows.TaskRow) → Has (map task_row left) row → RowShows row
    row_back row i =
        let a = has_map_back task_row left row i in
        let b = has_map_back (freed m.constants.number numbers) (filter (row_is_kept m.constants.number numbers) rs) a.item a.among in
        grind (arith, has_filter, row_shows)

    row_in : (q : TaskRow) → Has rs q → row_is_kept m.constants.number numbers q ≡ true → Has (map task_row left) (task_row (freed m.constants.number numbers q))
    row_in q i st = has_map task_row left (freed m.constants.number numbers q) (has_map (freed m.constants.number numbers) (filter (row_is_kept m.constants.number numbers) rs) q (has_filter_in (row_is_kept m.constants.number numbers) rs q i st))

    abbrev Shown : SessionJob → Task → Type 0
    Shown z t = (row : rows.TaskRow) × Has (map task_row left) row × TaskShows after_plan z t row

    each_left : (z : SessionJob) (t : Task) → Has after.jobs z → Has z.progress.job.tasks t → Shown z t
    each_left z t in_z in_t = ⊎_elim
        (λ (old : Has s.jobs z × (z.constants.number ≢ m.constants.number)).
        let (row, i, w) = shows.each z t old.0 in_t in
        let b = has_map_back task_row rs row i in
        let sh : TaskShows plan z t (task_row b.item) = subst (TaskShows plan z t) (sym b.is) w in
        (task_row (freed m.constants.number numbers b.item), row_in b.item b.among (stays_if m.constants.number numbers b.item (λ e. absurd (old.1 (sym sh.job ∙ e)))), other_shows z old.0 old.1 t in_t b.item sh))
        (λ (is : z ≡ member').
        let here : Has job'.tasks t = subst (λ (w : SessionJob). Has w.progress.job.tasks t) is in_t in
        let (v, in_v, out, same) = left_back t here in
        let (row, i, w) = shows.each m v in_m in_v in
        let b = has_map_back task_row rs row i in
        let sh : TaskShows plan m v (task_row b.item) = subst (TaskShows plan m v) (sym b.is) w in
        let all : Shown member' (left_task v) = (task_row (freed m.constants.number numbers b.item), row_in b.item b.among (stays_if m.constants.number numbers b.item (λ e. ap (among numbers) sh.number ∙ out)), own_shows v in_v out b.item sh) in
        subst (λ (y : SessionJob). Shown y t) (sym is) (subst (Shown member') same all))
        (member_of z in_z)

    pub few_left : length left ≤ 120
    few_left = omega (arith, few, kept_length (freed m.constants.number numbers) (row_is_kept m.constants.number numbers) rs)

    pub tables_left : TablesShow after_plan after (map task_row left) job_rows (record c { running = 255 })
    tables_left = record {
      tasks = row_back;
      each = each_left;
      once = subst Differ (sym (map-map (λ (q : rows.TaskRow). q.slot) task_row left))
          (kept_differ (freed m.constants.number numbers) (row_is_kept m.constants.number numbers) (λ (q : TaskRow). q.slot) (freed_slot m.constants.number numbers) rs
          (subst Differ (map-map (λ (q : rows.TaskRow). q.slot) task_row rs) shows.once));
      jobs = jobs_left s.jobs job_rows found_m shows.jobs;
      counts = record {
        quantum = shows.counts.quantum;
        made = shows.counts.made;
        turn = shows.counts.turn;
        last_job = shows.counts.last_job;
        last_number = shows.counts.last_number;
        switches = shows.counts.switches;
        next = shows.counts.next;
        past = shows.counts.past;
        running =
            let none : slice_get (map task_row left) 255 ≡ None = slice_get_past (map task_row left) 255 (omega (arith, few_left, length-map left task_row)) in
            subst (λ (w : Option rows.TaskRow). RunningRow after_plan w 255) (sym none) (refl, refl);
      };
    }
