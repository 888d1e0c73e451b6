-- The machine represents the session without the tasks that ended, once their slots are free, their rows are gone and the
-- marks are those of the rows.
use Rattle.std.proofs.Common.{◌≡◌, ◌≢◌, ℕ, ◌+◌, ◌≤◌, List, [], ◌∷◌, map, length, Option, true, false, refl, sym, ◌∙◌, ap, arith, inl, inr, ◌⊎◌, ⊎_elim, subst, ◌==◌}
use Rattle.std.specs.Prelude.{◌&&◌, if◌then◌else◌, unwrap_or, option_map}
use Rattle.std.specs.List.{list_any}
use Rattle.std.proofs.lemmas.Bool.{cases_Bool, eq-eqb, eqb-true}
use Rattle.b67_word.specs.declared.faults.Ending.{Ending}
use Rattle.b67_area.specs.declared.Areas.{Areas}
use Rattle.b67_backing.specs.Shelf.{Table}
use Rattle.b67_lemmas.specs.Lists.{Has}
use Rattle.b67_lemmas.proofs.Members.{any_some, has_filter, has_map, has_map_back, keyed_has}
use Rattle.b67_model.specs.Common.{Task, JobProgress, SessionJob, among, unsettled, number_of, Session, IsSegment, NumberedFrom, TasksInOrder}
use Rattle.b67_law.proofs.Deaths.{IsClosed, ends_good}
use Rattle.b67_stack.specs.declared.Cpu.{Cpu}
use Rattle.b67_stack.specs.MachineView.{MachineView}
use Rattle.b67_stack.specs.Represents.{Storage}
use Rattle.b67_layout.specs.Machine.{MachineRepresentsView}
use Rattle.b67_layout.proofs.Devices.{says_of}
use Rattle.b67_layout.specs.Common.{Placement, Slotted, slot_of, machine_view, IsInOrderButCounts, TaskShows, TablesShow, RowsFit, RepresentsCritical, RepresentsSession, RepresentsStorage}
use Rattle.b67_layout.specs.Rows as rows
use Rattle.b67_layout.proofs.Common.{job_in_order, with_course, finds, slot_below, task_row}
use Rattle.b67_task.specs.declared.tables.TaskRow.{TaskRow}
use Rattle.b67_task.specs.declared.tables.Tasks.{Tasks}
use Rattle.b67_task.specs.declared.tables.Machine.{Machine}
use Rattle.b67_task.specs.Tables as tables
use Rattle.b67_task.specs.Tables.{MachineRepresents, counts_of, job_row}
use Rattle.b67_task.specs.TakenOut.{MayTakeOut, IsBuried, GaveBack, plan_without, session_without, slots_gone}
use Rattle.b67_task.specs.DeathTurns.{InTurn}
use Rattle.b67_task.specs.LeftRows.{is_of, slot_shown, rows_left}
use Rattle.b67_task.specs.RowMarks.{ShowsMarks}
use Rattle.b67_task.specs.Deaths.{ending_numbers, is_gone, without_tasks, IsStopped, StandsWith, MayEnd, LeavesInPlace, HasEnded}
use Rattle.b67_task.proofs.Family.{among_has, has_among}
use Rattle.b67_task.proofs.LeftInPlace.{left_in_place}
use Rattle.b67_task.proofs.Remains.{member', member_of, rows_fit, tables_left}
use Rattle.b67_task.proofs.TopMarks.{marks_show}

-- of tasks in turn, whoever has one of them above it is one of them
turn_closed : (live gone todo : List Task) → InTurn live gone todo → (t : Task) → Has todo t → (u : Task) → Has live u → Has u.parents t.number → Has gone u ⊎ Has todo u
unfolding InTurn
turn_closed live gone [] turn t i u in_u above = absurd i
turn_closed live gone (v ∷ todo) turn t (inl e) u in_u above = inl (turn.2 u in_u (subst (λ (w : Task). Has u.parents w.number) (sym e) above))
turn_closed live gone (v ∷ todo) turn t (inr i) u in_u above = grind (arith, turn_closed live (v ∷ gone) todo turn.3 t i u in_u above)

turn_live : (live gone todo : List Task) → InTurn live gone todo → (t : Task) → Has todo t → Has live t
unfolding InTurn
turn_live live gone [] turn t i = absurd i
turn_live live gone (v ∷ todo) turn t (inl e) = subst (Has live) e turn.0
turn_live live gone (v ∷ todo) turn t (inr i) = turn_live live (v ∷ gone) todo turn.3 t i

-- the numbers of tasks that may end
module _ (plan : Placement) (s : Session) (m : SessionJob) (numbers : List ℕ) (may : MayEnd plan s m numbers) where
  named_task : (n : ℕ) → Has numbers n → (t : Task) × Has may.todo t × (t.number ≡ n)
  named_task n i = let b = has_map_back (λ (t : Task). t.number) may.todo n (subst (λ (ns : List ℕ). Has ns n) (sym may.named) i) in (b.item, b.among, b.is)

  pub live_task : (n : ℕ) → Has numbers n → (t : Task) × Has m.progress.job.tasks t × (t.number ≡ n)
  live_task n i = let (t, k, e) = named_task n i in (t, turn_live m.progress.job.tasks [] may.todo may.turn t k, e)

  pub closed : IsClosed m.progress.job numbers
  closed u in_u n above is =
      let (t, k, e) = named_task n (has_among numbers n is) in
      let there : Has may.todo u = ⊎_elim (λ (z : Has [] u). absurd z) (λ (z : Has may.todo u). z) (turn_closed m.progress.job.tasks [] may.todo may.turn t k u in_u (subst (Has u.parents) (sym e) above)) in
      among_has numbers u.number (subst (λ (ns : List ℕ). Has ns u.number) may.named (has_map (λ (t : Task). t.number) may.todo u there))

  -- if the registers of one of them are in use, none are then
  pub plan_is : RowsFit plan s.jobs → without_tasks plan m.constants.number numbers ≡ plan_without plan m numbers
  plan_is fits = ap (λ (n : ℕ). record (plan_without plan m numbers) { running = n }) (by may.stopped)
    where
      by : IsStopped plan m numbers → (if list_any (λ (r : Slotted). is_gone m.constants.number numbers r && (r.slot == plan.running)) plan.rows then 255 else plan.running) ≡ 255
      by (inl e) = elim (cases_Bool (list_any (λ (r : Slotted). is_gone m.constants.number numbers r && (r.slot == plan.running)) plan.rows)) [ inl t ↦ rw t refl | inr t ↦ rw t e ]
      by (inr (g, in_g, at)) =
          let k = has_filter (λ (t : Task). among numbers t.number) m.progress.job.tasks g in_g in
          let a = task_row plan s.jobs m g fits may.member k.0 in
          let here : (is_gone m.constants.number numbers a.row && (a.row.slot == plan.running)) ≡ true =
          rw (eq-eqb a.row.job m.constants.number a.job, ap (among numbers) a.number ∙ k.1, eq-eqb a.row.slot plan.running (sym a.slot ∙ at)) refl in
          let some : list_any (λ (r : Slotted). is_gone m.constants.number numbers r && (r.slot == plan.running)) plan.rows ≡ true =
          any_some (λ (r : Slotted). is_gone m.constants.number numbers r && (r.slot == plan.running)) plan.rows a.row a.among here in
          rw some refl

-- the slots that the rows tell
module _ (plan : Placement) (s : Session) (o : IsInOrderButCounts s) (m : SessionJob) (in_m : Has s.jobs m) (rs : List TaskRow) (job_rows : List rows.JobRow) (c : rows.JobCounts) (shows : TablesShow plan s (map tables.task_row rs) job_rows c) where
  slot_told : (t : Task) → Has m.progress.job.tasks t → slot_shown m.constants.number t.number rs ≡ slot_of plan m.constants.number t.number
  slot_told t in_t =
      let (row, i, w) = shows.each m t in_m in_t in
      let b = has_map_back tables.task_row rs row i in
      let sh : TaskShows plan m t (tables.task_row b.item) = subst (TaskShows plan m t) (sym b.is) w in
      let f = finds (is_of m.constants.number t.number) rs b.item b.among (is_of-true b.item sh.job sh.number) in
      let at = of-true f.item f.passes in
      let (y, u, in_y, in_u, v) = shows.tasks (tables.task_row f.item) (has_map tables.task_row rs f.item f.among) in
      ap (λ (q : Option TaskRow). unwrap_or (option_map (λ (r : TaskRow). r.slot) q) 255) f.found
      ∙ v.slot
      ∙ ap (λ (n : ℕ). slot_of plan n u.number) (sym v.job ∙ at.0)
      ∙ ap (slot_of plan m.constants.number) (sym v.number ∙ at.1)
    where
      is_of-true : (q : TaskRow) → q.job ≡ m.constants.number → q.number ≡ t.number → is_of m.constants.number t.number q ≡ true
      is_of-true q a e = rw (eq-eqb q.job m.constants.number a, eq-eqb q.number t.number e) refl

      of-true : (q : TaskRow) → is_of m.constants.number t.number q ≡ true → (q.job ≡ m.constants.number) × (q.number ≡ t.number)
      of-true q e = ⊎_elim
          (λ (w : (q.job == m.constants.number) ≡ true). let at : (q.number == t.number) ≡ true = rw w at e in (eqb-true q.job m.constants.number w, eqb-true q.number t.number at))
          (λ (w : (q.job == m.constants.number) ≡ false). absurd (let z : ⊥ = (let at : false ≡ true = rw w at e in cc) in z))
          (cases_Bool (q.job == m.constants.number))

  slots_told : (list : List (ℕ × Ending)) → ((n : ℕ) → Has (ending_numbers list) n → (t : Task) × Has m.progress.job.tasks t × (t.number ≡ n))
      → map (λ (e : ℕ × Ending). slot_shown m.constants.number e.0 rs) list ≡ slots_gone plan m (ending_numbers list)
  slots_told [] live = refl
  slots_told (e ∷ list) live =
      let (t, i, is) = live e.0 (inl refl) in
      let here : slot_shown m.constants.number e.0 rs ≡ slot_of plan m.constants.number e.0 =
      ap (λ (n : ℕ). slot_shown m.constants.number n rs) (sym is) ∙ slot_told t i ∙ ap (slot_of plan m.constants.number) is in
      ap (λ (k : ℕ). k ∷ map (λ (e : ℕ × Ending). slot_shown m.constants.number e.0 rs) list) here
      ∙ ap (λ (ks : List ℕ). slot_of plan m.constants.number e.0 ∷ ks) (slots_told list (λ n i. live n (inr i)))

numbered_left : (n j : ℕ) (c : JobProgress) (jobs : List SessionJob) → NumberedFrom n jobs → NumberedFrom n (with_course jobs j c)
numbered_left n j c [] g = g
numbered_left n j c (y ∷ ys) g = elim (cases_Bool (number_of y == j)) [ inl t ↦ rw t g | inr t ↦ rw t (g.0, numbered_left (n + 1) j c ys g.1) ]

module _ (k : Machine) (u : Tasks) (x : Storage) (told : Option (List (List ℕ))) (plan : Placement) (s : Session) (m : SessionJob) (list : List (ℕ × Ending))
    (h : StandsWith k u x told plan s) (may : MayEnd plan s m (ending_numbers list)) where
  abbrev numbers : List ℕ
  numbers = ending_numbers list

  pub view : MachineRepresentsView x k.cpu k.areas k.sectors told (machine_view plan s.jobs)
  view = record { stands = h.stands.session.holds.memory; low = h.stands.storage.low; shelf = h.stands.storage.shelf; device = says_of x.device told h.stands.storage.device }

  pub may_bury : MayTakeOut x k.cpu.core k.cpu.regs k.cpu.critical plan s m numbers
  may_bury = grind (arith, job_in_order)

  row_items : u.rows.items ≡ k.tasks.rows.items
  row_items = ap (λ r. r.items) h.same.rows

  -- the slots as code finds them
  pub slots_are : (job : ℕ) → m.constants.number ≡ job → (lent : List TaskRow) → lent ≡ k.tasks.rows.items → (slots : List ℕ) → slots ≡ map (λ (e : ℕ × Ending). slot_shown job e.0 lent) list → slots_gone plan m numbers ≡ slots
  slots_are job is lent same slots e =
      let told_so : map (λ (e : ℕ × Ending). slot_shown m.constants.number e.0 u.rows.items) list ≡ slots_gone plan m numbers =
      slots_told plan s h.ordered m may.member u.rows.items (map job_row u.jobs) (counts_of u) h.stands.tables list (live_task plan s m numbers may) in
      sym told_so
      ∙ ap (λ (rs : List TaskRow). map (λ (e : ℕ × Ending). slot_shown m.constants.number e.0 rs) list) (row_items ∙ sym same)
      ∙ ap (λ (j : ℕ). map (λ (e : ℕ × Ending). slot_shown j e.0 lent) list) is
      ∙ sym e

  module _ (few : length k.tasks.rows.items ≤ 120) where
    few_u : length u.rows.items ≤ 120
    few_u = subst (λ (rs : List TaskRow). length rs ≤ 120) (sym row_items) few

    abbrev left_plan : Placement
    left_plan = plan_without plan m numbers

    abbrev left_session : Session
    left_session = session_without s m numbers

    abbrev left_rows : List TaskRow
    left_rows = rows_left m.constants.number numbers u.rows.items

    tables_then : TablesShow left_plan left_session (map tables.task_row left_rows) (map job_row u.jobs) (record (counts_of u) { running = 255 })
    tables_then = tables_left x k.cpu.core k.cpu.regs k.cpu.critical plan s h.ordered h.stands.session.holds m may.member numbers may.stopped (closed plan s m numbers may) u.rows.items few_u (map job_row u.jobs) (counts_of u) h.stands.tables

    good_left : (y : SessionJob) → Has left_session.jobs y → TasksInOrder (IsSegment y.constants) y.constants y.progress.job
    good_left y i = ⊎_elim
        (λ (old : Has s.jobs y × (y.constants.number ≢ m.constants.number)). (job_in_order s y h.ordered old.0).tasks)
        (λ (is : y ≡ member' x k.cpu.core k.cpu.regs k.cpu.critical plan s h.ordered h.stands.session.holds m may.member numbers may.stopped (closed plan s m numbers may)).
        subst (λ (z : SessionJob). TasksInOrder (IsSegment z.constants) z.constants z.progress.job) (sym is)
        (ends_good (IsSegment m.constants) m.constants (unsettled m.progress.job) list (job_in_order s m h.ordered may.member).tasks (closed plan s m numbers may)))
        (member_of x k.cpu.core k.cpu.regs k.cpu.critical plan s h.ordered h.stands.session.holds m may.member numbers may.stopped (closed plan s m numbers may) y i)

    marks_then : (marks : List ℕ) → ShowsMarks marks left_rows → RepresentsCritical marks left_plan left_session.jobs
    marks_then marks w =
        marks_show left_plan left_session
        (numbered_left 1 m.constants.number (member' x k.cpu.core k.cpu.regs k.cpu.critical plan s h.ordered h.stands.session.holds m may.member numbers may.stopped (closed plan s m numbers may)).progress s.jobs h.ordered.numbered)
        (rows_fit x k.cpu.core k.cpu.regs k.cpu.critical plan s h.ordered h.stands.session.holds m may.member numbers may.stopped (closed plan s m numbers may))
        h.stands.session.holds.fits.few good_left left_rows (map job_row u.jobs) (record (counts_of u) { running = 255 }) tables_then marks w

    pub has_ended : (cpu' : Cpu) (areas' : Areas) (sectors' : Table) (done : Tasks) (marks : List ℕ) (job : ℕ) (lent : List TaskRow) (y : Storage) (p : MachineView) (slots : List ℕ)
        → slots_gone plan m numbers ≡ slots → m.constants.number ≡ job → lent ≡ k.tasks.rows.items → areas' ≡ k.areas → length cpu'.core ≡ length k.cpu.core
        → MachineRepresentsView y cpu' areas' sectors' told p → IsBuried y cpu'.core cpu'.regs plan s m numbers → GaveBack x y (machine_view plan s.jobs) k.cpu.core cpu'.core slots
        → done.rows.items ≡ rows_left job numbers lent → done.running ≡ 255 → ShowsMarks marks done.rows.items
        → HasEnded u x told plan s m list (record k { cpu = record cpu' { critical = marks }; areas = areas'; sectors = sectors'; tasks = done })
    has_ended cpu' areas' sectors' done marks job lent y p slots emptied is same areas_are len v buried gave rows_are none tops =
        let rows_so : left_rows ≡ done.rows.items =
        ap (rows_left m.constants.number numbers) (row_items ∙ sym same)
        ∙ ap (λ (j : ℕ). rows_left j numbers lent) is
        ∙ sym rows_are in
        let critical : RepresentsCritical marks left_plan left_session.jobs = marks_then marks (subst (ShowsMarks marks) (sym rows_so) tops) in
        let fit = rows_fit x k.cpu.core k.cpu.regs k.cpu.critical plan s h.ordered h.stands.session.holds m may.member numbers may.stopped (closed plan s m numbers may) in
        let session : RepresentsSession y (record cpu' { critical = marks }) left_plan left_session = record {
          holds = buried marks critical;
          shows = λ z t q. absurd (let w : ⊥ = omega (arith, q.slot, slot_below left_plan left_session.jobs z t fit (keyed_has number_of z.constants.number left_session.jobs z q.member).0 (keyed_has (λ (v : Task). v.number) t.number z.progress.job.tasks t q.task).0, h.stands.session.holds.fits.few) in w);
        } in
        let beside : RepresentsStorage areas' sectors' told cpu'.core y = record {
          low = v.low;
          size = ap (λ (a : Areas). a.size) areas_are ∙ h.stands.storage.size ∙ sym len;
          shelf = v.shelf;
          device = h.stands.storage.device ∙ sym gave.released.device;
        } in
        let T : List TaskRow → ℕ → Type 0 = λ rs n. TablesShow left_plan left_session (map tables.task_row rs) (map job_row u.jobs) (record (counts_of u) { running = n }) in
        let shows : T done.rows.items done.running = subst (T done.rows.items) (sym none) (subst (λ (rs : List TaskRow). T rs 255) rows_so tables_then) in
        let new : Machine = record k { cpu = record cpu' { critical = marks }; areas = areas'; sectors = sectors'; tasks = record u { rows = done.rows; running = done.running } } in
        let all : MachineRepresents y told new left_plan left_session = record { session = session; storage = beside; tables = shows } in
        record {
          storage = y;
          stands = subst (λ (q : Placement). MachineRepresents y told new q left_session) (sym (plan_is plan s m numbers may h.stands.session.holds.fits.rows)) all;
          left = subst (λ (q : Placement). LeavesInPlace x y plan q s left_session) (sym (plan_is plan s m numbers may h.stands.session.holds.fits.rows))
              (left_in_place x k.cpu.core k.cpu.regs k.cpu.critical plan s h.ordered h.stands.session.holds m may.member numbers may.stopped (closed plan s m numbers may) may_bury.room (live_task plan s m numbers may) y cpu'.core slots gave emptied);
        }
