-- A task was started in a slot that was used before: the machine represents the session with it.
use Rattle.std.proofs.Common.{◌≡◌, ◌≢◌, ℕ, suc, ◌+◌, ◌-◌, ◌<◌, ◌≤◌, List, [], ◌∷◌, ◌++◌, map, length, Option, Some, None, refl, sym, ◌∙◌, ap, arith, Bool, false, ◌==◌, inl, inr, ◌⊎◌, ⊎_elim, subst}
use Rattle.std.specs.Prelude.{if◌then◌else◌, max, ◌||◌}
use Rattle.std.specs.List.{slice_get, list_any}
use Rattle.std.proofs.lemmas.Bool.{cases_lt, cases_Bool, ne_eqb, eqb-true}
use Rattle.std.proofs.lemmas.List.{length-map, length-append, map-append, append_assoc}
use Rattle.b67_word.specs.Tagged.{word}
use Rattle.b67_ctl.specs.declared.registers.Regs.{Regs}
use Rattle.b67_ctl.specs.Layout.{mscw_word, toscw_word}
use Rattle.b67_lemmas.specs.Lists.{Has, Falls}
use Rattle.b67_model.specs.Words as Words
use Rattle.b67_model.specs.Common.{Word, Frame, Task, Job, SessionJob, height, is_critical, Session, IsSegment, from_frame, frames_of_task, critical_of}
use Rattle.b67_model.specs.InOrder as InOrder
use Rattle.b67_model.specs.State as State
use Rattle.b67_model.specs.Keyed.{keyed}
use Rattle.b67_layout.specs.Common.{IsInOrderButCounts, JobInOrderButCounts, Placement, Slotted, slot_of, spot_in, outer_spots, shape, head, activations, stack_of_task, slot_by, slot_at, machine_view, IsRunning, ShowsDisplay, vector_word, critical_mark, SessionHolds, RepresentsSession}
use Rattle.b67_lemmas.proofs.Members.{has_append_left, has_append_cases, has_map, has_map_back, keyed_falls, keyed_has, found-has}
use Rattle.b67_stack.specs.declared.Cpu.{Cpu}
use Rattle.b67_stack.specs.Common.{Shape, Copy, Fits, LieDownward, StackPlace, Head, Entered, Activation, IsStack, stack_words, mark_of, headed, mark_place, words, MachineView, Free, Waiting, RunsOn, CopiesName, slot_base, with_slot, NoOriginalAboveTop, Storage, Represents, activations_below}
use Rattle.b67_stack.proofs.Heights.{words-length}
use Rattle.b67_stack.proofs.Bases.{base-apart}
use Rattle.b67_stack.proofs.Slots.{running_slot, running_fits, running_lies}
use Rattle.b67_layout.proofs.Common.{running_in_order, next_is_free, free-uncritical, job_in_order, height-is, with_course, running_only, runs_on}
use Rattle.b67_law.proofs.LowNames.{frames_low}
use Rattle.b67_task.specs.Born.{with_task_at}
use Rattle.b67_task.specs.Slots.{SlotFilled}
use Rattle.b67_task.proofs.Apart.{frames_apart}
use Rattle.b67_task.specs.Joining.{Sees, Joins, Calls}
use Rattle.b67_task.proofs.ChildCopies.{shape_seen, child_lies}
use Rattle.b67_task.proofs.Fills.{Represents-filled, NoOriginalAboveTop-filled}
use Rattle.b67_task.proofs.OneMore.{child_stack, view_more}
use Rattle.b67_task.proofs.Births.{Shown, rows, still_running, SessionHolds-born, ShowsDisplay-born}

-- its stack was built in slot k
pub record Built (cpu new : Cpu) (plan : Placement) (m : SessionJob) (t : Task) (job' : Job) (child : Task) (k base count level : ℕ) (spot : StackPlace) : Type 0 where
  pub len : length new.core ≡ length cpu.core
  pub regs : new.regs ≡ cpu.regs
  pub display : new.display ≡ cpu.display
  pub outside : (i : ℕ) → i ≢ 32 + k → (i < base) ⊎ (base + plan.size ≤ i) → slice_get new.core i ≡ slice_get cpu.core i
  pub top : slice_get new.core base ≡ Some (toscw_word (record { s = 2 + count; level = level; f = 1 }))
  pub mark : slice_get new.core (base + 1) ≡ Some (mscw_word (mark_of k (Entered level spot None) []))
  pub back : slice_get new.core (base + 2) ≡ Some (word 3 0)
  pub copied : (i : ℕ) → i < count → slice_get new.core (base + 3 + i) ≡ slice_get cpu.core (cpu.regs.s + 1 - count + i)
  pub vector : slice_get new.core (32 + k) ≡ Some (vector_word (with_task_at plan m.constants.number child.number k plan.peak) m.constants.number child.parents)
  pub others : (q : ℕ) → q ≢ slot_of plan m.constants.number t.number → slice_get new.critical q ≡ slice_get cpu.critical q
  pub own : slice_get new.critical (slot_of plan m.constants.number t.number) ≡ Some (critical_mark job' t.frames)

module _ (x : Storage) (cpu : Cpu) (plan : Placement) (s : Session) (m : SessionJob) (t : Task) (job' : Job) (child : Task) (k : ℕ)
    (o : IsInOrderButCounts s) (h : RepresentsSession x cpu plan s) (runs : IsRunning plan s.jobs m t) (joins : Joins plan s.jobs m job' child k plan.peak)
    (c : Calls plan m t job' child) where
  abbrev j : ℕ
  j = m.constants.number

  abbrev p : MachineView
  p = machine_view plan s.jobs

  abbrev base : ℕ
  base = slot_base (machine_view plan s.jobs) k

  abbrev running : ℕ
  running = plan.running

  has_m : Has s.jobs m
  has_m = (keyed_has (λ (y : SessionJob). y.constants.number) m.constants.number s.jobs m runs.member).0

  has_t : Has m.progress.job.tasks t
  has_t = (keyed_has (λ (u : Task). u.number) t.number m.progress.job.tasks t runs.task).0

  order : JobInOrderButCounts (IsSegment m.constants) m.constants m.progress
  order = job_in_order s m o has_m

  -- the parent's stack
  abbrev outer : ℕ → StackPlace
  outer = outer_spots plan m.constants.number m.progress.job t.critical t.parents

  abbrev seen : ℕ → StackPlace
  seen = spot_in plan.running (outer_spots plan m.constants.number m.progress.job t.critical t.parents) (c.call ∷ c.under ∷ c.below)

  pub parent_runs : RunsOn p plan.running (stack_of_task plan m.constants.number m.progress.job plan.running t)
  parent_runs = runs_on plan s.jobs m t h.holds.fits.rows has_m has_t runs.slot runs.member runs.task

  abbrev lower : List Activation
  lower = activations plan m.constants.number m.progress.job plan.running (outer_spots plan m.constants.number m.progress.job t.critical t.parents) (c.under ∷ c.below)

  abbrev call_head : Head
  call_head = head (spot_in plan.running (outer_spots plan m.constants.number m.progress.job t.critical t.parents) (c.under ∷ c.below)) c.call.standing

  abbrev args : List Shape
  args = map (shape plan m.constants.number m.progress.job seen) c.only.cells

  abbrev rest : List Shape
  rest = map (shape plan m.constants.number m.progress.job seen) c.deeper ++ headed plan.running call_head lower (words plan.running lower)

  -- the words of the parent's stack: the arguments on top
  parent_words : words plan.running (stack_of_task plan m.constants.number m.progress.job plan.running t) ≡ args ++ rest
  parent_words = grind (arith, map-append, append_assoc)

  parent_lies : LieDownward (Fits x.held) cpu.core (suc (slot_base p plan.running)) (args ++ rest)
  parent_lies = subst (λ (xs : List Shape). LieDownward (Fits x.held) cpu.core (suc (slot_base p plan.running)) xs) parent_words (running_lies x cpu.core cpu.regs p plan.running (stack_of_task plan m.constants.number m.progress.job plan.running t) h.holds.memory parent_runs)

  parent_high : stack_words (stack_of_task plan m.constants.number m.progress.job plan.running t) ≡ length c.only.cells + length rest
  parent_high = grind (arith, words-length, length-append, length-map)

  top_is : cpu.regs.s ≡ slot_base p plan.running + (length c.only.cells + length rest)
  top_is = (running_slot x cpu.core cpu.regs p plan.running (stack_of_task plan m.constants.number m.progress.job plan.running t) h.holds.memory parent_runs).top ∙ ap (λ (n : ℕ). slot_base p plan.running + n) parent_high

  -- what the child sees
  abbrev child_outer : ℕ → StackPlace
  child_outer = outer_spots plan m.constants.number m.progress.job child.critical child.parents

  abbrev child_sees : ℕ → StackPlace
  child_sees = spot_in k (outer_spots plan m.constants.number m.progress.job child.critical child.parents) (c.only ∷ [])

  outer_is : (id : ℕ) → child_outer id ≡ spot_in plan.running outer (from_frame c.under.identity (c.call ∷ c.under ∷ c.below)) id
  outer_is id =
      let N : Task → ℕ = λ (u : Task). u.number in
      let O : Option Task → ℕ → StackPlace = λ q n. spot_in n (outer_spots plan m.constants.number m.progress.job (critical_of q) t.parents) (from_frame c.under.identity (frames_of_task q)) id in
      ap (λ (d : ℕ). outer_spots plan m.constants.number m.progress.job d child.parents id) c.critical
      ∙ ap (λ (ps : List ℕ). outer_spots plan m.constants.number m.progress.job c.under.identity ps id) c.line
      ∙ ap (λ (q : Option Task). O q (slot_of plan m.constants.number t.number)) runs.task
      ∙ ap (O (Some t)) (sym runs.slot)
      ∙ ap (λ (fs : List Frame). spot_in plan.running outer (from_frame c.under.identity fs) id) c.frames

  falls : c.call.identity ≢ c.under.identity
  falls e =
      let low = (running_in_order plan s m t o runs).1.falls in
      two_fall t.frames c.frames low e
    where
      two_fall : (fs : List Frame) → fs ≡ c.call ∷ c.under ∷ c.below → Falls m.progress.job.next_frame (InOrder.known_numbers (map InOrder.known_of fs ++ InOrder.outer_of m.progress.job t)) → c.call.identity ≡ c.under.identity → ⊥
      two_fall fs is f same =
          let g : Falls m.progress.job.next_frame (InOrder.known_numbers (map InOrder.known_of (c.call ∷ c.under ∷ c.below) ++ InOrder.outer_of m.progress.job t)) = subst (λ (xs : List Frame). Falls m.progress.job.next_frame (InOrder.known_numbers (map InOrder.known_of xs ++ InOrder.outer_of m.progress.job t))) is f in
          omega (arith, g.1.0, same)

  sees_same : (id : ℕ) → id ≢ c.call.identity → id ≢ c.only.identity → child_sees id ≡ seen id
  sees_same id a d = grind (arith, outer_is)

  word_sees : (w : Word) → Has c.only.cells w → Sees (λ (id : ℕ). child_sees id ≡ seen id) w
  word_sees w i = grind (arith, sees_same)

  -- the child's stack
  abbrev child_cells : List Shape
  child_cells = map (shape plan m.constants.number m.progress.job child_sees) c.only.cells

  abbrev built : List Activation
  built = record { head = Entered c.level c.spot None; cells = child_cells } ∷ []

  parents_old : (u : ℕ) → Has child.parents u → u ≢ child.number
  parents_old u i = grind (arith, has_t)

  stack_is : stack_of_task (with_task_at plan m.constants.number child.number k plan.peak) m.constants.number job' k child ≡ built
  stack_is =
      let A : State.Standing → Activation = λ st. record { head = head child_outer st; cells = child_cells } in
      child_stack plan s.jobs m job' child k plan.peak joins parents_old k
      ∙ ap (activations plan m.constants.number m.progress.job k child_outer) c.child_frames
      ∙ ap (λ (st : State.Standing). A st ∷ []) c.stands
      ∙ ap (λ (q : StackPlace). record { head = Entered c.level q None; cells = child_cells } ∷ []) c.spot_is

  cells_count : length child_cells ≡ length c.only.cells
  cells_count = length-map c.only.cells (shape plan m.constants.number m.progress.job child_sees)

  is_stack : IsStack plan.size built
  is_stack = record { some = λ e. cc; heads = (c.head_fits, tt); fits = omega (arith, cells_count, c.room) }

  -- a copy in it is one that the parent has
  copies : CopiesName p.objects (words k built)
  copies copied home i = ⊎_elim
      (λ (l : Has child_cells (Copy copied home)).
      let r = has_map_back (shape plan m.constants.number m.progress.job child_sees) c.only.cells (Copy copied home) l in
      let same : shape plan m.constants.number m.progress.job seen r.item ≡ Copy copied home = sym (shape_seen plan m.constants.number m.progress.job seen child_sees r.item (word_sees r.item r.among)) ∙ r.is in
      let there : Has (args ++ rest) (Copy copied home) = has_append_left args rest (Copy copied home) (subst (Has args) same (has_map (shape plan m.constants.number m.progress.job seen) c.only.cells r.item r.among)) in
      (running_fits x cpu.core cpu.regs p plan.running (stack_of_task plan m.constants.number m.progress.job plan.running t) h.holds.memory parent_runs).1 copied home
      (subst (λ (xs : List Shape). Has xs (Copy copied home)) (sym parent_words) there))
      (λ l. ⊎_elim (λ e. absurd cc) (λ n. ⊎_elim (λ e. absurd cc) (λ z. absurd z) n) l)
      (has_append_cases child_cells (headed k (Entered c.level c.spot None) [] []) (Copy copied home) i)

  free_slot : slot_at plan s.jobs k ≡ Free
  free_slot = by (keyed (λ (r : Slotted). r.slot) k plan.rows) refl where
    by : (q : Option Slotted) → keyed (λ (r : Slotted). r.slot) k plan.rows ≡ q → slot_by plan s.jobs k q ≡ Free
    by None e = refl
    by (Some r) e = let f = found-has (λ (r : Slotted). r.slot == k) plan.rows r e in absurd (joins.free r f.0 (eqb-true r.slot k f.1))

  slot_regs : cpu.regs.slot ≡ plan.running
  slot_regs = (h.holds.running m t runs).slot ∙ sym runs.slot

  abbrev pub started_plan : Placement
  started_plan = with_task_at plan m.constants.number child.number k plan.peak

  abbrev pub started : Session
  started = record s { jobs = with_course s.jobs m.constants.number (record m.progress { job = job' }); peak = plan.peak }

  machine_view_is : machine_view started_plan started.jobs ≡ with_slot p k (Waiting built)
  machine_view_is = view_more plan s.jobs m job' child k plan.peak joins ∙ ap (λ (st : List Activation). with_slot p k (Waiting st)) stack_is

  under_low : c.under.identity < m.progress.job.next_frame
  under_low = (frames_low (IsSegment m.constants) m.constants m.progress.job order.tasks t has_t c.under (subst (λ (fs : List Frame). Has fs c.under) (sym c.frames) (inr (inl refl)))).identity

  childless : critical_mark job' child.frames ≡ 0
  childless =
      let free : is_critical m.progress.job m.progress.job.next_frame ≡ false = free-uncritical m.progress.job m.progress.job.next_frame (next_is_free (IsSegment m.constants) m.constants m.progress.job order.tasks t has_t) in
      let test : is_critical job' c.only.identity ≡ false =
      ap (λ (ts : List Task). list_any (λ (u : Task). u.critical == c.only.identity) ts) joins.tasks
      ∙ rw (ne_eqb child.critical c.only.identity (λ e. omega (arith, e, c.critical, c.identity, under_low))) (ap (is_critical m.progress.job) c.identity ∙ free) in
      ap (critical_mark job') c.child_frames ∙ ap (λ (q : Bool). if q then height [] else 0) test

  -- room for the child's stack, which isn't in the parent's slot
  pub slot_apart : (suc cpu.regs.s ≤ slot_base (machine_view plan s.jobs) k) ⊎ (slot_base (machine_view plan s.jobs) k + plan.size ≤ suc cpu.regs.s - length c.only.cells)
  slot_apart = elim (cases_lt plan.running k) [
    | inl a ↦ inl (omega (arith, base-apart p plan.running k a, top_is, parent_high, (running_fits x cpu.core cpu.regs p plan.running (stack_of_task plan m.constants.number m.progress.job plan.running t) h.holds.memory parent_runs).0.fits))
    | inr a ↦ inr (omega (arith, base-apart p k plan.running (let q : k < plan.running = omega (arith, a, joins.away) in q), top_is))
  ]

  pub enough : length c.only.cells ≤ suc cpu.regs.s
  enough = omega (arith, top_is)

  pub slot_low : 160 ≤ slot_base (machine_view plan s.jobs) k
  slot_low = omega (arith, h.holds.memory.slots.laid.first)

  pub running_small : cpu.regs.slot < 120
  running_small = omega (arith, slot_regs, parent_runs.used, h.holds.fits.few)

  pub below_some : activations_below (stack_of_task plan m.constants.number m.progress.job plan.running t) ≢ []
  below_some = subst (λ (fs : List Frame). activations_below (activations plan m.constants.number m.progress.job plan.running outer fs) ≢ []) (sym c.frames) (λ e. cc)

  -- where the mark stands that the child depends on
  pub under_place : mark_place (activations_below (stack_of_task plan m.constants.number m.progress.job plan.running t)) ≡ height c.below
  under_place = grind (arith, height-is)

  mark_low : (f : Frame) (below : List Frame) → critical_mark m.progress.job (f ∷ below) ≤ height below
  mark_low f [] = elim (cases_Bool (is_critical m.progress.job f.identity)) [ inl e ↦ rw e (omega arith) | inr e ↦ rw e (omega arith) ]
  mark_low f (g ∷ below) = elim (cases_Bool (is_critical m.progress.job f.identity)) [ inl e ↦ rw e (omega arith) | inr e ↦ rw e (omega (arith, mark_low g below)) ]

  -- the parent's topmost mark that a live task depends on is then the old one or the child's, whichever is higher
  pub mark_now : critical_mark job' t.frames ≡ max (critical_mark m.progress.job t.frames) (height c.below)
  mark_now = grind (arith, ne_eqb, falls, mark_low)

  module _ (new : Cpu) (b : Built cpu new plan m t job' child k (slot_base (machine_view plan s.jobs) k) (length c.only.cells) c.level c.spot) where
    lies : LieDownward (Fits x.held) new.core (suc base) (words k built)
    lies =
        let only' : Frame = record c.only { cells = c.only.cells } in
        subst (λ (q : StackPlace). LieDownward (Fits x.held) new.core (suc base) (child_cells ++ headed k (Entered c.level q None) [] [])) c.spot_is
        (child_lies x.held cpu.core new.core plan m.constants.number m.progress.job k base child_outer c.only c.level c.environment (suc (slot_base p plan.running)) seen rest rest
        (b.mark ∙ ap (λ (q : StackPlace). Some (mscw_word (mark_of k (Entered c.level q None) []))) (sym c.spot_is))
        b.back
        (λ i low. b.copied i low ∙ ap (slice_get cpu.core) (let e : cpu.regs.s + 1 - length c.only.cells + i ≡ suc (slot_base p plan.running) + length rest + i = omega (arith, top_is) in e))
        (λ w i. (c.plain w i, word_sees w i))
        parent_lies)

    filled : SlotFilled x cpu.core new.core cpu.regs p k built
    filled = grind (arith, free_slot, cells_count, copies, lies)

    memory : Represents x new.core new.regs (machine_view started_plan started.jobs)
    memory = subst (λ (q : MachineView). Represents x new.core new.regs q) (sym machine_view_is)
        (subst (λ (r : Regs). Represents x new.core r (with_slot p k (Waiting built))) (sym b.regs) (Represents-filled x cpu.core new.core cpu.regs p k built filled h.holds.memory h.holds.settled))

    settled : NoOriginalAboveTop (machine_view started_plan started.jobs)
    settled = subst NoOriginalAboveTop (sym machine_view_is) (NoOriginalAboveTop-filled x cpu.core new.core cpu.regs p k built filled h.holds.memory h.holds.settled)

    shown : Shown cpu.core new.core cpu.regs cpu.regs cpu.critical new.critical plan m t job' child k plan.peak
    shown = record {
      few = h.holds.fits.few;
      words = λ i low ne v. b.outside i v (inl (omega (arith, low)));
      vector = b.vector;
      others = b.others;
      own = b.own;
      childless = childless;
      unseen = λ u lu ne f hf e. frames_apart (IsSegment m.constants) m.constants m.progress.job order.tasks t u has_t lu (λ z. ne (sym z)) c.under f (subst (λ (fs : List Frame). Has fs c.under) (sym c.frames) (inr (inl refl))) hf (sym c.critical ∙ e);
      regs = refl;
      distinct = λ u lu. keyed_falls (λ (v : Task). v.number) m.progress.job.next_task m.progress.job.tasks u order.tasks.numbers lu;
    }

    holds : SessionHolds x new.core cpu.regs new.critical started_plan started
    holds = SessionHolds-born x x cpu.core new.core cpu.regs cpu.regs cpu.critical new.critical plan s m t job' child k plan.peak o.numbered h.holds runs joins shown
        (subst (λ (r : Regs). Represents x new.core r (machine_view started_plan started.jobs)) b.regs memory) settled

    pub RepresentsSession-started : RepresentsSession x new started_plan started
    RepresentsSession-started = record {
      holds = subst (λ (r : Regs). SessionHolds x new.core r new.critical started_plan started) (sym b.regs) holds;
      shows = λ y u q.
          let moved : SessionJob = record m { progress = record m.progress { job = job' } } in
          let fit = rows x x cpu.core new.core cpu.regs cpu.regs cpu.critical new.critical plan s m t job' child k plan.peak o.numbered h.holds runs joins shown in
          let still = still_running x x cpu.core new.core cpu.regs cpu.regs cpu.critical new.critical plan s m t job' child k plan.peak o.numbered h.holds runs joins shown in
          let display = ShowsDisplay-born x x cpu.core new.core cpu.regs cpu.regs cpu.critical new.critical plan s m t job' child k plan.peak o.numbered h.holds runs joins shown order.unchanging order.tasks c.only c.child_frames c.identity cpu.display (h.shows m t runs) in
          running_only started_plan started.jobs moved y t u (λ y u. ShowsDisplay new.display started_plan y u) fit still q (subst (λ (d : List ℕ). ShowsDisplay d started_plan moved t) (sym b.display) display);
    }
