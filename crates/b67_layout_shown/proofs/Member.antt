-- A task and a job as the machine shows them.
use Rattle.std.proofs.Common.{◌≡◌, ◌≢◌, ℕ, zero, suc, ◌+◌, ◌-◌, ◌*◌, ◌/◌, ◌%◌, ◌^◌, ◌<◌, ◌≤◌, ◌==◌, Bool, true, false, List, [], ◌∷◌, map, length, Option, Some, None, refl, sym, ◌∙◌, ap, subst, arith, inl, inr, lt-ltb, le-ltb}
use Rattle.std.specs.Prelude.{nat_lt, if◌then◌else◌}
use Rattle.std.specs.List.{slice_get}
use Rattle.std.proofs.lemmas.Bool.{ne_eqb, eq-eqb, cases_eq, eqb-true}
use Rattle.std.proofs.lemmas.List.{length-map}
use Rattle.b67_word.specs.Tagged.{Tagged, bits_at}
use Rattle.b67_word.specs.declared.couples.Place.{Place}
use Rattle.b67_ctl.specs.declared.registers.Regs.{Regs}
use Rattle.b67_ctl.specs.Layout.{toscw_word}
use Rattle.b67_lemmas.specs.Lists.{Has, Falls}
use Rattle.b67_lemmas.proofs.Members.{all_in, keyed_falls, keyed_has, falls_short, find_none, has_map}
use Rattle.b67_law.proofs.Numbered.{keyed_member}
use Rattle.b67_model.specs.Keyed.{keyed}
use Rattle.b67_model.specs.Common.{Frame, Task, SessionJob, Array, Condition, Ready, Awaits, WaitsAt, height, Session, IsSegment, TaskInOrder, BirthInOrder, ConditionInOrder, NamesEntered, identities, frames_of_task, reach_of, outer_of}
use Rattle.b67_stack.specs.declared.Cpu.{Cpu}
use Rattle.b67_stack.specs.Common.{StackPlace, HeadsFit, Activation, mark_place, stack_words, stack_level, toscw_of, IsStack, Slot, Free, Running, Waiting, slot_base, stack_of, Storage, RepresentsSlot}
use Rattle.b67_layout.specs.Common.{Placement, slot_of, spot_in, spots, base_spot, outer_spots, address_of, activations, stack_of_task, machine_view, slot_at, TaskRow, JobRow, JobCounts, JobShows, TaskShows, TablesShow, parent_slot, critical_disp, JobInOrderButCounts, IsInOrderButCounts, RepresentsSession, IsRunning}
use Rattle.b67_layout.specs.Rows as rows
use Rattle.b67_layout.proofs.Common.{task_row, dictionary_below}
use Rattle.b67_layout_shown.specs.Reading.{word_seen_at, stack_seen}
use Rattle.b67_layout_shown.specs.Places.{named, name_among, array_among, condition_by, task_by}
use Rattle.b67_layout_shown.specs.Shown.{Sight, Top, top_by, top_in, number_seen, frame_seen, place_seen, array_homed, frames_of, stack_of_row, parents_by, parents_in, critical_by, condition_in, task_in}
use Rattle.b67_layout_shown.proofs.Stacks.{word_is, is_stack}
use Rattle.b67_layout_shown.proofs.Frames.{Named, head_some, spots_read}
use Rattle.b67_layout_shown.proofs.Names.{named_frames}
use Rattle.b67_layout_shown.proofs.Outer.{name_low, outer_read}
use Rattle.b67_layout_shown.proofs.Words.{PlaceIsRead}
use Rattle.b67_layout_shown.proofs.Tasks.{row_in, few_segments}
use Rattle.b67_layout_shown.proofs.Read.{order, small_number, stack_is, slot_below, slot_shows, frames_are, arrays_read}
use Rattle.std.proofs.Math.Arith.{digits_div, digits_mod}

toscw_fields : (s l f : ℕ) → s < 2 ^ 16 → l < 2 ^ 5 → f < 2 ^ 14 → let n = s * 2 ^ 20 + l * 2 ^ 14 + f in (n / 2 ^ 20 % 2 ^ 16 ≡ s) × (n / 2 ^ 0 % 2 ^ 14 ≡ f)
toscw_fields s l f sh lh fh = (omega arith, omega arith)

place_low : (st : List Activation) → mark_place st ≤ stack_words st
place_low st = grind arith

levels : (st : List Activation) → HeadsFit st → stack_level st < 2 ^ 5
levels [] fits = omega arith
levels (a ∷ below) fits = grind (arith, levels below fits.1)

same_task : (a : Task) (n : ℕ) (ps : List ℕ) (c : ℕ) (fs : List Frame) (g : ℕ) (p : Place) (w : Condition) → n ≡ a.number → ps ≡ a.parents → c ≡ a.critical → fs ≡ a.frames → g ≡ a.segment → p ≡ a.place → w ≡ a.condition
    → record { number = n; parents = ps; critical = c; frames = fs; segment = g; place = p; condition = w } ≡ a
same_task a n ps c fs g p w en eps ec efs eg ep ew = rw (en, eps, ec, efs, eg, ep, ew) refl

-- the place of an address in a slot, and the names of a dictionary and of the MCP
pub place_in : (r : Regs) (row : JobRow) (job n d : ℕ) → d < r.stack_size → place_seen r row job (r.stacks + n * r.stack_size + d) ≡ record { stack = n; disp = d }
place_in r row job n d small =
    let rest : r.stacks + n * r.stack_size + d - r.stacks ≡ n * r.stack_size + d = omega arith in
    ap (λ (b : Bool). if b then (if r.stacks + n * r.stack_size + d == row.dictionary then record { stack = 127 + job; disp = 0 } else record { stack = 136; disp = 0 })
    else record { stack = (r.stacks + n * r.stack_size + d - r.stacks) / r.stack_size; disp = (r.stacks + n * r.stack_size + d - r.stacks) % r.stack_size }) (le-ltb (r.stacks + n * r.stack_size + d) r.stacks (omega arith))
    ∙ ap (λ q. record { stack = q / r.stack_size; disp = q % r.stack_size }) rest
    ∙ ap (λ q. record { stack = q; disp = (n * r.stack_size + d) % r.stack_size }) (digits_div n small) ∙ ap (λ q. record { stack = n; disp = q }) (digits_mod n small)

dictionary_name : (tasks : List TaskRow) (job : ℕ) → frame_seen tasks job (record { stack = 127 + job; disp = 0 }) ≡ 1
dictionary_name tasks job = grind arith

mcp_name : (tasks : List TaskRow) (job : ℕ) → job ≤ 8 → frame_seen tasks job (record { stack = 136; disp = 0 }) ≡ 0
mcp_name tasks job few = ap (λ (b : Bool). if b then 1 else 0) (ne_eqb 136 (127 + job) (λ e. omega (arith, e, few)))

module _ (x : Storage) (cpu : Cpu) (plan : Placement) (s : Session) (m : SessionJob) (tasks : List TaskRow) (jobs : List JobRow) (row : JobRow) (c : JobCounts)
    (ordered : IsInOrderButCounts s) (stands : RepresentsSession x cpu plan s) (tables : TablesShow plan s tasks jobs c) (in_session : Has s.jobs m) (shows : JobShows plan m row) where
  abbrev k : Sight
  k = record { core = cpu.core; regs = cpu.regs; tasks = tasks; jobs = jobs; counts = c }

  abbrev j : ℕ
  j = m.constants.number

  ord : JobInOrderButCounts (IsSegment m.constants) m.constants m.progress
  ord = order x cpu plan s m tasks jobs row c ordered stands tables in_session shows

  own : (t : Task) → Has m.progress.job.tasks t → TaskInOrder (IsSegment m.constants) m.constants m.progress.job t
  own t there = all_in (TaskInOrder (IsSegment m.constants) m.constants m.progress.job) m.progress.job.tasks t ord.tasks.tasks there

  pub runs_is : (t : Task) → Has m.progress.job.tasks t → plan.running ≡ slot_of plan m.constants.number t.number → IsRunning plan s.jobs m t
  runs_is t there e = record {
    member = keyed_member 1 s.jobs m ordered.numbered in_session;
    task = keyed_falls (λ (u : Task). u.number) m.progress.job.next_task m.progress.job.tasks t ord.tasks.numbers there;
    slot = e;
  }

  -- the registers are those of the running task
  pub slot_runs : (t : Task) → Has m.progress.job.tasks t → cpu.regs.slot ≡ slot_of plan m.constants.number t.number → plan.running ≡ slot_of plan m.constants.number t.number
  slot_runs t there e = elim (cases_eq plan.running 255) [
    | inl z ↦
        let none = stands.holds.none z in
        let low = slot_below x cpu plan s m tasks jobs row c ordered stands tables in_session shows t there in
        let few = stands.holds.fits.few in
        absurd (omega (arith, none, low, few, e))
    | inr z ↦
        let (y, u, r) = stands.holds.live z in
        let q = stands.holds.running y u r in
        r.slot ∙ sym q.slot ∙ e
  ]

  pub base_is : (n : ℕ) → cpu.regs.stacks + n * cpu.regs.stack_size ≡ slot_base (machine_view plan s.jobs) n
  base_is n = ap (λ b. b + n * cpu.regs.stack_size) stands.holds.memory.slots.regs.stacks ∙ ap (λ z. plan.stacks + n * z) stands.holds.memory.slots.regs.size

  -- ---- the top of a task's stack

  pub record TopIs (t : Task) (top : Top) (stack : List Activation) (base : ℕ) : Type 0 where
    pub s_is : top.s ≡ base + stack_words stack
    pub f_is : top.f ≡ base + mark_place stack
    pub segment : top.segment ≡ t.segment + 1
    pub place : top.place ≡ t.place

  pub top_is : (t : Task) (r : TaskRow) → Has m.progress.job.tasks t → TaskShows plan m t r → let n = slot_of plan m.constants.number t.number in
      TopIs t (top_in k r) (stack_of_task plan m.constants.number m.progress.job n t) (slot_base (machine_view plan s.jobs) n)
  top_is t r there sh = by (slot_at plan s.jobs n) (stands.holds.memory.slots.slots n small) at_slot (r.slot == cpu.regs.slot) refl where
    n : ℕ
    n = slot_of plan m.constants.number t.number

    stack : List Activation
    stack = stack_of_task plan m.constants.number m.progress.job (slot_of plan m.constants.number t.number) t

    base : ℕ
    base = slot_base (machine_view plan s.jobs) (slot_of plan m.constants.number t.number)

    small : slot_of plan m.constants.number t.number < plan.peak
    small = slot_below x cpu plan s m tasks jobs row c ordered stands tables in_session shows t there

    at_slot : stack_of (slot_at plan s.jobs (slot_of plan m.constants.number t.number)) ≡ stack_of_task plan m.constants.number m.progress.job (slot_of plan m.constants.number t.number) t
    at_slot = stack_is x cpu plan s m tasks jobs row c ordered stands tables in_session shows t there

    some_frames : (fs : List Frame) → fs ≢ [] → activations plan m.constants.number m.progress.job (slot_of plan m.constants.number t.number) (outer_spots plan m.constants.number m.progress.job t.critical t.parents) fs ≢ []
    some_frames [] h e = h refl
    some_frames (f ∷ below) h e = cc

    some : stack_of_task plan m.constants.number m.progress.job (slot_of plan m.constants.number t.number) t ≢ []
    some = some_frames t.frames (own t there).some

    fits : IsStack plan.size (stack_of_task plan m.constants.number m.progress.job (slot_of plan m.constants.number t.number) t)
    fits = is_stack (machine_view plan s.jobs) (slot_of plan m.constants.number t.number) (slot_at plan s.jobs (slot_of plan m.constants.number t.number)) (stack_of_task plan m.constants.number m.progress.job (slot_of plan m.constants.number t.number) t)
        (stands.holds.memory.slots.laid.slots (slot_of plan m.constants.number t.number) small) at_slot some

    by : (sl : Slot) → RepresentsSlot cpu.core cpu.regs (machine_view plan s.jobs) (slot_of plan m.constants.number t.number) sl
        → stack_of sl ≡ stack_of_task plan m.constants.number m.progress.job (slot_of plan m.constants.number t.number) t
        → (b : Bool) → (r.slot == cpu.regs.slot) ≡ b
        → TopIs t (top_by (record { core = cpu.core; regs = cpu.regs; tasks = tasks; jobs = jobs; counts = c }) r (cpu.regs.stacks + r.slot * cpu.regs.stack_size) b)
        (stack_of_task plan m.constants.number m.progress.job (slot_of plan m.constants.number t.number) t) (slot_base (machine_view plan s.jobs) (slot_of plan m.constants.number t.number))
    by Free rep e b t' = absurd (some (sym e))
    by (Running st) rep e true t' =
        let q = stands.holds.running m t (runs_is t there (slot_runs t there rep.slot)) in
        record {
          s_is = rep.top ∙ ap (λ st. slot_base (machine_view plan s.jobs) (slot_of plan m.constants.number t.number) + stack_words st) e;
          f_is = rep.mark ∙ ap (λ st. slot_base (machine_view plan s.jobs) (slot_of plan m.constants.number t.number) + mark_place st) e;
          segment = q.segment;
          place = q.place;
        }
    by (Running st) rep e false t' =
        let yes = eq-eqb r.slot cpu.regs.slot (sh.slot ∙ sym rep.slot) in
        absurd (let z : ⊥ = cc in z)
    by (Waiting st) rep e true t' = absurd (rep.0 (sym (eqb-true r.slot cpu.regs.slot t') ∙ sh.slot))
    by (Waiting st) rep e false t' =
        let at : cpu.regs.stacks + r.slot * cpu.regs.stack_size ≡ slot_base (machine_view plan s.jobs) (slot_of plan m.constants.number t.number) =
        base_is r.slot ∙ ap (slot_base (machine_view plan s.jobs)) sh.slot in
        let there' = subst (λ (w : List Activation). slice_get cpu.core (slot_base (machine_view plan s.jobs) (slot_of plan m.constants.number t.number)) ≡ Some (toscw_word (toscw_of w))) e rep.1 in
        let is = word_is cpu.core (slot_base (machine_view plan s.jobs) (slot_of plan m.constants.number t.number)) (toscw_word (toscw_of (stack_of_task plan m.constants.number m.progress.job (slot_of plan m.constants.number t.number) t))) there' in
        let room = stands.holds.memory.slots.laid.room in
        let short = fits.fits in
        let low = place_low (stack_of_task plan m.constants.number m.progress.job (slot_of plan m.constants.number t.number) t) in
        let level = levels (stack_of_task plan m.constants.number m.progress.job (slot_of plan m.constants.number t.number) t) fits.heads in
        let f = toscw_fields (stack_words (stack_of_task plan m.constants.number m.progress.job (slot_of plan m.constants.number t.number) t)) (stack_level (stack_of_task plan m.constants.number m.progress.job (slot_of plan m.constants.number t.number) t)) (mark_place (stack_of_task plan m.constants.number m.progress.job (slot_of plan m.constants.number t.number) t))
        (omega (arith, room, short)) level (omega (arith, room, short, low)) in
        let waits : r.slot ≢ plan.running = λ z. (let q = stands.holds.running m t (runs_is t there (sym z ∙ sh.slot)) in rep.0 q.slot) in
        record {
          s_is = ap (λ b. b + bits_at (word_seen_at cpu.core b) 20 16) at ∙ ap (λ (w : Tagged). slot_base (machine_view plan s.jobs) (slot_of plan m.constants.number t.number) + bits_at w 20 16) is
              ∙ ap (λ z. slot_base (machine_view plan s.jobs) (slot_of plan m.constants.number t.number) + z) f.0;
          f_is = ap (λ b. b + bits_at (word_seen_at cpu.core b) 0 14) at ∙ ap (λ (w : Tagged). slot_base (machine_view plan s.jobs) (slot_of plan m.constants.number t.number) + bits_at w 0 14) is
              ∙ ap (λ z. slot_base (machine_view plan s.jobs) (slot_of plan m.constants.number t.number) + z) f.1;
          segment = sh.segment waits;
          place = sh.place waits;
        }

  -- ---- parents

  -- the row of a live task is found by its slot
  record RowOf (u : Task) : Type 0 where
    item : TaskRow
    found : keyed (λ (q : TaskRow). q.slot) (slot_of plan m.constants.number u.number) tasks ≡ Some item
    tells : TaskShows plan m u item

  row_of : (u : Task) → Has m.progress.job.tasks u → RowOf u
  row_of u there =
      let e = tables.each m u in_session there in
      record { item = e.0; found = subst (λ n. keyed (λ (q : TaskRow). q.slot) n tasks ≡ Some e.0) e.2.slot (row_in tasks e.0 tables.once e.1); tells = e.2 }

  no_row : keyed (λ (q : TaskRow). q.slot) 255 tasks ≡ None
  no_row = find_none (λ (q : TaskRow). q.slot == 255) tasks (λ q h.
      let (y, u, iny, int, sh) = tables.tasks q h in
      let a = task_row plan s.jobs y u stands.holds.fits.rows iny int in
      let low = stands.holds.fits.rows.below a.row a.among in
      let few = stands.holds.fits.few in
      let e = a.slot in
      let z = sh.slot in
      ne_eqb q.slot 255 (λ w. omega (arith, low, few, e, z, w)))

  none_by : (n : ℕ) → parents_by tasks n None ≡ []
  none_by zero = refl
  none_by (suc n) = refl

  parents_are : (ps : List ℕ) (u : Task) → BirthInOrder m.progress.job u ps → (n : ℕ) → length ps ≤ n → (parent : ℕ) → parent ≡ parent_slot plan m.constants.number ps
      → parents_by tasks n (keyed (λ (q : TaskRow). q.slot) parent tasks) ≡ ps
  parents_are [] u birth n few parent e = ap (λ i. parents_by tasks n (keyed (λ (q : TaskRow). q.slot) i tasks)) e ∙ ap (parents_by tasks n) no_row ∙ none_by n
  parents_are (p ∷ above) u birth zero few parent e = absurd (omega (arith, few))
  parents_are (p ∷ above) u birth (suc n) few parent e =
      let found = keyed_has (λ (t : Task). t.number) p m.progress.job.tasks birth.parent birth.found in
      let r = row_of birth.parent found.0 in
      let slot : parent ≡ slot_of plan m.constants.number birth.parent.number = e ∙ ap (slot_of plan m.constants.number) (sym found.1) in
      let line = subst (BirthInOrder m.progress.job birth.parent) birth.line (own birth.parent found.0).birth in
      let up : r.item.parent ≡ parent_slot plan m.constants.number above = r.tells.parent ∙ ap (parent_slot plan m.constants.number) birth.line in
      ap (λ i. parents_by tasks (suc n) (keyed (λ (q : TaskRow). q.slot) i tasks)) slot ∙ ap (parents_by tasks (suc n)) r.found
      ∙ ap (λ i. i ∷ parents_by tasks n (keyed (λ (q : TaskRow). q.slot) r.item.parent tasks)) (r.tells.number ∙ found.1)
      ∙ ap (λ is. p ∷ is) (parents_are above birth.parent line n (omega (arith, few)) r.item.parent up)

  falls_parents : (ps : List ℕ) (u : Task) → BirthInOrder m.progress.job u ps → Falls u.number ps
  falls_parents [] u birth = tt
  falls_parents (p ∷ above) u birth =
      let found = keyed_has (λ (t : Task). t.number) p m.progress.job.tasks birth.parent birth.found in
      let line = subst (BirthInOrder m.progress.job birth.parent) birth.line (own birth.parent found.0).birth in
      (birth.older, subst (λ n. Falls n above) found.1 (falls_parents above birth.parent line))

  live_parents : (ps : List ℕ) (u : Task) → BirthInOrder m.progress.job u ps → (n : ℕ) → Has ps n → Has (map (λ (t : Task). t.number) m.progress.job.tasks) n
  live_parents [] u birth n h = absurd h
  live_parents (p ∷ above) u birth n (inl e) =
      let found = keyed_has (λ (t : Task). t.number) p m.progress.job.tasks birth.parent birth.found in
      subst (Has (map (λ (t : Task). t.number) m.progress.job.tasks)) (found.1 ∙ e) (has_map (λ (t : Task). t.number) m.progress.job.tasks birth.parent found.0)
  live_parents (p ∷ above) u birth n (inr h) =
      let found = keyed_has (λ (t : Task). t.number) p m.progress.job.tasks birth.parent birth.found in
      live_parents above birth.parent (subst (BirthInOrder m.progress.job birth.parent) birth.line (own birth.parent found.0).birth) n h

  few_parents : (t : Task) → Has m.progress.job.tasks t → length t.parents ≤ 15
  few_parents t there =
      let birth = (own t there).birth in
      let short = falls_short t.number t.parents m.progress.job.next_task (map (λ (t : Task). t.number) m.progress.job.tasks) (falls_parents t.parents t birth) ord.tasks.numbers (live_parents t.parents t birth) in
      let few = ord.tasks.few in
      let same = length-map m.progress.job.tasks (λ (t : Task). t.number) in
      omega (arith, short, few, same)

  -- ---- the critical frame

  rename_0 : name_among m.progress.job.tasks 0 ≡ 0
  rename_0 = name_low (IsSegment m.constants) m.constants m.progress.job ord.tasks 0 (omega arith)

  critical_name : (n number c : ℕ) (o : ℕ → StackPlace) (fs : List Frame) → Named (name_among m.progress.job.tasks) number fs → Has (identities fs) c → named number (spot_in n o fs c).disp ≡ name_among m.progress.job.tasks c
  critical_name n number c o [] names h = absurd h
  critical_name n number c o (f ∷ below) names h = grind (arith, critical_name n number c o below names.1)

  critical_is : (t : Task) (ps : List ℕ) → BirthInOrder m.progress.job t ps → (parent disp : ℕ) → parent ≡ parent_slot plan m.constants.number ps
      → disp ≡ critical_disp plan m.constants.number m.progress.job t.critical ps → critical_by tasks disp (keyed (λ (q : TaskRow). q.slot) parent tasks) ≡ name_among m.progress.job.tasks t.critical
  critical_is t [] birth parent disp e d = grind (arith, no_row, rename_0)
  critical_is t (p ∷ above) birth parent disp e d =
      let found = keyed_has (λ (t : Task). t.number) p m.progress.job.tasks birth.parent birth.found in
      let r = row_of birth.parent found.0 in
      let slot : parent ≡ slot_of plan m.constants.number birth.parent.number = e ∙ ap (slot_of plan m.constants.number) (sym found.1) in
      let at : disp ≡ (spot_in (slot_of plan m.constants.number p) (base_spot m.constants.number) birth.parent.frames t.critical).disp =
      d ∙ ap (λ (o : Option Task). (spot_in (slot_of plan m.constants.number p) (base_spot m.constants.number) (frames_of_task o) t.critical).disp) birth.found in
      ap (λ i. critical_by tasks disp (keyed (λ (q : TaskRow). q.slot) i tasks)) slot ∙ ap (critical_by tasks disp) r.found
      ∙ ap (λ i. named i disp) r.tells.number ∙ ap (named birth.parent.number) at
      ∙ critical_name (slot_of plan m.constants.number p) birth.parent.number t.critical (base_spot m.constants.number) birth.parent.frames (named_frames (IsSegment m.constants) m.constants m.progress.job birth.parent ord.tasks found.0) birth.is_critical

  -- ---- where a task waits

  -- the name of a place, by its address
  abbrev by_address : StackPlace → ℕ
  by_address p = frame_seen tasks m.constants.number (place_seen cpu.regs row m.constants.number (address_of plan p))

  in_slot : (n d : ℕ) → n < 120 → frame_seen tasks m.constants.number (record { stack = n; disp = d }) ≡ named (number_seen tasks n) d
  in_slot n d low = ap (λ (b : Bool). if b then named (number_seen tasks n) d else (if n == 127 + m.constants.number then 1 else 0)) (lt-ltb n 120 low)

  slot_low : (u : Task) → Has m.progress.job.tasks u → slot_of plan m.constants.number u.number < 120
  slot_low u there = grind (arith, slot_below)

  slot_address : (u : Task) → Has m.progress.job.tasks u → (d : ℕ) → d < m.constants.stack_size → by_address (record { stack = slot_of plan m.constants.number u.number; disp = d }) ≡ named u.number d
  slot_address u there d small =
      let n = slot_of plan m.constants.number u.number in
      let low = slot_low u there in
      let size = stands.holds.fits.sizes m in_session in
      let rz = stands.holds.memory.slots.regs.size in
      let base = base_is (slot_of plan m.constants.number u.number) in
      let address : address_of plan (record { stack = slot_of plan m.constants.number u.number; disp = d }) ≡ cpu.regs.stacks + slot_of plan m.constants.number u.number * cpu.regs.stack_size + d =
      ap (λ (b : Bool). (if b then plan.stacks + slot_of plan m.constants.number u.number * plan.size else (if nat_lt (slot_of plan m.constants.number u.number) 136 then plan.dictionary (slot_of plan m.constants.number u.number - 127) else 0)) + d) (lt-ltb (slot_of plan m.constants.number u.number) 120 low)
      ∙ ap (λ b. b + d) (sym base) in
      ap (λ a. frame_seen tasks m.constants.number (place_seen cpu.regs row m.constants.number a)) address
      ∙ ap (frame_seen tasks m.constants.number) (place_in cpu.regs row m.constants.number (slot_of plan m.constants.number u.number) d (omega (arith, small, size, rz)))
      ∙ in_slot (slot_of plan m.constants.number u.number) d low ∙ ap (λ i. named i d) (slot_shows x cpu plan s m tasks jobs row c ordered stands tables in_session shows u there)

  few_jobs : m.constants.number ≤ 8
  few_jobs = small_number x cpu plan s m tasks jobs row c ordered stands tables in_session shows

  dictionary_address : by_address (record { stack = 127 + m.constants.number; disp = 0 }) ≡ 1
  dictionary_address = grind (arith, dictionary_below, le-ltb, lt-ltb, few_jobs)

  mcp_address : by_address (record { stack = 136; disp = 0 }) ≡ 0
  mcp_address = grind (arith, few_jobs)

  spots_named : (t : Task) → Has m.progress.job.tasks t → (identity : ℕ) → NamesEntered (reach_of m.progress.job t) identity
      → PlaceIsRead by_address (name_among m.progress.job.tasks) (spots plan m.constants.number m.progress.job t) identity
  spots_named t there identity h =
      let o = own t there in
      let size = ord.unchanging.stack_high in
      let few = few_segments x cpu plan s m t tasks jobs c (array_homed cpu.regs tasks row) (array_among m.progress.job.tasks) ord few_jobs in_session stands tables arrays in
      spots_read plan m.constants.number m.constants m.progress.job (slot_of plan m.constants.number t.number) t.number (outer_spots plan m.constants.number m.progress.job t.critical t.parents) (outer_of m.progress.job t)
      by_address (array_homed cpu.regs tasks row) (name_among m.progress.job.tasks) (array_among m.progress.job.tasks) few arrays
      (let low = slot_low t there in omega (arith, low)) m.constants.stack_size (omega (arith, size)) (slot_address t there)
      (outer_read plan m.constants.number m.constants m.progress.job by_address (array_homed cpu.regs tasks row) (array_among m.progress.job.tasks) few arrays few_jobs ord.tasks size slot_low dictionary_address mcp_address slot_address t.parents t o.birth)
      t.frames (named_frames (IsSegment m.constants) m.constants m.progress.job t ord.tasks there) o.not_higher identity h where
        arrays : (a : Array) → Has m.progress.job.arrays a → array_homed cpu.regs tasks row (plan.home m.constants.number a.identity) ≡ array_among m.progress.job.tasks a.identity
        arrays = arrays_read x cpu plan s m tasks jobs row c ordered stands tables in_session shows

  condition_is : (t : Task) → Has m.progress.job.tasks t → (w : Condition) → ConditionInOrder (reach_of m.progress.job t) w
      → condition_in (λ mark. frame_seen tasks m.constants.number (place_seen cpu.regs row m.constants.number mark)) (rows.shown plan m.constants.number m.progress.job t w) ≡ condition_by (name_among m.progress.job.tasks) w
  condition_is t there Ready o = refl
  condition_is t there (Awaits n) o = refl
  condition_is t there (WaitsAt frame offset) o = ap (λ n. WaitsAt n offset) (spots_named t there frame o.0).is

  -- ---- the task

  pub many_words : (fs : List Frame) → length fs ≤ height fs
  many_words [] = omega arith
  many_words (f ∷ below) = let rest = many_words below in let some = head_some f.standing in omega (arith, rest, some)

  pub task_is : (t : Task) (r : TaskRow) → Has m.progress.job.tasks t → TaskShows plan m t r → task_in k row m.constants.number r ≡ task_by (name_among m.progress.job.tasks) (array_among m.progress.job.tasks) t
  task_is t r there sh =
      let o = own t there in
      let top = top_is t r there sh in
      let high = o.not_higher in
      let size = stands.holds.fits.sizes m in_session in
      let rz = stands.holds.memory.slots.regs.size in
      let many = many_words t.frames in
      let frames = frames_are x cpu plan s m tasks jobs row c ordered stands tables in_session shows t there cpu.regs.stack_size (omega (arith, high, size, rz, many)) in
      let base = base_is (slot_of plan m.constants.number t.number) in
      let stack = stack_of_task plan m.constants.number m.progress.job (slot_of plan m.constants.number t.number) t in
      let f : (top_in k r).f ≡ cpu.regs.stacks + slot_of plan m.constants.number t.number * cpu.regs.stack_size + mark_place stack = top.f_is ∙ ap (λ b. b + mark_place stack) (sym base) in
      let s_ : (top_in k r).s ≡ cpu.regs.stacks + slot_of plan m.constants.number t.number * cpu.regs.stack_size + stack_words stack = top.s_is ∙ ap (λ b. b + stack_words stack) (sym base) in
      let segment = top.segment in
      let less : (top_in k r).segment - 1 ≡ t.segment = omega (arith, segment) in
      same_task (task_by (name_among m.progress.job.tasks) (array_among m.progress.job.tasks) t) r.number (parents_in tasks r.parent) (critical_by tasks r.critical (keyed (λ (p : TaskRow). p.slot) r.parent tasks))
      (frames_of r.number (frame_seen tasks m.constants.number) (array_homed cpu.regs tasks row) (stack_of_row k r)) ((top_in k r).segment - 1) (top_in k r).place
      (condition_in (λ mark. frame_seen tasks m.constants.number (place_seen cpu.regs row m.constants.number mark)) r.state)
      sh.number
      (parents_are t.parents t o.birth 15 (few_parents t there) r.parent sh.parent)
      (critical_is t t.parents o.birth r.parent r.critical sh.parent sh.critical)
      (ap (λ n. frames_of n (frame_seen tasks m.constants.number) (array_homed cpu.regs tasks row) (stack_of_row k r)) sh.number
      ∙ ap (λ a. frames_of t.number (frame_seen tasks m.constants.number) (array_homed cpu.regs tasks row) (stack_seen cpu.core cpu.regs.stack_size a (top_in k r).s)) f
      ∙ ap (λ a. frames_of t.number (frame_seen tasks m.constants.number) (array_homed cpu.regs tasks row) (stack_seen cpu.core cpu.regs.stack_size (cpu.regs.stacks + slot_of plan m.constants.number t.number * cpu.regs.stack_size + mark_place stack) a)) s_
      ∙ frames)
      less top.place
      (ap (condition_in (λ mark. frame_seen tasks m.constants.number (place_seen cpu.regs row m.constants.number mark))) sh.state ∙ condition_is t there t.condition o.condition)
