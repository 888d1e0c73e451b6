-- The task that is started, by what the running task may name.
use Rattle.std.proofs.Common.{◌≡◌, ◌≢◌, ℕ, ◌+◌, ◌-◌, ◌^◌, ◌<◌, ◌≤◌, List, [], ◌∷◌, ◌++◌, map, length, drop, reverse, Option, Some, None, Ok, Err, refl, sym, ◌∙◌, ap, arith, inl, inr, ⊎_elim, subst, false}
use Rattle.std.specs.List.{slice_get, AllByRecursion}
use Rattle.std.proofs.lemmas.Bool.{cases_lt, eq-eqb, ne_eqb}
use Rattle.std.proofs.lemmas.Option.{same_Some}
use Rattle.std.proofs.lemmas.List.{take-append-drop, reverse-reverse, length-take-le}
use Rattle.b67_word.specs.Tagged.{Tagged}
use Rattle.b67_word.specs.declared.couples.Place.{Place}
use Rattle.b67_word.specs.declared.faults.Fault.{Fault}
use Rattle.b67_ctl.specs.Layout.{IsPcw, pcw_word}
use Rattle.b67_ctl.specs.declared.registers.Regs.{Regs}
use Rattle.b67_lemmas.specs.Lists.{Has, Falls}
use Rattle.b67_lemmas.proofs.Members.{all_in, falls_low, has_append_left, has_map, keyed_has}
use Rattle.b67_model.specs.Common.{Answer, cell, is_original, number_of, Session, Word, Proc, Standing, Frame, Task, Job, SessionJob, top, below_top, height, Starts, Known, known_of, known_numbers, from_frame, frames_of_task, critical_of, outer_of, IsEntered, IsSegment, NamesEntered, WordInOrder, FramesInOrder, StackInOrder, ReturnsInOrder, BirthInOrder, ParentInOrder, TaskInOrder, TasksInOrder}
use Rattle.b67_model.specs.Keyed.{keyed}
use Rattle.b67_model.specs.Words as Words
use Rattle.b67_model.specs.State as State
use Rattle.b67_layout.specs.Common.{IsInOrderButCounts, JobInOrderButCounts, Slotted, Placement, slot_of, spot_in, outer_spots, base_spot, spots, TaskRow, IsReady, critical_disp, TaskShows, IsRunning, RepresentsSession, frame_address, here}
use Rattle.b67_law.proofs.Numbered.{keyed_member}
use Rattle.b67_stack.specs.declared.Cpu.{Cpu}
use Rattle.b67_stack.specs.Stacks.{StackPlace}
use Rattle.b67_stack.specs.Represents.{Storage}
use Rattle.b67_layout.proofs.Fresh.{running_in_order}
use Rattle.b67_layout.proofs.Rows.{task_row}
use Rattle.b67_refer.specs.RunningContext.{RunningContext, live_of}
use Rattle.b67_refer.specs.Cells.{reach, frame_at_core, CellMeets, IsCellAt}
use Rattle.b67_refer.specs.Ends.{IsProcAt}
use Rattle.b67_refer.proofs.Marks.{stack_known}
use Rattle.b67_refer.proofs.Procs.{segments_few}
use Rattle.b67_refer.proofs.Rule.{inside, misses, no_mark_under, lands}
use Rattle.b67_refer.proofs.Scenes.{member_in_order}
use Rattle.b67_refer.proofs.Seats.{seat}
use Rattle.b67_refer.proofs.Unders.{seat_low}
use Rattle.b67_task.specs.Born.{with_task_at}
use Rattle.b67_task.specs.Joining.{Sees, Joins, Calls, MayBuild}
use Rattle.b67_task.specs.Starts.{IsProcCell, arguments, child, with_child}
use Rattle.b67_task.proofs.ChildCopies.{seen_below}
use Rattle.b67_task.proofs.OneMore.{slot_of-other, slot_of-new, keyed_old}

err_ok : (x : Fault) (w : Word) → ◌≡◌ {A = Answer Word} (Err x) (Ok w) → ⊥
err_ok x w e = cc

-- a cell of an entered frame that is found lies at its offset in core
pub found_cell : (core : List Tagged) (r : Regs) (a : RunningContext core r) (q : Place) (f offset : ℕ) (w : Word) → NamesEntered (reach a) f → 1 < f → cell (here a.member a.task q) f offset ≡ Ok w → IsCellAt a q (frame_at_core a f + offset) f offset w
found_cell core r a q f offset w n own found =
    let b = seat core r (live_of a) f n.standing n.among own in
    let i = inside core r (live_of a) q f n.standing b n.entered own offset w found in
    let up : frame_address a.plan a.member a.task f + offset ≤ b.top = elim (cases_lt b.top (frame_address a.plan a.member a.task f + offset)) [
      | inl past ↦ absurd (err_ok _ w (sym (misses core r (live_of a) q f n.standing b n.entered own offset (inr past)) ∙ found))
      | inr low ↦ low
    ] in
    let F : Answer Word → Type 0 = λ y. CellMeets a q f offset (Ok (frame_at_core a f + offset)) y in
    subst F found (lands core r (live_of a) q f n.standing b n.entered own offset i.0 up
    (λ k v low high there tag.
    let at : k ≡ frame_address a.plan a.member a.task f + (k - frame_address a.plan a.member a.task f) = omega (arith, low) in
    no_mark_under core r (live_of a) q f n.standing b n.entered own offset (k - frame_address a.plan a.member a.task f) w v found (omega (arith, low)) (omega (arith, high)) (ap (slice_get core) (sym at) ∙ there) tag))

-- a marked top frame, and the one under it
pub record Two (fs : List Frame) : Type 0 where
  pub call : Frame
  pub under : Frame
  pub below : List Frame
  pub is : fs ≡ call ∷ under ∷ below
  pub marked : call.standing ≡ State.Marked

two : (P : Starts) (fs : List Frame) → fs ≢ [] → StackInOrder P fs → (top fs).standing ≡ State.Marked → Two fs
two P [] some r e = absurd (some refl)
two P (f ∷ []) some r e = (let none : ReturnsInOrder P State.Marked [] = subst (λ (s : Standing). ReturnsInOrder P s []) e r.0 in absurd (none refl))
two P (f ∷ g ∷ below) some r e = record { call = f; under = g; below = below; is = refl; marked = e }

-- the parents of a live task live
parents_live : (P : Starts) (constants : State.JobConstants) (job : Job) → TasksInOrder P constants job → (t : Task) → Has job.tasks t → (parents : List ℕ) → t.parents ≡ parents → (n : ℕ) → Has parents n → (u : Task) × Has job.tasks u × (u.number ≡ n)
parents_live P constants job g t inside [] line n h = absurd h
parents_live P constants job g t inside (p ∷ more) line n h =
    let birth : ParentInOrder job t p more = subst (BirthInOrder job t) line (all_in (TaskInOrder P constants job) job.tasks t g.tasks inside).birth in
    let found = keyed_has (λ (u : Task). u.number) p job.tasks birth.parent birth.found in
    elim h [
      | inl e ↦ (birth.parent, found.0, found.1 ∙ e)
      | inr k ↦ parents_live P constants job g birth.parent found.0 more birth.line n k
    ]

-- the frame under a call's mark is found from itself down
second_spot : (k : ℕ) (outer : ℕ → StackPlace) (f g : Frame) (below : List Frame) → f.identity ≢ g.identity → (spot_in k outer (f ∷ g ∷ below) g.identity).disp ≡ height below
second_spot k outer f g below apart = rw (ne_eqb f.identity g.identity apart, eq-eqb g.identity g.identity refl) refl

module _ (x : Storage) (cpu : Cpu) (plan : Placement) (s : Session) (m : SessionJob) (t : Task) (o : IsInOrderButCounts s) (h : RepresentsSession x cpu plan s) (runs : IsRunning plan s.jobs m t) where
  pub has_m : Has s.jobs m
  has_m = (keyed_has number_of m.constants.number s.jobs m runs.member).0

  pub has_t : Has m.progress.job.tasks t
  has_t = (keyed_has (λ (u : Task). u.number) t.number m.progress.job.tasks t runs.task).0

  abbrev pub context : RunningContext cpu.core cpu.regs
  context = record { left = []; storage = x; marks = cpu.critical; plan = plan; session = s; member = m; task = t; ordered = member_in_order s m o has_m; holds = h.holds; running = runs }

  order : JobInOrderButCounts (IsSegment m.constants) m.constants m.progress
  order = (running_in_order plan s m t o runs).0

  mine : TaskInOrder (IsSegment m.constants) m.constants m.progress.job t
  mine = (running_in_order plan s m t o runs).1

  newest : (u : Task) → Has m.progress.job.tasks u → u.number < m.progress.job.next_task
  newest u i = falls_low m.progress.job.next_task (map (λ (v : Task). v.number) m.progress.job.tasks) u.number order.tasks.numbers (has_map (λ (v : Task). v.number) m.progress.job.tasks u i)

  one_member : (y : SessionJob) → Has s.jobs y → y.constants.number ≡ m.constants.number → y ≡ m
  one_member y i e = same_Some y m (sym (ap (λ (n : ℕ). keyed number_of n s.jobs) (sym e) ∙ keyed_member 1 s.jobs y o.numbered i) ∙ runs.member)

  pub on_running : (r : Slotted) × Has plan.rows r × (r.slot ≡ plan.running)
  on_running = let w = task_row plan s.jobs m t h.holds.fits.rows has_m has_t in (w.row, w.among, sym w.slot ∙ sym runs.slot)

  module _ (at count f segment level : ℕ) (place : Place) (proc : IsProcCell plan m t at f segment level place) where
    abbrev new : Task
    new = child m t count f segment level place

    pub procedure : IsProcAt context t.place at f segment level place
    procedure = record {
      own = proc.own;
      offset = proc.offset;
      cell = subst (λ (n : ℕ). IsCellAt context t.place n f proc.offset (Proc segment level place)) (sym proc.at_is) (found_cell cpu.core cpu.regs context t.place f proc.offset (Proc segment level place) proc.names proc.own proc.found);
    }

    pub record IsPcwAt : Type 0 where
      pub fits : IsPcw (record { place = place; level = level; segment = segment + 1 })
      pub there : slice_get cpu.core at ≡ Some (pcw_word (record { place = place; level = level; segment = segment + 1 }))

    pub pcw : IsPcwAt
    pcw =
        let c = procedure.cell in
        let few = segments_few cpu.core cpu.regs (live_of context) t.place in
        record {
          fits = record { place = record { syllable = c.stands.1.1.syllable_fits; word = c.stands.1.1.word_fits }; level = omega (arith, c.stands.1.0); segment = omega (arith, c.stands.1.1.within, few) };
          there = c.there ∙ ap (λ (w : Tagged). Some w) c.stands.0.0;
        }

    pub joins : (k peak : ℕ) → ((r : Slotted) → Has plan.rows r → r.slot ≢ k) → k < peak → plan.peak ≤ peak → Joins plan s.jobs m (with_child m.progress.job new) new k peak
    joins k peak free inside wider = record {
      member = runs.member;
      tasks = refl;
      arrays = refl;
      newest = λ u i e. (let same : u.number ≡ m.progress.job.next_task = e in omega (arith, newest u i, same));
      above = λ u i v l e. (let (w, iw, same) = parents_live (IsSegment m.constants) m.constants m.progress.job order.tasks u i u.parents refl v l in let next : v ≡ m.progress.job.next_task = e in omega (arith, newest w iw, same, next));
      rows = h.holds.fits.rows;
      row = λ r i ej et. (let (y, u, in_y, ey, in_u, eu) = h.holds.fits.rows.live r i in
          let same : y ≡ m = one_member y in_y (ey ∙ ej) in
          let here : Has m.progress.job.tasks u = subst (λ (z : SessionJob). Has z.progress.job.tasks u) same in_u in
          let next : r.task ≡ m.progress.job.next_task = et in
          omega (arith, newest u here, eu, next));
      free = free;
      away = λ e. (let (r, i, is) = on_running in free r i (is ∙ sym e));
      inside = inside;
      wider = wider;
    }

    module _ (marked : (top t.frames).standing ≡ State.Marked) where
      pub frames : Two t.frames
      frames = two (IsSegment m.constants) t.frames mine.some mine.returns marked

      falls : Falls m.progress.job.next_frame (known_numbers (map known_of (frames.call ∷ frames.under ∷ frames.below) ++ outer_of m.progress.job t))
      falls = subst (λ (fs : List Frame). Falls m.progress.job.next_frame (known_numbers (map known_of fs ++ outer_of m.progress.job t))) frames.is mine.falls

      pub apart : frames.call.identity ≢ frames.under.identity
      apart e = omega (arith, falls.1.0, e)

      -- who is named is entered, so it is neither the call's frame nor a new one
      named : (id : ℕ) → NamesEntered (map known_of (frames.call ∷ frames.under ∷ frames.below) ++ outer_of m.progress.job t) id → (id ≢ frames.call.identity) × (id ≢ m.progress.job.next_frame)
      named id n = (
        λ e. by n.standing n.among n.entered e,
        λ e. omega (arith, e, falls_low m.progress.job.next_frame (known_numbers (map known_of (frames.call ∷ frames.under ∷ frames.below) ++ outer_of m.progress.job t)) id falls (has_map (λ (k : Known). k.0) (map known_of (frames.call ∷ frames.under ∷ frames.below) ++ outer_of m.progress.job t) (id, n.standing) n.among)),
      ) where
        by : (st : Standing) → Has (map known_of (frames.call ∷ frames.under ∷ frames.below) ++ outer_of m.progress.job t) (id, st) → IsEntered st → id ≢ frames.call.identity
        by st (inl e) entered same = subst IsEntered (sym (ap (λ (k : Known). k.1) e) ∙ frames.marked) entered
        by st (inr i) entered same =
            omega (arith, same, falls_low frames.call.identity (known_numbers (map known_of (frames.under ∷ frames.below) ++ outer_of m.progress.job t)) id falls.1 (has_map (λ (k : Known). k.0) (map known_of (frames.under ∷ frames.below) ++ outer_of m.progress.job t) (id, st) i))

      ordered : FramesInOrder (IsSegment m.constants) m.progress.job.arrays (outer_of m.progress.job t) (frames.call ∷ frames.under ∷ frames.below)
      ordered = subst (FramesInOrder (IsSegment m.constants) m.progress.job.arrays (outer_of m.progress.job t)) frames.is mine.frames

      sees : (w : Word) → WordInOrder (IsSegment m.constants) m.progress.job.arrays (map known_of (frames.call ∷ frames.under ∷ frames.below) ++ outer_of m.progress.job t) frames.call.identity w → Sees (λ (id : ℕ). (id ≢ frames.call.identity) × (id ≢ m.progress.job.next_frame)) w
      sees (Words.Ref frame offset) g = named frame g.0
      sees (Words.Operand bits) g = tt
      sees (Words.Name couple) g = tt
      sees (Words.Row a) g = tt
      sees (Words.Element a index) g = tt
      sees (Words.Original a) g = tt
      sees (Words.Proc segment level place) g = tt
      sees (Words.Intrinsic number) g = tt
      sees (Words.Segment number) g = tt

      abbrev cells : List Word
      cells = reverse (reverse (arguments t count))

      cells_are : cells ≡ arguments t count
      cells_are = reverse-reverse (arguments t count)

      pub split : frames.call.cells ≡ reverse (reverse (arguments t count)) ++ drop count (top t.frames).cells
      split = grind (arith, take-append-drop, cells_are)

      in_call : (w : Word) → Has cells w → Has frames.call.cells w
      in_call w i = subst (λ (ws : List Word). Has ws w) (sym split) (has_append_left cells (drop count (top t.frames).cells) w i)

      pub names : (w : Word) → Has (reverse (reverse (arguments t count))) w → Sees (λ (id : ℕ). (id ≢ frames.call.identity) × (id ≢ m.progress.job.next_frame)) w
      names w i = sees w (all_in (WordInOrder (IsSegment m.constants) m.progress.job.arrays (map known_of (frames.call ∷ frames.under ∷ frames.below) ++ outer_of m.progress.job t) frames.call.identity) frames.call.cells w ordered.0.0 (in_call w i))

      pub cells_plain : AllByRecursion (λ (w : Word). is_original w ≡ false) (arguments t count) → (w : Word) → Has (reverse (reverse (arguments t count))) w → is_original w ≡ false
      cells_plain plain w i = all_in (λ (v : Word). is_original v ≡ false) (arguments t count) w plain (subst (λ (ws : List Word). Has ws w) cells_are i)

      pub cells_count : count ≤ length (top t.frames).cells → length (reverse (reverse (arguments t count))) ≡ count
      cells_count enough = ap (λ (ws : List Word). length ws) cells_are ∙ length-take-le count (top t.frames).cells enough

      -- what the child sees its environment at is what its parent does
      pub environment_at : outer_spots plan m.constants.number m.progress.job (top (below_top t.frames)).identity (t.number ∷ t.parents) f ≡ spots plan m.constants.number m.progress.job t f
      environment_at =
          let O : Option Task → ℕ → StackPlace = λ q c. spot_in (slot_of plan m.constants.number t.number) (outer_spots plan m.constants.number m.progress.job (critical_of q) t.parents) (from_frame c (frames_of_task q)) f in
          let outer : ℕ → StackPlace = outer_spots plan m.constants.number m.progress.job t.critical t.parents in
          ap (λ (q : Option Task). O q (top (below_top t.frames)).identity) runs.task
          ∙ ap (λ (fs : List Frame). spot_in (slot_of plan m.constants.number t.number) outer (from_frame (top (below_top fs)).identity fs) f) frames.is
          ∙ seen_below (slot_of plan m.constants.number t.number) outer frames.call frames.under frames.below f apart (λ e. environment_free (sym e))
          ∙ ap (λ (fs : List Frame). spot_in (slot_of plan m.constants.number t.number) outer fs f) (sym frames.is)
        where
          environment_free : f ≢ frames.call.identity
          environment_free = (named f (record { standing = proc.names.standing; among = subst (λ (fs : List Frame). Has (map known_of fs ++ outer_of m.progress.job t) (f, proc.names.standing)) frames.is proc.names.among; entered = proc.names.entered })).0

      pub environment_fits : ((spots plan m.constants.number m.progress.job t f).stack < 2 ^ 10) × ((spots plan m.constants.number m.progress.job t f).disp < 2 ^ 16) × (level < 2 ^ 5)
      environment_fits =
          let a = live_of context in
          let b = seat cpu.core cpu.regs a f proc.names.standing proc.names.among proc.own in
          let small = h.holds.memory.slots.laid.room in
          let low = seat_low cpu.core cpu.regs a f proc.names proc.own in
          let disp : (spots plan m.constants.number m.progress.job t f).disp ≡ height b.below = ap (λ (z : StackPlace). z.disp) b.spot in
          let few = h.holds.fits.few in
          let job_low = a.ordered.few in (
            ⊎_elim (λ u. omega (arith, u, few)) (λ z. ⊎_elim (λ e. omega (arith, e, job_low)) (λ e. omega (arith, e)) z) (stack_known cpu.core cpu.regs a f proc.names.standing proc.names.among),
            omega (arith, disp, low, small),
            pcw.fits.level,
          )

      module _ (enough : count ≤ length (top t.frames).cells) (plain : AllByRecursion (λ (w : Word). is_original w ≡ false) (arguments t count)) (room : 3 + count ≤ m.constants.stack_size) where
        calls : (c : Calls plan m t (with_child m.progress.job new) new) × (c.spot ≡ spots plan m.constants.number m.progress.job t f) × (c.level ≡ level) × (length c.only.cells ≡ count)
        calls = (
          record {
            call = frames.call;
            under = frames.under;
            below = frames.below;
            frames = frames.is;
            line = refl;
            critical = ap (λ (fs : List Frame). (top (below_top fs)).identity) frames.is;
            only = record { identity = m.progress.job.next_frame; standing = State.Entered level f None; cells = reverse (reverse (arguments t count)) };
            child_frames = refl;
            identity = refl;
            level = level;
            environment = f;
            stands = refl;
            deeper = drop count (top t.frames).cells;
            split = split;
            plain = cells_plain plain;
            names = names;
            room = omega (arith, cells_count enough, room, h.holds.fits.sizes m has_m);
            spot = spots plan m.constants.number m.progress.job t f;
            spot_is = environment_at;
            head_fits = (environment_fits.2, environment_fits.0, environment_fits.1, refl);
          },
          refl,
          refl,
          cells_count enough,
        )

        pub may_build : (k j env_stack env_disp : ℕ) → ((r : Slotted) → Has plan.rows r → r.slot ≢ k) → k < plan.peak → m.constants.number ≡ j → spots plan m.constants.number m.progress.job t f ≡ record { stack = env_stack; disp = env_disp }
            → MayBuild x cpu plan s m t (with_child m.progress.job new) new k j env_stack env_disp level count
        may_build k j env_stack env_disp free inside job_is spot_is = record {
          ordered = o;
          stands = h;
          running = runs;
          joins = joins k plan.peak free inside (omega arith);
          calls = calls.0;
          spot_is = calls.1 ∙ spot_is;
          level_is = calls.2;
          count_is = calls.3;
          job_is = job_is;
        }

      -- the row shows the new task
      pub row_shows : (k peak : ℕ) (j : Joins plan s.jobs m (with_child m.progress.job new) new k peak) (row : TaskRow) → row.job ≡ m.constants.number → row.number ≡ m.progress.job.next_task → row.slot ≡ k → row.parent ≡ plan.running → row.critical ≡ height frames.below
          → row.state ≡ IsReady → row.segment ≡ segment + 1 → row.place ≡ place
          → TaskShows (with_task_at plan m.constants.number new.number k peak) (record m { progress = record m.progress { job = with_child m.progress.job new } }) new row
      row_shows k peak j row job number slot parent critical state segment_is place_is =
          let more : Placement = with_task_at plan m.constants.number new.number k peak in
          let kept : slot_of more m.constants.number t.number ≡ slot_of plan m.constants.number t.number = slot_of-other plan m.constants.number new.number k peak m.constants.number t.number (λ e. j.newest t has_t) in
          let C : Option Task → ℕ = λ q. (spot_in (slot_of more m.constants.number t.number) (base_spot m.constants.number) (frames_of_task q) (top (below_top t.frames)).identity).disp in
          let disp : critical_disp more m.constants.number (with_child m.progress.job new) (top (below_top t.frames)).identity (t.number ∷ t.parents) ≡ height frames.below =
          ap C (keyed_old plan s.jobs m (with_child m.progress.job new) new k peak j t.number (j.newest t has_t) ∙ runs.task)
          ∙ ap (λ (fs : List Frame). (spot_in (slot_of more m.constants.number t.number) (base_spot m.constants.number) fs (top (below_top fs)).identity).disp) frames.is
          ∙ second_spot (slot_of more m.constants.number t.number) (base_spot m.constants.number) frames.call frames.under frames.below apart in
          record {
            job = job;
            number = number;
            slot = slot ∙ sym (slot_of-new plan m.constants.number new.number k peak);
            parent = parent ∙ runs.slot ∙ sym kept;
            critical = critical ∙ sym disp;
            state = state;
            segment = λ ne. segment_is;
            place = λ ne. place_is;
          }
