-- What the entering of a marked activation record makes.
use Rattle.std.proofs.Common.{◌≡◌, ◌≢◌, ℕ, ◌+◌, ◌<◌, ◌≤◌, List, [], ◌∷◌, ◌++◌, map, reverse, Some, None, Err, refl, sym, ◌∙◌, ap, arith, true, false, not, ◌==◌, inl, inr, ⊎_elim, slice_set, subst}
use Rattle.std.proofs.lemmas.Bool.{le-leb, eq-eqb, ne_eqb}
use Rattle.b67_word.specs.Tagged.{Tagged}
use Rattle.b67_word.specs.declared.couples.Place.{Place}
use Rattle.b67_word.specs.declared.faults.Fault.TheVariants.{InvalidOperand}
use Rattle.b67_ctl.specs.declared.registers.Regs.{Regs}
use Rattle.b67_ctl.specs.declared.marks.Mscw.{Mscw}
use Rattle.b67_ctl.specs.declared.marks.Rcw.{Rcw}
use Rattle.b67_ctl.specs.Layout.{IsPlace, IsMscw, mscw_word, IsRcw, rcw_word}
use Rattle.b67_lemmas.specs.Lists.{Has}
use Rattle.b67_lemmas.proofs.Members.{keyed_has}
use Rattle.b67_model.specs.Common.{Word, Frame, Return, Ready, Task, Job, SessionJob, top, below_top, height, frame, level_of_frame, AtProc, enters, back_to, number_of, Session, IsSegment, NamesEntered, TasksInOrder, TaskInOrder, EnvironmentInOrder, CellsInOrder, FramesInOrder, outer_of, reach_of, known_of, is_original_of}
use Rattle.b67_model.specs.State as State
use Rattle.b67_layout.specs.Common.{IsInOrderButCounts, Placement, spot_in, outer_spots, spots, shape, machine_view, stack_of_task, IsMade, here, with_job, IsRunning, ShowsDisplay, SessionHolds, RepresentsSession, RepresentsSessionBut}
use Rattle.b67_stack.specs.declared.Cpu.{Cpu}
use Rattle.b67_stack.specs.Common.{Original, StackPlace, Activation, Entered, HeadFits, IsStack, mark_of, top_mark, return_of, stack_level, top_size, words, PagedObject, CopiesName, Storage, RepresentsRunning}
use Rattle.b67_stack.proofs.Slots.{running_slot, running_fits}
use Rattle.b67_stack.proofs.Tops.{level-small, top_size-high}
use Rattle.b67_stack.proofs.Pushes.{Room, room_of}
use Rattle.b67_layout.proofs.Common.{no_objects_gone, running_in_order, fresh}
use Rattle.b67_refer.specs.RunningContext.{RunningContext}
use Rattle.b67_refer.proofs.Scenes.{scene, member_in_order}
use Rattle.b67_layout.proofs.Heads.{entered_mark_fits}
use Rattle.b67_layout.proofs.Orders.{start, enter, ready_with, top_apart, cells_front, originals_entered, height_entered}
use Rattle.b67_layout.proofs.Rooms.{written_twice}
use Rattle.b67_layout.proofs.Enters as Enters
use Rattle.b67_layout.proofs.Enters.{IsMarkedWith, entered_frames, marked_stack, IsRunning-entered, SessionHolds-entered, RepresentsSession-entered}
use Rattle.b67_entry.proofs.Sites.{Site, site}
use Rattle.b67_entry.proofs.Segments.{few_segments}
use Rattle.b67_law.proofs.Looks.{below_marked, below_some}

top_cells_in_order : (P : (ℕ → ℕ → Place → Type 0)) (arrays : List State.Array) (outer : List (ℕ × State.Standing)) (fs : List Frame) → FramesInOrder P arrays outer fs → CellsInOrder P arrays (map known_of fs ++ outer) (top fs).identity (top fs).cells
top_cells_in_order P arrays outer [] g = (tt, tt)
top_cells_in_order P arrays outer (f ∷ below) g = g.0

apart_spot : (k : ℕ) (outer : ℕ → StackPlace) (fs : List Frame) (n : ℕ) → fs ≢ [] → (top fs).identity ≢ n → spot_in k outer fs n ≡ spot_in k outer (below_top fs) n
apart_spot k h fs n some ne = grind arith

module _ (x : Storage) (old : Cpu) (plan : Placement) (s : Session) (m : SessionJob) (t : Task) (q : Place) (o : IsInOrderButCounts s) (h : RepresentsSession x old plan s) (runs : IsRunning plan s.jobs m t)
    (f segment level : ℕ) (place : Place) (names : NamesEntered (reach_of m.progress.job t) f) (own : 1 < f) (high : level ≤ 31) (starts : IsSegment m.constants segment level place) (good : IsPlace q)
    (first : Word) (arguments : List Word) (w : IsMarkedWith t.frames first (reverse arguments)) (plain : (n : ℕ) → is_original_of n first ≡ false) where
  at_site : Site old.core old.regs (scene [] x old.core old.regs old.critical plan s m t o h.holds runs) q f
  at_site = site old.core old.regs (scene [] x old.core old.regs old.critical plan s m t o h.holds runs) q f names own

  g : TaskInOrder (IsSegment m.constants) m.constants m.progress.job t
  g = (running_in_order plan s m t o runs).1

  abbrev back : Return
  back = back_to (here m t q) false q

  abbrev spot : StackPlace
  spot = spots plan m.constants.number m.progress.job t f

  abbrev outer : ℕ → StackPlace
  outer = outer_spots plan m.constants.number m.progress.job t.critical t.parents

  abbrev under : List Activation
  under = Enters.under x old.core old.regs old.critical plan s m t h.holds runs first (reverse arguments) w level f back spot

  abbrev stack : List Activation
  stack = Enters.stack x old.core old.regs old.critical plan s m t h.holds runs first (reverse arguments) w level f back spot

  -- the mark and the return word, by the registers and the mark that stood there
  abbrev pub mark : Mscw
  mark = record { far = not ((spots plan m.constants.number m.progress.job t f).stack == old.regs.slot); entered = true; env_stack = (spots plan m.constants.number m.progress.job t f).stack; env_disp = (spots plan m.constants.number m.progress.job t f).disp; value = false; level = level; back = (top_mark old.regs.slot (stack_of_task plan m.constants.number m.progress.job plan.running t)).back }

  abbrev pub rcw : Rcw
  rcw = record { place = q; level = old.regs.level; segment = old.regs.segment }

  top_is : RepresentsRunning old.regs (machine_view plan s.jobs) plan.running stack
  top_is = running_slot x old.core old.regs (machine_view plan s.jobs) plan.running stack h.holds.memory (Enters.on_stack x old.core old.regs old.critical plan s m t h.holds runs first (reverse arguments) w level f back spot)

  fits : IsStack plan.size stack × CopiesName (machine_view plan s.jobs).objects (words plan.running stack)
  fits = running_fits x old.core old.regs (machine_view plan s.jobs) plan.running stack h.holds.memory (Enters.on_stack x old.core old.regs old.critical plan s m t h.holds runs first (reverse arguments) w level f back spot)

  room : Room x old.core old.regs (machine_view plan s.jobs) plan.running stack
  room = room_of x old.core old.regs (machine_view plan s.jobs) plan.running stack h.holds.memory (Enters.on_stack x old.core old.regs old.critical plan s m t h.holds runs first (reverse arguments) w level f back spot)

  pub refused : (level_of_frame (frame (here m t q) f) + 1 ≢ level) → enters (here m t q) arguments (AtProc f segment level place) ≡ Err InvalidOperand
  refused ne = rw (ne_eqb (level_of_frame (frame (here m t q) f) + 1) level ne) refl

  fit : HeadFits (Entered level spot (Some back)) under
  fit =
      let few = few_segments m.constants (running_in_order plan s m t o runs).0.unchanging in
      (omega (arith, high), at_site.stack_fits, at_site.disp_fits, (good, omega (arith, g.place.within, few)))

  back_is : (top_mark old.regs.slot (stack_of_task plan m.constants.number m.progress.job plan.running t)).back ≡ top_size under
  back_is = ap (λ (st : List Activation). (top_mark old.regs.slot st).back) (marked_stack plan m.constants.number m.progress.job plan.running outer t.frames first (reverse arguments) w)

  mark_is : mark ≡ mark_of plan.running (Entered level spot (Some back)) under
  mark_is = grind arith

  rcw_is : rcw ≡ return_of (Some back) under
  rcw_is =
      ap (λ (n : ℕ). record rcw { level = n }) top_is.level
      ∙ ap (λ (n : ℕ). record rcw { level = stack_level under; segment = n }) (h.holds.running m t runs).segment

  pub mark_good : IsMscw mark
  mark_good =
      let small = h.holds.memory.slots.laid.room in
      subst IsMscw (sym mark_is) (entered_mark_fits plan.running level spot (Some back) under fit (omega (arith, top_size-high under, fits.0.fits, small)))

  pub rcw_good : IsRcw rcw
  rcw_good = subst IsRcw (sym rcw_is) (record { place = good; level = level-small under fits.0.heads.1; segment = fit.3.1 })

  -- core and registers afterwards
  abbrev pub core_after : List Tagged
  core_after = slice_set (slice_set old.core old.regs.f (mscw_word mark)) (old.regs.f + 1) (rcw_word rcw)

  abbrev pub regs_after : Regs
  regs_after = record old.regs { level = level; segment = segment + 1; place = place }

  core_is : Enters.core_after x old.core old.regs old.critical plan s m t h.holds runs first (reverse arguments) w level f back spot m.progress.job.next_frame (fresh plan s m t o runs) segment place ≡ core_after
  core_is = grind (arith, rcw_is)

  -- what lies at F and above
  pub two_words : (old.regs.bosr < old.regs.f) × (old.regs.f + 1 ≤ old.regs.losr)
  two_words = (room.mark, omega (arith, room.last, Enters.two_cells x old.core old.regs old.critical plan s m t h.holds runs first (reverse arguments) w level f back spot))

  environment_seen : Has (map known_of (below_top t.frames) ++ outer_of m.progress.job t) (f, at_site.standing)
  environment_seen = below_marked t.frames (outer_of m.progress.job t) f at_site.standing w.marked at_site.entered at_site.among

  spot_at : spot_in plan.running outer (below_top t.frames) f ≡ spot
  spot_at =
      sym (apart_spot plan.running outer t.frames f w.some (top_apart m.progress.job.next_frame t.frames (outer_of m.progress.job t) f at_site.standing w.some g.falls environment_seen))
      ∙ ap (λ (k : ℕ). spot_in k outer t.frames f) runs.slot

  module _ (test : level_of_frame (frame (here m t q) f) + 1 ≡ level) (no_home : (home : ℕ) → shape plan m.constants.number m.progress.job (spot_in plan.running outer t.frames) first ≢ Original home) where
    environment : EnvironmentInOrder (map known_of (below_top t.frames) ++ outer_of m.progress.job t) level f
    environment = record {
      low = omega (arith, at_site.low, at_site.level, test);
      high = high;
      standing = at_site.standing;
      among = environment_seen;
      entered = at_site.entered;
      level_below = omega (arith, at_site.level, test);
    }

    low : height (entered_frames t.frames level f back (reverse arguments)) ≤ m.constants.stack_size
    low = omega (arith, height_entered t.frames level f back (reverse arguments) first w.some w.marked w.cells, g.not_higher)

    -- the task if it were ready, and the job with it
    abbrev pub task_ready : Task
    task_ready = Enters.task_after x old.core old.regs old.critical plan s m t h.holds runs first (reverse arguments) w level f back spot m.progress.job.next_frame (fresh plan s m t o runs) segment place Ready

    abbrev pub job_ready : Job
    job_ready = Enters.job_after x old.core old.regs old.critical plan s m t h.holds runs first (reverse arguments) w level f back spot m.progress.job.next_frame (fresh plan s m t o runs) segment place Ready

    pub tasks_ready : TasksInOrder (IsSegment m.constants) m.constants job_ready
    tasks_ready =
        let P = IsSegment m.constants in
        let g_m = (running_in_order plan s m t o runs).0.tasks in
        let C : List Word → Type 0 = λ cs. CellsInOrder P m.progress.job.arrays (map known_of t.frames ++ outer_of m.progress.job t) (top t.frames).identity cs in
        let cells = cells_front P m.progress.job.arrays (map known_of t.frames ++ outer_of m.progress.job t) (top t.frames).identity (reverse arguments) first (subst C w.cells (top_cells_in_order P m.progress.job.arrays (outer_of m.progress.job t) t.frames g.frames)) in
        let c = enter P m.constants m.progress.job t g_m runs.task t.frames m.progress.job.next_frame level f back (reverse arguments) (start P m.constants m.progress.job t g_m runs.task) cells w.marked environment
        (below_some P t.frames g.returns w.some w.marked, record { from_one = g.place.from_one; within = g.place.within; word_fits = good.word; syllable_fits = good.syllable }) in
        ready_with P m.constants m.progress.job t g_m runs.task (entered_frames t.frames level f back (reverse arguments)) m.progress.job.next_frame segment place c low starts
        (λ n. originals_entered n t.frames (State.Entered level f (Some back)) (reverse arguments) first w.some w.cells (plain n))

    pub holds_ready : SessionHolds x core_after regs_after old.critical plan (with_job s m job_ready)
    holds_ready =
        let P : List Tagged → Type 0 = λ c. SessionHolds x c regs_after old.critical plan (with_job s m job_ready) in
        subst P core_is (SessionHolds-entered x old.core old.regs old.critical plan s m t h.holds runs first (reverse arguments) w level f back spot m.progress.job.next_frame (fresh plan s m t o runs) segment place Ready no_home spot_at fit)

    abbrev pub scene_after : RunningContext core_after regs_after
    scene_after = record {
      left = [];
      storage = x;
      marks = old.critical;
      plan = plan;
      session = with_job s m job_ready;
      member = record m { progress = record m.progress { job = job_ready } };
      task = task_ready;
      ordered = (let was = member_in_order s m o (keyed_has number_of m.constants.number s.jobs m runs.member).0 in record { from_one = was.from_one; few = was.few; constants = was.constants; tasks = tasks_ready });
      holds = holds_ready;
      running = IsRunning-entered x old.core old.regs old.critical plan s m t h.holds runs first (reverse arguments) w level f back spot m.progress.job.next_frame (fresh plan s m t o runs) segment place Ready;
    }

    pub done : (display : List ℕ) → ShowsDisplay display plan (record m { progress = record m.progress { job = job_ready } }) task_ready
        → IsMade x plan s m old (record { core = core_after; regs = regs_after; display = display; critical = old.critical }) (enters (here m t q) arguments (AtProc f segment level place))
    done display shown =
        let new : Cpu = record { core = core_after; regs = regs_after; display = display; critical = old.critical } in
        let job' : Job = Enters.job_after x old.core old.regs old.critical plan s m t h.holds runs first (reverse arguments) w level f back spot m.progress.job.next_frame (fresh plan s m t o runs) segment place t.condition in
        let made : RepresentsSession x new plan (with_job s m job') = RepresentsSession-entered x old.core old.regs old.critical plan s m t h.holds runs first (reverse arguments) w level f back spot m.progress.job.next_frame (fresh plan s m t o runs) segment place new (sym core_is) refl refl no_home spot_at fit shown in
        let L : List PagedObject → Type 0 = λ left. RepresentsSessionBut left x new plan (with_job s m job') in
        record {
          job = job';
          touched = None;
          is = rw (eq-eqb (level_of_frame (frame (here m t q) f) + 1) level test) (rw (le-leb (height (entered_frames t.frames level f back (reverse arguments))) m.constants.stack_size low) refl);
          present = tt;
          stands = subst L (sym (no_objects_gone plan m job' refl)) made;
          changed = λ i. ⊎_elim (λ e. inl e) (λ e. inr (inl e)) (written_twice old.core old.regs old.regs.f (old.regs.f + 1) (mscw_word mark) (rcw_word rcw) (two_words.0, omega (arith, two_words)) (omega (arith, two_words), two_words.1) i);
        }
