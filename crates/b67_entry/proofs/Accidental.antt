-- What an accidental entry makes.
use Rattle.std.proofs.Common.{◌≡◌, ◌≢◌, ℕ, ◌+◌, ◌-◌, ◌<◌, ◌≤◌, List, ◌∷◌, ◌++◌, map, Some, Err, refl, sym, ◌∙◌, ap, arith, Bool, true, not, ◌==◌, slice_set, subst}
use Rattle.std.proofs.lemmas.Bool.{le-leb, lt-leb, eq-eqb, ne_eqb}
use Rattle.b67_word.specs.Tagged.{Tagged}
use Rattle.b67_word.specs.declared.couples.Place.{Place}
use Rattle.b67_word.specs.declared.faults.Fault.TheVariants.{InvalidOperand, StackOverflow}
use Rattle.b67_ctl.specs.declared.registers.Regs.{Regs}
use Rattle.b67_ctl.specs.declared.marks.Mscw.{Mscw}
use Rattle.b67_ctl.specs.declared.marks.Rcw.{Rcw}
use Rattle.b67_ctl.specs.Layout.{IsPlace, IsMscw, mscw_word, IsRcw, rcw_word}
use Rattle.b67_model.specs.State as State
use Rattle.b67_model.specs.Common.{Frame, Return, Ready, Task, Job, top, height, with_top_cells, frame, level_of_frame, AtProc, cells_of, accident, back_to, IsSegment, NamesEntered, TasksInOrder, TaskInOrder, EnvironmentInOrder, outer_of, reach_of, known_of}
use Rattle.b67_stack.specs.declared.Cpu.{Cpu}
use Rattle.b67_stack.specs.Common.{StackPlace, Activation, Entered, HeadFits, IsStack, mark_of, return_of, stack_level, words, CopiesName, RepresentsRunning}
use Rattle.b67_stack.proofs.Slots.{running_slot, running_fits}
use Rattle.b67_stack.proofs.Tops.{level-small, top_size-high}
use Rattle.b67_layout.specs.Common.{spot_in, outer_spots, spots, machine_view, stack_of_task, here, with_job, ShowsDisplay, with_objects, SessionHoldsBut}
use Rattle.b67_layout.proofs.Fresh.{next_is_free}
use Rattle.b67_refer.specs.RunningContext.{RunningContext}
use Rattle.b67_layout.proofs.Heads.{entered_mark_fits}
use Rattle.b67_layout.proofs.Orders.{start, push, ready_with}
use Rattle.b67_layout.proofs.Rooms.{height_room}
use Rattle.b67_layout.proofs.Accidents as Accidents
use Rattle.b67_layout.proofs.Accidents.{new_frame, IsRunning-accident, SessionHolds-accident, RepresentsSession-accident}
use Rattle.b67_stack.proofs.ClearHeads.{IsClear}
use Rattle.b67_layout.proofs.Steps.{IsFree}
use Rattle.b67_core.proofs.Writes.{slice_get-set_other}
use Rattle.b67_lemmas.specs.Lists.{Has}
use Rattle.b67_lemmas.proofs.Members.{all_in, keyed_has}
use Rattle.b67_entry.specs.Procedures.{RecordEntered}
use Rattle.b67_entry.proofs.Sites.{Site, site}
use Rattle.b67_entry.proofs.Segments.{few_segments}

same_cells : (fs : List Frame) → with_top_cells fs (top fs).cells ≡ fs
same_cells h = grind arith

module _ (core : List Tagged) (r : Regs) (a : RunningContext core r) (q : Place)
    (f segment level : ℕ) (place : Place) (names : NamesEntered (reach_of a.member.progress.job a.task) f) (own : 1 < f) (high : level ≤ 31) (starts : IsSegment a.member.constants segment level place) (value : Bool) (b : Place) (good : IsPlace b) where
  has_t : Has a.member.progress.job.tasks a.task
  has_t = (keyed_has (λ (u : Task). u.number) a.task.number a.member.progress.job.tasks a.task a.running.task).0

  pub free : IsFree a.member.progress.job a.member.progress.job.next_frame
  free = next_is_free (IsSegment a.member.constants) a.member.constants a.member.progress.job a.ordered.tasks a.task has_t

  at_site : Site core r a q f
  at_site = site core r a q f names own

  g : TaskInOrder (IsSegment a.member.constants) a.member.constants a.member.progress.job a.task
  g = all_in (TaskInOrder (IsSegment a.member.constants) a.member.constants a.member.progress.job) a.member.progress.job.tasks a.task a.ordered.tasks.tasks has_t

  abbrev back : Return
  back = back_to (here a.member a.task q) value b

  abbrev spot : StackPlace
  spot = spots a.plan a.member.constants.number a.member.progress.job a.task f

  abbrev stack : List Activation
  stack = stack_of_task a.plan a.member.constants.number a.member.progress.job a.plan.running a.task

  -- the mark and the return word, by the registers
  abbrev pub mark : Mscw
  mark = record { far = not ((spots a.plan a.member.constants.number a.member.progress.job a.task f).stack == r.slot); entered = true; env_stack = (spots a.plan a.member.constants.number a.member.progress.job a.task f).stack; env_disp = (spots a.plan a.member.constants.number a.member.progress.job a.task f).disp; value = value; level = level; back = r.s + 1 - r.f }

  abbrev pub rcw : Rcw
  rcw = record { place = b; level = r.level; segment = r.segment }

  top_is : RepresentsRunning r (with_objects a.left (machine_view a.plan a.session.jobs)) a.plan.running stack
  top_is = running_slot a.storage core r (with_objects a.left (machine_view a.plan a.session.jobs)) a.plan.running stack a.holds.memory (Accidents.on_stack a.left a.storage core r a.marks a.plan a.session a.member a.task a.holds a.running level f back spot)

  fits : IsStack a.plan.size stack × CopiesName (with_objects a.left (machine_view a.plan a.session.jobs)).objects (words a.plan.running stack)
  fits = running_fits a.storage core r (with_objects a.left (machine_view a.plan a.session.jobs)) a.plan.running stack a.holds.memory (Accidents.on_stack a.left a.storage core r a.marks a.plan a.session a.member a.task a.holds a.running level f back spot)

  -- the test of the level, in terms of the code
  pub refused : (level_of_frame (frame (here a.member a.task q) f) + 1 ≢ level) → accident (here a.member a.task q) (cells_of (here a.member a.task q)) (back_to (here a.member a.task q) value b) (AtProc f segment level place) ≡ Err InvalidOperand
  refused ne = rw (ne_eqb (level_of_frame (frame (here a.member a.task q) f) + 1) level ne) refl

  fit : HeadFits (Entered level spot (Some back)) stack
  fit =
      let few = few_segments a.member.constants a.ordered.constants in
      (omega (arith, high), at_site.stack_fits, at_site.disp_fits, (good, omega (arith, g.place.within, few)))

  slot_is : r.slot ≡ a.plan.running
  slot_is = (a.holds.running a.member a.task a.running).slot ∙ sym a.running.slot

  mark_is : mark ≡ mark_of a.plan.running (Entered level spot (Some back)) stack
  mark_is =
      ap (λ (k : ℕ). record mark { far = not (spot.stack == k) }) slot_is
      ∙ ap (λ (n : ℕ). record mark { far = not (spot.stack == a.plan.running); back = n }) (Accidents.back_is a.left a.storage core r a.marks a.plan a.session a.member a.task a.holds a.running level f back spot)

  rcw_is : rcw ≡ return_of (Some back) stack
  rcw_is =
      ap (λ (n : ℕ). record rcw { level = n }) top_is.level
      ∙ ap (λ (n : ℕ). record rcw { level = stack_level stack; segment = n }) (a.holds.running a.member a.task a.running).segment

  pub mark_good : IsMscw mark
  mark_good =
      let room = a.holds.memory.slots.laid.room in
      subst IsMscw (sym mark_is) (entered_mark_fits a.plan.running level spot (Some back) stack fit (omega (arith, top_size-high stack, fits.0.fits, room)))

  pub rcw_good : IsRcw rcw
  rcw_good = subst IsRcw (sym rcw_is) (record { place = good; level = level-small stack fits.0.heads; segment = fit.3.1 })

  -- core and registers afterwards
  abbrev pub core_after : List Tagged
  core_after = slice_set (slice_set core (r.s + 1) (mscw_word mark)) (r.s + 2) (rcw_word rcw)

  abbrev pub regs_after : Regs
  regs_after = record r { s = r.s + 2; f = r.s + 1; level = level; segment = segment + 1; place = place }

  abbrev job : Job
  job = record a.member.progress.job { next_frame = a.member.progress.job.next_frame + 1 }

  core_is : Accidents.core_after a.left a.storage core r a.marks a.plan a.session a.member a.task a.holds a.running level f back spot job a.member.progress.job.next_frame refl refl free segment place ≡ core_after
  core_is = grind (arith, mark_is, rcw_is)

  spot_at : spot_in a.plan.running (outer_spots a.plan a.member.constants.number a.member.progress.job a.task.critical a.task.parents) a.task.frames f ≡ spot
  spot_at = ap (λ (k : ℕ). spot_in k (outer_spots a.plan a.member.constants.number a.member.progress.job a.task.critical a.task.parents) a.task.frames f) a.running.slot

  module _ (test : level_of_frame (frame (here a.member a.task q) f) + 1 ≡ level) where
    pub full : r.losr < r.s + 2 → accident (here a.member a.task q) (cells_of (here a.member a.task q)) (back_to (here a.member a.task q) value b) (AtProc f segment level place) ≡ Err StackOverflow
    full over = rw (eq-eqb (level_of_frame (frame (here a.member a.task q) f) + 1) level test) (rw (same_cells a.task.frames)
        (rw (lt-leb (height a.task.frames + 2) a.member.constants.stack_size (omega (arith, over, height_room a.left a.storage core r a.marks a.plan a.session a.member a.task a.holds a.running))) refl))

    module _ (room : r.s + 2 ≤ r.losr) where
      low : height a.task.frames + 2 ≤ a.member.constants.stack_size
      low = omega (arith, room, height_room a.left a.storage core r a.marks a.plan a.session a.member a.task a.holds a.running)

      environment : EnvironmentInOrder (map known_of a.task.frames ++ outer_of a.member.progress.job a.task) level f
      environment = record {
        low = omega (arith, at_site.low, at_site.level, test);
        high = high;
        standing = at_site.standing;
        among = at_site.among;
        entered = at_site.entered;
        level_below = omega (arith, at_site.level, test);
      }

      abbrev fs : List Frame
      fs = new_frame a.member.progress.job.next_frame level f back ∷ a.task.frames

      -- the task if it were ready, and the job with it
      abbrev pub task_ready : Task
      task_ready = Accidents.task_after a.left a.storage core r a.marks a.plan a.session a.member a.task a.holds a.running level f back spot job a.member.progress.job.next_frame refl refl free segment place Ready

      abbrev pub job_ready : Job
      job_ready = Accidents.job_after a.left a.storage core r a.marks a.plan a.session a.member a.task a.holds a.running level f back spot job a.member.progress.job.next_frame refl refl free segment place Ready

      pub tasks_ready : TasksInOrder (IsSegment a.member.constants) a.member.constants job_ready
      tasks_ready =
          let g_m = a.ordered.tasks in
          let c = push (IsSegment a.member.constants) a.member.constants a.member.progress.job a.task g_m a.running.task a.task.frames (State.Entered level f (Some back)) (start (IsSegment a.member.constants) a.member.constants a.member.progress.job a.task g_m a.running.task) environment
          (g.some, record { from_one = g.place.from_one; within = g.place.within; word_fits = good.word; syllable_fits = good.syllable }) in
          ready_with (IsSegment a.member.constants) a.member.constants a.member.progress.job a.task g_m a.running.task fs (a.member.progress.job.next_frame + 1) segment place c low starts (λ n. omega arith)

      pub holds_ready : IsClear r (with_objects a.left (machine_view a.plan a.session.jobs)) → SessionHoldsBut a.left a.storage core_after regs_after a.marks a.plan (with_job a.session a.member job_ready)
      holds_ready clear =
          let P : List Tagged → Type 0 = λ c. SessionHoldsBut a.left a.storage c regs_after a.marks a.plan (with_job a.session a.member job_ready) in
          subst P core_is (SessionHolds-accident a.left a.storage core r a.marks a.plan a.session a.member a.task a.holds a.running level f back spot job a.member.progress.job.next_frame refl refl free segment place Ready room clear spot_at fit)

      abbrev pub scene_after : IsClear r (with_objects a.left (machine_view a.plan a.session.jobs)) → RunningContext core_after regs_after
      scene_after clear = record {
        left = a.left;
        storage = a.storage;
        marks = a.marks;
        plan = a.plan;
        session = with_job a.session a.member job_ready;
        member = record a.member { progress = record a.member.progress { job = job_ready } };
        task = task_ready;
        ordered = record { from_one = a.ordered.from_one; few = a.ordered.few; constants = a.ordered.constants; tasks = tasks_ready };
        holds = holds_ready clear;
        running = IsRunning-accident a.left a.storage core r a.marks a.plan a.session a.member a.task a.holds a.running level f back spot job a.member.progress.job.next_frame refl refl free segment place Ready;
      }

      pub done : IsClear r (with_objects a.left (machine_view a.plan a.session.jobs)) → (display marks : List ℕ) → marks ≡ a.marks → ShowsDisplay display a.plan (record a.member { progress = record a.member.progress { job = job_ready } }) task_ready
          → RecordEntered a (record { core = core_after; regs = regs_after; display = display; critical = marks }) (accident (here a.member a.task q) (cells_of (here a.member a.task q)) (back_to (here a.member a.task q) value b) (AtProc f segment level place))
      done clear display marks em shown =
          let new : Cpu = record { core = core_after; regs = regs_after; display = display; critical = marks } in
          let job' : Job = Accidents.job_after a.left a.storage core r a.marks a.plan a.session a.member a.task a.holds a.running level f back spot job a.member.progress.job.next_frame refl refl free segment place a.task.condition in
          record {
            job = job';
            arrays = refl;
            is = rw (eq-eqb (level_of_frame (frame (here a.member a.task q) f) + 1) level test) (rw (same_cells a.task.frames) (rw (le-leb (height a.task.frames + 2) a.member.constants.stack_size low) refl));
            stands = RepresentsSession-accident a.left a.storage core r a.marks a.plan a.session a.member a.task a.holds a.running level f back spot job a.member.progress.job.next_frame refl refl free segment place new (sym core_is) refl em room clear spot_at fit shown;
            low = omega (arith, top_is.first, top_is.top);
            room = room;
            changed = λ i n o. slice_get-set_other (slice_set core (r.s + 1) (mscw_word mark)) (r.s + 2) i (rcw_word rcw) o ∙ slice_get-set_other core (r.s + 1) i (mscw_word mark) n;
          }
