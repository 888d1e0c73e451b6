-- The whole machine where the frame is left with a word.
use Rattle.std.proofs.Common.{◌≡◌, ◌≢◌, ℕ, ◌+◌, ◌<◌, ◌≤◌, List, ◌∷◌, map, Some, refl, sym, ◌∙◌, ap, arith, inl, inr, ◌⊎◌, subst, slice_set}
use Rattle.std.specs.List.{slice_get}
use Rattle.b67_word.specs.Tagged.{Tagged, word}
use Rattle.b67_ctl.specs.declared.registers.Regs.{Regs}
use Rattle.b67_core.proofs.Writes.{slice_get-set_other}
use Rattle.b67_lemmas.specs.Lists.{Has}
use Rattle.b67_lemmas.proofs.Members.{change_twice, change_found, keyed_has}
use Rattle.b67_model.specs.Common.{Word, Operand, Frame, Condition, Ready, Task, Job, SessionJob, with_top_cells, with_task, without_arrays_of, Session, IsSegment, WordInOrder, reach_of}
use Rattle.b67_layout.specs.Common.{IsInOrderButCounts, Placement, spot_in, outer_spots, slot_of, shape, head, activations, machine_view, RepresentsTask, IsRunning, ShowsDisplay, RepresentsSession, SessionHoldsBut, RepresentsSessionBut, objects_gone, with_job, IsInStack}
use Rattle.b67_stack.specs.declared.Cpu.{Cpu}
use Rattle.b67_stack.specs.Common.{Shape, Fits, StackPlace, Activation, stack_words, IsStack, words, CopiesName, Storage, RepresentsRunning, Represents, with_stack, MayPush}
use Rattle.b67_stack.proofs.Slots.{running_slot, running_fits}
use Rattle.b67_layout.proofs.Common.{OnTop, IsFree, seen-with, change-has, Shows-same, fresh, running_in_order, slot_is, others}
use Rattle.b67_layout.proofs.Others.{outer_spots-after}
use Rattle.b67_model.specs.Keyed.{keyed, change_keyed}
use Rattle.b67_layout.proofs.Nowhere.{SameArray, SameArrays, activations-same}
use Rattle.b67_entry.proofs.Returned.{Represents-returned, size_entered, fits_anywhere}
use Rattle.b67_layout.proofs.Leaves.{task_at, below-same, Frames, Frames-below, holds_after, for_running_after}
use Rattle.b67_entry.specs.Left.{Returns}
use Rattle.b67_entry.specs.Returned.{ReturnsWord}
use Rattle.b67_entry.proofs.Leaving.{may, outer, under, on_top, on_stack, may_return, regs_left, member_at, task_left, shown_left}
use Rattle.b67_entry.proofs.Returning.{shape_below, may_push, array_kept}

module _ (x : Storage) (old : Cpu) (plan : Placement) (s : Session) (m : SessionJob) (t : Task) (o : IsInOrderButCounts s) (h : RepresentsSession x old plan s) (runs : IsRunning plan s.jobs m t) (a : Returns m t) where
  -- the frames with words on the caller's
  abbrev pub frames_with : List Word → List Frame
  frames_with cells = with_top_cells (a.next ∷ a.more) cells

  -- others see the same of them
  pub Frames-with : (cells : List Word) → Frames plan s m t a.f (a.next ∷ a.more) (may x old plan s m t o h runs a) (frames_with cells)
  Frames-with cells = record {
    seen = λ c k out id d. seen-with (a.next ∷ a.more) cells c k out id ∙ (Frames-below plan s m t a.f (a.next ∷ a.more) (may x old plan s m t o h runs a)).seen c k out id d;
    mark = (Frames-below plan s m t a.f (a.next ∷ a.more) (may x old plan s m t o h runs a)).mark;
  }

  -- the job whose task goes on with them
  abbrev pub job_with : List Frame → Condition → Job
  job_with fs d = with_task (without_arrays_of a.f.identity m.progress.job) (task_at t fs a.back.segment a.back.place d)

  abbrev pub member_with : List Frame → Condition → SessionJob
  member_with fs d = record m { progress = record m.progress { job = job_with fs d } }

  abbrev pub task_with : List Frame → Condition → Task
  task_with fs d = task_at t fs a.back.segment a.back.place d

  -- the display shows it too
  pub shown_with : (display : List ℕ) (cells : List Word) (d : Condition) → ShowsDisplay display plan (member_at x old plan s m t o h runs a d) (task_left x old plan s m t o h runs a d) → ShowsDisplay display plan (member_with (frames_with cells) d) (task_with (frames_with cells) d)
  shown_with display cells d shown = Shows-same display plan (member_at x old plan s m t o h runs a d) (record m.progress { job = job_with (frames_with cells) d }) (task_left x old plan s m t o h runs a d) (task_with (frames_with cells) d) there tasks refl
      (λ id. (let same : outer_spots plan m.constants.number (job_with (frames_with cells) d) t.critical t.parents ≡ outer_spots plan m.constants.number (job_with (a.next ∷ a.more) d) t.critical t.parents =
      λ z i. outer_spots-after plan m.constants.number (job_with (a.next ∷ a.more) d) (job_with (frames_with cells) d) (task_with (a.next ∷ a.more) d) (task_with (frames_with cells) d) m.progress.job.next_frame top t.parents t.critical (free.uncritical t in_t) i z in
      ap (λ (out : ℕ → StackPlace). spot_in (slot_of plan m.constants.number t.number) out (frames_with cells) id) same)) shown where
        free : IsFree m.progress.job m.progress.job.next_frame
        free = fresh plan s m t o runs

        in_t : Has m.progress.job.tasks t
        in_t = (keyed_has (λ (u : Task). u.number) t.number m.progress.job.tasks t runs.task).0

        there : keyed (λ (u : Task). u.number) t.number (job_with (a.next ∷ a.more) d).tasks ≡ Some (task_with (a.next ∷ a.more) d)
        there = change_found (λ (u : Task). u.number) t.number t (task_with (a.next ∷ a.more) d) m.progress.job.tasks refl runs.task

        tasks : (job_with (frames_with cells) d).tasks ≡ change_keyed (λ (u : Task). u.number) t.number (λ (u : Task). task_with (frames_with cells) d) (job_with (a.next ∷ a.more) d).tasks
        tasks = sym (change_twice (λ (u : Task). u.number) t.number (task_with (a.next ∷ a.more) d) (task_with (frames_with cells) d) m.progress.job.tasks refl)

        top : OnTop (job_with (a.next ∷ a.more) d) (job_with (frames_with cells) d) (task_with (a.next ∷ a.more) d) (task_with (frames_with cells) d) m.progress.job.next_frame
        top = record {
          there = there;
          number = refl;
          critical = refl;
          parents = refl;
          tasks = tasks;
          arrays = refl;
          some = free.some;
          uncritical = λ u k. elim (change-has (λ (v : Task). v.number) t.number (λ (v : Task). task_with (a.next ∷ a.more) d) m.progress.job.tasks t runs.task u k) [
            | inl i ↦ free.uncritical u i
            | inr e ↦ subst (λ (v : Task). v.critical ≢ m.progress.job.next_frame) (sym e) (free.uncritical t in_t)
          ];
          same = λ c k out id ne. seen-with (a.next ∷ a.more) cells c k out id;
        }

  stack_fits : IsStack plan.size (on_top x old plan s m t o h runs a ∷ under x old plan s m t o h runs a) × CopiesName (machine_view plan s.jobs).objects (words old.regs.slot (on_top x old plan s m t o h runs a ∷ under x old plan s m t o h runs a))
  stack_fits = running_fits x old.core old.regs (machine_view plan s.jobs) old.regs.slot (on_top x old plan s m t o h runs a ∷ under x old plan s m t o h runs a) h.holds.memory (on_stack x old plan s m t o h runs a)

  -- where the word goes
  abbrev pub top_at : ℕ
  top_at = old.regs.bosr + stack_words (under x old plan s m t o h runs a) + 1

  stack_is : RepresentsRunning old.regs (machine_view plan s.jobs) old.regs.slot (on_top x old plan s m t o h runs a ∷ under x old plan s m t o h runs a)
  stack_is = running_slot x old.core old.regs (machine_view plan s.jobs) old.regs.slot (on_top x old plan s m t o h runs a ∷ under x old plan s m t o h runs a) h.holds.memory (on_stack x old plan s m t o h runs a)

  pub top_inside : (plan.stacks ≤ old.regs.bosr) × (old.regs.bosr < top_at) × (top_at < old.regs.losr)
  top_inside =
      let size = size_entered x old.core old.regs (machine_view plan s.jobs) old.regs.slot (on_top x old plan s m t o h runs a) _ _ a.level _ a.back h.holds.memory (on_stack x old plan s m t o h runs a) (may_return x old plan s m t o h runs a).entered in
      (omega (arith, stack_is.first), omega arith, omega (arith, size, stack_fits.0.fits, stack_is.first, stack_is.last))

  -- the shape of a word on the caller's frame
  abbrev pub new_shape : Word → Shape
  new_shape v = shape plan m.constants.number m.progress.job (spot_in plan.running (outer x old plan s m t o h runs a) (a.next ∷ a.more)) v

  -- a word that may be put there, and the word of core that represents it
  pub record Puts (v : Word) (w : Tagged) : Type 0 where
    pub fits : (i : ℕ) → Fits x.held (new_shape v) i w
    pub may : MayPush (machine_view plan s.jobs).objects (new_shape v)
    pub same : (new : Job) → new.arrays ≡ others a.f.identity m.progress.job.arrays → SameArray new m.progress.job v

  pub puts_operand : (bits : ℕ) → Puts (Operand bits) (word 0 bits)
  puts_operand bits = record { fits = λ i. (refl, λ e. omega (arith, e)); may = tt; same = λ new is. tt }

  module _ (v : Word) (w : Tagged) (b : ReturnsWord x plan m t old a v w) where
    -- the frames of the word are the frames that were found
    pub frame_is : b.word.frame ≡ a.f
    frame_is = let e : b.word.frame ∷ b.word.below ≡ a.f ∷ a.next ∷ a.more = sym b.word.frames ∙ a.frames in cc

    below_is : b.word.below ≡ a.next ∷ a.more
    below_is = let e : b.word.frame ∷ b.word.below ≡ a.f ∷ a.next ∷ a.more = sym b.word.frames ∙ a.frames in cc

    abbrev old_shape : Shape
    old_shape = shape plan m.constants.number m.progress.job (spot_in plan.running (outer x old plan s m t o h runs a) (a.f ∷ a.next ∷ a.more)) v

    shape_same : old_shape ≡ new_shape v
    shape_same = shape_below m.progress.job a.f.identity plan m.constants.number plan.running (outer x old plan s m t o h runs a) a.f (a.next ∷ a.more) v refl b.passes

    fits_old : Fits x.held old_shape old.regs.s w
    fits_old = grind arith

    cells_are : a.f.cells ≡ v ∷ b.word.rest
    cells_are = ap (λ (f : Frame). f.cells) (sym frame_is) ∙ b.word.cells

    in_words : Has (words old.regs.slot (on_top x old plan s m t o h runs a ∷ under x old plan s m t o h runs a)) old_shape
    in_words = grind arith

    may_new : MayPush (machine_view plan s.jobs).objects (new_shape v)
    may_new = subst (MayPush (machine_view plan s.jobs).objects) shape_same
        (may_push m.progress.job a.f.identity plan m.constants.number (spot_in plan.running (outer x old plan s m t o h runs a) (a.f ∷ a.next ∷ a.more)) (machine_view plan s.jobs).objects
        (words old.regs.slot (on_top x old plan s m t o h runs a ∷ under x old plan s m t o h runs a)) v stack_fits.1 in_words b.passes)

    fits_new : Fits x.held (new_shape v) old.regs.s w
    fits_new = subst (λ (c : Shape). Fits x.held c old.regs.s w) shape_same fits_old

    pub puts_word : Puts v w
    puts_word = record {
      fits = λ i. fits_anywhere x (machine_view plan s.jobs).objects (new_shape v) old.regs.s i w may_new fits_new;
      may = may_new;
      same = λ new is. (let order = subst (λ (f : Frame). WordInOrder (IsSegment m.constants) m.progress.job.arrays (reach_of m.progress.job t) f.identity v) frame_is b.word.order in
          array_kept m.progress.job a.f.identity new m.constants (reach_of m.progress.job t) v order is (running_in_order plan s m t o runs).0.tasks.names b.passes);
    }

  module _ (v : Word) (w : Tagged) (put : Puts v w) where
    -- the machine afterwards
    abbrev pub new_core : List Tagged
    new_core = slice_set old.core top_at w

    abbrev pub new_regs : Regs
    new_regs = record (regs_left x old plan s m t o h runs a) { s = top_at }

    -- the caller's frame with the word
    abbrev stack_with : List Activation
    stack_with = record {
      head = head (spot_in plan.running (outer x old plan s m t o h runs a) a.more) a.next.standing;
      cells = new_shape v ∷ map (shape plan m.constants.number m.progress.job (spot_in plan.running (outer x old plan s m t o h runs a) (a.next ∷ a.more))) a.next.cells;
    } ∷ activations plan m.constants.number m.progress.job plan.running (outer x old plan s m t o h runs a) a.more

    same_arrays : (d : Condition) → SameArrays (job_with (frames_with (v ∷ a.next.cells)) d) m.progress.job (frames_with (v ∷ a.next.cells))
    same_arrays d =
        let new = job_with (frames_with (v ∷ a.next.cells)) d in
        let below = below-same plan s m t a.f (a.next ∷ a.more) (may x old plan s m t o h runs a) new refl in
        ((put.same new refl, below.0), below.1)

    stack_same : (d : Condition) → activations plan m.constants.number (job_with (frames_with (v ∷ a.next.cells)) d) plan.running (outer x old plan s m t o h runs a) (frames_with (v ∷ a.next.cells)) ≡ stack_with
    stack_same d = activations-same plan m.constants.number (job_with (frames_with (v ∷ a.next.cells)) d) m.progress.job plan.running (outer x old plan s m t o h runs a) (frames_with (v ∷ a.next.cells)) (same_arrays d)

    memory : Represents x new_core new_regs (with_stack (machine_view plan s.jobs) plan.running stack_with)
    memory =
        let P : ℕ → Type 0 = λ k. Represents x new_core new_regs (with_stack (machine_view plan s.jobs) k stack_with) in
        subst P (slot_is x old plan s m t h runs)
        (Represents-returned x old.core old.regs (machine_view plan s.jobs) old.regs.slot (on_top x old plan s m t o h runs a) _ _ a.level _ a.back h.holds.memory (on_stack x old plan s m t o h runs a) (may_return x old plan s m t o h runs a).entered
        (new_shape v) w old.regs.s (a.back.segment + 1) a.back.place put.may (put.fits old.regs.s))

    task_stands : (d : Condition) → RepresentsTask new_regs plan (member_with (frames_with (v ∷ a.next.cells)) d) (task_with (frames_with (v ∷ a.next.cells)) d)
    task_stands d = let r = h.holds.running m t runs in record { slot = r.slot; dict = r.dict; entries = r.entries; segment = refl; place = refl }

    same_low : (i : ℕ) → i < plan.stacks → slice_get new_core i ≡ slice_get old.core i
    same_low i low = slice_get-set_other old.core top_at i w (λ e. omega (arith, e, low, top_inside))

    pub holds_with : (d : Condition) → SessionHoldsBut (objects_gone plan m (job_with (frames_with (v ∷ a.next.cells)) d)) x new_core new_regs old.critical plan (with_job s m (job_with (frames_with (v ∷ a.next.cells)) d))
    holds_with d = holds_after plan s m t a.f (a.next ∷ a.more) (may x old plan s m t o h runs a) (job_with (frames_with (v ∷ a.next.cells)) d) (frames_with (v ∷ a.next.cells)) a.back.segment a.back.place d refl refl (Frames-with (v ∷ a.next.cells))
        x old.core new_core old.regs new_regs old.critical h.holds same_low
        (subst (λ (S : List Activation). Represents x new_core new_regs (with_stack (machine_view plan s.jobs) plan.running S)) (sym (stack_same d)) memory)
        (omega (arith, ap stack_words (stack_same d))) (task_stands d)

    -- all but the display, and the display that was built for the caller
    pub stands_with : (display : List ℕ) → ShowsDisplay display plan (member_at x old plan s m t o h runs a Ready) (task_left x old plan s m t o h runs a Ready)
        → RepresentsSessionBut (objects_gone plan m (job_with (frames_with (v ∷ a.next.cells)) t.condition)) x (record { core = new_core; regs = new_regs; display = display; critical = old.critical }) plan (with_job s m (job_with (frames_with (v ∷ a.next.cells)) t.condition))
    stands_with display shown = record {
      holds = holds_with t.condition;
      shows = for_running_after plan s m t a.f (a.next ∷ a.more) (may x old plan s m t o h runs a) (job_with (frames_with (v ∷ a.next.cells)) t.condition) (frames_with (v ∷ a.next.cells)) a.back.segment a.back.place t.condition refl refl (Frames-with (v ∷ a.next.cells))
          x old.core new_core old.regs new_regs old.critical h.holds (ShowsDisplay display plan) (shown_with display (v ∷ a.next.cells) t.condition (shown_left x old plan s m t o h runs a display shown));
    }

    -- only a word of the stack has changed
    pub changed_with : (i : ℕ) → (slice_get new_core i ≡ slice_get old.core i) ⊎ IsInStack old.regs i
    changed_with i = grind (arith, top_inside, slice_get-set_other)
