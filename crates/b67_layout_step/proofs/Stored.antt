-- A number stored into a cell that the running task names: the machine represents the session with that cell changed.
use Rattle.std.proofs.Common.{◌≡◌, ◌≢◌, ℕ, suc, ◌+◌, ◌-◌, ◌*◌, ◌<◌, ◌≤◌, List, [], ◌∷◌, flat_map, length, Some, unwrap_or, refl, sym, ◌∙◌, ap, arith, Bool, ◌==◌, ⊎_elim, subst, slice_set}
use Rattle.std.specs.Prelude.{if◌then◌else◌}
use Rattle.std.specs.List.{slice_get}
use Rattle.std.specs.Option.{ok_or}
use Rattle.std.proofs.lemmas.Bool.{cases_lt}
use Rattle.b67_core.proofs.Writes.{slice_get-set_other}
use Rattle.b67_word.specs.Tagged.{Tagged, word}
use Rattle.b67_word.specs.declared.couples.Place.{Place}
use Rattle.b67_word.specs.declared.faults.Fault.TheVariants.{InvalidAddress}
use Rattle.b67_ctl.specs.declared.registers.Regs.{Regs}
use Rattle.b67_lemmas.specs.Lists.{Has}
use Rattle.b67_lemmas.proofs.Members.{all_in, has_map_back, keyed_has, keyed_left}
use Rattle.b67_model.specs.Keyed.{keyed}
use Rattle.b67_model.specs.Common.{Word, Operand, Frame, Task, JobProgress, SessionJob, mcp, no_frame, frame, height, cell_of, number_of, Session, Known, identities, IsEntered, IsSegment, EntryInOrder}
use Rattle.b67_layout.specs.Common.{IsInOrderButCounts, Placement, slot_of, outer_spots, spots, address_of, activations, stack_of_task, slot_with, machine_view, RepresentsDictionary, RowHomes, PlanFits, vector_word, critical_mark, RepresentsTask, IsRunning, frame_address, ShowsDisplay, SessionHolds, RepresentsSession, here}
use Rattle.b67_law.proofs.Chases.{cell_has}
use Rattle.b67_law.proofs.Looks.{IsFrame, found_frame}
use Rattle.b67_stack.specs.declared.Cpu.{Cpu}
use Rattle.b67_stack.specs.Common.{Shape, Is, StackPlace, Activation, stack_words, PagedObject, MachineView, Running, Waiting, NoOriginalAboveTop, with_slot, slot_base, Storage, Represents}
use Rattle.b67_stack.proofs.Homes.{not_home}
use Rattle.b67_layout.proofs.Common.{height-is, with_course, member-same, slot_below, change-has, dictionary_below, running_only}
use Rattle.b67_refer.specs.RunningContext.{RunningContext, live_of}
use Rattle.b67_refer.specs.Cells.{IsCellAt}
use Rattle.b67_refer.proofs.Scenes as Scenes
use Rattle.b67_refer.proofs.Seats.{seat}
use Rattle.b67_refer.proofs.Slots.{live_slot}
use Rattle.b67_refer.proofs.Marks.{frame_known, frame_seat, frame_dictionary, frame_mcp, slot_address}
use Rattle.b67_refer.proofs.Rule.{inside}
use Rattle.b67_layout_step.proofs.Puts.{Puts}
use Rattle.b67_layout_step.proofs.Stores.{SlotPuts, runs, waits, Represents-store, Settled-store}
use Rattle.b67_layout_step.proofs.Frames.{put_job, put_activations, frames_under, frame_found}
use Rattle.b67_layout_step.proofs.Owners.{OwnerAt, owner, spot_under}
use Rattle.b67_layout_step.proofs.Mapped.{put_task, keyed_put, stack_put, mark_put, rows_put, machine_view_put, Shows-put}

abbrev IsNoOperand : Word → Type 0
IsNoOperand (Operand bits) = ⊥
IsNoOperand _ = Unit {0}

pub found_in : (id : ℕ) (fs : List Frame) → Has (identities fs) id → Has fs (frame_found id fs) × ((frame_found id fs).identity ≡ id)
found_in id [] h = absurd h
found_in id (f ∷ fs) h = grind (arith, found_in id fs)

slot_puts : (c : Shape) (at : ℕ) (st st' : List Activation) (b : Bool) → Puts c at st st' → SlotPuts c at (if b then Running st else Waiting st) (if b then Running st' else Waiting st')
slot_puts c at st st' b p = grind (arith, runs, waits)

module _ (core : List Tagged) (r : Regs) (a : RunningContext core r) (q : Place) (at f offset bits : ℕ) (here_at : IsCellAt a q at f offset (Operand bits)) where
  -- an operand's cell lies in a frame of a task
  pub operand_own : 1 < f
  operand_own = ⊎_elim
      (λ (own : 1 < f). own)
      (λ (low : f ≤ 1). absurd (⊎_elim
      (λ (z : f < 1).
      (let is : f ≡ 0 = omega (arith, z) in
      let h = cell_has mcp offset (Operand bits) (sym (ap (λ (g : Frame). ok_or (cell_of g offset) InvalidAddress) (ap (frame (here a.member a.task q)) is ∙ frame_mcp core r (live_of a) q)) ∙ here_at.found) in
      all_in IsNoOperand mcp.cells (Operand bits) (tt, (tt, (tt, (tt, (tt, (tt, (tt, (tt, (tt, (tt, (tt, tt))))))))))) h))
      (λ (z : 1 ≤ f).
      (let is : f ≡ 1 = omega (arith, z, low) in
      let h = cell_has a.member.constants.dictionary offset (Operand bits) (sym (ap (λ (g : Frame). ok_or (cell_of g offset) InvalidAddress) (ap (frame (here a.member a.task q)) is ∙ frame_dictionary core r (live_of a) q)) ∙ here_at.found) in
      let e : EntryInOrder a.member.progress.job.arrays (Operand bits) = all_in (EntryInOrder a.member.progress.job.arrays) a.member.constants.dictionary.cells (Operand bits) a.ordered.tasks.entries h in e))
      (cases_lt f 1)))
      (cases_lt 1 f)

  pub own_of : OwnerAt a.plan a.member.constants a.member.progress.job a.ordered.tasks (spots a.plan a.member.constants.number a.member.progress.job a.task) f
  own_of = owner a.plan a.member.constants a.member.progress.job a.ordered.tasks a.task a.running.task f here_at.names operand_own

  -- the frame that holds the cell, among its task's
  found_is : frame (here a.member a.task q) f ≡ frame_found f own_of.task.frames
  found_is =
      let u = own_of.task in
      let g = found_in f u.frames own_of.has in
      let live : IsFrame a.member.progress.job (frame_found f u.frames) = record { task = u; live = (keyed_has (λ (v : Task). v.number) u.number a.member.progress.job.tasks u own_of.there).0; among = g.0 } in
      let found = found_frame (IsSegment a.member.constants) a.member.constants a.member.progress.job a.ordered.tasks (frame_found f u.frames) live in
      let at_f : keyed (λ (x : Frame). x.identity) f (flat_map (λ (v : Task). v.frames) a.member.progress.job.tasks) ≡ Some (frame_found f u.frames) =
      subst (λ (i : ℕ). keyed (λ (x : Frame). x.identity) i (flat_map (λ (v : Task). v.frames) a.member.progress.job.tasks) ≡ Some (frame_found f u.frames)) g.1 found in
      ap (λ z. unwrap_or z no_frame) (keyed_left (λ (x : Frame). x.identity) f (flat_map (λ (v : Task). v.frames) a.member.progress.job.tasks) (a.member.constants.dictionary ∷ mcp ∷ []) (frame_found f u.frames) at_f)

  pub found_entered : IsEntered (frame_found f own_of.task.frames).standing
  found_entered =
      let k = frame_known core r (live_of a) q f here_at.names.standing here_at.names.among in
      subst (λ (g : Frame). IsEntered g.standing) found_is (subst (λ (z : Known). IsEntered z.1) (sym k) here_at.names.entered)

  pub bounds : (2 ≤ offset) × (offset < 2 + length (frame_found f own_of.task.frames).cells)
  bounds =
      let b = seat core r (live_of a) f here_at.names.standing here_at.names.among operand_own in
      let i = inside core r (live_of a) q f here_at.names.standing b here_at.names.entered operand_own offset (Operand bits) here_at.found in
      let e : b.frame ≡ frame_found f own_of.task.frames = sym (frame_seat core r (live_of a) q f here_at.names.standing b) ∙ found_is in
      let n : length b.frame.cells ≡ length (frame_found f own_of.task.frames).cells = ap (λ (g : Frame). length g.cells) e in
      (i.0, omega (arith, i.1, n))

  abbrev pub k : ℕ
  k = slot_of a.plan a.member.constants.number own_of.task.number

  abbrev pub outer : ℕ → StackPlace
  outer = outer_spots a.plan a.member.constants.number a.member.progress.job own_of.task.critical own_of.task.parents

  pub used : slot_of a.plan a.member.constants.number own_of.task.number < a.plan.peak
  used = (live_slot a.plan a.session.jobs a.member own_of.task a.holds.fits.rows a.running.member own_of.there).0

  -- its place over the first mark of the stack
  abbrev pub over : ℕ
  over = stack_words (activations a.plan a.member.constants.number a.member.progress.job k outer (frames_under f own_of.task.frames)) + 2 + (offset - 2)

  pub at_is : at ≡ suc (a.plan.stacks + slot_of a.plan a.member.constants.number own_of.task.number * a.plan.size) + (stack_words (activations a.plan a.member.constants.number a.member.progress.job k outer (frames_under f own_of.task.frames)) + 2 + (offset - 2))
  at_is =
      let e = ap (address_of a.plan) own_of.spot ∙ slot_address core r (live_of a) (slot_of a.plan a.member.constants.number own_of.task.number) (height (frames_under f own_of.task.frames)) used in
      let h = height-is a.plan a.member.constants.number a.member.progress.job (slot_of a.plan a.member.constants.number own_of.task.number) outer (frames_under f own_of.task.frames) in
      let c = here_at.address in
      let low = bounds.0 in
      omega (arith, c, e, h, low)

  -- the same address as its own task sees it
  pub own_address : at ≡ frame_address a.plan a.member own_of.task (frame_found f own_of.task.frames).identity + offset
  own_address =
      let u = own_of.task in
      let g = found_in f u.frames own_of.has in
      let e : frame_address a.plan a.member u (frame_found f u.frames).identity ≡ frame_address a.plan a.member a.task f =
      ap (frame_address a.plan a.member u) g.1 ∙ ap (address_of a.plan) (spot_under (slot_of a.plan a.member.constants.number u.number) (outer_spots a.plan a.member.constants.number a.member.progress.job u.critical u.parents) u.frames f own_of.has ∙ sym own_of.spot) in
      here_at.address ∙ ap (λ (n : ℕ). n + offset) (sym e)

module _ (x : Storage) (old : Cpu) (plan : Placement) (s : Session) (m : SessionJob) (t : Task) (o : IsInOrderButCounts s) (h : RepresentsSession x old plan s) (runs_t : IsRunning plan s.jobs m t) where
  -- the scene of the machine
  abbrev pub scene : RunningContext old.core old.regs
  scene = Scenes.scene [] x old.core old.regs old.critical plan s m t o h.holds runs_t

  module _ (q : Place) (at f offset bits new_bits : ℕ) (here_at : IsCellAt (Scenes.scene [] x old.core old.regs old.critical plan s m t o h.holds runs_t) q at f offset (Operand bits)) where
    abbrev pub c' : JobProgress
    c' = record m.progress { job = put_job m.progress.job f (offset - 2) (Operand new_bits) }

    abbrev pub jobs' : List SessionJob
    jobs' = with_course s.jobs m.constants.number (record m.progress { job = put_job m.progress.job f (offset - 2) (Operand new_bits) })

    u : OwnerAt plan m.constants m.progress.job scene.ordered.tasks (spots plan m.constants.number m.progress.job t) f
    u = own_of old.core old.regs scene q at f offset bits here_at

    has_m : Has s.jobs m
    has_m = (keyed_has number_of m.constants.number s.jobs m runs_t.member).0

    once : Rattle.b67_model.specs.InOrder.frames_in_job f m.progress.job ≤ 1
    once = scene.ordered.tasks.apart f

    low : plan.stacks ≤ at
    low = let e = at_is old.core old.regs scene q at f offset bits here_at in omega (arith, e)

    memory : Represents x (slice_set old.core at (word 0 new_bits)) old.regs (machine_view plan (with_course s.jobs m.constants.number (record m.progress { job = put_job m.progress.job f (offset - 2) (Operand new_bits) }))) × NoOriginalAboveTop (machine_view plan (with_course s.jobs m.constants.number (record m.progress { job = put_job m.progress.job f (offset - 2) (Operand new_bits) })))
    memory =
        let j = m.constants.number in
        let job = m.progress.job in
        let ut = (own_of old.core old.regs scene q at f offset bits here_at).task in
        let there = (own_of old.core old.regs scene q at f offset bits here_at).there in
        let has = (own_of old.core old.regs scene q at f offset bits here_at).has in
        let k = slot_of plan j ut.number in
        let outer = outer_spots plan j job ut.critical ut.parents in
        let over = stack_words (activations plan j job k outer (frames_under f ut.frames)) + 2 + (offset - 2) in
        let b = bounds old.core old.regs scene q at f offset bits here_at in
        let p = put_activations f (offset - 2) (Operand new_bits) plan j job k outer new_bits refl ut.frames has (found_entered old.core old.regs scene q at f offset bits here_at) (omega (arith, b.0, b.1)) in
        let st' = stack_of_task plan j (put_job job f (offset - 2) (Operand new_bits)) k (put_task f (offset - 2) (Operand new_bits) ut) in
        let P : List Activation → Type 0 = λ z. Puts (Is (word 0 new_bits)) over (activations plan j job k outer ut.frames) z in
        let p' : Puts (Is (word 0 new_bits)) over (activations plan j job k outer ut.frames) st' = subst P (sym (stack_put plan j job f (offset - 2) (Operand new_bits) k ut)) p in
        let y = slot_with plan k j job (Some ut) in
        let y' = slot_with plan k j (put_job job f (offset - 2) (Operand new_bits)) (Some (put_task f (offset - 2) (Operand new_bits) ut)) in
        let puts : SlotPuts (Is (word 0 new_bits)) over y y' = slot_puts (Is (word 0 new_bits)) over (activations plan j job k outer ut.frames) st' (k == plan.running) p' in
        let live = live_slot plan s.jobs m ut h.holds.fits.rows runs_t.member there in
        let pic = machine_view plan s.jobs in
        let at_e = at_is old.core old.regs scene q at f offset bits here_at in
        let plain : (t : PagedObject) → Has pic.objects t → t.home ≢ suc (slot_base pic k) + over = λ z int e.
        not_home x old.core old.regs pic (Is (word 0 bits)) here_at.word at h.holds.memory low here_at.there here_at.stands.0 (λ home n. (let w : ⊥ = cc in w)) z int (e ∙ sym at_e) in
        let stands = Represents-store x old.core old.regs pic k y y' (Is (word 0 new_bits)) over (word 0 new_bits) h.holds.memory live.0 live.1 puts (λ d home n. (let w : ⊥ = cc in w)) (refl, λ z. omega (arith, z)) plain in
        let settled = Settled-store x old.core old.regs pic k y y' (Is (word 0 new_bits)) over (word 0 new_bits) h.holds.memory live.0 live.1 puts (λ d home n. (let w : ⊥ = cc in w)) (refl, λ z. omega (arith, z)) plain h.holds.settled in
        let pe = machine_view_put plan s.jobs m f (offset - 2) (Operand new_bits) runs_t.member h.holds.fits.rows ut there has once in
        let Q : MachineView → Type 0 = λ z. Represents x (slice_set old.core at (word 0 new_bits)) old.regs z in
        let R : ℕ → Type 0 = λ n. Represents x (slice_set old.core n (word 0 new_bits)) old.regs (with_slot pic k y') in
        (subst Q (sym pe) (subst R (sym at_e) stands), subst NoOriginalAboveTop (sym pe) settled)

    abbrev moved : SessionJob
    moved = record m { progress = c' }

    same : (i : ℕ) → i < plan.stacks → slice_get (slice_set old.core at (word 0 new_bits)) i ≡ slice_get old.core i
    same i below = slice_get-set_other old.core at i (word 0 new_bits) (λ z. omega (arith, z, below, low))

    -- each job is an old one or the one that moved
    for_members : (P : SessionJob → Type 0) → ((y : SessionJob) → Has s.jobs y → P y) → P moved → (y : SessionJob) → Has jobs' y → P y
    for_members P before here y in_y = ⊎_elim (λ k. before y k) (λ (e : y ≡ moved). subst P (sym e) here) (change-has number_of m.constants.number (λ (z : SessionJob). record z { progress = c' }) s.jobs m runs_t.member y in_y)

    follow : (from : ℕ) (xs : List SessionJob) → Rattle.b67_layout.specs.Session.DictionariesFollow plan from xs → Rattle.b67_layout.specs.Session.DictionariesFollow plan from (with_course xs m.constants.number c')
    follow from [] d = d
    follow from (y ∷ more) d = grind (arith, follow (from + (2 + length y.constants.dictionary.cells)) more d.1)

    fits : PlanFits plan (record s { jobs = jobs' })
    fits = record {
      rows = rows_put plan s.jobs m f (offset - 2) (Operand new_bits) runs_t.member h.holds.fits.rows;
      peak = h.holds.fits.peak;
      few = h.holds.fits.few;
      sizes = for_members (λ y. y.constants.stack_size ≡ plan.size) h.holds.fits.sizes (h.holds.fits.sizes m has_m);
      dictionaries = follow 160 s.jobs h.holds.fits.dictionaries;
      row_homes = for_members (λ y. RowHomes plan y) h.holds.fits.row_homes (h.holds.fits.row_homes m has_m);
    }

    still : IsRunning plan jobs' moved (put_task f (offset - 2) (Operand new_bits) t)
    still = record {
      member = member-same s.jobs m.constants.number c' m runs_t.member;
      task = keyed_put plan m.constants.number m.progress.job f (offset - 2) (Operand new_bits) t.number m.progress.job.tasks ∙ ap (Rattle.std.specs.Prelude.option_map (put_task f (offset - 2) (Operand new_bits))) runs_t.task;
      slot = runs_t.slot;
    }

    -- and each of that one's tasks an old one with the word stored
    for_tasks : (P : SessionJob → Task → Type 0) → ((y : SessionJob) (v : Task) → Has s.jobs y → Has y.progress.job.tasks v → P y v) → ((v : Task) → Has m.progress.job.tasks v → P moved (put_task f (offset - 2) (Operand new_bits) v)) → (y : SessionJob) (v : Task) → Has jobs' y → Has y.progress.job.tasks v → P y v
    for_tasks P before here y v in_y in_v = for_members (λ z. Has z.progress.job.tasks v → P z v) (λ z in_z in_v. before z v in_z in_v)
        (λ in_v. (let b = has_map_back (put_task f (offset - 2) (Operand new_bits)) m.progress.job.tasks v in_v in subst (λ z. P moved z) b.is (here b.item b.among))) y in_y in_v

    task_stands : RepresentsTask old.regs plan moved (put_task f (offset - 2) (Operand new_bits) t)
    task_stands = let o' = h.holds.running m t runs_t in record { slot = o'.slot; dict = o'.dict; entries = o'.entries; segment = o'.segment; place = o'.place }

    slot_small : plan.running ≢ 255
    slot_small e = let b = slot_below plan s.jobs m t h.holds.fits.rows has_m (keyed_has (λ (v : Task). v.number) t.number m.progress.job.tasks t runs_t.task).0 in let few = h.holds.fits.few in let r = runs_t.slot in omega (arith, e, b, few, r)

    vector : (y : SessionJob) (v : Task) → Has s.jobs y → Has y.progress.job.tasks v → slice_get (slice_set old.core at (word 0 new_bits)) (32 + slot_of plan y.constants.number v.number) ≡ Some (vector_word plan y.constants.number v.parents)
    vector y v in_y in_v = same (32 + slot_of plan y.constants.number v.number) (let b = slot_below plan s.jobs y v h.holds.fits.rows in_y in_v in let few = h.holds.fits.few in let first = h.holds.memory.slots.laid.first in omega (arith, b, few, first)) ∙ h.holds.vector.live y v in_y in_v

    dictionary : (y : SessionJob) → Has s.jobs y → RepresentsDictionary (slice_set old.core at (word 0 new_bits)) plan y
    dictionary y in_y = grind (arith, dictionary_below, same)

    pub SessionHolds-store : SessionHolds x (slice_set old.core at (word 0 new_bits)) old.regs old.critical plan (record s { jobs = with_course s.jobs m.constants.number (record m.progress { job = put_job m.progress.job f (offset - 2) (Operand new_bits) }) })
    SessionHolds-store = record {
      fits = fits;
      memory = memory.0;
      settled = memory.1;
      dictionaries = for_members (RepresentsDictionary (slice_set old.core at (word 0 new_bits)) plan) dictionary (let d = dictionary m has_m in record { mark = d.mark; entries = d.entries });
      mcp = (let first = h.holds.memory.slots.laid.first in record { mark = same 0 (omega (arith, first)) ∙ h.holds.mcp.mark; intrinsics = λ i down up. same i (omega (arith, up, first)) ∙ h.holds.mcp.intrinsics i down up });
      vector = record {
        live = for_tasks (λ y v. slice_get (slice_set old.core at (word 0 new_bits)) (32 + slot_of plan y.constants.number v.number) ≡ Some (vector_word plan y.constants.number v.parents)) vector (λ v in_v. vector m v has_m in_v);
        free = λ i small others. same (32 + i) (let first = h.holds.memory.slots.laid.first in omega (arith, small, first)) ∙ h.holds.vector.free i small others;
      };
      critical = record {
        live = for_tasks (λ y v. slice_get old.critical (slot_of plan y.constants.number v.number) ≡ Some (critical_mark y.progress.job v.frames)) h.holds.critical.live
            (λ v in_v. h.holds.critical.live m v has_m in_v ∙ ap Some (sym (mark_put plan m.constants.number m.progress.job f (offset - 2) (Operand new_bits) v.frames)));
        free = h.holds.critical.free;
      };
      live = λ z. (moved, put_task f (offset - 2) (Operand new_bits) t, still);
      running = λ y v q. running_only plan jobs' moved y (put_task f (offset - 2) (Operand new_bits) t) v (RepresentsTask old.regs plan) fits.rows still q task_stands;
      none = λ e. absurd (slot_small e);
    }

    -- the whole machine
    pub RepresentsSession-store : RepresentsSession x (record old { core = slice_set old.core at (word 0 new_bits) }) plan (record s { jobs = with_course s.jobs m.constants.number (record m.progress { job = put_job m.progress.job f (offset - 2) (Operand new_bits) }) })
    RepresentsSession-store = record {
      holds = SessionHolds-store;
      shows = λ y v q. running_only plan jobs' moved y (put_task f (offset - 2) (Operand new_bits) t) v (ShowsDisplay old.display plan) fits.rows still q
          (Shows-put old.display plan m c' t f (offset - 2) (Operand new_bits) refl (h.shows m t runs_t));
    }

    pub still_runs : IsRunning plan (with_course s.jobs m.constants.number (record m.progress { job = put_job m.progress.job f (offset - 2) (Operand new_bits) })) (record m { progress = record m.progress { job = put_job m.progress.job f (offset - 2) (Operand new_bits) } }) (put_task f (offset - 2) (Operand new_bits) t)
    still_runs = still
