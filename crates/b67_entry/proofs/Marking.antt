-- What MKST makes.
use Rattle.std.proofs.Common.{◌≡◌, ◌≢◌, ℕ, ◌+◌, ◌-◌, List, [], ◌∷◌, None, Err, refl, sym, arith, inl, inr, ⊎_elim, subst, false}
use Rattle.std.proofs.lemmas.Bool.{le-leb, lt-leb}
use Rattle.b67_word.specs.declared.couples.Place.{Place}
use Rattle.b67_word.specs.declared.faults.Fault.TheVariants.{StackOverflow}
use Rattle.b67_ctl.specs.Layout.{mscw_word}
use Rattle.b67_core.proofs.Writes.{slice_get-set_other}
use Rattle.b67_model.specs.Common.{Task, SessionJob, height, mkst, number_of, Session}
use Rattle.b67_layout.specs.Common.{IsInOrderButCounts, Placement, machine_view, stack_of_task, IsMade, here, with_job, IsRunning, RepresentsSession, RepresentsSessionBut}
use Rattle.b67_stack.specs.declared.Cpu.{Cpu}
use Rattle.b67_stack.specs.Common.{PagedObject, RunsOn, NoOriginalAboveTop, Storage, Represents, marked, new_mark, with_stack}
use Rattle.b67_stack.proofs.Slots.{running_slot}
use Rattle.b67_stack.proofs.Pushes.{Room, room_of, Represents-marked}
use Rattle.b67_layout.proofs.Common.{slot_is, runs_here, Settled-more, no_objects_gone, job_in_order}
use Rattle.b67_layout.proofs.Marks.{job_marked, RepresentsSession-mark}
use Rattle.b67_layout.proofs.Rooms.{height_room, written}
use Rattle.b67_lemmas.proofs.Members.{keyed_has}

-- the machine after it
abbrev pub marked_at : Cpu → Place → Cpu
marked_at cpu q = record (marked cpu) { regs = record (marked cpu).regs { place = q } }

module _ (x : Storage) (old : Cpu) (plan : Placement) (s : Session) (m : SessionJob) (t : Task) (q : Place) (o : IsInOrderButCounts s) (h : RepresentsSession x old plan s) (runs : IsRunning plan s.jobs m t) where
  pub mkst_full : old.regs.s ≡ old.regs.losr → mkst (here m t q) ≡ Err StackOverflow
  mkst_full full = rw (lt-leb (height t.frames + 1) m.constants.stack_size (omega (arith, full, height_room [] x old.core old.regs old.critical plan s m t h.holds runs))) refl

  pub mkst_done : old.regs.s ≢ old.regs.losr → IsMade x plan s m old (marked_at old q) (mkst (here m t q))
  mkst_done room =
      let new = marked_at old q in
      let in_m = (keyed_has number_of m.constants.number s.jobs m runs.member).0 in
      let job = job_marked m.progress.job t q in
      let g = job_in_order s m o in_m in
      let p = machine_view plan s.jobs in
      let k = old.regs.slot in
      let stack = stack_of_task plan m.constants.number m.progress.job plan.running t in
      let on : RunsOn p k stack = runs_here x old plan s m t h runs in
      let r : Room x old.core old.regs p k stack = room_of x old.core old.regs p k stack h.holds.memory on in
      let word = mscw_word (record { far = false; entered = false; env_stack = 0; env_disp = 0; value = false; level = 0; back = old.regs.s + 1 - old.regs.f }) in
      let stands = Represents-marked x old.core old.regs p k stack word q refl h.holds.memory on h.holds.settled room in
      let settled = Settled-more p k stack (new_mark ∷ stack) on (omega arith) h.holds.settled in
      let is_k = slot_is x old plan s m t h runs in
      let top = running_slot x old.core old.regs p k stack h.holds.memory on in
      let P : ℕ → Type 0 = λ n. Represents x new.core new.regs (with_stack p n (new_mark ∷ stack)) in
      let Q : ℕ → Type 0 = λ n. NoOriginalAboveTop (with_stack p n (new_mark ∷ stack)) in
      let made : RepresentsSession x new plan (with_job s m job) = RepresentsSession-mark x old new plan s m t q h runs g.unchanging g.tasks
      (λ i low. slice_get-set_other old.core (old.regs.s + 1) i word (λ z. omega (arith, z, low, r.mark, r.top, top.first)))
      (record { slot = refl; dict = refl; entries = refl; segment = refl; place = refl }) refl refl (subst P is_k stands) (subst Q is_k settled) in
      let L : List PagedObject → Type 0 = λ left. RepresentsSessionBut left x new plan (with_job s m job) in
      record {
        job = job;
        touched = None;
        is = rw (le-leb (height t.frames + 1) m.constants.stack_size (omega (arith, room, r.last, height_room [] x old.core old.regs old.critical plan s m t h.holds runs))) refl;
        present = tt;
        stands = subst L (sym (no_objects_gone plan m job refl)) made;
        changed = λ i. ⊎_elim (λ e. inl e) (λ e. inr (inl e)) (written old.core old.regs (old.regs.s + 1) word (omega (arith, r.mark, r.top), omega (arith, r.last, room)) i);
      }
