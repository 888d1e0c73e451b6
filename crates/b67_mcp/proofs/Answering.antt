-- The machine where a call was cut, and then with a word on the frame below.
use Rattle.std.proofs.Common.{◌≡◌, ◌≢◌, ℕ, ◌+◌, ◌<◌, ◌≤◌, ℤ, List, [], ◌∷◌, length, refl, sym, ap, arith, inl, inr, ◌⊎◌, subst, slice_set}
use Rattle.std.specs.List.{slice_get}
use Rattle.b67_core.proofs.Writes.{slice_get-set_other}
use Rattle.b67_word.specs.Tagged.{Tagged}
use Rattle.b67_word.specs.declared.couples.Place.{Place}
use Rattle.b67_model.specs.Common.{Word, Frame, Task, SessionJob, height, top, below_top, with_top_cells, answered, Session}
use Rattle.b67_model.specs.State as State
use Rattle.b67_layout.specs.Common.{IsInOrderButCounts, Placement, outer_spots, machine_view, IsRunning, RepresentsSession, here, with_job, IsInStack}
use Rattle.b67_stack.specs.declared.Cpu.{Cpu}
use Rattle.b67_stack.specs.Common.{Fits, Storage, pushed, MayPush}
use Rattle.b67_stack.proofs.Slots.{running_fits}
use Rattle.b67_layout.proofs.Common.{change-has, member-same, height-is, fresh, IsFree, with_job-twice}
use Rattle.b67_mcp.specs.Calls.{MayCut, job_cut}
use Rattle.b67_mcp.proofs.Cuts.{cut_of}
use Rattle.b67_mcp.specs.Answered.{job_answered}
use Rattle.b67_mcp.proofs.Pushed.{stack, shaped, on_slot, registers, stands_pushed}
use Rattle.b67_lemmas.proofs.Members.{change_twice, change_found, keyed_has}

-- the task and the job's member without the call
abbrev pub task_cut : SessionJob → Task → Place → Task
task_cut m t q = answered (here m t q) []

abbrev pub member_cut : SessionJob → Task → Place → SessionJob
member_cut m t q = record m { progress = record m.progress { job = job_cut m t q } }

-- a word on the frame below is no higher than the call
pub no_higher : (fs : List Frame) (w : Word) → 1 ≤ length (top fs).cells → height (with_top_cells (below_top fs) (w ∷ (top (below_top fs)).cells)) ≤ height fs
no_higher fs w some = grind arith

-- a mark takes a word
lower : (fs : List Frame) (f : Frame) (below : List Frame) → fs ≡ f ∷ below → f.standing ≡ State.Marked → height (below_top fs) + 1 ≤ height fs
lower fs f below e marked = subst (λ (gs : List Frame). height (below_top gs) + 1 ≤ height gs) (sym e) (omega (arith, ap State.head_words marked))

module _ (x : Storage) (old mid : Cpu) (plan : Placement) (s : Session) (m : SessionJob) (t : Task) (q : Place) (o : IsInOrderButCounts s) (h : RepresentsSession x old plan s) (runs : IsRunning plan s.jobs m t) (may : MayCut m t)
    (cut : RepresentsSession x mid plan (with_job s m (job_cut m t q))) where
  pub runs_cut : IsRunning plan (with_job s m (job_cut m t q)).jobs (member_cut m t q) (task_cut m t q)
  runs_cut = record {
    member = member-same s.jobs m.constants.number (record m.progress { job = job_cut m t q }) m runs.member;
    task = change_found (λ (u : Task). u.number) t.number t (task_cut m t q) m.progress.job.tasks refl runs.task;
    slot = runs.slot;
  }

  free_cut : IsFree (job_cut m t q) m.progress.job.next_frame
  free_cut =
      let free = fresh plan s m t o runs in
      record {
        some = free.some;
        uncritical = λ u k. elim (change-has (λ (v : Task). v.number) t.number (λ (v : Task). task_cut m t q) m.progress.job.tasks t runs.task u k) [
          | inl i ↦ free.uncritical u i
          | inr e ↦ subst (λ (v : Task). v.critical ≢ m.progress.job.next_frame) (sym e) (free.uncritical t (keyed_has (λ (v : Task). v.number) t.number m.progress.job.tasks t runs.task).0)
        ];
      }

  -- there is room for a word where the mark was
  pub higher : mid.regs.s < mid.regs.losr
  higher =
      let a = cut_of plan s m t o runs may in
      let fits = (running_fits x old.core old.regs (machine_view plan s.jobs) plan.running (stack x old plan s m t h runs) h.holds.memory (on_slot x old plan s m t h runs)).0.fits in
      let g = registers x mid plan (with_job s m (job_cut m t q)) (member_cut m t q) (task_cut m t q) cut runs_cut in
      omega (
        arith,
        fits,
        g.top,
        g.last,
        lower t.frames a.f (a.next ∷ a.more) a.frames a.marked,
        height-is plan m.constants.number m.progress.job plan.running (outer_spots plan m.constants.number m.progress.job t.critical t.parents) t.frames,
        height-is plan m.constants.number (job_cut m t q) plan.running (outer_spots plan m.constants.number (job_cut m t q) t.critical t.parents) (below_top t.frames),
      )

  -- which lies in the running stack
  pub inside : IsInStack old.regs (mid.regs.s + 1)
  inside =
      let a = registers x old plan s m t h runs in
      let g = registers x mid plan (with_job s m (job_cut m t q)) (member_cut m t q) (task_cut m t q) cut runs_cut in
      (omega (arith, a.first, g.top), omega (arith, a.last, g.last, higher))

  -- no other word was changed
  pub changed : (w : Tagged) → mid.core ≡ old.core → (i : ℕ) → (slice_get (slice_set mid.core (mid.regs.s + 1) w) i ≡ slice_get old.core i) ⊎ IsInStack old.regs i
  changed w e i = grind (arith, inside, slice_get-set_other)

  -- the machine with a word that may stand there
  pub stands_answered : (v : Word) (w : Tagged) (numbers : List ℤ) → MayPush (machine_view plan (with_job s m (job_cut m t q)).jobs).objects (shaped x mid plan (with_job s m (job_cut m t q)) (member_cut m t q) (task_cut m t q) cut runs_cut v)
      → Fits x.held (shaped x mid plan (with_job s m (job_cut m t q)) (member_cut m t q) (task_cut m t q) cut runs_cut v) (mid.regs.s + 1) w
      → RepresentsSession x (pushed mid w) plan (with_job s m (job_answered m t v q numbers))
  stands_answered v w numbers push fit =
      let d = stands_pushed x mid plan (with_job s m (job_cut m t q)) (member_cut m t q) (task_cut m t q) cut runs_cut m.progress.job.next_frame v w (job_answered m t v q numbers) free_cut refl
      (sym (change_twice (λ (u : Task). u.number) t.number (task_cut m t q) (answered (here m t q) (v ∷ [])) m.progress.job.tasks refl)) higher push fit in
      subst (λ (k : Session). RepresentsSession x (pushed mid w) plan k) (with_job-twice s m (job_cut m t q) (job_answered m t v q numbers)) d
