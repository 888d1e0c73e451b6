-- Two live frames of a job have different addresses, whichever task sees them.
use Rattle.std.proofs.Common.{◌≡◌, ◌≢◌, ℕ, ◌+◌, ◌*◌, ◌/◌, ◌%◌, ◌<◌, ◌≤◌, List, [], ◌∷◌, Some, refl, sym, ◌∙◌, ap, arith, false, ◌==◌, inl, inr, ⊎_elim, subst}
use Rattle.std.proofs.lemmas.Bool.{cases_eq, eq-eqb, eqb-true, ne_eqb}
use Rattle.std.proofs.lemmas.Nat.{div-mul-add, mod-mul-add}
use Rattle.std.proofs.lemmas.Option.{same_Some}
use Rattle.b67_lemmas.specs.Lists.{Has}
use Rattle.b67_lemmas.proofs.Members.{all_in, keyed_has}
use Rattle.b67_model.specs.Keyed.{keyed}
use Rattle.b67_model.specs.Common.{Frame, Task, SessionJob, height, number_of, Session, identities, frames_named, reach_of, NamesEntered}
use Rattle.b67_stack.specs.declared.Cpu.{Cpu}
use Rattle.b67_stack.specs.Represents.{Storage}
use Rattle.b67_layout.specs.Common.{IsInOrderButCounts, Placement, slot_of, spots, address_of, IsRunning, frame_address, RepresentsSession}
use Rattle.b67_layout.proofs.Rows.{task_row}
use Rattle.b67_layout_step.proofs.Frames.{frames_under}
use Rattle.b67_layout_step.proofs.Owners.{OwnerAt, owner, others_none}
use Rattle.b67_refer.specs.RunningContext.{LiveContext}
use Rattle.b67_refer.proofs.Scenes.{member_in_order}
use Rattle.b67_refer.proofs.Slots.{live_slot}
use Rattle.b67_refer.proofs.Bases.{dictionary_is, dictionary_low}
use Rattle.b67_refer.proofs.Marks.{slot_address}
use Rattle.b67_refer.proofs.Unders.{high_address, is_task}

-- the frames under one are lower than the stack, and each frame has its own height
under_low : (id : ℕ) (fs : List Frame) → Has (identities fs) id → height (frames_under id fs) < height fs
under_low id [] h = absurd h
under_low id (f ∷ fs) h = grind (arith, under_low id fs)

there : (f : Frame) (fs : List Frame) (id : ℕ) → (f.identity == id) ≡ false → Has (identities (f ∷ fs)) id → Has (identities fs) id
there f fs id t h = grind arith

under_same : (fs : List Frame) (a b : ℕ) → Has (identities fs) a → Has (identities fs) b → height (frames_under a fs) ≡ height (frames_under b fs) → a ≡ b
under_same [] a b ha hb e = absurd ha
under_same (f ∷ fs) a b ha hb e = grind (arith, eqb-true, under_low, there, under_same fs a b)

named_once : (fs : List Frame) (id : ℕ) → Has (identities fs) id → 1 ≤ frames_named id fs
named_once [] id h = absurd h
named_once (f ∷ fs) id h = grind (arith, named_once fs id)

-- a slot and a height below its size, from their sum
parted : (k l size a b : ℕ) → a < size → b < size → k * size + a ≡ l * size + b → (k ≡ l) × (a ≡ b)
parted k l size a b la lb e = (
  sym (div-mul-add k size a la) ∙ ap (λ (n : ℕ). n / size) e ∙ div-mul-add l size b lb,
  sym (mod-mul-add k size a la) ∙ ap (λ (n : ℕ). n % size) e ∙ mod-mul-add l size b lb,
)

module _ (x : Storage) (cpu : Cpu) (plan : Placement) (s : Session) (m : SessionJob) (t : Task) (o : IsInOrderButCounts s) (h : RepresentsSession x cpu plan s) (runs : IsRunning plan s.jobs m t) where
  has_m : Has s.jobs m
  has_m = (keyed_has number_of m.constants.number s.jobs m runs.member).0

  abbrev Live : Task → Type 0
  Live u = keyed (λ (v : Task). v.number) u.number m.progress.job.tasks ≡ Some u

  abbrev eye : (u : Task) → Live u → LiveContext cpu.core cpu.regs
  eye u live = record {
    left = [];
    storage = x;
    marks = cpu.critical;
    plan = plan;
    session = s;
    member = m;
    task = u;
    ordered = member_in_order s m o (keyed_has (λ y. y.constants.number) m.constants.number s.jobs m runs.member).0;
    holds = h.holds;
    live = live;
    runner = t;
    running = runs;
  }

  abbrev Owner : Task → ℕ → Type 0
  Owner u f = OwnerAt plan m.constants m.progress.job (member_in_order s m o (keyed_has (λ y. y.constants.number) m.constants.number s.jobs m runs.member).0).tasks (spots plan m.constants.number m.progress.job u) f

  owned : (u : Task) → Live u → (f : ℕ) → NamesEntered (reach_of m.progress.job u) f → 1 < f → Owner u f
  owned u live f names high = owner plan m.constants m.progress.job (member_in_order s m o (keyed_has (λ y. y.constants.number) m.constants.number s.jobs m runs.member).0).tasks u live f names high

  address_is : (u : Task) (f : ℕ) (p : Owner u f) → frame_address plan m u f ≡ plan.stacks + slot_of plan m.constants.number p.task.number * plan.size + height (frames_under f p.task.frames)
  address_is u f p =
      ap (address_of plan) p.spot
      ∙ slot_address cpu.core cpu.regs (eye t runs.task) (slot_of plan m.constants.number p.task.number) (height (frames_under f p.task.frames)) (live_slot plan s.jobs m p.task h.holds.fits.rows runs.member p.there).0

  low_height : (u : Task) (f : ℕ) (p : Owner u f) → height (frames_under f p.task.frames) < plan.size
  low_height u f p = grind (arith, under_low, has_m, all_in, keyed_has)

  same_task : (a b : Task) → Live a → Live b → a.number ≡ b.number → a ≡ b
  same_task a b la lb e = same_Some a b (sym la ∙ ap (λ (n : ℕ). keyed (λ (v : Task). v.number) n m.progress.job.tasks) e ∙ lb)

  in_task : (a : Task) → Live a → Has m.progress.job.tasks a
  in_task a la = (keyed_has (λ (v : Task). v.number) a.number m.progress.job.tasks a la).0

  same_slot : (a b : Task) → Live a → Live b → slot_of plan m.constants.number a.number ≡ slot_of plan m.constants.number b.number → a ≡ b
  same_slot a b la lb e =
      let fit = h.holds.fits.rows in
      let ra = task_row plan s.jobs m a fit has_m (in_task a la) in
      let rb = task_row plan s.jobs m b fit has_m (in_task b lb) in
      let same = fit.differ ra.row rb.row ra.among rb.among (sym ra.slot ∙ e ∙ rb.slot) in
      same_task a b la lb (sym ra.number ∙ ap (λ z. z.task) same ∙ rb.number)

  -- of one address there is one frame
  pub same_frame : (u v : Task) (lu : Live u) (lv : Live v) (f g : ℕ) → NamesEntered (reach_of m.progress.job u) f → NamesEntered (reach_of m.progress.job v) g → 1 < f → 1 < g → frame_address plan m u f ≡ frame_address plan m v g → f ≡ g
  same_frame u v lu lv f g nf ng hf hg e =
      let p = owned u lu f nf hf in
      let q = owned v lv g ng hg in
      let both = sym (address_is u f p) ∙ e ∙ address_is v g q in
      let parts = parted (slot_of plan m.constants.number p.task.number) (slot_of plan m.constants.number q.task.number) plan.size (height (frames_under f p.task.frames)) (height (frames_under g q.task.frames)) (low_height u f p) (low_height v g q) (omega (arith, both)) in
      let same = same_slot p.task q.task p.there q.there parts.0 in
      grind (arith, under_same)

  -- and one frame has one address
  pub same_address : (u v : Task) (lu : Live u) (lv : Live v) (f : ℕ) → NamesEntered (reach_of m.progress.job u) f → NamesEntered (reach_of m.progress.job v) f → 1 < f → frame_address plan m u f ≡ frame_address plan m v f
  same_address u v lu lv f nu nv high =
      let p = owned u lu f nu high in
      let q = owned v lv f nv high in
      let once = (member_in_order s m o has_m).tasks.apart f in
      let same : p.task ≡ q.task = elim (cases_eq p.task.number q.task.number) [
        | inl e ↦ same_task p.task q.task p.there q.there e
        | inr ne ↦ absurd (let none = others_none m.progress.job.tasks p.task q.task f (in_task p.task p.there) (in_task q.task q.there) ne p.has once in let one = named_once q.task.frames f q.has in omega (arith, none, one))
      ] in
      address_is u f p ∙ ap (λ (z : Task). plan.stacks + slot_of plan m.constants.number z.number * plan.size + height (frames_under f z.frames)) same ∙ sym (address_is v f q)

  -- the test of addresses is that of identities
  pub tells_frames : (u v : Task) (lu : Live u) (lv : Live v) (f g : ℕ) → NamesEntered (reach_of m.progress.job u) f → 1 < f → NamesEntered (reach_of m.progress.job v) g → (frame_address plan m v g == frame_address plan m u f) ≡ (f == g)
  tells_frames u v lu lv f g nf high ng = elim (cases_eq f g) [
    | inl e ↦
        (let P : ℕ → Type 0 = λ i. NamesEntered (reach_of m.progress.job v) i in
        let at : frame_address plan m v g ≡ frame_address plan m u f = ap (frame_address plan m v) (sym e) ∙ same_address v u lv lu f (subst P (sym e) ng) nf high in
        eq-eqb (frame_address plan m v g) (frame_address plan m u f) at ∙ sym (eq-eqb f g e))
    | inr ne ↦
        (let no : frame_address plan m v g ≢ frame_address plan m u f = λ e.
        (let up = (high_address cpu.core cpu.regs (eye u lu) f nf high).0 in
        let first = h.holds.memory.slots.laid.first in
        let down = dictionary_low cpu.core cpu.regs (eye u lu) in
        let dict = dictionary_is cpu.core cpu.regs (eye u lu) in
        let own = is_task cpu.core cpu.regs (eye v lv) g (frame_address plan m v g) ng refl (λ z. omega (arith, z, e, up, first)) (λ z. omega (arith, z, e, up, down, dict)) in
        ne (same_frame u v lu lv f g nf ng high own (sym e))) in
        ne_eqb (frame_address plan m v g) (frame_address plan m u f) no ∙ sym (ne_eqb f g ne))
  ]
