-- Where a live task's stack lies, and its parts from a frame down.
use Rattle.std.proofs.Common.{◌≡◌, ℕ, suc, ◌+◌, ◌*◌, ◌<◌, ◌≤◌, List, [], ◌∷◌, map, Some, refl, sym, ◌∙◌, ap, arith, Bool, true, false, ◌==◌, ◌⊎◌, ⊎_elim, inl, inr, subst}
use Rattle.std.specs.Prelude.{if◌then◌else◌}
use Rattle.std.specs.List.{slice_get}
use Rattle.std.proofs.lemmas.Bool.{eq-eqb, eqb-true}
use Rattle.b67_word.specs.Tagged.{Tagged}
use Rattle.b67_ctl.specs.declared.registers.Regs.{Regs}
use Rattle.b67_ctl.specs.declared.marks.Mscw.{Mscw}
use Rattle.b67_ctl.specs.Layout.{mscw_word, IsMscw, IsToscw}
use Rattle.b67_model.specs.Keyed.{keyed}
use Rattle.b67_model.specs.Common.{Frame, Task, SessionJob, height, number_of, from_frame}
use Rattle.b67_stack.specs.Common.{Locations, Fits, LieDownward, StackPlace, Head, Activation, IsStack, HeadsFit, stack_words, mark_place, mark_of, headed, words, toscw_of, Slot, Running, Waiting, stack_of, SlotFits, MachineView, RepresentsSlot, RepresentsRunning}
use Rattle.b67_stack.proofs.Lies.{Lie-under}
use Rattle.b67_stack.proofs.Heights.{words-length}
use Rattle.b67_stack.proofs.Tops.{level-small, mark_high}
use Rattle.b67_layout.specs.Common.{Placement, Slotted, slot_of, spot_in, outer_spots, shape, head, activations, stack_of_task, slot_with, slot_in, slot_by, slot_at, machine_view, RowsFit, with_objects}
use Rattle.b67_layout.proofs.Common.{finds, task_row, height-is}
use Rattle.b67_refer.specs.RunningContext.{LiveContext, RunsInSlot}
use Rattle.b67_refer.specs.LiveCells.{IsTop}
use Rattle.b67_lemmas.proofs.Members.{keyed_has}

-- the slot of a live task, by its number
pub live_slot : (plan : Placement) (jobs : List SessionJob) (m : SessionJob) (u : Task) → RowsFit plan jobs → keyed number_of m.constants.number jobs ≡ Some m → keyed (λ (v : Task). v.number) u.number m.progress.job.tasks ≡ Some u
    → (slot_of plan m.constants.number u.number < plan.peak) × (slot_at plan jobs (slot_of plan m.constants.number u.number) ≡ slot_with plan (slot_of plan m.constants.number u.number) m.constants.number m.progress.job (Some u))
live_slot plan jobs m u fit km ku =
    let j = m.constants.number in
    let k = slot_of plan j u.number in
    let b = task_row plan jobs m u fit (keyed_has number_of j jobs m km).0 (keyed_has (λ (v : Task). v.number) u.number m.progress.job.tasks u ku).0 in
    let f = finds (λ (q : Slotted). q.slot == k) plan.rows b.row b.among (eq-eqb b.row.slot k (sym b.slot)) in
    let same : f.item ≡ b.row = fit.differ f.item b.row f.among b.among (eqb-true f.item.slot k f.passes ∙ b.slot) in (
      subst (λ (n : ℕ). n < plan.peak) (sym b.slot) (fit.below b.row b.among),
      ap (slot_by plan jobs k) (f.found ∙ ap Some same)
          ∙ ap (λ (i : ℕ). slot_in plan k i b.row.task (keyed number_of i jobs)) b.job
          ∙ ap (slot_in plan k j b.row.task) km
          ∙ ap (λ (i : ℕ). slot_with plan k j m.progress.job (keyed (λ (v : Task). v.number) i m.progress.job.tasks)) b.number
          ∙ ap (slot_with plan k j m.progress.job) ku,
    )

-- what lies under a head, and its mark
pub head_lies : (R : Locations) (core : List Tagged) (from k : ℕ) (h : Head) (below : List Activation) → LieDownward (Fits R) core from (headed k h below (words k below))
    → LieDownward (Fits R) core from (words k below) × (slice_get core (from + stack_words below) ≡ Some (mscw_word (mark_of k h below)))
head_lies R core from k h below l = grind (arith, words-length)

module _ (core : List Tagged) (r : Regs) (a : LiveContext core r) where
  -- the address of a slot
  abbrev pub base : ℕ → ℕ
  base k = a.plan.stacks + k * a.plan.size

  -- a task's frames on slot k as activation records
  abbrev pub acts : ℕ → (ℕ → StackPlace) → List Frame → List Activation
  acts k outer fs = activations a.plan a.member.constants.number a.member.progress.job k outer fs

  -- frames from one down in slot k, whose stack's top word has address top. Over them lies nothing, or a mark
  pub record Part (k : ℕ) (outer : ℕ → StackPlace) (top : ℕ) (fs : List Frame) : Type 0 where
    pub lies : LieDownward (Fits a.storage.held) core (suc (base k)) (words k (acts k outer fs))
    pub heads : HeadsFit (acts k outer fs)
    pub low : base k + stack_words (acts k outer fs) ≤ top
    pub room : top < base k + a.plan.size
    pub above : (base k + stack_words (acts k outer fs) ≡ top) ⊎ ((w : Tagged) × (slice_get core (suc (base k) + stack_words (acts k outer fs)) ≡ Some w) × (w.tag ≡ 3))
    pub last : r.slot ≡ k → ((base k + stack_words (acts k outer fs) ≡ top) × (r.f ≡ base k + mark_place (acts k outer fs))) ⊎ (base k + stack_words (acts k outer fs) < r.f)

  -- the frames below
  pub drop : (k : ℕ) (outer : ℕ → StackPlace) (top : ℕ) (f : Frame) (fs : List Frame) → Part k outer top (f ∷ fs) → Part k outer top fs
  drop k outer top f fs p =
      let l = head_lies a.storage.held core (suc (base k)) k (head (spot_in k outer fs) f.standing) (acts k outer fs) (Lie-under (Fits a.storage.held) core (suc (base k)) (map (shape a.plan a.member.constants.number a.member.progress.job (spot_in k outer (f ∷ fs))) f.cells) (headed k (head (spot_in k outer fs) f.standing) (acts k outer fs) (words k (acts k outer fs))) p.lies) in
      record {
        lies = l.0;
        heads = p.heads.1;
        low = omega (arith, p.low);
        room = p.room;
        above = inr (mscw_word (mark_of k (head (spot_in k outer fs) f.standing) (acts k outer fs)), l.1, refl);
        last = λ e. inr (⊎_elim (λ z. (let m = z.1 in omega (arith, m))) (λ z. omega (arith, z)) (p.last e));
      }

  pub part_from : (k : ℕ) (outer : ℕ → StackPlace) (top c : ℕ) (fs : List Frame) → Part k outer top fs → Part k outer top (from_frame c fs)
  part_from k outer top c [] p = p
  part_from k outer top c (f ∷ fs) p = grind (arith, part_from k outer top c fs (drop k outer top f fs p))

  -- the mark of the top frame of a part
  abbrev pub mark_in : ℕ → (ℕ → StackPlace) → Frame → List Frame → Mscw
  mark_in k outer f fs = mark_of k (head (spot_in k outer fs) f.standing) (acts k outer fs)

  pub part_mark : (k : ℕ) (outer : ℕ → StackPlace) (top : ℕ) (f : Frame) (fs : List Frame) → Part k outer top (f ∷ fs)
      → IsMscw (mark_in k outer f fs) × (slice_get core (base k + height fs) ≡ Some (mscw_word (mark_in k outer f fs)))
  part_mark k outer top f fs p =
      let l = head_lies a.storage.held core (suc (base k)) k (head (spot_in k outer fs) f.standing) (acts k outer fs) (Lie-under (Fits a.storage.held) core (suc (base k)) (map (shape a.plan a.member.constants.number a.member.progress.job (spot_in k outer (f ∷ fs))) f.cells) (headed k (head (spot_in k outer fs) f.standing) (acts k outer fs) (words k (acts k outer fs))) p.lies) in
      grind (arith, height-is)

  -- all frames of a live task
  pub record Whole (u : Task) : Type 0 where
    pub top : ℕ
    pub top_is : IsTop a (slot_of a.plan a.member.constants.number u.number) top
    pub top_words : top ≡ base (slot_of a.plan a.member.constants.number u.number) + stack_words (acts (slot_of a.plan a.member.constants.number u.number) (outer_spots a.plan a.member.constants.number a.member.progress.job u.critical u.parents) u.frames)
    pub mark_is : top_is.mark ≡ base (slot_of a.plan a.member.constants.number u.number) + mark_place (acts (slot_of a.plan a.member.constants.number u.number) (outer_spots a.plan a.member.constants.number a.member.progress.job u.critical u.parents) u.frames)
    pub part : Part (slot_of a.plan a.member.constants.number u.number) (outer_spots a.plan a.member.constants.number a.member.progress.job u.critical u.parents) top u.frames

  -- slot k holds the whole stack of a live task, with this top
  pub record Held (k top : ℕ) : Type 0 where
    pub holder : Task
    pub live : keyed (λ (v : Task). v.number) holder.number a.member.progress.job.tasks ≡ Some holder
    pub slot : k ≡ slot_of a.plan a.member.constants.number holder.number
    pub top_is : IsTop a k top

  by_slot : (k : ℕ) (stack : List Activation) (b : Bool) → k < a.plan.peak → (let y = if b then Running stack else Waiting stack in
      RepresentsSlot core r (with_objects a.left (machine_view a.plan a.session.jobs)) k y → SlotFits (with_objects a.left (machine_view a.plan a.session.jobs)) k y
      → LieDownward (Fits a.storage.held) core (suc (base k)) (words k (stack_of y))
      → IsStack a.plan.size stack × LieDownward (Fits a.storage.held) core (suc (base k)) (words k stack) × ((t : IsTop a k (base k + stack_words stack)) × (t.mark ≡ base k + mark_place stack)) × (r.slot ≡ k → r.f ≡ base k + mark_place stack))
  by_slot k stack true used s f l = (f.0, l, (record { used = used; mark = base k + mark_place stack; by = inl (s.slot, s.top, s.mark) }, refl), λ e. s.mark)
  by_slot k stack false used s f l = (f.0, l, (record { used = used; mark = base k + mark_place stack; by = inr (s.0, (toscw_of stack, toscw_fits, s.1, refl, refl)) }, refl), λ e. absurd (s.0 e)) where
    toscw_fits : IsToscw (toscw_of stack)
    toscw_fits =
        let small = a.holds.memory.slots.laid.room in
        record { s = omega (arith, f.0.fits, small); level = level-small stack f.0.heads; f = omega (arith, mark_high stack, f.0.fits, small) }

  pub whole : (u : Task) → keyed (λ (v : Task). v.number) u.number a.member.progress.job.tasks ≡ Some u → Whole u
  whole u ku =
      let k = slot_of a.plan a.member.constants.number u.number in
      let stack = stack_of_task a.plan a.member.constants.number a.member.progress.job k u in
      let s = live_slot a.plan a.session.jobs a.member u a.holds.fits.rows a.running.member ku in
      let p : MachineView = with_objects a.left (machine_view a.plan a.session.jobs) in
      let S : Slot → Type 0 = λ y. RepresentsSlot core r p k y in
      let F : Slot → Type 0 = λ y. SlotFits p k y in
      let L : Slot → Type 0 = λ y. LieDownward (Fits a.storage.held) core (suc (base k)) (words k (stack_of y)) in
      let b = by_slot k stack (k == a.plan.running) s.0 (subst S s.1 (a.holds.memory.slots.slots k s.0)) (subst F s.1 (a.holds.memory.slots.laid.slots k s.0)) (subst L s.1 (a.holds.memory.stacks k s.0)) in
      record {
        top = base k + stack_words stack;
        top_is = b.2.0;
        top_words = refl;
        mark_is = b.2.1;
        part = record { lies = b.1; heads = b.0.heads; low = omega arith; room = omega (arith, b.0.fits); above = inl refl; last = λ e. inl (refl, b.3 e) };
      }

  -- the registers of the running task
  pub registers : RepresentsRunning r (with_objects a.left (machine_view a.plan a.session.jobs)) (slot_of a.plan a.member.constants.number a.runner.number)
      (stack_of_task a.plan a.member.constants.number a.member.progress.job (slot_of a.plan a.member.constants.number a.runner.number) a.runner)
  registers =
      let k = slot_of a.plan a.member.constants.number a.runner.number in
      let stack = stack_of_task a.plan a.member.constants.number a.member.progress.job k a.runner in
      let s = live_slot a.plan a.session.jobs a.member a.runner a.holds.fits.rows a.running.member a.running.task in
      grind (arith, eq-eqb)

  pub has_slot : RunsInSlot r
  has_slot =
      let g = registers in
      let k = slot_of a.plan a.member.constants.number a.runner.number in
      let size : r.stack_size ≡ a.plan.size = a.holds.memory.slots.regs.size in
      let stacks : r.stacks ≡ a.plan.stacks = a.holds.memory.slots.regs.stacks in
      let first : r.stacks + r.slot * r.stack_size ≡ a.plan.stacks + k * a.plan.size =
      ap (λ n. n + r.slot * r.stack_size) stacks ∙ ap (λ n. a.plan.stacks + n * r.stack_size) g.slot ∙ ap (λ n. a.plan.stacks + k * n) size in
      let own : a.member.constants.stack_size ≡ a.plan.size = a.holds.fits.sizes a.member (keyed_has (λ (m : SessionJob). m.constants.number) a.member.constants.number a.session.jobs a.member a.running.member).0 in
      grind arith
