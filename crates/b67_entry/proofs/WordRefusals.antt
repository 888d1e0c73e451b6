-- Which references may not be returned, by their words.
use Rattle.std.proofs.Common.{◌≡◌, ◌≢◌, ℕ, ◌+◌, ◌-◌, ◌*◌, ◌<◌, ◌≤◌, ◌^◌, List, ◌∷◌, Option, Some, None, refl, sym, ◌∙◌, ap, arith, inl, inr, subst}
use Rattle.std.proofs.lemmas.Bool.Decides.{eqb_tells}
use Rattle.std.proofs.lemmas.Option.{same_Some, none-some}
use Rattle.b67_word.specs.Tagged.{Tagged}
use Rattle.b67_word.specs.declared.faults.Fault.TheVariants.{InvalidOperand, Uplevel}
use Rattle.b67_ctl.specs.Layout.{sirw_word, IsSirw}
use Rattle.b67_ctl.specs.declared.references.Sirw.{Sirw}
use Rattle.b67_lemmas.specs.Lists.{Has}
use Rattle.b67_lemmas.proofs.Members.{keyed_has}
use Rattle.b67_model.specs.Words as Words
use Rattle.b67_model.specs.Common.{Word, Operand, Name, Ref, Row, Element, Original, Proc, Intrinsic, Frame, Task, SessionJob, height, top, returnable, number_of, Session, IsSegment, WordInOrder, reach_of}
use Rattle.b67_layout.specs.Common.{IsInOrderButCounts, Placement, spot_in, outer_spots, shape, activations, stack_of_task, machine_view, IsRunning, RepresentsSession}
use Rattle.b67_stack.specs.declared.Cpu.{Cpu}
use Rattle.b67_stack.specs.Common.{Fits, StackPlace, RunsOn, Storage}
use Rattle.b67_stack.proofs.Slots.{running_slot}
use Rattle.b67_layout.proofs.Common.{height-is, running_in_order, slot_is, runs_here}
use Rattle.b67_refer.proofs.Scenes.{member_in_order}
use Rattle.b67_layout.proofs.Apart.{spot_apart, spot_top, spot_fits}
use Rattle.b67_entry.specs.Words.{IsTopWord, Refuses}

-- the mark at F lies in the stack
pub base_low : (x : Storage) (cpu : Cpu) (plan : Placement) (s : Session) (m : SessionJob) (t : Task) → RepresentsSession x cpu plan s → IsRunning plan s.jobs m t → cpu.regs.bosr ≤ cpu.regs.f
base_low x cpu plan s m t h runs =
    let r = running_slot x cpu.core cpu.regs (machine_view plan s.jobs) cpu.regs.slot (stack_of_task plan m.constants.number m.progress.job plan.running t) h.holds.memory (runs_here x cpu plan s m t h runs) in
    omega (arith, r.first, r.mark)

module _ (x : Storage) (cpu : Cpu) (plan : Placement) (s : Session) (m : SessionJob) (t : Task) (o : IsInOrderButCounts s) (h : RepresentsSession x cpu plan s) (runs : IsRunning plan s.jobs m t) (v : Word) (w : Tagged) (b : IsTopWord x plan m t cpu v w) where
  abbrev spot : ℕ → StackPlace
  spot = spot_in plan.running (outer_spots plan m.constants.number m.progress.job t.critical t.parents) (b.frame ∷ b.below)

  id_is : (top t.frames).identity ≡ b.frame.identity
  id_is = ap (λ (fs : List Frame). (top fs).identity) b.frames

  in_m : Has s.jobs m
  in_m = (keyed_has number_of m.constants.number s.jobs m runs.member).0

  in_t : Has m.progress.job.tasks t
  in_t = (keyed_has (λ (u : Task). u.number) t.number m.progress.job.tasks t runs.task).0

  -- the displacement of the mark at F
  pub place_is : cpu.regs.f - cpu.regs.bosr ≡ height b.below
  place_is =
      let on = subst (λ (fs : List Frame). RunsOn (machine_view plan s.jobs) cpu.regs.slot (activations plan m.constants.number m.progress.job plan.running (outer_spots plan m.constants.number m.progress.job t.critical t.parents) fs)) b.frames (runs_here x cpu plan s m t h runs) in
      grind (arith, height-is)

  -- the fields of a reference in the top frame
  abbrev fields : ℕ → ℕ → Sirw
  fields g offset = record { stack = (spot g).stack; disp = (spot g).disp; offset = offset }

  fields_fit : (g offset : ℕ) → offset < 2 ^ 12 → IsSirw (fields g offset)
  fields_fit g offset small =
      let i = member_in_order s m o in_m in
      let order = running_in_order plan s m t o runs in
      let low : height (b.frame ∷ b.below) ≤ m.constants.stack_size = subst (λ (fs : List Frame). height fs ≤ m.constants.stack_size) b.frames order.1.not_higher in
      let f = spot_fits plan s.jobs m t b.frame b.below h.holds.fits.rows h.holds.fits.few order.0.tasks in_m in_t plan.running runs.slot (b.frame ∷ b.below) g i.few order.0.unchanging.stack_high low in
      record { stack = f.0; disp = f.1; offset = omega arith }

  abbrev Known : Option Sirw → Type 0
  Known found = (r : Sirw) → IsSirw r → w ≡ sirw_word r → found ≡ Some r

  tag_apart : {A : Type 0} (u : Tagged) → w.tag ≡ 1 → w ≡ u → u.tag ≢ 1 → A
  tag_apart u one is ne = absurd (ne (sym (ap (λ (z : Tagged). z.tag) is) ∙ one))

  -- no stuffed reference was read: a couple
  pub couple_refused : w.tag ≡ 1 → (found : Option Sirw) → Known found → found ≡ None → Refuses (Some InvalidOperand) v (returnable m.progress.job (top t.frames).identity v)
  couple_refused one found known none = by v b.fits b.order where
    by : (u : Word) → Fits x.held (shape plan m.constants.number m.progress.job spot u) cpu.regs.s w → WordInOrder (IsSegment m.constants) m.progress.job.arrays (reach_of m.progress.job t) b.frame.identity u → Refuses (Some InvalidOperand) u (returnable m.progress.job (top t.frames).identity u)
    by (Name couple) fit g = refl
    by (Original a) fit g = refl
    by (Ref a offset) fit g = absurd (none-some (fields a offset) (sym none ∙ known (fields a offset) (fields_fit a offset g.1) fit.0))
    by (Operand bits) fit g = tag_apart _ one fit.0 (λ e. omega (arith, e))
    by (Row a) fit g = tag_apart _ one fit.is (λ e. omega (arith, e))
    by (Element a index) fit g = tag_apart _ one fit.is (λ e. omega (arith, e))
    by (Proc segment level place) fit g = tag_apart _ one fit.0 (λ e. omega (arith, e))
    by (Intrinsic number) fit g = absurd g
    by (Words.Segment number) fit g = absurd g

  -- a reference into the top frame
  pub own_refused : w.tag ≡ 1 → (found : Option Sirw) (r : Sirw) → Known found → found ≡ Some r → w ≡ sirw_word r → r.stack ≡ cpu.regs.slot → r.disp ≡ cpu.regs.f - cpu.regs.bosr
      → Refuses (Some Uplevel) v (returnable m.progress.job (top t.frames).identity v)
  own_refused one found r known is word stack disp = by v b.fits b.order where
    by_id : (g offset : ℕ) → g ≡ (top t.frames).identity → Refuses (Some Uplevel) (Ref g offset) (returnable m.progress.job (top t.frames).identity (Ref g offset))
    by_id g offset e = elim (eqb_tells g (top t.frames).identity) [ inl q ↦ rw q.0 refl | inr q ↦ absurd (q.1 e) ]

    by : (u : Word) → Fits x.held (shape plan m.constants.number m.progress.job spot u) cpu.regs.s w → WordInOrder (IsSegment m.constants) m.progress.job.arrays (reach_of m.progress.job t) b.frame.identity u → Refuses (Some Uplevel) u (returnable m.progress.job (top t.frames).identity u)
    by (Ref g offset) fit q =
        let e : r ≡ fields g offset = same_Some r (fields g offset) (sym is ∙ known (fields g offset) (fields_fit g offset q.1) fit.0) in
        elim (eqb_tells g b.frame.identity) [
          | inl z ↦ by_id g offset (z.1 ∙ sym id_is)
          | inr z ↦ absurd (spot_apart plan s.jobs m t b.frame b.below h.holds.fits.rows h.holds.fits.few (running_in_order plan s m t o runs).0.tasks in_m in_t plan.running runs.slot g z.1
              (sym (ap (λ (y : Sirw). y.stack) e) ∙ stack ∙ slot_is x cpu plan s m t h runs) (sym (ap (λ (y : Sirw). y.disp) e) ∙ disp ∙ place_is))
        ]
    by (Name couple) fit g = absurd (let e : couple ≡ 2 ^ 46 + r.stack * 2 ^ 36 + r.disp * 2 ^ 20 + r.offset = ap (λ (z : Tagged). z.bits) (sym fit.0 ∙ word) in let z : ⊥ = omega (arith, e, g) in z)
    by (Original a) fit g = tag_apart _ one fit.1.is (λ e. omega (arith, e))
    by (Operand bits) fit g = tag_apart _ one fit.0 (λ e. omega (arith, e))
    by (Row a) fit g = tag_apart _ one fit.is (λ e. omega (arith, e))
    by (Element a index) fit g = tag_apart _ one fit.is (λ e. omega (arith, e))
    by (Proc segment level place) fit g = tag_apart _ one fit.0 (λ e. omega (arith, e))
    by (Intrinsic number) fit g = absurd g
    by (Words.Segment number) fit g = absurd g

  -- another one
  pub other_passes : w.tag ≡ 1 → (found : Option Sirw) (r : Sirw) → Known found → found ≡ Some r → w ≡ sirw_word r → (r.stack ≡ cpu.regs.slot → r.disp ≡ cpu.regs.f - cpu.regs.bosr → ⊥)
      → Refuses None v (returnable m.progress.job (top t.frames).identity v)
  other_passes one found r known is word apart = by v b.fits b.order where
    by : (u : Word) → Fits x.held (shape plan m.constants.number m.progress.job spot u) cpu.regs.s w → WordInOrder (IsSegment m.constants) m.progress.job.arrays (reach_of m.progress.job t) b.frame.identity u → Refuses None u (returnable m.progress.job (top t.frames).identity u)
    by (Ref g offset) fit q =
        let e : r ≡ fields g offset = same_Some r (fields g offset) (sym is ∙ known (fields g offset) (fields_fit g offset q.1) fit.0) in
        elim (eqb_tells g (top t.frames).identity) [
          | inl z ↦
              let seat : spot g ≡ record { stack = plan.running; disp = height b.below } = ap spot (z.1 ∙ id_is) ∙ spot_top plan s.jobs m t b.frame b.below h.holds.fits.rows h.holds.fits.few (running_in_order plan s m t o runs).0.tasks in_m in_t plan.running runs.slot in
              absurd (apart (ap (λ (y : Sirw). y.stack) e ∙ ap (λ (y : StackPlace). y.stack) seat ∙ sym (slot_is x cpu plan s m t h runs)) (ap (λ (y : Sirw). y.disp) e ∙ ap (λ (y : StackPlace). y.disp) seat ∙ sym place_is))
          | inr z ↦ rw z.0 refl
        ]
    by (Name couple) fit g = absurd (let e : couple ≡ 2 ^ 46 + r.stack * 2 ^ 36 + r.disp * 2 ^ 20 + r.offset = ap (λ (z : Tagged). z.bits) (sym fit.0 ∙ word) in let z : ⊥ = omega (arith, e, g) in z)
    by (Original a) fit g = tag_apart _ one fit.1.is (λ e. omega (arith, e))
    by (Operand bits) fit g = refl
    by (Row a) fit g = tag_apart _ one fit.is (λ e. omega (arith, e))
    by (Element a index) fit g = tag_apart _ one fit.is (λ e. omega (arith, e))
    by (Proc segment level place) fit g = refl
    by (Intrinsic number) fit g = absurd g
    by (Words.Segment number) fit g = absurd g
