-- Which descriptors may not be returned, by their words.
use Rattle.std.proofs.Common.{◌≡◌, ◌≢◌, ℕ, ◌+◌, ◌<◌, ◌≤◌, List, ◌∷◌, map, Some, None, refl, sym, ◌∙◌, ap, arith, true, false, not, inl, inr, subst}
use Rattle.std.proofs.lemmas.Bool.{true≢false}
use Rattle.std.proofs.lemmas.Bool.Decides.{eqb_tells}
use Rattle.b67_word.specs.Tagged.{Tagged}
use Rattle.b67_word.specs.declared.faults.Fault.TheVariants.{InvalidOperand, Uplevel}
use Rattle.b67_ctl.specs.Descriptors.{data_word, IsDataDesc}
use Rattle.b67_ctl.specs.declared.descriptors.DataDesc.{DataDesc}
use Rattle.b67_lemmas.specs.Lists.{Has, Falls}
use Rattle.b67_lemmas.proofs.Members.{keyed_falls, keyed_has}
use Rattle.b67_model.specs.Words as Words
use Rattle.b67_model.specs.Common.{Word, Operand, Name, Ref, Row, Element, Original, Proc, Intrinsic, Frame, Array, Task, Job, SessionJob, top, array, owner_of, returnable, number_of, Session, IsSegment, Known, NamesArray, WordInOrder, reach_of}
use Rattle.b67_layout.specs.Common.{IsInOrderButCounts, Placement, spot_in, outer_spots, shape, activations, machine_view, IsRunning, RepresentsSession}
use Rattle.b67_stack.specs.declared.Cpu.{Cpu}
use Rattle.b67_stack.specs.Common.{Fits, IsCopy, Copied, copy_desc, StackPlace, stack_words, RunsOn, slot_base, Storage}
use Rattle.b67_stack.proofs.Homes.{same_desc}
use Rattle.b67_layout.proofs.Common.{running_in_order, runs_here, all, homes_low, homes_high}
use Rattle.b67_refer.specs.Ends.{IsCopyOf}
use Rattle.b67_layout.proofs.LeftSettles.{under}
use Rattle.b67_entry.specs.Words.{IsTopWord, Refuses}

-- the array that a word names is found
pub found_array : (job : Job) (reach : List Known) (a : ℕ) (n : NamesArray job.arrays reach a) → Falls job.next_array (map (λ (b : Array). b.identity) job.arrays) → array job a ≡ n.item
found_array job reach a n falls = grind (arith, keyed_falls)

module _ (x : Storage) (cpu : Cpu) (plan : Placement) (s : Session) (m : SessionJob) (t : Task) (o : IsInOrderButCounts s) (h : RepresentsSession x cpu plan s) (runs : IsRunning plan s.jobs m t) (v : Word) (w : Tagged) (b : IsTopWord x plan m t cpu v w) where
  abbrev spot : ℕ → StackPlace
  spot = spot_in plan.running (outer_spots plan m.constants.number m.progress.job t.critical t.parents) (b.frame ∷ b.below)

  abbrev Fit : Word → Type 0
  Fit u = Fits x.held (shape plan m.constants.number m.progress.job spot u) cpu.regs.s w

  abbrev Ordered : Word → Type 0
  Ordered u = WordInOrder (IsSegment m.constants) m.progress.job.arrays (reach_of m.progress.job t) b.frame.identity u

  -- copies of an array, and of its element
  abbrev row_copied : ℕ → Copied
  row_copied a = record { index = None; read_only = not (array m.progress.job a).writable }

  abbrev element_copied : ℕ → ℕ → Copied
  element_copied a index = record { index = Some index; read_only = not (array m.progress.job a).writable }

  tag_apart : {A : Type 0} (u : Tagged) → w.tag ≡ 5 → w ≡ u → u.tag ≢ 5 → A
  tag_apart u five is ne = absurd (ne (sym (ap (λ (z : Tagged). z.tag) is) ∙ five))

  -- it is the word of a descriptor
  pub has_desc : w.tag ≡ 5 → (d : DataDesc) × IsDataDesc d × (w ≡ data_word d)
  has_desc five = grind arith

  -- the one that is read
  pub read_desc : w.tag ≡ 5 → (d : DataDesc) → ((e : DataDesc) → IsDataDesc e → w ≡ data_word e → d ≡ e) → IsDataDesc d × (w ≡ data_word d)
  read_desc five d read = grind (arith, has_desc)

  -- an original
  pub original_refused : w.tag ≡ 5 → (d : DataDesc) → IsDataDesc d → w ≡ data_word d → d.copy ≡ false → Refuses (Some InvalidOperand) v (returnable m.progress.job (top t.frames).identity v)
  original_refused five d fits is own = by v b.fits b.order where
    no_copy : {A : Type 0} (e : DataDesc) → IsDataDesc e → w ≡ data_word e → e.copy ≡ true → A
    no_copy e fe we copy = absurd (true≢false (sym copy ∙ sym (same_desc d e fits fe (sym is ∙ we)).copy ∙ own))

    by : (u : Word) → Fit u → Ordered u → Refuses (Some InvalidOperand) u (returnable m.progress.job (top t.frames).identity u)
    by (Original a) fit g = refl
    by (Name couple) fit g = refl
    by (Row a) fit g = no_copy (copy_desc (row_copied a) fit.number fit.present fit.address) fit.fits fit.is refl
    by (Element a index) fit g = no_copy (copy_desc (element_copied a index) fit.number fit.present fit.address) fit.fits fit.is refl
    by (Operand bits) fit g = tag_apart _ five fit.0 (λ e. omega (arith, e))
    by (Ref a offset) fit g = tag_apart _ five fit.0 (λ e. omega (arith, e))
    by (Proc segment level place) fit g = tag_apart _ five fit.0 (λ e. omega (arith, e))
    by (Intrinsic number) fit g = absurd g
    by (Words.Segment number) fit g = absurd g

  copy_of : (d : DataDesc) → IsDataDesc d → w ≡ data_word d → (c : Copied) (home : ℕ) → IsCopy x.held c home w → IsCopyOf cpu.core d home
  copy_of d fits is c home i = grind arith

  -- the array of which a word is a copy
  abbrev pub CopyOf : Word → ℕ → Type 0
  CopyOf (Row a) home = home ≡ plan.home m.constants.number a
  CopyOf (Element a index) home = home ≡ plan.home m.constants.number a
  CopyOf _ home = ⊥

  -- a copy, and its home
  pub is_copy : w.tag ≡ 5 → (d : DataDesc) → IsDataDesc d → w ≡ data_word d → d.copy ≡ true → (home : ℕ) × IsCopyOf cpu.core d home × CopyOf v home
  is_copy five d fits is copy = by v b.fits b.order where
    by : (u : Word) → Fit u → Ordered u → (home : ℕ) × IsCopyOf cpu.core d home × CopyOf u home
    by (Row a) fit g = (plan.home m.constants.number a, copy_of d fits is _ _ fit, refl)
    by (Element a index) fit g = (plan.home m.constants.number a, copy_of d fits is _ _ fit, refl)
    by (Original a) fit g = absurd (true≢false (sym copy ∙ (same_desc d fit.1.desc fits fit.1.fits (sym is ∙ fit.1.is)).copy ∙ fit.1.own))
    by (Operand bits) fit g = tag_apart _ five fit.0 (λ e. omega (arith, e))
    by (Name couple) fit g = tag_apart _ five fit.0 (λ e. omega (arith, e))
    by (Ref a offset) fit g = tag_apart _ five fit.0 (λ e. omega (arith, e))
    by (Proc segment level place) fit g = tag_apart _ five fit.0 (λ e. omega (arith, e))
    by (Intrinsic number) fit g = absurd g
    by (Words.Segment number) fit g = absurd g

  in_m : Has s.jobs m
  in_m = (keyed_has number_of m.constants.number s.jobs m runs.member).0

  id_is : (top t.frames).identity ≡ b.frame.identity
  id_is = ap (λ (fs : List Frame). (top fs).identity) b.frames

  abbrev high_under : ℕ
  high_under = stack_words (under x cpu.core cpu.regs cpu.critical plan s m t b.frame b.below o h.holds runs b.frames)

  abbrev high_all : ℕ
  high_all = stack_words (all x cpu.core cpu.regs cpu.critical plan s m t b.frame b.below o h.holds runs b.frames)

  abbrev first : ℕ
  first = slot_base (machine_view plan s.jobs) plan.running

  -- where the top frame lies
  bounds : (cpu.regs.f ≡ first + high_under + 1) × (cpu.regs.s ≡ first + high_all) × (high_all < plan.size)
  bounds =
      let on = subst (λ (fs : List Frame). RunsOn (machine_view plan s.jobs) cpu.regs.slot (activations plan m.constants.number m.progress.job plan.running (outer_spots plan m.constants.number m.progress.job t.critical t.parents) fs)) b.frames (runs_here x cpu plan s m t h runs) in
      grind arith

  -- an array that a word in order names: its owner by its home
  owned_above : (a : ℕ) → NamesArray m.progress.job.arrays (reach_of m.progress.job t) a → owner_of m.progress.job a ≡ b.frame.identity → (cpu.regs.f < plan.home m.constants.number a) × (plan.home m.constants.number a ≤ cpu.regs.s)
  owned_above a n e =
      let item = found_array m.progress.job (reach_of m.progress.job t) a n (running_in_order plan s m t o runs).0.tasks.names in
      let q = homes_high x cpu.core cpu.regs cpu.critical plan s m t b.frame b.below o h.holds runs b.frames n.item n.live (sym (ap (λ (z : Array). z.owner) item) ∙ e) in
      let is : plan.home m.constants.number n.item.identity ≡ plan.home m.constants.number a = ap (plan.home m.constants.number) n.named in
      (omega (arith, q.0, is, bounds.0), omega (arith, q.1, is, bounds.1))

  not_owned : (a : ℕ) → NamesArray m.progress.job.arrays (reach_of m.progress.job t) a → owner_of m.progress.job a ≢ b.frame.identity → cpu.regs.f < plan.home m.constants.number a → plan.home m.constants.number a ≤ cpu.regs.s → ⊥
  not_owned a n ne low up =
      let item = found_array m.progress.job (reach_of m.progress.job t) a n (running_in_order plan s m t o runs).0.tasks.names in
      let is : plan.home m.constants.number n.item.identity ≡ plan.home m.constants.number a = ap (plan.home m.constants.number) n.named in
      elim (homes_low x cpu.core cpu.regs cpu.critical plan s m t b.frame b.below o h.holds runs b.frames m in_m n.item n.live) [
        | inl q ↦ ne (ap (λ (z : Array). z.owner) item ∙ q.1)
        | inr q ↦ elim q [ inl d ↦ (let z : ⊥ = omega (arith, d, is, low, bounds.0) in z) | inr d ↦ (let z : ⊥ = omega (arith, d, is, up, bounds.1, bounds.2) in z) ]
      ]

  -- an array of the top frame
  pub own_copy_refused : (home : ℕ) → CopyOf v home → cpu.regs.f < home → home ≤ cpu.regs.s → Refuses (Some Uplevel) v (returnable m.progress.job (top t.frames).identity v)
  own_copy_refused home c low up = grind (arith, not_owned, eqb_tells)

  -- another array
  pub other_copy_passes : (home : ℕ) → CopyOf v home → (cpu.regs.f < home → home ≤ cpu.regs.s → ⊥) → Refuses None v (returnable m.progress.job (top t.frames).identity v)
  other_copy_passes home c apart = grind (arith, owned_above, eqb_tells)
