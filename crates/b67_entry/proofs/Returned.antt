-- The top record is left, and a word is put on the stack below: what core and registers represent.
use Rattle.std.proofs.Common.{◌≡◌, ◌≢◌, ℕ, suc, ◌+◌, ◌<◌, ◌≤◌, List, ◌∷◌, length, Some, sym, ◌∙◌, ap, arith, ⊎_elim, slice_set, subst}
use Rattle.std.proofs.Math.ListN.{length-set}
use Rattle.b67_word.specs.Tagged.{Tagged}
use Rattle.b67_word.specs.declared.couples.Place.{Place}
use Rattle.b67_ctl.specs.declared.registers.Regs.{Regs}
use Rattle.b67_ctl.specs.Layout.{mscw_word, rcw_word}
use Rattle.b67_core.proofs.Writes.{slice_get-set_other}
use Rattle.b67_lemmas.specs.Lists.{Has}
use Rattle.b67_model.specs.State.{Return}
use Rattle.b67_stack.specs.Common.{Shape, Is, Copy, Fits, LieDownward, StackPlace, Head, Entered, Activation, IsStack, stack_words, mark_place, stack_level, mark_of, return_of, headed, words, PagedObject, MachineView, RunsOn, slot_base, CopiesName, Storage, RepresentsRunning, Represents, with_stack, MayPush}
use Rattle.b67_stack.proofs.Lies.{Lie-push, Lie-under}
use Rattle.b67_stack.proofs.Heights.{words-length}
use Rattle.b67_stack.proofs.Homes.{not_home}
use Rattle.b67_stack.proofs.Slots.{Represents-slot, running_slot, running_fits, running_lies}
use Rattle.b67_stack.proofs.Pushes.{Room, room_of, RunsOn-with, Represents-cut}
use Rattle.b67_stack.proofs.Cells.{with_stack-twice}

-- a word more, where no original stands
pub Represents-over : (x : Storage) (core : List Tagged) (r : Regs) (p : MachineView) (k : ℕ) (a : Activation) (below : List Activation) (c : Shape) (w : Tagged) → Represents x core r p → RunsOn p k (a ∷ below)
    → ((t : PagedObject) → Has p.objects t → t.home ≢ r.s + 1) → MayPush p.objects c → Fits x.held c (r.s + 1) w → r.s < r.losr
    → Represents x (slice_set core (r.s + 1) w) (record r { s = r.s + 1 }) (with_stack p k (record a { cells = c ∷ a.cells } ∷ below))
Represents-over x core r p k a below c w s u clear may fit room = Represents-slot x core (slice_set core (r.s + 1) w) r (record r { s = r.s + 1 }) p k (a ∷ below) (record a { cells = c ∷ a.cells } ∷ below) u
    (record {
      size = length-set core (r.s + 1) w;
      outside = λ i o. slice_get-set_other core (r.s + 1) i w (λ z. ⊎_elim (λ (g : i < slot_base p k). omega (arith, g, z, g0.first, g0.top)) (λ (g : slot_base p k + p.size ≤ i). omega (arith, g, z, g0.last, room, f.0.fits, g0.top)) o);
      regs = record { stacks = s.slots.regs.stacks; size = s.slots.regs.size; peak = s.slots.regs.peak };
      runs = record { slot = g0.slot; first = g0.first; last = g0.last; top = omega (arith, g0.top); mark = g0.mark; level = g0.level };
      fits = record { some = λ e. cc; heads = f.0.heads; fits = omega (arith, g0.last, g0.top, room, f.0.fits) };
      copies = λ d h there. ⊎_elim (λ (e : c ≡ Copy d h). let P : Shape → Type 0 = λ z. MayPush p.objects z in subst P e may) (λ o. f.1 d h o) there;
      lies = Lie-push (Fits x.held) core (suc (slot_base p k)) (r.s + 1) c w (words k (a ∷ below)) (omega (arith, g0.top, words-length k (a ∷ below))) (omega (arith, g1.last, g1.under, g1.inside, room)) fit (running_lies x core r p k (a ∷ below) s u);
      homes = λ t int low up. slice_get-set_other core (r.s + 1) t.home w (clear t int);
    }) s where
      g0 : RepresentsRunning r p k (a ∷ below)
      g0 = running_slot x core r p k (a ∷ below) s u

      g1 : Room x core r p k (a ∷ below)
      g1 = room_of x core r p k (a ∷ below) s u

      f : IsStack p.size (a ∷ below) × CopiesName p.objects (words k (a ∷ below))
      f = running_fits x core r p k (a ∷ below) s u

-- a word that isn't an original fits at any address
pub fits_anywhere : (x : Storage) (objects : List PagedObject) (c : Shape) (i j : ℕ) (w : Tagged) → MayPush objects c → Fits x.held c i w → Fits x.held c j w
fits_anywhere x objects c i j w may fit = grind arith

-- an entered record on others
module _ (x : Storage) (core : List Tagged) (r : Regs) (p : MachineView) (k : ℕ) (a b : Activation) (more : List Activation) (level : ℕ) (environment : StackPlace) (back : Return)
    (s : Represents x core r p) (u : RunsOn p k (a ∷ b ∷ more)) (entered : a.head ≡ Entered level environment (Some back)) where
  top : RepresentsRunning r p k (a ∷ b ∷ more)
  top = running_slot x core r p k (a ∷ b ∷ more) s u

  -- the words of its head lie under its cells
  pub head_lies : LieDownward (Fits x.held) core (suc (slot_base p k)) (headed k (Entered level environment (Some back)) (b ∷ more) (words k (b ∷ more)))
  head_lies =
      let P : Head → Type 0 = λ h. LieDownward (Fits x.held) core (suc (slot_base p k)) (headed k h (b ∷ more) (words k (b ∷ more))) in
      subst P entered (Lie-under (Fits x.held) core (suc (slot_base p k)) a.cells (headed k a.head (b ∷ more) (words k (b ∷ more))) (running_lies x core r p k (a ∷ b ∷ more) s u))

  pub size_entered : stack_words (a ∷ b ∷ more) ≡ stack_words (b ∷ more) + (2 + length a.cells)
  size_entered = ap (λ (h : Head). stack_words (record { head = h; cells = a.cells } ∷ b ∷ more)) entered

  -- no original stands where its head is
  pub clear_mark : (t : PagedObject) → Has p.objects t → t.home ≢ slot_base p k + stack_words (b ∷ more) + 1
  clear_mark t int e =
      let l = head_lies.1.0 in
      let at : suc (slot_base p k) + length (words k (b ∷ more)) ≡ slot_base p k + stack_words (b ∷ more) + 1 = omega (arith, words-length k (b ∷ more)) in
      not_home x core r p (Is (mscw_word (mark_of k (Entered level environment (Some back)) (b ∷ more)))) l.0 (suc (slot_base p k) + length (words k (b ∷ more))) s (omega arith) l.1 l.2 (λ home z. absurd (let y : ⊥ = cc in y)) t int (e ∙ sym at)

  pub clear_return : (t : PagedObject) → Has p.objects t → t.home ≢ slot_base p k + stack_words (b ∷ more) + 2
  clear_return t int e =
      let l = head_lies.0 in
      let at : suc (slot_base p k) + suc (length (words k (b ∷ more))) ≡ slot_base p k + stack_words (b ∷ more) + 2 = omega (arith, words-length k (b ∷ more)) in
      not_home x core r p (Is (rcw_word (return_of (Some back) (b ∷ more)))) l.0 (suc (slot_base p k) + suc (length (words k (b ∷ more)))) s (omega arith) l.1 l.2 (λ home z. absurd (let y : ⊥ = cc in y)) t int (e ∙ sym at)

  -- the registers after it was left
  abbrev pub regs_below : ℕ → Place → Regs
  regs_below g q = record r { s = r.bosr + stack_words (b ∷ more); f = r.bosr + mark_place (b ∷ more); level = stack_level (b ∷ more); segment = g; place = q }

  -- left, with a word on the record below
  pub Represents-returned : (c : Shape) (w : Tagged) (i g : ℕ) (q : Place) → MayPush p.objects c → Fits x.held c i w
      → Represents x (slice_set core (r.bosr + stack_words (b ∷ more) + 1) w) (record (regs_below g q) { s = r.bosr + stack_words (b ∷ more) + 1 }) (with_stack p k (record b { cells = c ∷ b.cells } ∷ more))
  Represents-returned c w i g q may fit =
      let r1 = regs_below g q in
      let p1 = with_stack p k (b ∷ more) in
      let d = Represents-cut x core r p k a (b ∷ more) g q (λ z. cc) s u in
      let one = Represents-over x core r1 p1 k b more c w d (RunsOn-with p k (a ∷ b ∷ more) (b ∷ more) u)
      (λ t int e. clear_mark t int (omega (arith, e, top.first))) may (fits_anywhere x p.objects c i (r1.s + 1) w may fit)
      (omega (arith, top.first, top.last, size_entered, (running_fits x core r p k (a ∷ b ∷ more) s u).0.fits)) in
      let R : MachineView → Type 0 = λ z. Represents x (slice_set core (r.bosr + stack_words (b ∷ more) + 1) w) (record r1 { s = r.bosr + stack_words (b ∷ more) + 1 }) z in
      subst R (with_stack-twice p k (b ∷ more) (record b { cells = c ∷ b.cells } ∷ more)) one
