-- A marked record on top that is entered, and one that is entered at once.
use Rattle.std.proofs.Common.{◌≡◌, ◌≢◌, ℕ, suc, ◌+◌, ◌-◌, ◌^◌, ◌<◌, ◌≤◌, List, [], ◌∷◌, ◌++◌, length, Option, Some, refl, sym, ◌∙◌, arith, inl, inr, ⊎_elim, slice_set, append_assoc, length-append}
use Rattle.std.specs.List.{slice_get}
use Rattle.std.proofs.Math.ListN.{length-set}
use Rattle.b67_word.specs.Tagged.{Tagged}
use Rattle.b67_word.specs.declared.couples.Place.{Place}
use Rattle.b67_ctl.specs.declared.registers.Regs.{Regs}
use Rattle.b67_ctl.specs.Layout.{mscw_word, IsMscw, rcw_word}
use Rattle.b67_core.proofs.Writes.{slice_get-set_other}
use Rattle.b67_lemmas.specs.Lists.{Has}
use Rattle.b67_model.specs.State.{Return}
use Rattle.b67_stack.specs.Common.{Shape, Is, Original, Copy, Fits, LieDownward, StackPlace, Marked, Entered, Activation, IsStack, HeadFits, top_size, mark_of, return_of, words, PagedObject, MachineView, RunsOn, slot_base, CopiesName, Storage, RepresentsRunning, Represents, with_stack}
use Rattle.b67_stack.proofs.Lies.{Lie-push}
use Rattle.b67_stack.proofs.Heights.{words-length}
use Rattle.b67_stack.proofs.Homes.{not_home}
use Rattle.b67_stack.proofs.Slots.{Represents-slot, running_slot, running_fits, running_lies}
use Rattle.b67_stack.proofs.Pushes.{Room, room_of}
use Rattle.b67_stack.proofs.Cells.{cell_word}
use Rattle.b67_stack.proofs.Tops.{mark_at_f}
use Rattle.b67_stack.proofs.ClearHeads.{IsClear}

-- a word in the middle gives way to another one
pub Lie-put : (R : Shape → ℕ → Tagged → Type 0) (core : List Tagged) (from i : ℕ) (above : List Shape) (a b : Shape) (w : Tagged) (under : List Shape) → i ≡ from + length under → i < length core → R b i w
    → LieDownward R core from (above ++ a ∷ under) → LieDownward R (slice_set core i w) from (above ++ b ∷ under)
Lie-put R core from i [] a b w under e h r l = Lie-push R core from i b w under e h r l.1
Lie-put R core from i (c ∷ above) a b w under e h r l = grind (arith, length-append, slice_get-set_other, Lie-put R core from i above a b w under e h r l.1)

-- an entered record's mark has a word
pub entered_mark_fits : (k level : ℕ) (environment : StackPlace) (back : Option Return) (below : List Activation) → HeadFits (Entered level environment back) below → top_size below < 2 ^ 14 → IsMscw (mark_of k (Entered level environment back) below)
entered_mark_fits k level environment back below f small = record { env_stack = f.1; env_disp = f.2; level = f.0; back = small; marked = λ e. absurd (let z : ⊥ = cc in z) }

-- what stands among these words stood there before, but for two plain words
copies_stay : (cells : List Shape) (first mark : Shape) (under : List Shape) (v w : Tagged) (z : Shape) → Has (cells ++ Is v ∷ Is w ∷ under) z → (Is v ≢ z) → (Is w ≢ z) → Has ((cells ++ first ∷ []) ++ mark ∷ under) z
copies_stay [] first mark under v w z (inl e) n o = absurd (n e)
copies_stay [] first mark under v w z (inr (inl e)) n o = absurd (o e)
copies_stay [] first mark under v w z (inr (inr k)) n o = inr (inr k)
copies_stay (c ∷ cells) first mark under v w z (inl e) n o = inl e
copies_stay (c ∷ cells) first mark under v w z (inr k) n o = inr (copies_stay cells first mark under v w z k n o)

module _ (x : Storage) (core : List Tagged) (r : Regs) (p : MachineView) (k : ℕ) (level : ℕ) (environment : StackPlace) (back : Return) (segment : ℕ) (q : Place) where
  -- the marked record on top is entered: the first cell gives way to the return word
  pub Represents-entered : (cells : List Shape) (first : Shape) (below : List Activation) → let stack = record { head = Marked; cells = cells ++ first ∷ [] } ∷ below in
      Represents x core r p → RunsOn p k stack → ((home : ℕ) → first ≢ Original home) → HeadFits (Entered level environment (Some back)) below
      → Represents x (slice_set (slice_set core r.f (mscw_word (mark_of k (Entered level environment (Some back)) below))) (r.f + 1) (rcw_word (return_of (Some back) below)))
      (record r { level = level; segment = segment; place = q }) (with_stack p k (record { head = Entered level environment (Some back); cells = cells } ∷ below))
  Represents-entered cells first below s u plain fit = Represents-slot x core new r (record r { level = level; segment = segment; place = q }) p k old_stack new_stack u
      (record {
        size = length-set core1 (r.f + 1) rcw ∙ length-set core r.f mark;
        outside = λ i o. outside i (λ z. ⊎_elim (λ (g : i < slot_base p k). omega (arith, g, z, at)) (λ (g : slot_base p k + p.size ≤ i). omega (arith, g, z, g0.top, count, f.0.fits, at, words-length k below)) o) (λ z. ⊎_elim (λ (g : i < slot_base p k). omega (arith, g, z, at)) (λ (g : slot_base p k + p.size ≤ i). omega (arith, g, z, count, f.0.fits, at, words-length k below)) o);
        regs = record { stacks = s.slots.regs.stacks; size = s.slots.regs.size; peak = s.slots.regs.peak };
        runs = record { slot = g0.slot; first = g0.first; last = g0.last; top = omega (arith, g0.top, count); mark = g0.mark; level = refl };
        fits = record { some = λ e. cc; heads = (fit, f.0.heads.1); fits = omega (arith, f.0.fits, count) };
        copies = λ d h there. f.1 d h (copies_stay cells first (Is (mscw_word (mark_of k Marked below))) (words k below) rcw mark (Copy d h) there (λ e. absurd (let z : ⊥ = cc in z)) (λ e. absurd (let z : ⊥ = cc in z)));
        lies = lies;
        homes = λ t int low up. outside t.home (λ z. mark_apart t int z) (λ z. first_apart t int z);
      }) s where
        old_stack : List Activation
        old_stack = record { head = Marked; cells = cells ++ first ∷ [] } ∷ below

        new_stack : List Activation
        new_stack = record { head = Entered level environment (Some back); cells = cells } ∷ below

        mark : Tagged
        mark = mscw_word (mark_of k (Entered level environment (Some back)) below)

        rcw : Tagged
        rcw = rcw_word (return_of (Some back) below)

        core1 : List Tagged
        core1 = slice_set core r.f mark

        new : List Tagged
        new = slice_set core1 (r.f + 1) rcw

        g0 : RepresentsRunning r p k old_stack
        g0 = running_slot x core r p k old_stack s u

        g1 : Room x core r p k old_stack
        g1 = room_of x core r p k old_stack s u

        f : IsStack p.size old_stack × CopiesName p.objects (words k old_stack)
        f = running_fits x core r p k old_stack s u

        count : length (cells ++ first ∷ []) ≡ length cells + 1
        count = length-append cells (first ∷ [])

        at : r.f ≡ suc (slot_base p k) + length (words k below)
        at = omega (arith, g0.mark, words-length k below)

        outside : (i : ℕ) → i ≢ r.f → i ≢ r.f + 1 → slice_get new i ≡ slice_get core i
        outside i n o = slice_get-set_other core1 (r.f + 1) i rcw o ∙ slice_get-set_other core r.f i mark n

        lies : LieDownward (Fits x.held) new (suc (slot_base p k)) (words k new_stack)
        lies =
            let R = Fits x.held in
            let l : LieDownward R core (suc (slot_base p k)) ((cells ++ first ∷ []) ++ Is (mscw_word (mark_of k Marked below)) ∷ words k below) = running_lies x core r p k old_stack s u in
            let l1 : LieDownward R core1 (suc (slot_base p k)) ((cells ++ first ∷ []) ++ Is mark ∷ words k below) = Lie-put R core (suc (slot_base p k)) r.f (cells ++ first ∷ []) (Is (mscw_word (mark_of k Marked below))) (Is mark) mark (words k below) at (omega (arith, g1.top, g1.last, g1.under, g1.inside)) (refl, λ e. omega (arith, e)) l in
            let l2 : LieDownward R core1 (suc (slot_base p k)) (cells ++ first ∷ Is mark ∷ words k below) = rw (append_assoc cells (first ∷ []) (Is mark ∷ words k below)) at l1 in
            Lie-put R core1 (suc (slot_base p k)) (r.f + 1) cells first (Is rcw) rcw (Is mark ∷ words k below) (omega (arith, at)) (omega (arith, g0.top, count, at, words-length k below, g1.last, g1.under, g1.inside, length-set core r.f mark)) (refl, λ e. omega (arith, e)) l2

        mark_apart : (t : PagedObject) → Has p.objects t → t.home ≢ r.f
        mark_apart t int = not_home x core r p (Is (mscw_word (mark_of k Marked below))) (mscw_word (mark_of k Marked below)) r.f s (omega (arith, at)) (mark_at_f x core r p k old_stack s u) (refl, λ e. omega (arith, e)) (λ home e. absurd (let z : ⊥ = cc in z)) t int

        first_apart : (t : PagedObject) → Has p.objects t → t.home ≢ r.f + 1
        first_apart t int e =
            let w = cell_word x core r p k (record { head = Marked; cells = cells ++ first ∷ [] }) below s u cells first [] refl in
            let there : r.s - length cells ≡ r.f + 1 = omega (arith, g0.top, count, at, words-length k below) in
            not_home x core r p first w.0 (r.s - length cells) s (omega (arith, there, at)) w.1 w.2 plain t int (e ∙ sym there)

  -- a record without cells is entered at once on top of a stack
  pub Represents-accident : (stack : List Activation) → Represents x core r p → RunsOn p k stack → IsClear r p → r.s + 2 ≤ r.losr → HeadFits (Entered level environment (Some back)) stack
      → Represents x (slice_set (slice_set core (r.s + 1) (mscw_word (mark_of k (Entered level environment (Some back)) stack))) (r.s + 2) (rcw_word (return_of (Some back) stack)))
      (record r { s = r.s + 2; f = r.s + 1; level = level; segment = segment; place = q }) (with_stack p k (record { head = Entered level environment (Some back); cells = [] } ∷ stack))
  Represents-accident stack s u clear room fit = Represents-slot x core new r (record r { s = r.s + 2; f = r.s + 1; level = level; segment = segment; place = q }) p k stack new_stack u
      (record {
        size = length-set core1 (r.s + 2) rcw ∙ length-set core (r.s + 1) mark;
        outside = λ i o. outside i (λ z. ⊎_elim (λ (g : i < slot_base p k). omega (arith, g, z, g0.top)) (λ (g : slot_base p k + p.size ≤ i). omega (arith, g, z, g0.last, room)) o) (λ z. ⊎_elim (λ (g : i < slot_base p k). omega (arith, g, z, g0.top)) (λ (g : slot_base p k + p.size ≤ i). omega (arith, g, z, g0.last, room)) o);
        regs = record { stacks = s.slots.regs.stacks; size = s.slots.regs.size; peak = s.slots.regs.peak };
        runs = record { slot = g0.slot; first = g0.first; last = g0.last; top = omega (arith, g0.top); mark = omega (arith, g0.top); level = refl };
        fits = record { some = λ e. cc; heads = (fit, f.0.heads); fits = omega (arith, g0.last, g0.top, room) };
        copies = λ d h there. ⊎_elim (λ (e : Is rcw ≡ Copy d h). absurd (let z : ⊥ = cc in z)) (λ o. ⊎_elim (λ (e : Is mark ≡ Copy d h). absurd (let z : ⊥ = cc in z)) (λ o. f.1 d h o) o) there;
        lies = lies;
        homes = λ t int low up. outside t.home (clear t int).0 (clear t int).1;
      }) s where
        new_stack : List Activation
        new_stack = record { head = Entered level environment (Some back); cells = [] } ∷ stack

        mark : Tagged
        mark = mscw_word (mark_of k (Entered level environment (Some back)) stack)

        rcw : Tagged
        rcw = rcw_word (return_of (Some back) stack)

        core1 : List Tagged
        core1 = slice_set core (r.s + 1) mark

        new : List Tagged
        new = slice_set core1 (r.s + 2) rcw

        g0 : RepresentsRunning r p k stack
        g0 = running_slot x core r p k stack s u

        g1 : Room x core r p k stack
        g1 = room_of x core r p k stack s u

        f : IsStack p.size stack × CopiesName p.objects (words k stack)
        f = running_fits x core r p k stack s u

        outside : (i : ℕ) → i ≢ r.s + 1 → i ≢ r.s + 2 → slice_get new i ≡ slice_get core i
        outside i n o = slice_get-set_other core1 (r.s + 2) i rcw o ∙ slice_get-set_other core (r.s + 1) i mark n

        lies : LieDownward (Fits x.held) new (suc (slot_base p k)) (words k new_stack)
        lies =
            let R = Fits x.held in
            let l1 : LieDownward R core1 (suc (slot_base p k)) (Is mark ∷ words k stack) = Lie-push R core (suc (slot_base p k)) (r.s + 1) (Is mark) mark (words k stack) (omega (arith, g0.top, words-length k stack)) (omega (arith, g1.last, g1.under, g1.inside, room)) (refl, λ e. omega (arith, e)) (running_lies x core r p k stack s u) in
            Lie-push R core1 (suc (slot_base p k)) (r.s + 2) (Is rcw) rcw (Is mark ∷ words k stack) (omega (arith, g0.top, words-length k stack)) (omega (arith, g1.last, g1.under, g1.inside, room, length-set core (r.s + 1) mark)) (refl, λ e. omega (arith, e)) l1
