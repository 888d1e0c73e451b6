-- The words at the head of the top activation record, where F points.
use Rattle.std.proofs.Common.{◌≡◌, ◌≢◌, ℕ, suc, ◌+◌, ◌-◌, ◌<◌, ◌≤◌, ◌^◌, List, [], ◌∷◌, length, Option, Some, None, refl, sym, ◌∙◌, ap, arith, true, false}
use Rattle.std.specs.List.{slice_get}
use Rattle.b67_word.specs.Tagged.{Tagged}
use Rattle.b67_ctl.specs.declared.registers.Regs.{Regs}
use Rattle.b67_ctl.specs.declared.marks.Mscw.{Mscw}
use Rattle.b67_ctl.specs.declared.marks.Rcw.{Rcw}
use Rattle.b67_ctl.specs.Layout.{flag_bit, mscw_word, IsMscw, rcw_word, IsRcw}
use Rattle.b67_model.specs.State.{Return}
use Rattle.b67_stack.specs.Common.{Locations, Fits, LieDownward, Activation, Head, Marked, Entered, ReturnFits, HeadFits, HeadsFit, size, top_size, stack_words, mark_place, stack_level, level_from, mark_of, top_mark, return_of, headed, words, MachineView, RunsOn, slot_base, Storage, Represents, top_cells, activations_below}
use Rattle.b67_stack.specs.declared.Cpu.{Cpu}
use Rattle.b67_stack.specs.Changes.{topped}
use Rattle.b67_stack.proofs.Lies.{Lie-under}
use Rattle.b67_stack.proofs.Heights.{words-length}
use Rattle.b67_stack.proofs.Slots.{running_slot, running_fits, running_lies}

level-head : (b : Head) (below : List Activation) → HeadFits b below → stack_level below < 2 ^ 5 → level_from b (stack_level below) < 2 ^ 5
level-head b below f small = grind arith

pub level-small : (stack : List Activation) → HeadsFit stack → stack_level stack < 2 ^ 5
level-small [] h = omega arith
level-small (a ∷ below) h = level-head a.head below h.0 (level-small below h.1)

head-lies : (R : Locations) (core : List Tagged) (from k : ℕ) (h : Head) (below : List Activation) → LieDownward (Fits R) core from (headed k h below (words k below)) → slice_get core (from + stack_words below) ≡ Some (mscw_word (mark_of k h below))
head-lies R core from k h below l = grind (arith, words-length)

pub top_size-high : (stack : List Activation) → top_size stack ≤ stack_words stack
top_size-high stack = grind arith

module _ (x : Storage) (core : List Tagged) (r : Regs) (p : MachineView) (k : ℕ) where
  -- the mark at F
  pub mark_at_f : (stack : List Activation) → Represents x core r p → RunsOn p k stack → slice_get core r.f ≡ Some (mscw_word (top_mark k stack))
  mark_at_f [] s u = absurd ((running_fits x core r p k [] s u).0.some refl)
  mark_at_f (a ∷ below) s u =
      let g = running_slot x core r p k (a ∷ below) s u in
      let l = Lie-under (Fits x.held) core (suc (slot_base p k)) a.cells (headed k a.head below (words k below)) (running_lies x core r p k (a ∷ below) s u) in
      ap (slice_get core) (let e : r.f ≡ suc (slot_base p k) + stack_words below = omega (arith, g.mark) in e) ∙ head-lies x.held core (suc (slot_base p k)) k a.head below l

  pub mark_is : (stack : List Activation) → Represents x core r p → RunsOn p k stack → IsMscw (top_mark k stack)
  mark_is stack s u = grind arith

  -- S by F and the cells
  pub cells_above : (stack : List Activation) → Represents x core r p → RunsOn p k stack → r.s ≡ r.f + flag_bit (top_mark k stack).entered + length (top_cells stack)
  cells_above stack s u = grind arith

  -- the mark before, by the distance in the mark at F
  pub mark_before : (stack : List Activation) → Represents x core r p → RunsOn p k stack → activations_below stack ≢ []
      → (r.f - 1 ≡ r.bosr + stack_words (activations_below stack)) × (r.f - (top_mark k stack).back ≡ r.bosr + mark_place (activations_below stack)) × ((top_mark k stack).back ≤ r.f)
  mark_before stack s u n = grind arith

  -- the level of the record that runs without the top one: that of the return word, if there is one
  pub level_under : (stack : List Activation) → Represents x core r p → RunsOn p k stack
      → ((top_mark k stack).entered ≡ false → r.level ≡ stack_level (activations_below stack))
      × ((top_mark k stack).entered ≡ true → (c : Rcw) × IsRcw c × (slice_get core (r.f + 1) ≡ Some (rcw_word c)) × (c.level ≡ stack_level (activations_below stack)))
  level_under [] s u = absurd ((running_fits x core r p k [] s u).0.some refl)
  level_under (a ∷ below) s u =
      let g = running_slot x core r p k (a ∷ below) s u in
      let f = (running_fits x core r p k (a ∷ below) s u).0 in
      let l = Lie-under (Fits x.held) core (suc (slot_base p k)) a.cells (headed k a.head below (words k below)) (running_lies x core r p k (a ∷ below) s u) in
      by_head a.head g.level (omega (arith, g.mark)) f.heads.0 f.heads.1 l where
        returned : (level : ℕ) (back : Option Return) → ReturnFits back below → HeadsFit below → IsRcw (return_of back below) × ((return_of back below).level ≡ stack_level below)
        returned level None e hs = (record { place = record { syllable = omega arith; word = omega arith }; level = omega arith; segment = omega arith }, ap stack_level (sym e))
        returned level (Some b) e hs = (record { place = e.0; level = level-small below hs; segment = e.1 }, refl)

        by_head : (h : Head) → r.level ≡ level_from h (stack_level below) → r.f ≡ suc (slot_base p k) + stack_words below → HeadFits h below → HeadsFit below → LieDownward (Fits x.held) core (suc (slot_base p k)) (headed k h below (words k below))
            → ((mark_of k h below).entered ≡ false → r.level ≡ stack_level below) × ((mark_of k h below).entered ≡ true → (c : Rcw) × IsRcw c × (slice_get core (r.f + 1) ≡ Some (rcw_word c)) × (c.level ≡ stack_level below))
        by_head Marked e at fits hs l = (λ z. e, λ z. absurd (let b : ⊥ = cc in b))
        by_head (Entered level environment back) e at fits hs l =
            let d = returned level back fits.3 hs in (
              λ z. absurd (let b : ⊥ = cc in b),
              λ z. (return_of back below, d.0, ap (slice_get core) (let e : r.f + 1 ≡ suc (slot_base p k) + suc (length (words k below)) = omega (arith, at, words-length k below) in e) ∙ l.0.1 ∙ ap Some l.0.2.0, d.1),
            )

  no_items : {A : Type 0} (xs : List A) → length xs ≡ 0 → xs ≡ []
  no_items [] e = refl
  no_items (y ∷ ys) e = absurd (omega arith)

  -- the top activation record has no cell exactly where S is at its last head word
  pub empty_at : (stack : List Activation) (m : Mscw) (n : ℕ) → Represents x core r p → RunsOn p k stack → m ≡ top_mark k stack → n ≡ flag_bit m.entered
      → (r.s ≡ r.f + n → top_cells stack ≡ []) × (top_cells stack ≡ [] → r.s ≡ r.f + n)
  empty_at stack m n s u em en = grind (arith, no_items)

-- the registers of a stack, by their numbers
pub topped_by : (cpu : Cpu) (stack : List Activation) (t f l : ℕ) → t ≡ cpu.regs.bosr + stack_words stack → f ≡ cpu.regs.bosr + mark_place stack → l ≡ stack_level stack
    → ◌≡◌ {A = Cpu} (record cpu { regs = record cpu.regs { s = t; f = f; level = l } }) (topped cpu stack)
topped_by cpu stack t f l a b e = rw (a, b, e) refl

pub mark_high : (stack : List Activation) → mark_place stack ≤ stack_words stack
mark_high stack = grind arith
