-- What the search for a cell finds, by the address of the frame's mark.
use Rattle.std.proofs.Common.{◌≡◌, ℕ, ◌+◌, ◌-◌, ◌<◌, ◌≤◌, ◌^◌, List, Bool, true, false, Some, Ok, Err, refl, sym, ◌∙◌, ap, arith, ◌⊎◌, ⊎_elim, inl, inr, subst, length}
use Rattle.std.specs.List.{slice_get}
use Rattle.std.proofs.lemmas.Bool.{cases_eq, cases_lt}
use Rattle.b67_word.specs.Tagged.{Tagged}
use Rattle.b67_word.specs.declared.couples.Place.{Place}
use Rattle.b67_word.specs.declared.faults.Fault.TheVariants.{InvalidAddress}
use Rattle.b67_ctl.specs.declared.registers.Regs.{Regs}
use Rattle.b67_model.specs.Common.{Answer, Word, cell, reach_of, NamesEntered}
use Rattle.b67_layout.specs.Common.{frame_address, here}
use Rattle.b67_refer.specs.RunningContext.{LiveContext}
use Rattle.b67_refer.specs.LiveCells.{CellMeets, IsUnder, IsPlain, cell_or_none}
use Rattle.b67_refer.proofs.Bases.{slot_inside, dictionary_is, dictionary_low, slot_zero}
use Rattle.b67_refer.proofs.Seats.{seat}
use Rattle.b67_refer.proofs.Rule.{misses, marks, lands}
use Rattle.b67_refer.proofs.Slots.{has_slot, registers, whole}
use Rattle.b67_refer.proofs.Unders.{under, is_mcp, is_dictionary, is_base, entries_is, high_address, top_running}
use Rattle.b67_refer.proofs.Fixed.{mcp_misses, mcp_lands, dictionary_misses, dictionary_lands}

module _ (core : List Tagged) (r : Regs) (a : LiveContext core r) (q : Place) (f from offset : ℕ) (n : NamesEntered (reach_of a.member.progress.job a.task) f) (e : from ≡ frame_address a.plan a.member a.task f) where
  refused : cell (here a.member a.task q) f offset ≡ Err InvalidAddress → CellMeets a q f offset (Err InvalidAddress) (cell (here a.member a.task q) f offset)
  refused z = let F : Answer Word → Type 0 = λ y. CellMeets a q f offset (Err InvalidAddress) y in subst F (sym z) refl

  module _ (own : 1 < f) where
    abbrev pub top : ℕ
    top = (seat core r a f n.standing n.among own).top

    pub under_top : IsUnder a from top
    under_top = let U : ℕ → Type 0 = λ x. IsUnder a x top in subst U (sym e) (under core r a f n own)

    pub task_misses : (offset < 2) ⊎ (top < from + offset) → CellMeets a q f offset (Err InvalidAddress) (cell (here a.member a.task q) f offset)
    task_misses far = refused (misses core r a q f n.standing (seat core r a f n.standing n.among own) n.entered own offset (⊎_elim inl (λ z. inr (omega (arith, z, e))) far))

    pub task_marks : (k : ℕ) (w : Tagged) → from + 2 ≤ k → k ≤ from + offset → slice_get core k ≡ Some w → w.tag ≡ 3 → CellMeets a q f offset (Err InvalidAddress) (cell (here a.member a.task q) f offset)
    task_marks k w low up there tag = refused (marks core r a q f n.standing (seat core r a f n.standing n.among own) n.entered own offset k w (omega (arith, low, e)) (omega (arith, up, e)) there tag)

    pub task_lands : 2 ≤ offset → from + offset ≤ top → ((k : ℕ) (w : Tagged) → from + 2 ≤ k → k < from + offset + 1 → slice_get core k ≡ Some w → w.tag ≡ 3 → ⊥)
        → CellMeets a q f offset (Ok (from + offset)) (cell (here a.member a.task q) f offset)
    task_lands low up plain =
        let l = lands core r a q f n.standing (seat core r a f n.standing n.among own) n.entered own offset low (omega (arith, up, e)) (λ k w d u there tag. plain k w (omega (arith, d, e)) (omega (arith, u, e)) there tag) in
        grind arith

    pub task_plain : 2 ≤ offset → from + offset ≤ top → (b : Bool) → IsPlain core (from + 2) (from + offset) b → CellMeets a q f offset (cell_or_none b (from + offset)) (cell (here a.member a.task q) f offset)
    task_plain low up true plain = task_lands low up (λ k w d u there tag. plain k w d (omega (arith, u)) there tag)
    task_plain low up false found = let (k, w, d, u, there, tag) = found in task_marks k w d u there tag

    -- the running stack's top, over an address of the stack
    pub top_runs : r.bosr ≤ from → from ≤ r.s → r.s ≡ top
    top_runs low high =
        let k = has_slot core r a in
        let g = registers core r a in
        let w = whole core r a a.runner a.running.task in
        let s = g.top in
        let last = g.last in
        (top_running core r a from top r.slot (from - r.bosr) under_top (omega (arith, k.first, low)) (omega (arith, k.last, w.part.low, w.part.room, s, last, low, high)) refl).0

    -- the stack lies inside core
    pub top_inside : (top < length core) × (length core < 2 ^ 20)
    top_inside =
        let b = seat core r a f n.standing n.among own in
        let i = slot_inside core r a b.slot b.top_is.used in
        (omega (arith, b.part.room, i.0, i.1), i.2)

  pub mcp_far : from ≡ 0 → (offset < 8) ⊎ (18 < offset) → CellMeets a q f offset (Err InvalidAddress) (cell (here a.member a.task q) f offset)
  mcp_far zero far = refused (ap (λ (i : ℕ). cell (here a.member a.task q) i offset) (is_mcp core r a f from n e zero) ∙ mcp_misses core r a q offset far)

  pub mcp_found : (at : ℕ) → at ≡ offset → from ≡ 0 → 8 ≤ offset → offset ≤ 18 → CellMeets a q f offset (Ok at) (cell (here a.member a.task q) f offset)
  mcp_found at z zero low up =
      let F : ℕ → Type 0 = λ i. CellMeets a q i offset (Ok at) (cell (here a.member a.task q) i offset) in
      let G : ℕ → Type 0 = λ x. CellMeets a q 0 offset (Ok x) (cell (here a.member a.task q) 0 offset) in
      subst F (sym (is_mcp core r a f from n e zero)) (subst G (sym z) (mcp_lands core r a q offset low up))

  pub dictionary_far : (from ≡ 0 → ⊥) → from ≡ r.dict → (offset < 2) ⊎ (1 + r.entries < offset) → CellMeets a q f offset (Err InvalidAddress) (cell (here a.member a.task q) f offset)
  dictionary_far some is far =
      let k = entries_is core r a in
      refused (ap (λ (i : ℕ). cell (here a.member a.task q) i offset) (is_dictionary core r a f from n e some is) ∙ dictionary_misses core r a q offset (⊎_elim inl (λ z. inr (omega (arith, z, k))) far))

  pub dictionary_found : (from ≡ 0 → ⊥) → from ≡ r.dict → 2 ≤ offset → offset ≤ 1 + r.entries → CellMeets a q f offset (Ok (from + offset)) (cell (here a.member a.task q) f offset)
  dictionary_found some is low up =
      let k = entries_is core r a in
      let at : from ≡ a.plan.dictionary a.member.constants.number = is ∙ dictionary_is core r a in
      let F : ℕ → Type 0 = λ i. CellMeets a q i offset (Ok (from + offset)) (cell (here a.member a.task q) i offset) in
      let G : ℕ → Type 0 = λ x. CellMeets a q 1 offset (Ok (x + offset)) (cell (here a.member a.task q) 1 offset) in
      subst F (sym (is_dictionary core r a f from n e some is)) (subst G (sym at) (dictionary_lands core r a q offset low (omega (arith, up, k))))

  -- a frame of a task begins inside core
  pub address_small : 1 < f → from < 2 ^ 20
  address_small own = let h = high_address core r a f n own in omega (arith, h.1, e)

module _ (core : List Tagged) (r : Regs) (a : LiveContext core r) where
  pub dictionary_small : r.dict < 2 ^ 20
  dictionary_small = let d = dictionary_is core r a in let l = dictionary_low core r a in let z = slot_zero core r a in omega (arith, d, l, z.0, z.1)

  -- each frame's mark lies in core
  pub mark_small : (f from : ℕ) (n : NamesEntered (reach_of a.member.progress.job a.task) f) → from ≡ frame_address a.plan a.member a.task f → from < 2 ^ 20
  mark_small f from n e = ⊎_elim
      (λ (own : 1 < f). address_small core r a a.task.place f from 0 n e own)
      (λ (low : f ≤ 1). ⊎_elim
      (λ (zero : from ≡ 0). omega (arith, zero))
      (λ (some : from ≡ 0 → ⊥). (let is = is_base core r a f from n e low some in let s = dictionary_small in omega (arith, is, s)))
      (cases_eq from 0))
      (cases_lt 1 f)
