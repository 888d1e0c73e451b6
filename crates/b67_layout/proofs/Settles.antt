-- Originals stay at or under the top of their stack where no original is popped.
use Rattle.std.proofs.Common.{◌≡◌, ◌≢◌, ℕ, suc, ◌+◌, ◌-◌, ◌≤◌, List, [], ◌∷◌, ◌++◌, length, sym, ◌∙◌, ap, arith, inl, inr, append_assoc, length-append}
use Rattle.b67_word.specs.Tagged.{Tagged}
use Rattle.b67_ctl.specs.declared.registers.Regs.{Regs}
use Rattle.b67_lemmas.specs.Lists.{Has}
use Rattle.b67_stack.specs.Common.{Shape, Original, Activation, stack_words, PagedObject, MachineView, RunsOn, NoOriginalAboveTop, Storage, Represents, with_stack}
use Rattle.b67_stack.proofs.Slots.{running_slot}
use Rattle.b67_stack.proofs.Pushes.{Settled-with}
use Rattle.b67_stack.proofs.Cells.{cell_word}
use Rattle.b67_stack.proofs.Homes.{not_home}

-- none of these is an original
abbrev pub NoOriginals : List Shape → Type 0
NoOriginals shapes = (home : ℕ) → Has shapes (Original home) → ⊥

module _ (x : Storage) (core : List Tagged) (r : Regs) (p : MachineView) (k : ℕ) (a : Activation) (below : List Activation) (s : Represents x core r p) (u : RunsOn p k (a ∷ below)) where
  lowered : (t : PagedObject) → Has p.objects t → (gone above rest : List Shape) → a.cells ≡ above ++ (gone ++ rest) → NoOriginals gone → t.home ≤ r.s - length above → t.home ≤ r.s - length above - length gone
  lowered t int [] above rest e plain h = omega (arith, h)
  lowered t int (c ∷ more) above rest e plain h =
      let top = running_slot x core r p k (a ∷ below) s u in
      let w = cell_word x core r p k a below s u above c (more ++ rest) e in
      let count : length a.cells ≡ length above + suc (length (more ++ rest)) = ap length e ∙ length-append above (c ∷ more ++ rest) in
      let low : p.stacks ≤ r.s - length above = omega (arith, top.top, count) in
      let ne : t.home ≢ r.s - length above = not_home x core r p c w.0 (r.s - length above) s low w.1 w.2 (λ home z. plain home (inl z)) t int in
      let longer : length (above ++ c ∷ []) ≡ length above + 1 = length-append above (c ∷ []) in
      let e' : a.cells ≡ (above ++ c ∷ []) ++ (more ++ rest) = e ∙ sym (append_assoc above (c ∷ []) (more ++ rest)) in
      let home_low = (s.slots.laid.homes t int).0 in
      let next = lowered t int more (above ++ c ∷ []) rest e' (λ home i. plain home (inr i)) (omega (arith, h, ne, longer, home_low)) in
      omega (arith, next, longer)

  -- cells are dropped
  pub Settled-drop : (gone rest : List Shape) → a.cells ≡ gone ++ rest → NoOriginals gone → NoOriginalAboveTop p → NoOriginalAboveTop (with_stack p k (record a { cells = rest } ∷ below))
  Settled-drop gone rest e plain settled =
      let top = running_slot x core r p k (a ∷ below) s u in
      let count : length a.cells ≡ length gone + length rest = ap length e ∙ length-append gone rest in
      Settled-with p k (a ∷ below) (record a { cells = rest } ∷ below) u
      (λ t int low up. let d = lowered t int gone [] rest e plain (omega (arith, up, top.top)) in omega (arith, d, top.top, count)) settled

-- words are put on
pub Settled-more : (p : MachineView) (k : ℕ) (stack after : List Activation) → RunsOn p k stack → stack_words stack ≤ stack_words after → NoOriginalAboveTop p → NoOriginalAboveTop (with_stack p k after)
Settled-more p k stack after u h settled = Settled-with p k stack after u (λ t int low up. omega (arith, up, h)) settled
