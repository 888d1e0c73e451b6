-- The cells of the top activation record: their words, and other cells in their place.
use Rattle.std.proofs.Common.{◌≡◌, ℕ, suc, ◌+◌, ◌-◌, ◌≤◌, List, [], ◌∷◌, ◌++◌, length, Some, refl, sym, ◌∙◌, ap, arith, inr, slice_set, subst, append_assoc, length-append, ◌==◌, Bool, true, false}
use Rattle.std.specs.Prelude.{if◌then◌else◌}
use Rattle.std.specs.List.{slice_get}
use Rattle.b67_word.specs.Tagged.{Tagged}
use Rattle.b67_word.specs.declared.couples.Place.{Place}
use Rattle.b67_ctl.specs.declared.registers.Regs.{Regs}
use Rattle.b67_lemmas.specs.Lists.{Has}
use Rattle.b67_stack.specs.Common.{Shape, Copy, Fits, LieDownward, Activation, IsStack, headed, words, MachineView, Slot, Running, RunsOn, slot_base, CopiesName, NoOriginalAboveTop, Storage, RepresentsRunning, Represents, with_stack, MayPush}
use Rattle.b67_stack.proofs.Lies.{Lie-under}
use Rattle.b67_stack.proofs.Heights.{words-length}
use Rattle.b67_stack.proofs.Slots.{Represents-slot, running_slot, running_fits, running_lies}
use Rattle.b67_stack.proofs.Pushes.{Represents-push, RunsOn-with}

-- a slot that is changed twice
pub with_stack-twice : (p : MachineView) (k : ℕ) (one two : List Activation) → with_stack (with_stack p k one) k two ≡ with_stack p k two
with_stack-twice p k one two = grind arith

module _ (x : Storage) (core : List Tagged) (r : Regs) (p : MachineView) (k : ℕ) (a : Activation) (below : List Activation) (s : Represents x core r p) (u : RunsOn p k (a ∷ below)) where
  top : RepresentsRunning r p k (a ∷ below)
  top = running_slot x core r p k (a ∷ below) s u

  fits : IsStack p.size (a ∷ below) × CopiesName p.objects (words k (a ∷ below))
  fits = running_fits x core r p k (a ∷ below) s u

  under : List Shape
  under = headed k a.head below (words k below)

  -- a cell's word, by the cells above it
  pub cell_word : (above : List Shape) (c : Shape) (rest : List Shape) → a.cells ≡ above ++ c ∷ rest → (w : Tagged) × (slice_get core (r.s - length above) ≡ Some w) × Fits x.held c (r.s - length above) w
  cell_word above c rest e =
      let P : List Shape → Type 0 = λ cs. LieDownward (Fits x.held) core (suc (slot_base p k)) (cs ++ headed k a.head below (words k below)) in
      let l = subst P e (running_lies x core r p k (a ∷ below) s u) in
      let l' : LieDownward (Fits x.held) core (suc (slot_base p k)) (above ++ (c ∷ rest ++ headed k a.head below (words k below))) = rw (← append_assoc) l in
      let m = (Lie-under (Fits x.held) core (suc (slot_base p k)) above (c ∷ rest ++ headed k a.head below (words k below)) l').0 in
      grind (arith, length-append, words-length)

  -- cells less
  pub Represents-drop : (gone rest : List Shape) (q : Place) → a.cells ≡ gone ++ rest
      → Represents x core (record r { s = r.s - length gone; place = q }) (with_stack p k (record a { cells = rest } ∷ below))
  Represents-drop gone rest q e = Represents-slot x core core r (record r { s = r.s - length gone; place = q }) p k (a ∷ below) (record a { cells = rest } ∷ below) u
      (record {
        size = refl;
        outside = λ i o. refl;
        regs = record { stacks = s.slots.regs.stacks; size = s.slots.regs.size; peak = s.slots.regs.peak };
        runs = record { slot = top.slot; first = top.first; last = top.last; top = omega (arith, top.top, count); mark = top.mark; level = top.level };
        fits = record { some = λ z. cc; heads = fits.0.heads; fits = omega (arith, fits.0.fits, count) };
        copies = λ d h there. fits.1 d h (let P : List Shape → Type 0 = λ cs. Has (cs ++ headed k a.head below (words k below)) (Copy d h) in subst P (sym e) (rw append_assoc (Has-past gone (rest ++ headed k a.head below (words k below)) (Copy d h) there)));
        lies = (let P : List Shape → Type 0 = λ cs. LieDownward (Fits x.held) core (suc (slot_base p k)) (cs ++ headed k a.head below (words k below)) in
            let l = subst P e (running_lies x core r p k (a ∷ below) s u) in
            let l' : LieDownward (Fits x.held) core (suc (slot_base p k)) (gone ++ (rest ++ headed k a.head below (words k below))) = rw (← append_assoc) l in
            Lie-under (Fits x.held) core (suc (slot_base p k)) gone (rest ++ headed k a.head below (words k below)) l');
        homes = λ t int low up. refl;
      }) s where
        count : length a.cells ≡ length gone + length rest
        count = ap length e ∙ length-append gone rest

        Has-past : (xs ys : List Shape) (z : Shape) → Has ys z → Has (xs ++ ys) z
        Has-past [] ys z h = h
        Has-past (y ∷ xs) ys z h = inr (Has-past xs ys z h)

  -- cells give way to one: what most operators do
  pub Represents-cells : (gone rest : List Shape) (c : Shape) (w : Tagged) (i : ℕ) (q : Place) → a.cells ≡ gone ++ rest → i ≡ r.s - length gone + 1 → i ≤ r.losr
      → NoOriginalAboveTop (with_stack p k (record a { cells = rest } ∷ below)) → MayPush p.objects c → Fits x.held c i w
      → Represents x (slice_set core i w) (record r { s = i; place = q }) (with_stack p k (record a { cells = c ∷ rest } ∷ below))
  Represents-cells gone rest c w i q e at room settled may fit =
      let r1 : Regs = record r { s = r.s - length gone; place = q } in
      let p1 : MachineView = with_stack p k (record a { cells = rest } ∷ below) in
      let P : ℕ → Type 0 = λ n. Fits x.held c n w in
      let d = Represents-push x core r1 p1 k (record a { cells = rest } ∷ below) c w q (Represents-drop gone rest q e) (RunsOn-with p k (a ∷ below) (record a { cells = rest } ∷ below) u) settled may (subst P at fit) (λ z. omega (arith, z, at, room)) in
      let Q : ℕ → Type 0 = λ n. Represents x (slice_set core n w) (record r { s = n; place = q }) (with_stack (with_stack p k (record a { cells = rest } ∷ below)) k (record a { cells = c ∷ rest } ∷ below)) in
      let R : MachineView → Type 0 = λ z. Represents x (slice_set core i w) (record r { s = i; place = q }) z in
      subst R (with_stack-twice p k (record a { cells = rest } ∷ below) (record a { cells = c ∷ rest } ∷ below)) (subst Q (sym at) d)
