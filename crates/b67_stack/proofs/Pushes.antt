-- A word more on the running stack, a word less, a mark more, an activation record less.
use Rattle.std.proofs.Common.{◌≡◌, ◌≢◌, ℕ, suc, ◌+◌, ◌-◌, ◌<◌, ◌≤◌, ◌^◌, List, [], ◌∷◌, ◌++◌, length, refl, sym, ◌∙◌, ap, arith, inr, ⊎_elim, slice_set, subst, false}
use Rattle.std.proofs.Math.ListN.{length-set}
use Rattle.b67_word.specs.Tagged.{Tagged}
use Rattle.b67_word.specs.declared.couples.Place.{Place}
use Rattle.b67_ctl.specs.Layout.{mscw_word}
use Rattle.b67_core.proofs.Writes.{slice_get-set_other}
use Rattle.b67_lemmas.specs.Lists.{Has}
use Rattle.b67_ctl.specs.declared.registers.Regs.{Regs}
use Rattle.b67_stack.specs.Common.{Shape, Is, Copy, Fits, LieDownward, Activation, Head, Marked, Entered, IsStack, top_size, stack_words, mark_place, stack_level, mark_of, headed, words, PagedObject, MachineView, Running, stack_of, RunsOn, slot_base, CopiesName, NoOriginalAboveTop, Storage, RepresentsRunning, Represents, with_stack, stack_with_cells, top_cells, activations_below, new_mark, MayPush}
use Rattle.b67_stack.specs.Changes.{without_first}
use Rattle.b67_stack.proofs.Lies.{Lie-push, Lie-under}
use Rattle.b67_stack.proofs.Heights.{words-length}
use Rattle.b67_stack.proofs.Slots.{Represents-slot, slot-same, by_slot, running_slot, running_fits, running_lies}
use Rattle.b67_stack.proofs.Bases.{base-apart}

-- where the running stack lies
pub record Room (x : Storage) (core : List Tagged) (r : Regs) (p : MachineView) (k : ℕ) (stack : List Activation) : Type 0 where
  pub low : 160 ≤ r.bosr
  pub mark : r.bosr < r.f
  pub top : r.f ≤ r.s
  pub last : r.s ≤ r.losr
  pub under : r.losr < x.low
  pub inside : x.low ≤ length core
  pub bound : length core < 2 ^ 20

mark_low : (stack : List Activation) → stack ≢ [] → (0 < mark_place stack) × (mark_place stack ≤ stack_words stack)
mark_low stack n = grind arith

pub room_of : (x : Storage) (core : List Tagged) (r : Regs) (p : MachineView) (k : ℕ) (stack : List Activation) → Represents x core r p → RunsOn p k stack → Room x core r p k stack
room_of x core r p k stack s u = grind arith

-- the view after a step that leaves the slots' sizes as they are
pub RunsOn-with : (p : MachineView) (k : ℕ) (stack after : List Activation) → RunsOn p k stack → RunsOn (with_stack p k after) k after
RunsOn-with p k stack after u = record { used = u.used; is = slot-same p k (Running after) }

running_high : (p : MachineView) (k : ℕ) (stack : List Activation) → RunsOn p k stack → stack_words (stack_of (p.slots k)) ≡ stack_words stack
running_high p k stack u = ap (λ y. stack_words (stack_of y)) u.is

pub Settled-with : (p : MachineView) (k : ℕ) (stack after : List Activation) → RunsOn p k stack
    → ((t : PagedObject) → Has p.objects t → slot_base p k ≤ t.home → t.home ≤ slot_base p k + stack_words stack → t.home ≤ slot_base p k + stack_words after)
    → NoOriginalAboveTop p → NoOriginalAboveTop (with_stack p k after)
Settled-with p k stack after u here s t int = grind arith

module _ (x : Storage) (core : List Tagged) (r : Regs) (p : MachineView) (k : ℕ) where
  -- a word more
  pub Represents-push : (stack : List Activation) (c : Shape) (w : Tagged) (q : Place) → Represents x core r p → RunsOn p k stack → NoOriginalAboveTop p → MayPush p.objects c → Fits x.held c (r.s + 1) w → r.s ≢ r.losr
      → Represents x (slice_set core (r.s + 1) w) (record r { s = r.s + 1; place = q }) (with_stack p k (stack_with_cells stack (c ∷ top_cells stack)))
  Represents-push [] c w q s u settled may fit ne = absurd ((running_fits x core r p k [] s u).0.some refl)
  Represents-push (a ∷ below) c w q s u settled may fit ne = Represents-slot x core (slice_set core (r.s + 1) w) r (record r { s = r.s + 1; place = q }) p k (a ∷ below) (record a { cells = c ∷ a.cells } ∷ below) u
      (record {
        size = length-set core (r.s + 1) w;
        outside = λ i o. slice_get-set_other core (r.s + 1) i w (λ z. ⊎_elim (λ (g : i < slot_base p k). omega (arith, g, z, g0.first, g0.top)) (λ (g : slot_base p k + p.size ≤ i). omega (arith, g, z, g0.last, ne, f.0.fits, g0.top)) o);
        regs = record { stacks = s.slots.regs.stacks; size = s.slots.regs.size; peak = s.slots.regs.peak };
        runs = record { slot = g0.slot; first = g0.first; last = g0.last; top = omega (arith, g0.top); mark = g0.mark; level = g0.level };
        fits = record { some = λ e. cc; heads = f.0.heads; fits = omega (arith, g0.last, g0.top, ne, f.0.fits) };
        copies = λ d h there. ⊎_elim (λ (e : c ≡ Copy d h). let P : Shape → Type 0 = λ z. MayPush p.objects z in subst P e may) (λ o. f.1 d h o) there;
        lies = Lie-push (Fits x.held) core (suc (slot_base p k)) (r.s + 1) c w (words k (a ∷ below)) (omega (arith, g0.top, words-length k (a ∷ below))) (omega (arith, g1.last, g1.under, g1.inside, ne)) fit (running_lies x core r p k (a ∷ below) s u);
        homes = λ t int low up. slice_get-set_other core (r.s + 1) t.home w (λ z. omega (arith, z, settled t int k u.used low up, running_high p k (a ∷ below) u, g0.top));
      }) s where
        g0 : RepresentsRunning r p k (a ∷ below)
        g0 = running_slot x core r p k (a ∷ below) s u

        g1 : Room x core r p k (a ∷ below)
        g1 = room_of x core r p k (a ∷ below) s u

        f : IsStack p.size (a ∷ below) × CopiesName p.objects (words k (a ∷ below))
        f = running_fits x core r p k (a ∷ below) s u

  -- a word less
  pub Represents-pop : (a : Activation) (below : List Activation) (c : Shape) (cells : List Shape) (q : Place) → a.cells ≡ c ∷ cells → Represents x core r p → RunsOn p k (a ∷ below)
      → Represents x core (record r { s = r.s - 1; place = q }) (with_stack p k (record a { cells = cells } ∷ below))
  Represents-pop a below c cells q e s u = Represents-slot x core core r (record r { s = r.s - 1; place = q }) p k (a ∷ below) (record a { cells = cells } ∷ below) u
      (record {
        size = refl;
        outside = λ i o. refl;
        regs = record { stacks = s.slots.regs.stacks; size = s.slots.regs.size; peak = s.slots.regs.peak };
        runs = record { slot = g0.slot; first = g0.first; last = g0.last; top = omega (arith, g0.top, ap length e); mark = g0.mark; level = g0.level };
        fits = record { some = λ z. cc; heads = f.0.heads; fits = omega (arith, f.0.fits, ap length e) };
        copies = λ d h there. f.1 d h (let P : List Shape → Type 0 = λ cs. Has (cs ++ headed k a.head below (words k below)) (Copy d h) in subst P (sym e) (inr there));
        lies = (let P : List Shape → Type 0 = λ cs. LieDownward (Fits x.held) core (suc (slot_base p k)) (cs ++ headed k a.head below (words k below)) in (subst P e (running_lies x core r p k (a ∷ below) s u)).1);
        homes = λ t int low up. refl;
      }) s where
        g0 : RepresentsRunning r p k (a ∷ below)
        g0 = running_slot x core r p k (a ∷ below) s u

        f : IsStack p.size (a ∷ below) × CopiesName p.objects (words k (a ∷ below))
        f = running_fits x core r p k (a ∷ below) s u

  -- a mark more
  pub Represents-mark : (a : Activation) (below : List Activation) (w : Tagged) (q : Place) → w ≡ mscw_word (record { far = false; entered = false; env_stack = 0; env_disp = 0; value = false; level = 0; back = r.s + 1 - r.f })
      → Represents x core r p → RunsOn p k (a ∷ below) → NoOriginalAboveTop p → r.s ≢ r.losr
      → Represents x (slice_set core (r.s + 1) w) (record r { s = r.s + 1; f = r.s + 1; place = q }) (with_stack p k (new_mark ∷ a ∷ below))
  Represents-mark a below w q is s u settled ne = Represents-slot x core (slice_set core (r.s + 1) w) r (record r { s = r.s + 1; f = r.s + 1; place = q }) p k (a ∷ below) (new_mark ∷ a ∷ below) u
      (record {
        size = length-set core (r.s + 1) w;
        outside = λ i o. slice_get-set_other core (r.s + 1) i w (λ z. ⊎_elim (λ (g : i < slot_base p k). omega (arith, g, z, g0.first, g0.top)) (λ (g : slot_base p k + p.size ≤ i). omega (arith, g, z, g0.last, ne, f.0.fits, g0.top)) o);
        regs = record { stacks = s.slots.regs.stacks; size = s.slots.regs.size; peak = s.slots.regs.peak };
        runs = record { slot = g0.slot; first = g0.first; last = g0.last; top = omega (arith, g0.top); mark = omega (arith, g0.top); level = g0.level };
        fits = record { some = λ e. cc; heads = (tt, f.0.heads); fits = omega (arith, g0.last, g0.top, ne, f.0.fits) };
        copies = λ d h there. ⊎_elim (λ (e : Is (mscw_word (mark_of k Marked (a ∷ below))) ≡ Copy d h). absurd (let z : ⊥ = cc in z)) (λ o. f.1 d h o) there;
        lies = Lie-push (Fits x.held) core (suc (slot_base p k)) (r.s + 1) (Is (mscw_word (mark_of k Marked (a ∷ below)))) w (words k (a ∷ below)) (omega (arith, g0.top, words-length k (a ∷ below))) (omega (arith, g1.last, g1.under, g1.inside, ne))
            (is ∙ ap (λ n. mscw_word (record { far = false; entered = false; env_stack = 0; env_disp = 0; value = false; level = 0; back = n })) back, λ e. omega (arith, e)) (running_lies x core r p k (a ∷ below) s u);
        homes = λ t int low up. slice_get-set_other core (r.s + 1) t.home w (λ z. omega (arith, z, settled t int k u.used low up, running_high p k (a ∷ below) u, g0.top));
      }) s where
        g0 : RepresentsRunning r p k (a ∷ below)
        g0 = running_slot x core r p k (a ∷ below) s u

        g1 : Room x core r p k (a ∷ below)
        g1 = room_of x core r p k (a ∷ below) s u

        f : IsStack p.size (a ∷ below) × CopiesName p.objects (words k (a ∷ below))
        f = running_fits x core r p k (a ∷ below) s u

        back : r.s + 1 - r.f ≡ top_size (a ∷ below)
        back = omega (arith, g0.top, g0.mark)

  -- an activation record less
  pub Represents-cut : (a : Activation) (below : List Activation) (g : ℕ) (q : Place) → below ≢ [] → Represents x core r p → RunsOn p k (a ∷ below)
      → Represents x core (record r { s = r.bosr + stack_words below; f = r.bosr + mark_place below; level = stack_level below; segment = g; place = q }) (with_stack p k below)
  Represents-cut a below g q some s u = Represents-slot x core core r (record r { s = r.bosr + stack_words below; f = r.bosr + mark_place below; level = stack_level below; segment = g; place = q }) p k (a ∷ below) below u
      (record {
        size = refl;
        outside = λ i o. refl;
        regs = record { stacks = s.slots.regs.stacks; size = s.slots.regs.size; peak = s.slots.regs.peak };
        runs = record { slot = g0.slot; first = g0.first; last = g0.last; top = ap (λ n. n + stack_words below) g0.first; mark = ap (λ n. n + mark_place below) g0.first; level = refl };
        fits = record { some = some; heads = f.0.heads.1; fits = omega (arith, f.0.fits) };
        copies = λ d h there. f.1 d h (Has-under a.cells (headed k a.head below (words k below)) (Copy d h) (Has-headed k a.head below (words k below) (Copy d h) there));
        lies = Lie-headed (Fits x.held) core (suc (slot_base p k)) k a.head below (words k below) (Lie-under (Fits x.held) core (suc (slot_base p k)) a.cells (headed k a.head below (words k below)) (running_lies x core r p k (a ∷ below) s u));
        homes = λ t int low up. refl;
      }) s where
        g0 : RepresentsRunning r p k (a ∷ below)
        g0 = running_slot x core r p k (a ∷ below) s u

        f : IsStack p.size (a ∷ below) × CopiesName p.objects (words k (a ∷ below))
        f = running_fits x core r p k (a ∷ below) s u

        Has-under : (xs ys : List Shape) (z : Shape) → Has ys z → Has (xs ++ ys) z
        Has-under [] ys z h = h
        Has-under (y ∷ xs) ys z h = inr (Has-under xs ys z h)

        Has-headed : (k : ℕ) (h : Head) (below : List Activation) (under : List Shape) (z : Shape) → Has under z → Has (headed k h below under) z
        Has-headed k Marked below under z o = inr o
        Has-headed k (Entered level environment back) below under z o = inr (inr o)

        Lie-headed : (R : Shape → ℕ → Tagged → Type 0) (core : List Tagged) (from k : ℕ) (h : Head) (below : List Activation) (under : List Shape) → LieDownward R core from (headed k h below under) → LieDownward R core from under
        Lie-headed R core from k Marked below under l = l.1
        Lie-headed R core from k (Entered level environment back) below under l = l.1.1

-- the same for a stack that isn't taken apart
module _ (x : Storage) (core : List Tagged) (r : Regs) (p : MachineView) (k : ℕ) where
  pub Represents-popped : (stack : List Activation) (q : Place) → top_cells stack ≢ [] → Represents x core r p → RunsOn p k stack
      → Represents x core (record r { s = r.s - 1; place = q }) (with_stack p k (stack_with_cells stack (without_first (top_cells stack))))
  Represents-popped [] q n s u = absurd (n refl)
  Represents-popped (a ∷ below) q n s u = by_cells a.cells refl n where
    by_cells : (cs : List Shape) → a.cells ≡ cs → cs ≢ [] → Represents x core (record r { s = r.s - 1; place = q }) (with_stack p k (record a { cells = without_first a.cells } ∷ below))
    by_cells [] e n = absurd (n refl)
    by_cells (c ∷ cs) e n = let P : List Shape → Type 0 = λ ds. Represents x core (record r { s = r.s - 1; place = q }) (with_stack p k (record a { cells = ds } ∷ below)) in subst P (ap without_first (sym e)) (Represents-pop x core r p k a below c cs q e s u)

  pub Represents-marked : (stack : List Activation) (w : Tagged) (q : Place) → w ≡ mscw_word (record { far = false; entered = false; env_stack = 0; env_disp = 0; value = false; level = 0; back = r.s + 1 - r.f })
      → Represents x core r p → RunsOn p k stack → NoOriginalAboveTop p → r.s ≢ r.losr
      → Represents x (slice_set core (r.s + 1) w) (record r { s = r.s + 1; f = r.s + 1; place = q }) (with_stack p k (new_mark ∷ stack))
  Represents-marked [] w q is s u settled ne = absurd ((running_fits x core r p k [] s u).0.some refl)
  Represents-marked (a ∷ below) w q is s u settled ne = Represents-mark x core r p k a below w q is s u settled ne

  pub Represents-below : (stack : List Activation) (t f l g : ℕ) (q : Place) → activations_below stack ≢ [] → Represents x core r p → RunsOn p k stack
      → t ≡ r.bosr + stack_words (activations_below stack) → f ≡ r.bosr + mark_place (activations_below stack) → l ≡ stack_level (activations_below stack)
      → Represents x core (record r { s = t; f = f; level = l; segment = g; place = q }) (with_stack p k (activations_below stack))
  Represents-below [] t f l g q n s u et ef el = absurd (n refl)
  Represents-below (a ∷ below) t f l g q n s u et ef el = rw (et, ef, el) (Represents-cut x core r p k a below g q n s u)
