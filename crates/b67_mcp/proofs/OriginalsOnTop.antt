-- A word more on the running stack, which is an original.
use Rattle.std.proofs.Common.{◌≡◌, ◌≢◌, ℕ, suc, ◌+◌, ◌<◌, ◌≤◌, List, [], ◌∷◌, refl, arith, ⊎_elim, slice_set}
use Rattle.std.proofs.Math.ListN.{length-set}
use Rattle.b67_word.specs.Tagged.{Tagged}
use Rattle.b67_ctl.specs.declared.registers.Regs.{Regs}
use Rattle.b67_core.proofs.Writes.{slice_get-set_other}
use Rattle.b67_lemmas.specs.Lists.{Has}
use Rattle.b67_stack.specs.Common.{Original, Copy, IsOriginal, Fits, Activation, IsStack, stack_words, words, PagedObject, MachineView, RunsOn, NoOriginalAboveTop, slot_base, CopiesName, Storage, RepresentsRunning, Represents, with_stack, stack_with_cells, top_cells}
use Rattle.b67_stack.proofs.Lies.{Lie-push}
use Rattle.b67_stack.proofs.Heights.{words-length}
use Rattle.b67_stack.proofs.Slots.{Represents-slot, running_slot, running_fits, running_lies}
use Rattle.b67_stack.proofs.Pushes.{Room, room_of}
use Rattle.b67_layout.proofs.Settles.{Settled-more}

module _ (x : Storage) (core : List Tagged) (r : Regs) (p : MachineView) (k : ℕ) (s : Represents x core r p) (settled : NoOriginalAboveTop p) (w : Tagged) (original : IsOriginal w) (higher : r.s < r.losr) where
  -- no object is known by the next address
  pub next_apart : (stack : List Activation) → RunsOn p k stack → (t : PagedObject) → Has p.objects t → t.home ≢ r.s + 1
  next_apart stack u t int e = grind arith

  original_on : (a : Activation) (below : List Activation) → RunsOn p k (a ∷ below)
      → Represents x (slice_set core (r.s + 1) w) (record r { s = r.s + 1 }) (with_stack p k (record a { cells = Original (r.s + 1) ∷ a.cells } ∷ below))
  original_on a below u = Represents-slot x core (slice_set core (r.s + 1) w) r (record r { s = r.s + 1 }) p k (a ∷ below) (record a { cells = Original (r.s + 1) ∷ a.cells } ∷ below) u
      (record {
        size = length-set core (r.s + 1) w;
        outside = λ i o. slice_get-set_other core (r.s + 1) i w (λ z. ⊎_elim (λ (g : i < slot_base p k). omega (arith, g, z, g0.first, g0.top)) (λ (g : slot_base p k + p.size ≤ i). omega (arith, g, z, g0.last, higher, f.0.fits, g0.top)) o);
        regs = record { stacks = s.slots.regs.stacks; size = s.slots.regs.size; peak = s.slots.regs.peak };
        runs = record { slot = g0.slot; first = g0.first; last = g0.last; top = omega (arith, g0.top); mark = g0.mark; level = g0.level };
        fits = record { some = λ e. cc; heads = f.0.heads; fits = omega (arith, g0.last, g0.top, higher, f.0.fits) };
        copies = λ d h there. ⊎_elim (λ (e : Original (r.s + 1) ≡ Copy d h). absurd (let z : ⊥ = cc in z)) (λ o. f.1 d h o) there;
        lies = Lie-push (Fits x.held) core (suc (slot_base p k)) (r.s + 1) (Original (r.s + 1)) w (words k (a ∷ below)) (omega (arith, g0.top, words-length k (a ∷ below))) (omega (arith, g1.last, g1.under, g1.inside, higher)) (refl, original) (running_lies x core r p k (a ∷ below) s u);
        homes = λ t int low up. slice_get-set_other core (r.s + 1) t.home w (next_apart (a ∷ below) u t int);
      }) s where
        g0 : RepresentsRunning r p k (a ∷ below)
        g0 = running_slot x core r p k (a ∷ below) s u

        g1 : Room x core r p k (a ∷ below)
        g1 = room_of x core r p k (a ∷ below) s u

        f : IsStack p.size (a ∷ below) × CopiesName p.objects (words k (a ∷ below))
        f = running_fits x core r p k (a ∷ below) s u

  -- the original on top, and no original above a top
  pub Represents-original : (stack : List Activation) → RunsOn p k stack
      → let after = stack_with_cells stack (Original (r.s + 1) ∷ top_cells stack) in
      Represents x (slice_set core (r.s + 1) w) (record r { s = r.s + 1 }) (with_stack p k after) × NoOriginalAboveTop (with_stack p k after) × (stack_words after ≡ stack_words stack + 1)
  Represents-original [] u = absurd ((running_fits x core r p k [] s u).0.some refl)
  Represents-original (a ∷ below) u = (original_on a below u, Settled-more p k (a ∷ below) (record a { cells = Original (r.s + 1) ∷ a.cells } ∷ below) u (omega arith) settled, omega arith)
