-- What raising the areas and writing a base word makes of core.
use Rattle.std.proofs.Common.{◌≡◌, ◌≢◌, ℕ, ◌+◌, ◌-◌, ◌<◌, ◌≤◌, List, length, Some, sym, ◌∙◌, ap, arith, subst, slice_set, inr, ◌⊎◌}
use Rattle.std.specs.List.{slice_get}
use Rattle.b67_word.specs.Tagged.{Tagged, word}
use Rattle.b67_core.proofs.Writes.{slice_get-set_same, slice_get-set_other}
use Rattle.b67_area.specs.declared.Areas.{Areas}
use Rattle.b67_area.specs.declared.Info.{Info}
use Rattle.b67_area.specs.Spans.{Span, area_at, cut}
use Rattle.b67_area.specs.Directory.{IsDirectory, OnlyHoles}
use Rattle.b67_area.proofs.Laws.{OnlyHoles-area, OnlyHoles-below, area_inside}
use Rattle.b67_area.proofs.Separation.{IsDirectory-set_below}
use Rattle.b67_ctl.specs.declared.registers.Regs.{Regs}
use Rattle.b67_stack.specs.Common.{MachineView, Storage, Represents}
use Rattle.b67_task.specs.Slots.{grown, raised, HasRoom}
use Rattle.b67_task.proofs.Grown.{Represents-grown}

module _ (x : Storage) (p : MachineView) (core mid new : List Tagged) (r : Regs) (areas areas' : Areas) (size : ℕ) (s : Represents x core r p) (g : HasRoom x core r p) (low : areas.low ≡ x.low) (size_is : size ≡ r.stack_size)
    (outside : (ss : List Span) → IsDirectory core areas.low ss → ((y : ℕ) (a : Info) → area_at areas.low ss y ≡ Some a → areas.low + size < y) → OnlyHoles core mid areas.low ss)
    (written : new ≡ slice_set mid areas.low (word 0 0)) where
  size_p : size ≡ p.size
  size_p = size_is ∙ s.slots.regs.size

  directory : IsDirectory core areas.low x.spans
  directory = subst (λ (n : ℕ). IsDirectory core n x.spans) (sym low) s.directory

  pub free : (y : ℕ) (a : Info) → area_at areas.low x.spans y ≡ Some a → areas.low + size < y
  free y a e = omega (arith, g.clear y a (subst (λ (n : ℕ). area_at n x.spans y ≡ Some a) low e), low, size_p)

  holes : OnlyHoles core mid areas.low x.spans
  holes = outside x.spans directory free

  at_new : (i : ℕ) → i ≢ areas.low → slice_get new i ≡ slice_get mid i
  at_new i ne = ap (λ (c : List Tagged). slice_get c i) written ∙ slice_get-set_other mid areas.low i (word 0 0) ne

  pub below_raised : (i : ℕ) → i < areas.low → i ≢ 152 → slice_get new i ≡ slice_get core i
  below_raised i under ne = at_new i (λ e. omega (arith, e, under)) ∙ OnlyHoles-below core mid areas.low x.spans i holes ne under

  module _ (raised_is : areas' ≡ record areas { low = areas.low + size })
      (row : (ss : List Span) → IsDirectory core areas.low ss → ((y : ℕ) (a : Info) → area_at areas.low ss y ≡ Some a → areas.low + size < y) → IsDirectory mid (areas.low + size) (cut (areas.low + size - areas.low) ss))
      (same : (ss : List Span) (y : ℕ) → IsDirectory core areas.low ss → ((z : ℕ) (a : Info) → area_at areas.low ss z ≡ Some a → areas.low + size < z) → area_at (areas.low + size) (cut (areas.low + size - areas.low) ss) y ≡ area_at areas.low ss y)
      (len : length mid ≡ length core) (len' : length new ≡ length mid) where
    abbrev spans' : List Span
    spans' = cut (areas.low + size - areas.low) x.spans

    high : areas.low + size ≡ x.low + p.size
    high = omega (arith, low, size_p)

    directory_new : IsDirectory new (areas.low + size) spans'
    directory_new = subst (λ (c : List Tagged). IsDirectory c (areas.low + size) spans') (sym written)
        (IsDirectory-set_below mid (areas.low + size) spans' areas.low (word 0 0) (row x.spans directory free) (omega (arith, size_p, g.some)) (inr_low))
      where
        inr_low : (areas.low < 152) ⊎ (160 ≤ areas.low)
        inr_low = inr (omega (arith, s.directory.above, low))

    pub grown_here : Represents (raised x areas'.low) new (record r { peak = r.peak + 1 }) (grown p)
    grown_here =
        let areas_same : (at : ℕ) → area_at (x.low + p.size) spans' at ≡ area_at x.low x.spans at = λ at. subst (λ (n : ℕ). area_at n spans' at ≡ area_at x.low x.spans at) high (same x.spans at directory free ∙ ap (λ (n : ℕ). area_at n x.spans at) low) in
        let stands = Represents-grown x core new r p spans' s g (len' ∙ len) (subst (λ (n : ℕ). IsDirectory new n spans') high directory_new) areas_same
        (λ i under ne. below_raised i (omega (arith, under, low)) ne)
        (ap (λ (c : List Tagged). slice_get c x.low) written ∙ ap (slice_get (slice_set mid areas.low (word 0 0))) (sym low) ∙ slice_get-set_same mid areas.low (word 0 0) (omega (arith, len, g.inside, g.some, low)))
        (λ at a e q up down.
        let inside = area_inside core x.low x.spans at a s.directory e in
        at_new q (λ z. omega (arith, z, up, low, inside.0)) ∙ OnlyHoles-area core mid areas.low x.spans at a q holes (subst (λ (n : ℕ). area_at n x.spans at ≡ Some a) (sym low) e) (omega (arith, s.directory.above, low)) (omega (arith, up)) (omega (arith, down))) in
        let is : areas'.low ≡ x.low + p.size = ap (λ (z : Areas). z.low) raised_is ∙ high in
        let spans_are : cut (areas'.low - x.low) x.spans ≡ spans' = ap (λ (n : ℕ). cut n x.spans) (let e : areas'.low - x.low ≡ areas.low + size - areas.low = omega (arith, is, size_p) in e) in
        subst (λ (ss : List Span). Represents (record x { low = areas'.low; spans = ss }) new (record r { peak = r.peak + 1 }) (grown p)) (sym spans_are)
        (subst (λ (n : ℕ). Represents (record x { low = n; spans = spans' }) new (record r { peak = r.peak + 1 }) (grown p)) (sym is) stands)
