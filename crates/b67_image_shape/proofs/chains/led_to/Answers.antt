use Rattle.std.proofs.Common.{◌≡◌, ◌+◌, List, get_or, slice_set, Bool, true, refl, sym, subst, inl, inr}
use Rattle.b67_backing.proofs.Heads.{LedSoFar, led_on, led_past}
use Rattle.b67_image_shape.proofs.chains.led_to.Goals.{then-link-ne0+then-link-i, else-link-ne0, else-link-ne0-via-then-link-ne0+else-link-i, else-link-ne0-via-else-link-ne0}
use Rattle.b67_image_shape.proofs.chains.led_to.Goals as goal

pub each-preserved : goal.each-preserved
each-preserved c = elim c.if-link-ne0.branch [
  | then-link-ne0+then-link-i w ↦
      let e : c.if-link-ne0.led.items ≡ slice_set c.each.led.items (get_or c.args.links.now c.each.i 0) true = rw w.led-is refl in
      subst (λ (led : List Bool). LedSoFar c.args.links.now led (c.each.i + 1)) (sym e) (led_on c.args.links.now c.each.led.items c.each.i c.requires.inside c.each-test.true w.if-link-ne0.true w.if-link-i.true c.each.invariant)
  | else-link-ne0 w ↦
      let e : c.if-link-ne0.led.items ≡ c.each.led.items = rw w.led-is refl in
      subst (λ (led : List Bool). LedSoFar c.args.links.now led (c.each.i + 1)) (sym e) (elim w.else-link-ne0.branch [
        | else-link-ne0-via-then-link-ne0+else-link-i v ↦ led_past c.args.links.now c.each.led.items c.each.i (inr v.if-link-i.false) c.each.invariant
        | else-link-ne0-via-else-link-ne0 v ↦ led_past c.args.links.now c.each.led.items c.each.i (inl v.if-link-ne0.false) c.each.invariant
      ])
]
