use Rattle.b67_backing.proofs.Heads.{LedSoFar}
use Rattle.b67_image_shape.proofs.chains.led_to.Given as goal

abbrev pub invariant-each : goal.invariant-each
invariant-each l = LedSoFar l.links l.led.items l.i
