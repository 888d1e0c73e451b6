use Rattle.std.proofs.Common.{arith}
use Rattle.std.proofs.lemmas.Nat.{xor_lt}
use Rattle.b67_arith.proofs.bits.leqv.Goals as goal

pub overflow_sub-x : goal.overflow_sub-x
overflow_sub-x c = omega (arith, xor_lt 48 c.in_ok-x.x c.in_ok-y.y c.in_ok-x.ensures.small c.in_ok-y.ensures.small)
