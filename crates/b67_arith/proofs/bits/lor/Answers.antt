use Rattle.std.proofs.lemmas.Nat.{or_lt}
use Rattle.b67_arith.proofs.Fields.{is_word}
use Rattle.b67_arith.proofs.bits.lor.Goals as goal

pub of-requires : goal.of-requires
of-requires c = is_word _ (or_lt 48 c.in_ok-x.x c.in_ok-y.y c.in_ok-x.ensures.small c.in_ok-y.ensures.small)
