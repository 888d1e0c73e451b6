use Rattle.std.proofs.Common.{arith}
use Rattle.b67_arith.proofs.Fields.{is_word, set_below, one_is}
use Rattle.b67_arith.proofs.bits.bset.Goals as goal
use Rattle.b67_arith.proofs.bits.bset.Goals.{then-x-n-eq0, else-x-n-eq0}

pub of-requires : goal.of-requires
of-requires c =
    elim c.if-x-n-eq0.branch [
      | then-x-n-eq0 w ↦ is_word _ (omega (arith, w.of-is, one_is c.args.n (omega arith), set_below c.in_ok-x.x c.args.n c.if-n-gt47.false c.in_ok-x.ensures.small w.if-x-n-eq0.true))
      | else-x-n-eq0 w ↦ is_word _ (omega (arith, w.of-is, c.in_ok-x.ensures.small))
    ]
