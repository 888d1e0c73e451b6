use Rattle.std.proofs.Common.{arith}
use Rattle.b67_arith.proofs.Fields.{inserted_is, inserted_below}
use Rattle.b67_arith.proofs.bits.inserted.Goals as goal

pub overflow_add-result : goal.overflow_add-result
overflow_add-result c =
    omega (arith, inserted_is c.args.x c.args.y c.args.high c.args.width c.requires.high c.requires.width c.requires.bits, inserted_below c.args.x c.args.y c.args.high c.args.width c.requires.high c.requires.width c.requires.bits)

pub overflow_add-result-2 : goal.overflow_add-result-2
overflow_add-result-2 c =
    omega (arith, inserted_is c.args.x c.args.y c.args.high c.args.width c.requires.high c.requires.width c.requires.bits, inserted_below c.args.x c.args.y c.args.high c.args.width c.requires.high c.requires.width c.requires.bits)

pub returns-clause-value : goal.returns-clause-value
returns-clause-value c = inserted_is c.args.x c.args.y c.args.high c.args.width c.requires.high c.requires.width c.requires.bits

pub returns-clause-small : goal.returns-clause-small
returns-clause-small c =
    omega (arith, inserted_is c.args.x c.args.y c.args.high c.args.width c.requires.high c.requires.width c.requires.bits, inserted_below c.args.x c.args.y c.args.high c.args.width c.requires.high c.requires.width c.requires.bits)
