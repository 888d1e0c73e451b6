use Rattle.std.proofs.Common.{◌+◌, arith}
use Rattle.b67_backing.proofs.Stores.{tagged, low_word}
use Rattle.b67_backing.proofs.copies.unpack.Goals as goal

pub returns-clause-tags : goal.returns-clause-tags
returns-clause-tags c = λ i low. tagged c.args.tag c.copy_under.new.self (c.args.at + i) i _ (c.copy_under.ensures.value i (omega arith)) (omega arith)

pub returns-clause-low : goal.returns-clause-low
returns-clause-low c = λ i low. low_word c.args.tag c.copy_under.new.self (c.args.at + i) i _ (c.copy_under.ensures.value i (omega arith)) (omega arith)
