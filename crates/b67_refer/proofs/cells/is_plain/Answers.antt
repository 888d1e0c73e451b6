use Rattle.std.proofs.Common.{◌∙◌, sym, arith}
use Rattle.b67_refer.proofs.cells.is_plain.Goals as goal

pub returns-then-tag-eq3 : goal.returns-then-tag-eq3
returns-then-tag-eq3 c = (c.loop-k.k, c.get.result, omega (arith, c.loop-k.auto.k), omega (arith, c.loop-k-test.true), c.get.ensures, sym c.tag.ensures.value ∙ c.if-tag-eq3.true)

pub returns : goal.returns
returns c = λ k w low up there tag. c.loop-k.invariant k w low (omega (arith, up, c.loop-k-test.false, c.loop-k.auto.k)) there tag
