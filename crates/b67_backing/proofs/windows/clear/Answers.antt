use Rattle.std.proofs.Common.{false, refl, ◌∙◌, arith}
use Rattle.std.proofs.Math.ListN.{length-set}
use Rattle.b67_backing.proofs.Marks.{cleared_on, cleared_all}
use Rattle.b67_backing.proofs.windows.clear.Goals as goal

pub each-init : goal.each-init
each-init c = record { none = λ j lt. absurd (omega (arith, lt)); many = refl }

pub each-preserved : goal.each-preserved
each-preserved c = record {
  none = cleared_on c.each.marks c.each.i (omega (arith, c.each-test.true, c.each.invariant.many)) c.each.invariant.none;
  many = length-set c.each.marks c.each.i false ∙ c.each.invariant.many;
}

pub returns-clause-none : goal.returns-clause-none
returns-clause-none c = cleared_all c.each.marks c.each.i (omega (arith, c.each-test.false, c.each.invariant.many)) c.each.invariant.none
