use Rattle.std.proofs.Common.{◌+◌, ◌-◌, refl, sym, arith, subst}
use Rattle.b67_backing.specs.declared.refusals.SpaceFault.{SpaceFault}
use Rattle.b67_mcp.specs.declared.ends.Stop.TheVariants.{BackingFull}
use Rattle.b67_mcp.specs.Resizing.{StopsAt}
use Rattle.b67_mcp.proofs.SectorSums.{sectors_few}
use Rattle.b67_mcp.proofs.resize.stopped.Goals as goal

pub overflow_add-result : goal.overflow_add-result
overflow_add-result c =
    let q = c.requires.stands in
    let sum = c.sector_sum.ensures q.storage q.told q.plan q.session q.ordered q.stands in
    let few = sectors_few q.storage c.args.machine.now.cpu q.plan q.session q.ordered q.stands.session in
    omega (arith, sum, few, c.sectors_needed.ensures, c.requires.few)

pub returns-in-BackingFull : goal.returns-in-BackingFull
returns-in-BackingFull c =
    let sum = c.sector_sum.result + c.sectors_needed.result - c.sectors_needed-in-BackingFull.result in
    let S : SpaceFault → Type 0 = λ f. StopsAt c.args.machine.now c.args.before c.args.after f (BackingFull sum c.count.result) in
    subst S (sym c.in-BackingFull.is) (
      sum,
      c.count.result,
      refl,
      λ x told plan s o h. (let is = c.sector_sum.ensures x told plan s o h in omega (arith, is, c.sectors_needed.ensures, c.sectors_needed-in-BackingFull.ensures, c.requires.more)),
      c.count.ensures,
    )
