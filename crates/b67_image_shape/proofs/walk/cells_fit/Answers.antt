use Rattle.std.proofs.Common.{◌-◌, refl, sym, ◌∙◌, arith}
use Rattle.b67_image_shape.proofs.WalkTurns.{cells_next, cells_stop, cells_end}
use Rattle.b67_image_shape.proofs.walk.cells_fit.Goals as goal

pub down-init : goal.down-init
down-init c = (omega arith, refl)

pub overflow_add-at : goal.overflow_add-at
overflow_add-at c = let low = c.down.invariant.0 in omega (arith, low, c.requires)

pub returns-then-not-cell_fits : goal.returns-then-not-cell_fits
returns-then-not-cell_fits c = cells_stop c.args.core.now c.args.at c.args.many c.down.left (c.down.left - 1) (omega (arith, c.down-test.true)) c.down.invariant.1 (sym c.cell_fits.ensures ∙ c.if-not-cell_fits.true)

pub down-preserved : goal.down-preserved
down-preserved c =
    let low = c.down.invariant.0 in
    (omega (arith, low), cells_next c.args.core.now c.args.at c.args.many c.down.left (c.down.left - 1) (omega (arith, c.down-test.true)) c.down.invariant.1 (sym c.cell_fits.ensures ∙ c.if-not-cell_fits.false))

pub returns : goal.returns
returns c = cells_end c.args.core.now c.args.at c.args.many c.down.left (omega (arith, c.down-test.false)) c.down.invariant.1
