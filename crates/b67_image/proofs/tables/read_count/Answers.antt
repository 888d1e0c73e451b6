use Rattle.std.proofs.Common.{◌≡◌, None}
use Rattle.std.proofs.lemmas.Result.{err_from_is_err_and}
use Rattle.b67_image.specs.Reading.{number_within, read_count}
use Rattle.b67_image.proofs.Steps.{fails, then_gives, within, below, above}
use Rattle.b67_image.proofs.tables.read_count.Goals as goal
use Rattle.b67_image.proofs.tables.read_count.Goals.{then-count-low-via-then-count-low, then-count-low-via-else-count-low+then-count-high}

pub returns-in_err-count : goal.returns-in_err-count
unfolding read_count
returns-in_err-count c = let p = err_from_is_err_and c.from_residual.result c.from_residual.ensures.1 in rw (p.1, p.2) (record { row = fails c.in_err-count.field-0.0 _ _ c.in_err-count.ensures; inside = tt })

pub returns-then-count-low : goal.returns-then-count-low
unfolding read_count
returns-then-count-low c =
    let out : number_within c.args.low c.args.high (c.in_ok-count.count, c.in_ok-count.rest.now) ≡ None = elim c.then-count-low.branch [ then-count-low-via-then-count-low w ↦ below c.args.low c.args.high (c.in_ok-count.count, c.in_ok-count.rest.now) w.if-count-low.true | then-count-low-via-else-count-low+then-count-high w ↦ above c.args.low c.args.high (c.in_ok-count.count, c.in_ok-count.rest.now) w.if-count-high.true ] in
    record { row = then_gives _ _ _ _ c.in_ok-count.ensures out; inside = tt }

pub returns : goal.returns
unfolding read_count
returns c = record { row = then_gives _ _ _ _ c.in_ok-count.ensures (within c.args.low c.args.high (c.in_ok-count.count, c.in_ok-count.rest.now) c.if-count-low.false c.if-count-high.false); inside = c.if-count-high.false }
