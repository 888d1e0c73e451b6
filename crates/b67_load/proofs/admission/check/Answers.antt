use Rattle.std.proofs.Common.{◌+◌, length, sym, ap, refl, arith}
use Rattle.std.proofs.lemmas.Result.{err_from_is_err_and}
use Rattle.b67_load.proofs.FirstRefusal.{segments-begin, segments-go_on, segments-refuse, segments-done}
use Rattle.b67_load.proofs.admission.check.Goals as goal

pub segments-init : goal.segments-init
segments-init c = (refl, rw c.as_slice-segments.ensures (segments-begin c.args.file.now (rw c.as_slice-segments.ensures at (sym c.if-is_empty.ensures))))

pub overflow_add-number : goal.overflow_add-number
overflow_add-number c = omega (arith, ap length c.as_slice-segments.ensures, c.requires.count, c.segments.invariant.0)

pub returns-in_err-check_segment : goal.returns-in_err-check_segment
returns-in_err-check_segment c =
    let p = err_from_is_err_and c.from_residual.result c.from_residual.ensures.1 in
    rw (p.1, p.2) (segments-refuse (Unit {0}) (Unit {0}) c.args.file.now (c.segments.number + 1) c.segments.segment-index c.as_slice-segments.result.now c.segment-item.result _ c.segments-test.true c.segment-item.is c.in_err-check_segment.ensures c.segments.invariant.1)

pub segments-preserved : goal.segments-preserved
segments-preserved c =
    (omega (arith, c.segments.invariant.0), segments-go_on c.args.file.now (c.segments.number + 1) c.segments.segment-index c.as_slice-segments.result.now c.segment-item.result c.segments-test.true c.segment-item.is c.in_ok-check_segment.ensures c.segments.invariant.1)

pub returns : goal.returns
returns c = segments-done c.args.file.now _ c.segments.segment-index c.as_slice-segments.result.now c.segments-test.false c.segments.invariant.1
