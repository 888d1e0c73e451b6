use Rattle.std.proofs.Common.{◌-◌, true, arith}
use Rattle.std.proofs.Math.ListN.{length-set}
use Rattle.b67_backing.proofs.Marks.{not_within, marked_within}
use Rattle.b67_backing.proofs.windows.mark_within.Goals as goal

pub returns-then-n-first-clause-each : goal.returns-then-n-first-clause-each
returns-then-n-first-clause-each c = λ i lt. not_within c.args.marks.now c.args.n (c.args.first) i (λ e. omega (arith, e, c.if-n-first.true))

pub returns-then-at-marks-clause-each : goal.returns-then-at-marks-clause-each
returns-then-at-marks-clause-each c = λ i lt. not_within c.args.marks.now c.args.n (c.args.first) i (λ e. omega (arith, e, lt, c.if-n-first.false, c.if-at-marks.true))

pub returns-clause-length : goal.returns-clause-length
returns-clause-length c = length-set c.args.marks.now (c.args.n - c.args.first) true

pub returns-clause-each : goal.returns-clause-each
returns-clause-each c = λ i lt. marked_within c.args.marks.now c.args.n c.args.first i (omega (arith, c.if-n-first.false)) (omega (arith, c.if-at-marks.false))
