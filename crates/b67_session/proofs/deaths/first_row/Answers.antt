use Rattle.b67_session.proofs.Firsts.{first_read, none_past, next_low, other_number, other_job}
use Rattle.b67_session.proofs.deaths.first_row.Goals.{else-row-job-via-then-row-job+else-row-eq1, else-row-job-via-else-row-job}
use Rattle.b67_session.proofs.deaths.first_row.Goals as goal

pub loop-at-preserved : goal.loop-at-preserved
loop-at-preserved c = λ i f.
    next_low c.loop-at.at i (c.loop-at.invariant i f)
    (elim c.else-row-job.branch [
      | else-row-job-via-then-row-job+else-row-eq1 w ↦ other_number c.args.rows.now c.args.job c.loop-at.at i _ f w.if-row-eq1.false
      | else-row-job-via-else-row-job w ↦ other_job c.args.rows.now c.args.job c.loop-at.at i _ f w.if-row-job.false
    ])

pub returns-then-row-eq1 : goal.returns-then-row-eq1
returns-then-row-eq1 c = first_read c.args.rows.now c.args.job c.loop-at.at _ c.loop-at-test.true c.if-row-job.true c.if-row-eq1.true

pub returns : goal.returns
returns c = absurd (none_past c.args.rows.now c.args.job c.loop-at.at c.requires.lives.0 c.requires.lives.1 (c.loop-at.invariant c.requires.lives.0 c.requires.lives.1) c.loop-at-test.false)
