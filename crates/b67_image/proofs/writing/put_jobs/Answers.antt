use Rattle.std.proofs.Common.{length, Ok, refl, ap, arith}
use Rattle.std.specs.List.{flat_map}
use Rattle.b67_image.proofs.Chunks.{punched_stop, punched_is, item_on, item_stop, items_end}
use Rattle.b67_image.specs.Spelling.{four_bytes, job_bytes}
use Rattle.b67_image.proofs.writing.put_jobs.Goals as goal

pub each-preserved : goal.each-preserved
each-preserved g c = (
  omega (arith, c.each.invariant.0, c.in_ok-put_job.ensures.cause.later),
  item_on job_bytes g.K.Sink.taken c.args.sink.now c.each.sink c.put_job.new.sink c.args.hand.now c.each.hand c.put_job.new.hand (four_bytes (length c.args.jobs.now)) c.args.jobs.now c.job-item.result c.each.job-index c.each-test.true c.each.invariant.1 (punched_is g.K.Sink.taken c.each.sink c.put_job.new.sink c.each.hand c.put_job.new.hand (Ok tt) _ _ (ap job_bytes c.job-item.is) c.in_ok-put_job.ensures.row),
)

pub returns-in_err-put_job-clause-row : goal.returns-in_err-put_job-clause-row
returns-in_err-put_job-clause-row g c = item_stop job_bytes g.K.Sink.taken c.args.sink.now c.each.sink c.put_job.new.sink c.args.hand.now c.each.hand c.put_job.new.hand (four_bytes (length c.args.jobs.now)) c.args.jobs.now c.job-item.result c.each.job-index c.from_residual-in_err-put_job.result _ c.from_residual-in_err-put_job.ensures.0 (ap job_bytes c.job-item.is) c.each-test.true c.each.invariant.1 c.in_err-put_job.ensures.row

pub returns-in_err-put_count-clause-row : goal.returns-in_err-put_count-clause-row
returns-in_err-put_count-clause-row g c = punched_stop g.K.Sink.taken c.args.sink.now c.put_count.new.sink c.args.hand.now c.put_count.new.hand c.from_residual.result (four_bytes (length c.args.jobs.now)) _ (flat_map (job_bytes) c.args.jobs.now) c.from_residual.ensures.0 refl c.in_err-put_count.ensures.row

pub returns-clause-row : goal.returns-clause-row
returns-clause-row g c = items_end (job_bytes) g.K.Sink.taken c.args.sink.now c.each.sink c.args.hand.now c.each.hand (four_bytes (length c.args.jobs.now)) c.args.jobs.now c.each.job-index c.each-test.false c.each.invariant.1
