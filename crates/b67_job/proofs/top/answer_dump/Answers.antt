use Rattle.b67_job.specs.Due.{isnt_read}
use Rattle.b67_job.proofs.Going.{dumped}
use Rattle.b67_job.proofs.top.answer_dump.Goals as goal

pub returns-in-Ok : goal.returns-in-Ok
returns-in-Ok g c = dumped c.dumps_are_shown.ensures c.in-Ok.image c.say_dump.result c.in-Ok.ensures.answer c.say_dump.ensures

pub returns-in-Err : goal.returns-in-Err
returns-in-Err g c = isnt_read c.in-Err.fault c.in-Err.ensures.answer c.refuse_image.ensures
