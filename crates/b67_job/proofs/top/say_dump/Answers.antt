use Rattle.std.proofs.Common.{refl}
use Rattle.b67_session_lines.specs.Ends.{all_printed, cut_off}
use Rattle.b67_job.proofs.top.say_dump.Goals as goal

pub returns-in-Ok : goal.returns-in-Ok
returns-in-Ok g c = λ x told plan s ordered stands. all_printed refl (c.in-Ok.ensures.whole x told plan s ordered stands)

pub returns-in-Err : goal.returns-in-Err
returns-in-Err g c = λ x told plan s ordered stands. cut_off refl c.in-Err.ensures.cause.failed (c.in-Err.ensures.part x told plan s ordered stands)
