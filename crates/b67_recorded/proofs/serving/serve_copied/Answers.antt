use Rattle.std.proofs.Common.{arith}
use Rattle.b67_recorded.specs.Recorded.{is_copied, is_unread}
use Rattle.b67_recorded.proofs.serving.serve_copied.Goals as goal

pub returns-in-Ok-clause-over : goal.returns-in-Ok-clause-over
returns-in-Ok-clause-over g c = is_copied c.in-Ok.file c.in-Ok.ensures.over c.in-Ok.ensures.faults c.serve_mirrored.ensures.over

pub returns-in-Err-clause-over : goal.returns-in-Err-clause-over
returns-in-Err-clause-over g c = is_unread c.in-Err.device c.close.ensures.leaves (λ few. c.in-Err.ensures.fair (omega (arith, few, c.requires))) c.say_backing_fault.ensures
