use Rattle.b67_dump.proofs.printing.put.Goals as goal

pub returns-in-Ok : goal.returns-in-Ok
returns-in-Ok g c = record { whole = c.in-Ok.ensures.whole; part = tt; cause = record { later = c.in-Ok.ensures.cause.later; failed = tt } }

pub returns-in-Err : goal.returns-in-Err
returns-in-Err g c = record { whole = tt; part = record { count = c.in-Err.field-0; proper = c.in-Err.ensures.part.0; first = c.in-Err.ensures.part.1 }; cause = record { later = c.in-Err.ensures.cause.later; failed = c.in-Err.ensures.cause.failed } }
