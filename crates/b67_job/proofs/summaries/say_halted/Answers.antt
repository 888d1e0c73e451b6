use Rattle.b67_job.proofs.Closings.{closes_plain, closes_exercise, closes_image, cuts_image}
use Rattle.b67_job.proofs.summaries.say_halted.Goals as goal

pub returns-in-Plain : goal.returns-in-Plain
returns-in-Plain g c =
    closes_plain g.K.Sink.taken g.K.Sink.faults c.args.printer.now c.say.new.printer c.args.machine.now c.args.closing c.halted_line.result c.say.result
    c.in-Plain.is c.halted_line.ensures c.say.ensures

pub returns-in-Exercise : goal.returns-in-Exercise
returns-in-Exercise g c =
    closes_exercise g.K.Sink.taken g.K.Sink.faults c.args.printer.now c.say-in-Exercise.new.printer c.args.machine.now c.args.closing c.in-Exercise._exercise c.halted_line-in-Exercise.result c.say-in-Exercise.result
    c.in-Exercise.is c.halted_line-in-Exercise.ensures c.say-in-Exercise.ensures

pub returns-in-Ok : goal.returns-in-Ok
returns-in-Ok g c =
    closes_image g.K.Sink.taken g.K.Sink.faults c.args.printer.now c.say-in-Ok.new.printer c.args.machine.now c.args.closing c.write_image.new.sink c.halted_line-in-Ok.result c.say-in-Ok.result
    c.in-Image.is c.in-Ok.ensures.whole c.in-Ok.ensures.cause.later c.halted_line-in-Ok.ensures c.say-in-Ok.ensures

pub returns-in-Err : goal.returns-in-Err
returns-in-Err g c =
    cuts_image g.K.Sink.taken g.K.Sink.faults c.args.printer.now c.write_image.new.sink c.args.machine.now c.args.closing
    c.in-Image.is c.in-Err.ensures.cause.failed c.in-Err.ensures.part
