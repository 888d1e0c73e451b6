use Rattle.std.specs.Process.{exit_status}
use Rattle.b67_promises.proofs.ServesHalves.{rest_served}
use Rattle.b67_promises.proofs.halts.serve_halted_then_resumed.Goals as goal

pub returns-clause-together : goal.returns-clause-together
returns-clause-together g c = λ path bytes before text w w' named named' known told few took took' given short three zero.
    rest_served g.R.Devices.kept g.R.File.Backing.holds g.R.File.Backing.size g.R.File.Backing.faults c.args.devices.now c.serve-halted.new.devices c.serve-resumed.new.devices
    c.args.words.now g.S.Source.left g.S.Source.faults c.args.input.now c.serve-halted.new.input g.K.Sink.taken g.K.Sink.faults c.args.printer.now c.serve-halted.new.printer (exit_status c.serve-halted.result)
    c.args.resume_words.now g.I.Source.left g.I.Source.faults c.args.image.now c.serve-resumed.new.input g.L.Sink.taken g.L.Sink.faults c.args.resume_printer.now c.serve-resumed.new.printer (exit_status c.serve-resumed.result)
    c.parts_tell_sessions.ensures c.serve-halted.ensures.served c.serve-resumed.ensures.served
    path bytes before text w w' named named' known told few took took' given short three zero

pub returns-clause-calls : goal.returns-clause-calls
returns-clause-calls g c = (c.serve-halted.new.devices, c.serve-halted.ensures.served, c.serve-resumed.ensures.served)
