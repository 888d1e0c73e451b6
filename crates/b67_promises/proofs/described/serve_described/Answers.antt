use Rattle.std.proofs.Common.{arith}
use Rattle.std.specs.Process.{exit_status}
use Rattle.b67_promises.proofs.ServesDescribed.{serve_is, serve_pages}
use Rattle.b67_promises.proofs.described.serve_described.Goals as goal

pub returns-clause-ends : goal.returns-clause-ends
returns-clause-ends g c = λ core bytes w told few known.
    serve_is c.args.words.now core w g.S.Source.left g.S.Source.faults c.args.input.now c.serve.new.input g.K.Sink.taken g.K.Sink.faults c.args.printer.now c.serve.new.printer (exit_status c.serve.result) bytes told (omega (arith, few))
    g.R.Devices.kept g.R.File.Backing.holds g.R.File.Backing.size g.R.File.Backing.faults c.args.devices.now _ known c.serve.ensures.served

pub returns-clause-paged : goal.returns-clause-paged
returns-clause-paged g c = λ core bytes w told few known whole.
    serve_pages c.args.words.now core w g.S.Source.left g.S.Source.faults c.args.input.now c.serve.new.input g.K.Sink.taken g.K.Sink.faults c.args.printer.now c.serve.new.printer (exit_status c.serve.result) bytes told (omega (arith, few))
    g.R.Devices.kept g.R.File.Backing.holds g.R.File.Backing.size g.R.File.Backing.faults c.args.devices.now c.serve.new.devices known whole c.serve.ensures.served

pub returns-clause-call : goal.returns-clause-call
returns-clause-call g c = c.serve.ensures.served
