use Rattle.std.specs.Process.{exit_status}
use Rattle.b67_promises.proofs.CarriedCalls.{complete_so}
use Rattle.b67_promises.proofs.CommandedCalls.{prints_alone, prints_over, has_causes}
use Rattle.b67_promises.proofs.RecordedCalls.{described_so, paged_so}
use Rattle.b67_promises.proofs.shipped.program_described.Goals as goal

pub returns-clause-described : goal.returns-clause-described
returns-clause-described g c = λ core sectors words w is have.
    described_so g.D.Devices.kept core sectors c.args.process.now c.serve_recorded.new.process c.args.input.now c.serve_recorded.new.input c.args.printer.now c.serve_recorded.new.printer (exit_status c.serve_recorded.result)
    g.D.Words.given g.D.Devices.opened words w is have c.serve_recorded.ensures.served

pub returns-clause-paged : goal.returns-clause-paged
returns-clause-paged g c = λ core words w is whole.
    paged_so g.D.Devices.kept core 0 c.args.process.now c.serve_recorded.new.process c.args.input.now c.serve_recorded.new.input c.args.printer.now c.serve_recorded.new.printer (exit_status c.serve_recorded.result)
    g.D.Words.given g.D.Devices.opened words w is whole c.serve_recorded.ensures.served

pub returns-clause-call : goal.returns-clause-call
returns-clause-call g c = c.serve_recorded.ensures.served

pub returns-clause-faithful : goal.returns-clause-faithful
returns-clause-faithful g c = c.serve_recorded.ensures.faithful

pub returns-clause-alone : goal.returns-clause-alone
returns-clause-alone g c = λ words is none.
    prints_alone g.D.Devices.opened g.D.Devices.kept c.args.process.now c.serve_recorded.new.process c.args.input.now c.serve_recorded.new.input c.args.printer.now c.serve_recorded.new.printer (exit_status c.serve_recorded.result)
    g.D.Words.given words is none c.serve_recorded.ensures.served

pub returns-clause-over_file : goal.returns-clause-over_file
returns-clause-over_file g c = λ words path is named.
    prints_over g.D.Devices.opened g.D.Devices.kept c.args.process.now c.serve_recorded.new.process c.args.input.now c.serve_recorded.new.input c.args.printer.now c.serve_recorded.new.printer (exit_status c.serve_recorded.result)
    g.D.Words.given words path is named c.serve_recorded.ensures.served

pub returns-clause-causes : goal.returns-clause-causes
returns-clause-causes g c = λ words is.
    has_causes g.D.Devices.opened g.D.Devices.kept c.args.process.now c.serve_recorded.new.process c.args.input.now c.serve_recorded.new.input c.args.printer.now c.serve_recorded.new.printer (exit_status c.serve_recorded.result)
    g.D.Words.given words is c.serve_recorded.ensures.served

pub returns-clause-complete : goal.returns-clause-complete
returns-clause-complete g c = λ core sectors words w is have text p gave judged ample calm.
    complete_so g.D.Devices.kept c.args.process.now c.serve_recorded.new.process c.args.input.now c.serve_recorded.new.input c.args.printer.now c.serve_recorded.new.printer (exit_status c.serve_recorded.result)
    g.D.Devices.opened g.D.Words.given core sectors words w is have text p gave judged ample calm c.serve_recorded.ensures.served
