use Rattle.std.specs.Process.{exit_status}
use Rattle.b67_promises.proofs.CarriedCalls.{more_so}
use Rattle.b67_promises.proofs.RecordedCalls.{call_prints, took_same}
use Rattle.b67_promises.proofs.shipped.program_twice.Goals as goal

pub returns-clause-same : goal.returns-clause-same
returns-clause-same g c = λ words words' text w w' is is' gave gave'.
    took_same c.args.printer.now c.serve_recorded-one.new.printer (exit_status c.serve_recorded-one.result) c.args.other_printer.now c.serve_recorded-other.new.printer (exit_status c.serve_recorded-other.result) text
    (call_prints g.D.Devices.kept c.args.process.now c.serve_recorded-one.new.process c.args.input.now c.serve_recorded-one.new.input c.args.printer.now c.serve_recorded-one.new.printer (exit_status c.serve_recorded-one.result) text
    g.D.Words.given g.D.Devices.opened words w is gave c.serve_recorded-one.ensures.served)
    (call_prints g.E.Devices.kept c.args.other_process.now c.serve_recorded-other.new.process c.args.other_input.now c.serve_recorded-other.new.input c.args.other_printer.now c.serve_recorded-other.new.printer (exit_status c.serve_recorded-other.result) text
    g.E.Words.given g.E.Devices.opened words' w' is' gave' c.serve_recorded-other.ensures.served)

pub returns-clause-call : goal.returns-clause-call
returns-clause-call g c = c.serve_recorded-one.ensures.served

pub returns-clause-other_call : goal.returns-clause-other_call
returns-clause-other_call g c = c.serve_recorded-other.ensures.served

pub returns-clause-faithful : goal.returns-clause-faithful
returns-clause-faithful g c = (c.serve_recorded-one.ensures.faithful, c.serve_recorded-other.ensures.faithful)

pub returns-clause-more_core : goal.returns-clause-more_core
returns-clause-more_core g c = λ core more words words' w w' text le is is' gave gave' calm whole.
    more_so g.D.Devices.opened g.D.Devices.kept c.args.process.now c.serve_recorded-one.new.process c.args.input.now c.serve_recorded-one.new.input c.args.printer.now c.serve_recorded-one.new.printer (exit_status c.serve_recorded-one.result)
    g.E.Devices.opened g.E.Devices.kept c.args.other_process.now c.serve_recorded-other.new.process c.args.other_input.now c.serve_recorded-other.new.input c.args.other_printer.now c.serve_recorded-other.new.printer (exit_status c.serve_recorded-other.result)
    g.D.Words.given g.E.Words.given c.serve_recorded-one.ensures.served c.serve_recorded-other.ensures.served
    core more words words' w w' text le is is' gave gave' calm whole
