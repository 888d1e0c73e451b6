use Rattle.std.proofs.Common.{None, arith}
use Rattle.std.specs.Process.{exit_status}
use Rattle.b67_job.specs.Command.{backing_path}
use Rattle.b67_job.specs.Judgement.{judgement}
use Rattle.b67_promises.proofs.Pairs.{same_lines}
use Rattle.b67_promises.proofs.Serves.{named_tells, serve_prints}
use Rattle.b67_promises.proofs.paging.serve_twice.Goals as goal

pub returns-clause-decks : goal.returns-clause-decks
returns-clause-decks g c = λ bytes w w' told told' few tells tells'.
    same_lines g.K.Sink.taken c.args.printer.now c.serve-one.new.printer (exit_status c.serve-one.result) g.L.Sink.taken c.args.other_printer.now c.serve-other.new.printer (exit_status c.serve-other.result) (judgement bytes) None
    (serve_prints c.args.words.now w g.S.Source.left g.S.Source.faults c.args.input.now c.serve-one.new.input g.K.Sink.taken g.K.Sink.faults c.args.printer.now c.serve-one.new.printer (exit_status c.serve-one.result) bytes told (omega (arith, few)) _ _ _ _ _ (named_tells g.R.Devices.kept g.R.File.Backing.holds c.args.devices.now (backing_path c.args.words.now) tells) c.serve-one.ensures.served)
    (serve_prints c.args.other_words.now w' g.T.Source.left g.T.Source.faults c.args.other_input.now c.serve-other.new.input g.L.Sink.taken g.L.Sink.faults c.args.other_printer.now c.serve-other.new.printer (exit_status c.serve-other.result) bytes told' (omega (arith, few)) _ _ _ _ _ (named_tells g.Q.Devices.kept g.Q.File.Backing.holds c.args.other_devices.now (backing_path c.args.other_words.now) tells') c.serve-other.ensures.served)

pub returns-clause-call : goal.returns-clause-call
returns-clause-call g c = c.serve-one.ensures.served

pub returns-clause-other_call : goal.returns-clause-other_call
returns-clause-other_call g c = c.serve-other.ensures.served
