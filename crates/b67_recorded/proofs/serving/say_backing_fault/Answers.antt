use Rattle.std.proofs.Common.{List, ℕ, subst}
use Rattle.b67_io.specs.Line.{ended}
use Rattle.b67_session_lines.specs.Ends.{EndsPrinting}
use Rattle.b67_recorded.proofs.serving.say_backing_fault.Goals as goal

pub returns : goal.returns
returns g c = subst (λ (line : List ℕ). EndsPrinting g.K.Sink.taken g.K.Sink.faults c.args.printer.now c.say.new.printer 6 (ended line) c.say.result) c.line_of.ensures c.say.ensures
