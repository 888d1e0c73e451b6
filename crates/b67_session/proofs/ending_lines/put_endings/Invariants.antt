use Rattle.std.proofs.Common.{◌≤◌, ◌*◌, drop}
use Rattle.b67_session.specs.Texts.{endings_text}
use Rattle.b67_session.proofs.Endings.{IsPrinting}
use Rattle.b67_session.proofs.ending_lines.put_endings.Given as goal

abbrev pub invariant-loop-one : goal.invariant-loop-one
invariant-loop-one g l = record {
  start : l.start ≤ 193 * l.one-index;
  later : g.K.Sink.faults l.fn.paper ≤ g.K.Sink.faults l.paper;
  printing : IsPrinting g.K.Sink.taken l.fn.paper l.paper (endings_text l.job l.ended) l.fn.printed l.printed l.start (endings_text l.job (drop l.one-index l.ended));
}
