use Rattle.std.proofs.Common.{◌≡◌, ◌+◌, length, arith, length-append, [], ◌∷◌}
use Rattle.b67_io.specs.Line.{ended}
use Rattle.b67_session_lines.proofs.Rests.{rest_part, rest_whole}
use Rattle.b67_session_lines.proofs.printing.put_rest.Goals.{then-printed-start, else-printed-start}
use Rattle.b67_session_lines.proofs.printing.put_rest.Goals as goal

pub returns-in-Ok-clause-text : goal.returns-in-Ok-clause-text
returns-in-Ok-clause-text g c = λ before after long low.
    (let at : length before + c.if-printed-start.from ≡ c.args.printed.now = elim c.if-printed-start.branch [ then-printed-start w ↦ omega (arith, long, low, w.if-printed-start, w.from-is) | else-printed-start w ↦ omega (arith, long, low, w.if-printed-start, w.from-is) ] in
    rest_whole g.K.Sink.taken c.args.sink.now c.put_line.new.sink before (ended c.args.line.now) after c.args.printed.now c.if-printed-start.from at (c.args.start + c.len.result + 1) (omega (arith, at, long, c.if-printed-end.false, c.len.ensures.len, length-append c.args.line.now (10 ∷ []))) (omega (arith, long, c.len.ensures.len, length-append c.args.line.now (10 ∷ []))) c.in-Ok.ensures.whole)

pub returns-in-Err-clause-text : goal.returns-in-Err-clause-text
returns-in-Err-clause-text g c = λ before after long low.
    (let at : length before + c.if-printed-start.from ≡ c.args.printed.now = elim c.if-printed-start.branch [ then-printed-start w ↦ omega (arith, long, low, w.if-printed-start, w.from-is) | else-printed-start w ↦ omega (arith, long, low, w.if-printed-start, w.from-is) ] in
    rest_part g.K.Sink.taken c.args.sink.now c.put_line.new.sink before (ended c.args.line.now) after c.args.printed.now c.if-printed-start.from at c.in-Err.taken (c.args.start + c.if-printed-start.from + c.in-Err.taken) c.in-Err.ensures.part.0 (omega (arith, long)) c.in-Err.ensures.part.1)
