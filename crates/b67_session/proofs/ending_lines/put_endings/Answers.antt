use Rattle.std.proofs.Common.{◌+◌, ◌++◌, List, ℕ, drop, subst, arith}
use Rattle.std.proofs.lemmas.Result.{err_from_is_err_and}
use Rattle.b67_io.specs.Line.{ended}
use Rattle.b67_session.specs.Texts.{endings_text}
use Rattle.b67_session.proofs.Endings.{IsPrinting, printing_then, more_then, rest_then, next_line, no_line}
use Rattle.b67_session.proofs.ending_lines.put_endings.Given.{Over}
use Rattle.b67_session.proofs.ending_lines.put_endings.Goals.{After-put_rest}
use Rattle.b67_session.proofs.ending_lines.put_endings.Goals as goal

-- what is printed, with the next line written out
abbrev context : (g : Over) (c : After-put_rest g) → IsPrinting g.K.Sink.taken c.args.paper.now c.loop-one.paper (endings_text c.args.job c.args.ended.now) c.args.printed.now c.loop-one.printed c.loop-one.start
    (ended c.ending_line-line.result ++ endings_text c.args.job (drop (c.loop-one.one-index + 1) c.args.ended.now))
context g c =
    subst (λ (l : List ℕ). IsPrinting g.K.Sink.taken c.args.paper.now c.loop-one.paper (endings_text c.args.job c.args.ended.now) c.args.printed.now c.loop-one.printed c.loop-one.start l)
    (next_line c.args.job c.loop-one.one-index c.args.ended.now _ c.ending_line-line.result c.loop-one-test.true c.ending_line-line.ensures) c.loop-one.invariant.printing

pub loop-one-preserved : goal.loop-one-preserved
loop-one-preserved g c =
    let p = context g (goal.at.loop-one-preserved g c).After-put_rest in
    let behind = endings_text c.args.job (drop (c.loop-one.one-index + 1) c.args.ended.now) in
    record {
      start = omega (arith, c.loop-one.invariant.start, c.len.ensures.room);
      later = omega (arith, c.loop-one.invariant.later, c.in_ok-put_rest.ensures.cause.later);
      printing =
          subst (λ (n : ℕ). IsPrinting g.K.Sink.taken c.args.paper.now c.put_rest.new.sink (endings_text c.args.job c.args.ended.now) c.args.printed.now c.put_rest.new.printed n behind) (omega (arith, c.len.ensures.len))
          (printing_then g.K.Sink.taken c.args.paper.now c.loop-one.paper (endings_text c.args.job c.args.ended.now) c.ending_line-line.result behind c.args.printed.now c.loop-one.printed c.loop-one.start p
          c.put_rest.new.sink c.put_rest.new.printed (c.in_ok-put_rest.ensures.text p.lines behind p.long p.past) (omega (arith, c.in_ok-put_rest.ensures.whole)) (omega (arith, c.in_ok-put_rest.ensures.whole)));
    }

pub returns-in_err-put_rest-clause-part : goal.returns-in_err-put_rest-clause-part
returns-in_err-put_rest-clause-part g c =
    let p = context g (goal.at.returns-in_err-put_rest-clause-part g c).After-put_rest in
    let behind = endings_text c.args.job (drop (c.loop-one.one-index + 1) c.args.ended.now) in
    let r = err_from_is_err_and c.from_residual.result c.from_residual.ensures.1 in
    rw r.1 (more_then g.K.Sink.taken c.args.paper.now c.loop-one.paper (endings_text c.args.job c.args.ended.now) c.ending_line-line.result behind c.args.printed.now c.loop-one.printed c.loop-one.start p
    c.put_rest.new.sink c.put_rest.new.printed (c.in_err-put_rest.ensures.text p.lines behind p.long p.past) c.in_err-put_rest.ensures.part.0 c.in_err-put_rest.ensures.part.1)

pub returns-clause-whole : goal.returns-clause-whole
returns-clause-whole g c =
    let text = endings_text c.args.job c.args.ended.now in
    let none = no_line c.args.job c.loop-one.one-index c.args.ended.now c.loop-one-test.false in
    rest_then g.K.Sink.taken c.args.paper.now c.loop-one.paper text c.args.printed.now c.loop-one.printed c.loop-one.start
    (subst (λ (l : List ℕ). IsPrinting g.K.Sink.taken c.args.paper.now c.loop-one.paper text c.args.printed.now c.loop-one.printed c.loop-one.start l) none c.loop-one.invariant.printing)
