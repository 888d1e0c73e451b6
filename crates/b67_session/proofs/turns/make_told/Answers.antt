use Rattle.std.proofs.Common.{arith, ◌∙◌}
use Rattle.b67_session.proofs.turns.make_told.Goals as goal

pub make_in_turn-made-requires-clause-begins : goal.make_in_turn-made-requires-clause-begins
make_in_turn-made-requires-clause-begins c = λ two. absurd (omega (arith, two))

pub returns-in_default-clause-stops : goal.returns-in_default-clause-stops
returns-in_default-clause-stops c = λ e. c.requires.why c.in_default.not-Done

pub returns-then-made-eq0-clause-rest : goal.returns-then-made-eq0-clause-rest
returns-then-made-eq0-clause-rest c = λ not_made. c.make_in_turn-made.ensures.first.none c.if-made-eq0.true

pub returns-then-made-eq0-clause-stops : goal.returns-then-made-eq0-clause-stops
returns-then-made-eq0-clause-stops c = λ not_made. c.make_in_turn-made.ensures.why.stops (omega (arith, c.if-made-eq0.true))

pub returns-clause-row : goal.returns-clause-row
returns-clause-row c = λ made. c.make_in_turn-made.ensures.first.one (omega (arith, c.if-made-eq0.false, c.make_in_turn-made.ensures.few))

pub returns-clause-done : goal.returns-clause-done
returns-clause-done c = λ made. c.make_in_turn-made.ensures.why.all (omega (arith, c.if-made-eq0.false, c.make_in_turn-made.ensures.few)) ∙ c.in-Done.is
