use Rattle.b67_session.proofs.NearOnes.{stopped_first}
use Rattle.b67_session.proofs.turns.make.Goals as goal

pub returns-then-make_told-clause-row : goal.returns-then-make_told-clause-row
returns-then-make_told-clause-row c = c.make_told.ensures.row c.if-make_told.true

pub returns-clause-row : goal.returns-clause-row
returns-clause-row c =
    let e = c.make_told.ensures in
    stopped_first c.args.machine.now c.make_told.new.machine c.make_told.new.why (e.rest c.if-make_told.false) (e.stops c.if-make_told.false)

pub returns-clause-rest : goal.returns-clause-rest
returns-clause-rest c = λ other. c.make_told.ensures.rest c.if-make_told.false

pub returns-clause-stops : goal.returns-clause-stops
returns-clause-stops c = λ other. c.make_told.ensures.stops c.if-make_told.false
