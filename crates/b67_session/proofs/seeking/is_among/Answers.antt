use Rattle.std.proofs.Common.{arith}
use Rattle.b67_session.proofs.Among.{first_is, among_rest, none_among}
use Rattle.b67_session.proofs.seeking.is_among.Goals as goal

pub place-init : goal.place-init
place-init c = (λ has. has, λ has. has)

pub returns-then-is_same-clause-holds : goal.returns-then-is_same-clause-holds
returns-then-is_same-clause-holds c = λ e. c.place.invariant.0 (first_is c.place.left.now _ c.args.at c.in-len1-up.len_at_least (c.is_same.ensures.same c.if-is_same.true))

pub place-preserved : goal.place-preserved
place-preserved c =
    let rest = among_rest c.place.left.now _ c.args.at c.in-len1-up.len_at_least (c.is_same.ensures.other c.if-is_same.false) in
    (λ has. c.place.invariant.0 (rest.0 has), λ has. rest.1 (c.place.invariant.1 has))

pub returns-clause-fails : goal.returns-clause-fails
returns-clause-fails c = λ e has. none_among c.place.left.now c.args.at (omega (arith, c.in_default.len_below)) (c.place.invariant.1 has)
