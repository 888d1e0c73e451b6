use Rattle.std.proofs.Common.{◌≡◌, ◌+◌, ◌-◌, ℕ, sym, subst, arith}
use Rattle.b67_session.specs.Steps.{GoesOnInTurn}
use Rattle.b67_session.specs.declared.seeking.Sought.{Sought}
use Rattle.b67_session.specs.Search.{PassesBy}
use Rattle.b67_session.proofs.Noted.{passes_unseen, passes_switch}
use Rattle.b67_session.proofs.SameTask.{turn_is}
use Rattle.b67_session.proofs.finding.go_on_past.Goals as goal

pub returns-then-next-from-clause-row : goal.returns-then-next-from-clause-row
returns-then-next-from-clause-row c = λ said s h.
    let same : c.go_on_with_turn.result ≡ c.args.next + c.go_on_with_turn.result - c.args.next = omega arith in
    subst (λ (n : ℕ). GoesOnInTurn said n s c.args.machine.now c.go_on_with_turn.new.machine) same (c.go_on_with_turn.ensures.row said s h)

pub returns-then-next-from-clause-passes : goal.returns-then-next-from-clause-passes
returns-then-next-from-clause-passes c = λ said start s h some came.
    passes_unseen c.args.what c.args.places.now c.args.from c.args.next (c.args.next + c.go_on_with_turn.result) start c.args.best.now (omega arith) (omega (arith, c.go_on_with_turn.ensures.counts.few))

pub returns-in-Switch-clause-row : goal.returns-in-Switch-clause-row
returns-in-Switch-clause-row c = λ said s h.
    let same : c.go_on_with_turn-in-Switch.result ≡ c.args.next + c.go_on_with_turn-in-Switch.result - c.args.next = omega arith in
    subst (λ (n : ℕ). GoesOnInTurn said n s c.args.machine.now c.go_on_with_turn-in-Switch.new.machine) same (c.go_on_with_turn-in-Switch.ensures.row said s h)

pub returns-in-Switch-clause-passes : goal.returns-in-Switch-clause-passes
returns-in-Switch-clause-passes c = λ said start s h some came.
    subst (λ (what : Sought). PassesBy what c.args.places.now c.args.from c.args.next (c.args.next + c.go_on_with_turn-in-Switch.result) start c.args.best.now c.args.best.now) (sym c.in-Switch.is)
    (passes_switch c.args.places.now c.args.from c.args.next c.go_on_with_turn-in-Switch.result start s c.args.best.now came some
    (turn_is said c.go_on_with_turn-in-Switch.result s c.args.machine.now c.go_on_with_turn-in-Switch.new.machine h (c.go_on_with_turn-in-Switch.ensures.row said s h) c.go_on_with_turn-in-Switch.ensures.counts.turn))

pub returns-in_default-clause-passes : goal.returns-in_default-clause-passes
returns-in_default-clause-passes c = λ said start s h some came. c.go_on_looking.ensures.passes said start s c.args.from h some came (omega arith)
