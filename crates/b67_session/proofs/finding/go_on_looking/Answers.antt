use Rattle.std.proofs.Common.{◌≡◌, ◌≤◌, ◌+◌, ◌-◌, ℕ, List, Option, refl, sym, ap, ◌∙◌, subst, arith}
use Rattle.b67_model.specs.Common.{Session, after}
use Rattle.b67_session_lines.proofs.Statuses.{after-add}
use Rattle.b67_task.proofs.Keeping.{keeps_then}
use Rattle.b67_session.specs.Slices.{StandsAt}
use Rattle.b67_session.specs.Steps.{GoesOnInTurn}
use Rattle.b67_session.specs.Search.{PassesBy}
use Rattle.b67_session.proofs.Turning.{turn_rests}
use Rattle.b67_session.proofs.InTurns.{in_turn_then}
use Rattle.b67_session.proofs.Noted.{passes_none, passes_then, passes_operator}
use Rattle.b67_session.proofs.finding.go_on_looking.Goals.{After-go_on_with_turn-one}
use Rattle.b67_session.proofs.finding.go_on_looking.Goals as goal

pub operator-init : goal.operator-init
operator-init c =
    let none : c.args.next - c.args.next ≡ 0 = omega arith in
    record {
      counts = record { on = omega arith; few = λ e. e; none = λ e. refl };
      why = c.requires.done;
      keeps = record { core = refl; sectors = refl; given = refl };
      goes_on = λ said s h. subst (λ (n : ℕ). GoesOnInTurn said n s c.args.machine.now c.args.machine.now) (sym none) (turn_rests said s c.args.machine.now h c.requires.unprinted);
      turn = refl;
      passes = λ said start s from h some came up. passes_none c.args.what c.args.places.now from c.args.next start c.args.best.now;
    }

pub go_on_with_turn-one-requires-clause-stands : goal.go_on_with_turn-one-requires-clause-stands
go_on_with_turn-one-requires-clause-stands c =
    let i = c.requires.stands in
    let x = c.operator.invariant.goes_on i.said i.session i.stands in
    record { said = i.said; session = x.session; stands = x.stands }

pub go_on_with_turn-one-requires-clause-unprinted : goal.go_on_with_turn-one-requires-clause-unprinted
go_on_with_turn-one-requires-clause-unprinted c = let i = c.requires.stands in (c.operator.invariant.goes_on i.said i.session i.stands).unprinted

pub go_on_with_turn-one-requires-clause-done : goal.go_on_with_turn-one-requires-clause-done
go_on_with_turn-one-requires-clause-done c = c.operator.invariant.why

-- so many operators and those of one call more
further : (c : After-go_on_with_turn-one) (said : Option (List (List ℕ))) (s : Session) → StandsAt said c.args.machine.now s → GoesOnInTurn said (c.operator.made + c.go_on_with_turn-one.result - c.args.next) s c.args.machine.now c.go_on_with_turn-one.new.machine
further c said s h =
    let x = c.operator.invariant.goes_on said s h in
    let same : c.operator.made - c.args.next + c.go_on_with_turn-one.result ≡ c.operator.made + c.go_on_with_turn-one.result - c.args.next = omega (arith, c.operator.invariant.counts.on) in
    subst (λ (n : ℕ). GoesOnInTurn said n s c.args.machine.now c.go_on_with_turn-one.new.machine) same
    (in_turn_then said (c.operator.made - c.args.next) c.go_on_with_turn-one.result s c.args.machine.now c.operator.machine c.go_on_with_turn-one.new.machine c.operator.invariant.keeps x (c.go_on_with_turn-one.ensures.row said x.session x.stands))

pub operator-preserved : goal.operator-preserved
operator-preserved c =
    let few = c.go_on_with_turn-one.ensures.counts.few in
    let on = c.operator.invariant.counts in
    let one : c.go_on_with_turn-one.result ≡ 1 = omega (arith, few) in
    record {
      counts = record { on = omega (arith, on.on); few = λ e. omega (arith, one); none = λ e. absurd (let z = on.none e in omega (arith, z, e)) };
      why = c.go_on_with_turn-one.ensures.counts.all one ∙ c.operator.invariant.why;
      keeps = keeps_then c.args.machine.now c.operator.machine c.go_on_with_turn-one.new.machine c.operator.invariant.keeps c.go_on_with_turn-one.ensures.keeps;
      goes_on = λ said s h. further (goal.at.operator-preserved c).After-go_on_with_turn-one said s h;
      turn = omega (arith, c.go_on_with_turn-one.ensures.counts.turn, c.operator.invariant.turn);
      passes = λ said start s from h some came up.
          let x = c.operator.invariant.goes_on said s h in
          let made = c.operator.made in
          let split : made ≡ c.args.next + (made - c.args.next) = omega (arith, on.on) in
          let there : after made start ≡ x.session = ap (λ (i : ℕ). after i start) split ∙ after-add c.args.next (made - c.args.next) start ∙ ap (after (made - c.args.next)) came ∙ x.leads in
          let begun : 1 ≤ x.session.turn = omega (arith, x.stands.stands.tables.counts.turn, h.stands.tables.counts.turn, c.operator.invariant.turn, on.on, some) in
          let more : made + c.go_on_with_turn-one.result ≡ made + 1 = ap (λ (i : ℕ). made + i) one in
          subst (λ (n : ℕ). PassesBy c.args.what c.args.places.now from c.args.next n start c.args.best.now c.noted.result) (sym more)
          (passes_then c.args.what c.args.places.now from c.args.next made (made + 1) start c.args.best.now c.operator.best c.noted.result (c.operator.invariant.passes said start s from h some came up)
          (passes_operator said c.args.what c.args.places.now from made start x.session c.operator.machine c.go_on_with_turn-one.new.machine x.stands there begun (omega (arith, up, on.on))
          (c.go_on_with_turn-one.ensures.row said x.session x.stands) c.go_on_with_turn-one.ensures.counts.turn one (c.go_on_with_turn-one.ensures.lasts said x.session x.stands (omega (arith, one)))
          (c.is_elsewhere.ensures c.if-not-is_elsewhere.false) c.heights_here-top.result.top c.operator.best c.noted.result c.heights_here-top.ensures.top c.noted.ensures.deepest c.noted.ensures.other));
    }

pub returns-then-not-is_elsewhere-clause-stops : goal.returns-then-not-is_elsewhere-clause-stops
returns-then-not-is_elsewhere-clause-stops c = λ other. absurd (other c.operator.invariant.why)

pub returns-then-not-is_elsewhere-clause-row : goal.returns-then-not-is_elsewhere-clause-row
returns-then-not-is_elsewhere-clause-row c = c.operator.invariant.goes_on

pub returns-then-not-is_elsewhere-clause-passes : goal.returns-then-not-is_elsewhere-clause-passes
returns-then-not-is_elsewhere-clause-passes c = c.operator.invariant.passes

pub returns-then-not-is_elsewhere-clause-keeps : goal.returns-then-not-is_elsewhere-clause-keeps
returns-then-not-is_elsewhere-clause-keeps c = c.operator.invariant.keeps

pub returns-then-one-eq0-clause-row : goal.returns-then-one-eq0-clause-row
returns-then-one-eq0-clause-row c = λ said s h.
    let same : c.operator.made + c.go_on_with_turn-one.result - c.args.next ≡ c.operator.made - c.args.next = omega arith in
    subst (λ (k : ℕ). GoesOnInTurn said k s c.args.machine.now c.go_on_with_turn-one.new.machine) same (further (goal.at.returns-then-one-eq0-clause-row c).After-go_on_with_turn-one said s h)

pub returns-then-one-eq0-clause-passes : goal.returns-then-one-eq0-clause-passes
returns-then-one-eq0-clause-passes c = c.operator.invariant.passes

pub returns-then-one-eq0-clause-keeps : goal.returns-then-one-eq0-clause-keeps
returns-then-one-eq0-clause-keeps c = keeps_then c.args.machine.now c.operator.machine c.go_on_with_turn-one.new.machine c.operator.invariant.keeps c.go_on_with_turn-one.ensures.keeps

pub returns-clause-stops : goal.returns-clause-stops
returns-clause-stops c = λ other. absurd (other c.operator.invariant.why)

pub returns-clause-row : goal.returns-clause-row
returns-clause-row c = c.operator.invariant.goes_on

pub returns-clause-passes : goal.returns-clause-passes
returns-clause-passes c = c.operator.invariant.passes

pub returns-clause-keeps : goal.returns-clause-keeps
returns-clause-keeps c = c.operator.invariant.keeps
