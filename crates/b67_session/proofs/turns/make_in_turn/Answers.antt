use Rattle.std.proofs.Common.{◌+◌, ◌-◌, length, refl, ◌∙◌, arith}
use Rattle.std.proofs.lemmas.Bool.{not-false, not-true}
use Rattle.b67_session.proofs.Begins.{begins_none, begins_as, begins_then, begins_runs}
use Rattle.b67_session.proofs.Going.{keeps_on}
use Rattle.b67_session.proofs.Turning.{turn_as, turn_begins, turn_runs, made_in_turn}
use Rattle.b67_session.proofs.turns.make_in_turn.Goals as goal

pub segment-init : goal.segment-init
segment-init c = record {
  few = omega arith;
  why = refl;
  tables = refl;
  keeps = record { core = refl; sectors = refl; given = refl };
  first = begins_none (c.args.room - c.args.room) c.args.machine.now (omega arith);
  turn = λ x said plan s o h w. turn_as said 0 c.args.room s (length c.args.machine.now.cpu.core) c.args.machine.now (turn_begins said c.args.room x plan s c.args.machine.now o h w c.args.room refl) (c.args.room - c.args.room) c.args.room (omega arith) refl;
}

pub make_in_segment-next-requires : goal.make_in_segment-next-requires
make_in_segment-next-requires c =
    record {
      runs = begins_runs c.args.room c.segment.left c.args.machine.now c.segment.machine (omega (arith, c.segment-test.true)) c.segment.invariant.few c.segment.invariant.first c.requires.runs
          (λ two. let q = c.requires.begins two in
          turn_runs q.said (c.args.room - c.segment.left) c.segment.left q.session (length c.args.machine.now.cpu.core) c.segment.machine (c.segment.invariant.turn q.storage q.said q.plan q.session q.ordered q.stands q.lasts) (omega (arith, c.segment-test.true)));
      goes = λ two.
          let q = c.requires.begins (omega (arith, two, c.segment.invariant.few)) in
          record {
            said = q.said;
            steps = c.args.room - c.segment.left;
            first = q.session;
            core = length c.args.machine.now.cpu.core;
            size = c.segment.invariant.keeps.core;
            turn = c.segment.invariant.turn q.storage q.said q.plan q.session q.ordered q.stands q.lasts;
            some = omega (arith, c.segment-test.true);
          };
      some = omega (arith, c.segment-test.true);
    }

pub returns-then-not-next : goal.returns-then-not-next
returns-then-not-next c =
    let next = c.make_in_segment-next.ensures in
    let left = c.make_in_segment-next.result.room in
    record {
      few = omega arith;
      why = record {
        all = λ all. (let low = next.left.left (not-true _ c.if-not-next.true) in absurd (omega (arith, all, low, next.left.few, c.segment.invariant.few)));
        stops = λ low. next.stops (not-true _ c.if-not-next.true);
      };
      first = begins_as (c.args.room - c.segment.left + (c.segment.left - left)) (c.args.room - left) c.args.machine.now c.make_in_segment-next.new.machine (omega (arith, next.left.few, c.segment.invariant.few))
          (begins_then (c.args.room - c.segment.left) (c.segment.left - left) c.args.machine.now c.segment.machine c.make_in_segment-next.new.machine c.segment.invariant.first next.first);
      row = λ x said plan s o h w.
          made_in_turn said (c.args.room - left) left s (length c.args.machine.now.cpu.core) c.make_in_segment-next.new.machine
          (turn_as said (c.args.room - c.segment.left + (c.segment.left - left)) left s (length c.args.machine.now.cpu.core) c.make_in_segment-next.new.machine
          (next.row said (c.args.room - c.segment.left) (length c.args.machine.now.cpu.core) s c.segment.invariant.keeps.core (c.segment.invariant.turn x said plan s o h w)) (c.args.room - left) left (omega (arith, next.left.few, c.segment.invariant.few)) refl);
      tables = next.tables ∙ c.segment.invariant.tables;
      keeps = keeps_on c.args.machine.now c.segment.machine c.make_in_segment-next.new.machine c.segment.invariant.keeps next.keeps;
    }

pub segment-preserved : goal.segment-preserved
segment-preserved c =
    let next = c.make_in_segment-next.ensures in
    let left = c.make_in_segment-next.result.room in
    record {
      few = omega (arith, next.left.few, c.segment.invariant.few);
      why = c.segment.invariant.why;
      first = begins_as (c.args.room - c.segment.left + (c.segment.left - left)) (c.args.room - left) c.args.machine.now c.make_in_segment-next.new.machine (omega (arith, next.left.few, c.segment.invariant.few))
          (begins_then (c.args.room - c.segment.left) (c.segment.left - left) c.args.machine.now c.segment.machine c.make_in_segment-next.new.machine c.segment.invariant.first next.first);
      tables = next.tables ∙ c.segment.invariant.tables;
      keeps = keeps_on c.args.machine.now c.segment.machine c.make_in_segment-next.new.machine c.segment.invariant.keeps next.keeps;
      turn = λ x said plan s o h w.
          turn_as said (c.args.room - c.segment.left + (c.segment.left - left)) left s (length c.args.machine.now.cpu.core) c.make_in_segment-next.new.machine
          (next.row said (c.args.room - c.segment.left) (length c.args.machine.now.cpu.core) s c.segment.invariant.keeps.core (c.segment.invariant.turn x said plan s o h w)) (c.args.room - left) left (omega (arith, next.left.few, c.segment.invariant.few)) refl;
    }

pub segment-smaller : goal.segment-smaller
segment-smaller c = c.make_in_segment-next.ensures.left.some (not-false _ c.if-not-next.false)

pub returns-clause-row : goal.returns-clause-row
returns-clause-row c = λ x said plan s o h w.
    made_in_turn said c.args.room c.segment.left s (length c.args.machine.now.cpu.core) c.segment.machine
    (turn_as said (c.args.room - c.segment.left) c.segment.left s (length c.args.machine.now.cpu.core) c.segment.machine (c.segment.invariant.turn x said plan s o h w) c.args.room c.segment.left (omega (arith, c.segment-test.false)) refl)

pub returns-clause-why : goal.returns-clause-why
returns-clause-why c = record { all = λ all. c.segment.invariant.why; stops = λ low. absurd (omega (arith, low)) }

pub returns-clause-first : goal.returns-clause-first
returns-clause-first c = begins_as (c.args.room - c.segment.left) c.args.room c.args.machine.now c.segment.machine (omega (arith, c.segment-test.false)) c.segment.invariant.first
