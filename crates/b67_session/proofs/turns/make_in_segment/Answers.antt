use Rattle.std.proofs.Common.{◌≡◌, ◌≢◌, ◌+◌, ◌-◌, refl, sym, ◌∙◌, subst, arith}
use Rattle.std.proofs.lemmas.Bool.{true≢false, false≢true}
use Rattle.b67_exec.specs.declared.apart.Went.TheVariants as wents
use Rattle.b67_exec.specs.Near.{StopsHere}
use Rattle.b67_task.specs.declared.tables.Machine.{Machine}
use Rattle.b67_session.proofs.Begins.{begins_none, begins_same, begins_more, begins_runs}
use Rattle.b67_session.proofs.Going.{keeps_on}
use Rattle.b67_session.proofs.NearOnes.{on_not, away_not}
use Rattle.b67_session.proofs.Turning.{turn_as, some_runs, turn_runs, turn_same, turn_next}
use Rattle.b67_session.proofs.turns.make_in_segment.Goals as goal

pub reader_here-requires : goal.reader_here-requires
reader_here-requires c = some_runs c.args.machine.now c.requires.runs

pub returns-in-None-clause-row : goal.returns-in-None-clause-row
returns-in-None-clause-row c = λ said steps core s size h. turn_as said steps c.args.most s core c.args.machine.now h (steps + (c.args.most - c.args.most)) c.args.most (omega arith) refl

pub returns-in-None-clause-first : goal.returns-in-None-clause-first
returns-in-None-clause-first c = begins_none (c.args.most - c.args.most) c.args.machine.now (omega arith)

pub returns-in-None-clause-stops : goal.returns-in-None-clause-stops
returns-in-None-clause-stops c = λ e. c.reader_here.ensures.why c.in-None.is

pub returns-in-None-clause-left : goal.returns-in-None-clause-left
returns-in-None-clause-left c = record {
  few = omega arith;
  some = λ e. absurd (false≢true e);
  left = λ e. c.requires.some;
}

pub operator-init : goal.operator-init
operator-init c = record {
  few = omega arith;
  tables = refl;
  keeps = record { core = refl; sectors = refl; given = refl };
  stands = c.in-Some.ensures.reader;
  first = begins_none (c.args.most - c.args.most) c.args.machine.now (omega arith);
  turn = λ said steps core s size h. turn_as said steps c.args.most s core c.args.machine.now h (steps + (c.args.most - c.args.most)) c.args.most (omega arith) refl;
}

-- ---- an operator at the reader

pub make_next-requires-clause-runs : goal.make_next-requires-clause-runs
make_next-requires-clause-runs c =
    begins_runs c.args.most c.operator.room c.args.machine.now c.operator.machine (omega (arith, c.operator-test.true)) c.operator.invariant.few c.operator.invariant.first c.requires.runs
    (λ two. let q = c.requires.goes two in
    turn_runs q.said (q.steps + (c.args.most - c.operator.room)) c.operator.room q.first q.core c.operator.machine (c.operator.invariant.turn q.said q.steps q.core q.first q.size q.turn) (omega (arith, c.operator-test.true)))

pub make_next-requires-clause-stands : goal.make_next-requires-clause-stands
make_next-requires-clause-stands c = c.operator.invariant.stands

pub operator-preserved : goal.operator-preserved
operator-preserved c =
    let other : c.make_next.result ≢ wents.Not = λ e. on_not (sym c.in-On.is ∙ e) in
    record {
      few = omega (arith, c.operator.invariant.few);
      tables = c.make_next.ensures.tasks ∙ c.operator.invariant.tables;
      keeps = keeps_on c.args.machine.now c.operator.machine c.make_next.new.machine c.operator.invariant.keeps c.make_next.ensures.keeps;
      stands = c.make_next.ensures.stands c.in-On.is;
      first = begins_more (c.args.most - c.operator.room) (c.args.most - (c.operator.room - 1)) c.args.machine.now c.operator.machine c.operator.machine c.make_next.new.machine (omega (arith, c.operator.invariant.few, c.operator-test.true)) refl
          (c.make_next.ensures.row other) c.operator.invariant.first;
      turn = λ said steps core s size h.
          turn_next said steps c.args.most c.operator.room s core c.operator.machine c.operator.machine c.make_next.new.machine c.operator-test.true c.operator.invariant.few refl (c.operator.invariant.keeps.core ∙ size) (c.operator.invariant.turn said steps core s size h)
          (c.make_next.ensures.row other);
    }

pub returns-in-Away : goal.returns-in-Away
returns-in-Away c =
    let other : c.make_next.result ≢ wents.Not = λ e. away_not (sym c.in-Away.is ∙ e) in
    record {
      left = record {
        few = omega (arith, c.operator.invariant.few);
        some = λ e. omega (arith, c.operator.invariant.few, c.operator-test.true);
        left = λ e. absurd (true≢false e);
      };
      stops = λ e. absurd (true≢false e);
      first = begins_more (c.args.most - c.operator.room) (c.args.most - (c.operator.room - 1)) c.args.machine.now c.operator.machine c.operator.machine c.make_next.new.machine (omega (arith, c.operator.invariant.few, c.operator-test.true)) refl
          (c.make_next.ensures.row other) c.operator.invariant.first;
      row = λ said steps core s size h.
          turn_next said steps c.args.most c.operator.room s core c.operator.machine c.operator.machine c.make_next.new.machine c.operator-test.true c.operator.invariant.few refl (c.operator.invariant.keeps.core ∙ size) (c.operator.invariant.turn said steps core s size h)
          (c.make_next.ensures.row other);
      tables = c.make_next.ensures.tasks ∙ c.operator.invariant.tables;
      keeps = keeps_on c.args.machine.now c.operator.machine c.make_next.new.machine c.operator.invariant.keeps c.make_next.ensures.keeps;
    }

-- ---- it isn't made, and the machine is as it was

pub returns-in-Not : goal.returns-in-Not
returns-in-Not c =
    let same : c.make_next.new.machine ≡ c.operator.machine = c.make_next.ensures.rest c.in-Not.is in
    record {
      left = record {
        few = c.operator.invariant.few;
        some = λ e. absurd (false≢true e);
        left = λ e. omega (arith, c.operator-test.true);
      };
      stops = λ e. subst (λ (z : Machine). StopsHere z.cpu c.make_next.new.why) (sym same) (c.make_next.ensures.why c.in-Not.is);
      first = begins_same (c.args.most - c.operator.room) c.args.machine.now c.operator.machine c.make_next.new.machine same c.operator.invariant.first;
      row = λ said steps core s size h. turn_same said (steps + (c.args.most - c.operator.room)) c.operator.room s core c.operator.machine c.make_next.new.machine same (c.operator.invariant.turn said steps core s size h);
      tables = c.make_next.ensures.tasks ∙ c.operator.invariant.tables;
      keeps = keeps_on c.args.machine.now c.operator.machine c.make_next.new.machine c.operator.invariant.keeps c.make_next.ensures.keeps;
    }

pub returns-clause-left : goal.returns-clause-left
returns-clause-left c = record {
  few = c.operator.invariant.few;
  some = λ e. let q = c.requires in omega (arith, q.some, c.operator-test.false);
  left = λ e. absurd (true≢false e);
}

pub returns-clause-first : goal.returns-clause-first
returns-clause-first c = c.operator.invariant.first
