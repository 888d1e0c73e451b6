use Rattle.std.proofs.Common.{length, refl, ap, arith}
use Rattle.b67_stack.specs.declared.Cpu.{Cpu}
use Rattle.b67_exec.specs.Near.{FarMade}
use Rattle.b67_session.proofs.NearOnes.{on_not, away_not, away_on, not_on, stays_made, stays_keeps, left_fits, left_asks, left_in_turn, left_made, left_keeps}
use Rattle.b67_session.proofs.making.make_next.Goals as goal

pub returns-in-On : goal.returns-in-On
returns-in-On c =
    let e = c.in-On.ensures in
    let made : FarMade c.args.machine.now.cpu c.operate.new.cpu = record { row = e.row; left = e.left } in
    record {
      row = λ other. stays_made c.args.machine.now c.operate.new.cpu made;
      rest = λ none. absurd (on_not none);
      why = λ none. absurd (on_not none);
      stands = λ here. e.stands;
      keeps = stays_keeps c.args.machine.now c.operate.new.cpu c.requires.runs made;
      tasks = refl;
    }

pub returns-in-Away : goal.returns-in-Away
returns-in-Away c = record {
  row = λ other. stays_made c.args.machine.now c.operate.new.cpu c.in-Away.ensures;
  rest = λ none. absurd (away_not none);
  why = λ none. absurd (away_not none);
  stands = λ here. absurd (away_on here);
  keeps = stays_keeps c.args.machine.now c.operate.new.cpu c.requires.runs c.in-Away.ensures;
  tasks = refl;
}

-- ---- a record was left

pub overflow_add-low : goal.overflow_add-low
overflow_add-low c = let n = left_fits c.args.machine.now c.operate.new.cpu c.in-Left.high c.in-Left.ensures c.requires.runs in omega (arith, n)

pub release-requires-clause-left : goal.release-requires-clause-left
release-requires-clause-left c = left_asks c.args.machine.now c.operate.new.cpu c.in-Left.high c.in-Left.ensures c.requires.runs

pub release-requires-clause-order : goal.release-requires-clause-order
release-requires-clause-order c = left_in_turn c.args.machine.now c.operate.new.cpu c.in-Left.high c.in-Left.ensures c.requires.runs

pub returns-in-Left : goal.returns-in-Left
returns-in-Left c =
    let r = c.release.ensures in
    record {
      row = λ other. left_made c.args.machine.now c.operate.new.cpu c.in-Left.high c.in-Left.ensures c.release.new.machine r.areas r.tasks r.released;
      rest = λ none. absurd (away_not none);
      why = λ none. absurd (away_not none);
      stands = λ here. absurd (away_on here);
      keeps = left_keeps c.args.machine.now c.operate.new.cpu c.in-Left.high c.in-Left.ensures c.release.new.machine r.areas r.tasks r.released c.requires.runs r.count;
      tasks = r.tasks;
    }

-- ---- nothing was made

pub returns-in-Not : goal.returns-in-Not
returns-in-Not c =
    let e = c.in-Not.ensures in
    record {
      row = λ other. absurd (other refl);
      rest = λ none. ap (λ (z : Cpu). record c.args.machine.now { cpu = z }) e.0;
      why = λ none. e.2;
      stands = λ here. absurd (not_on here);
      keeps = record { core = ap (λ (z : Cpu). length z.core) e.0; sectors = refl; given = refl };
      tasks = refl;
    }
