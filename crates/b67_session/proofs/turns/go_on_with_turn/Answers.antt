use Rattle.std.proofs.Common.{[], ◌-◌, ◌+◌, length, refl, sym, ap, ◌∙◌, subst, arith}
use Rattle.b67_task.specs.declared.tables.Tasks.{Tasks}
use Rattle.b67_task.specs.Tables.{given_of}
use Rattle.b67_task.proofs.Keeping.{rows_put, given_put}
use Rattle.b67_task.specs.Counted.{TurnHasRoom, row_more}
use Rattle.b67_session.proofs.Begins.{why_here}
use Rattle.b67_session.proofs.Turning.{turn_begins, turn_fits, turn_goes_on, turn_of_one, turn_rests, turn_runs}
use Rattle.b67_session.proofs.turns.go_on_with_turn.Goals as goal

pub returns-then-room-eq0-clause-row : goal.returns-then-room-eq0-clause-row
returns-then-room-eq0-clause-row c = λ said s h. turn_rests said s c.args.machine.now h c.requires.unprinted

pub make_in_turn-made-requires-clause-runs : goal.make_in_turn-made-requires-clause-runs
make_in_turn-made-requires-clause-runs c =
    let i = c.requires.stands in
    let room = c.turn_room-room.result in
    let core = length c.args.machine.now.cpu.core in
    turn_runs i.said 0 room i.session core c.args.machine.now
    (turn_begins i.said room i.stands.storage i.stands.plan i.session c.args.machine.now i.stands.ordered i.stands.stands (c.turn_room-room.ensures.lasts i.stands.plan i.session i.stands.ordered i.stands.stands.tables (omega arith)) room refl) (omega arith)

pub make_in_turn-made-requires-clause-begins : goal.make_in_turn-made-requires-clause-begins
make_in_turn-made-requires-clause-begins c = λ two.
    let i = c.requires.stands in
    record {
      storage = i.stands.storage;
      said = i.said;
      plan = i.stands.plan;
      session = i.session;
      ordered = i.stands.ordered;
      stands = i.stands.stands;
      lasts = c.turn_room-room.ensures.lasts i.stands.plan i.session i.stands.ordered i.stands.stands.tables (omega arith);
    }

pub count_turn-requires : goal.count_turn-requires
count_turn-requires c =
    let i = c.requires.stands in
    subst (λ (z : Tasks). TurnHasRoom z c.make_in_turn-made.result) (sym c.make_in_turn-made.ensures.tables)
    (turn_fits i.stands.plan i.session c.args.machine.now.tasks c.turn_room-room.result c.make_in_turn-made.result i.stands.ordered i.stands.stands.tables
    (c.turn_room-room.ensures.lasts i.stands.plan i.session i.stands.ordered i.stands.stands.tables (omega arith)) c.make_in_turn-made.ensures.few)

room : (c : goal.After-count_turn) → TurnHasRoom c.make_in_turn-made.new.machine.tasks c.make_in_turn-made.result
room c =
    let i = c.requires.stands in
    subst (λ (z : Tasks). TurnHasRoom z c.make_in_turn-made.result) (sym c.make_in_turn-made.ensures.tables)
    (turn_fits i.stands.plan i.session c.args.machine.now.tasks c.turn_room-room.result c.make_in_turn-made.result i.stands.ordered i.stands.stands.tables
    (c.turn_room-room.ensures.lasts i.stands.plan i.session i.stands.ordered i.stands.stands.tables (omega arith)) c.make_in_turn-made.ensures.few)

pub returns-clause-row : goal.returns-clause-row
returns-clause-row c = λ said s h.
    turn_goes_on said c.make_in_turn-made.result s c.args.machine.now c.make_in_turn-made.new.machine c.count_turn.new.tasks
    (c.make_in_turn-made.ensures.row h.storage said h.plan s h.ordered h.stands (c.turn_room-room.ensures.lasts h.plan s h.ordered h.stands.tables (omega arith)))
    c.make_in_turn-made.ensures.tables c.count_turn.ensures.shows c.count_turn.ensures.rest c.requires.unprinted
    (λ j low. c.turn_room-room.ensures.halt j (omega (arith, low, c.make_in_turn-made.ensures.few)))

pub returns-clause-keeps : goal.returns-clause-keeps
returns-clause-keeps c =
    let r = room c in
    let k = c.make_in_turn-made.ensures.keeps in
    let mid = c.make_in_turn-made.new.machine.tasks in
    record {
      core = k.core;
      sectors = k.sectors;
      given = given_put mid c.count_turn.new.tasks (ap given_of c.count_turn.ensures.rest)
          (rows_put mid.jobs c.count_turn.new.tasks.jobs (mid.last_job - 1) r.job (row_more c.make_in_turn-made.result r.job) r.at (c.count_turn.ensures.jobs r.job r.at) refl) ∙ k.given;
    }

pub returns-clause-stops : goal.returns-clause-stops
returns-clause-stops c = λ other. why_here c.turn_room-room.result c.make_in_turn-made.result c.make_in_turn-made.new.machine.cpu c.args.why.now c.make_in_turn-made.new.why c.make_in_turn-made.ensures.few c.requires.done c.make_in_turn-made.ensures.why other

pub returns-then-room-eq0-clause-counts : goal.returns-then-room-eq0-clause-counts
returns-then-room-eq0-clause-counts c = record { few = omega arith; rests = λ none. refl; turn = omega arith; all = λ e. refl; order = record { between = []; count = refl; last = c.args.machine.now; each = refl; counted = refl } }

pub returns-clause-counts : goal.returns-clause-counts
returns-clause-counts c =
    let few = c.turn_room-room.ensures.few in
    let made = c.make_in_turn-made.ensures.few in
    record {
      few = omega (arith, few, made);
      rests = λ none. absurd (omega (arith, none, few));
      turn = ap (λ (z : Tasks). z.turn) c.count_turn.ensures.rest ∙ ap (λ (z : Tasks). z.turn + c.make_in_turn-made.result) c.make_in_turn-made.ensures.tables;
      all = λ e. c.make_in_turn-made.ensures.why.all (omega (arith, e, few, made));
      order =
          let f = c.make_in_turn-made.ensures.first in
          record { between = f.between; count = f.count; last = c.make_in_turn-made.new.machine; each = f.each; counted = refl };
    }

pub returns-then-room-eq0-clause-lasts : goal.returns-then-room-eq0-clause-lasts
returns-then-room-eq0-clause-lasts c = λ said s h some. absurd (omega (arith, some))

pub returns-clause-lasts : goal.returns-clause-lasts
returns-clause-lasts c = λ said s h some.
    let few = c.make_in_turn-made.ensures.few in
    turn_of_one h.plan s c.turn_room-room.result (omega (arith, some, few)) (c.turn_room-room.ensures.lasts h.plan s h.ordered h.stands.tables (omega (arith, some, few)))
