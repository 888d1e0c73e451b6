use Rattle.std.proofs.Common.{◌∙◌, ℕ, sym, subst, map}
use Rattle.b67_layout.specs.Session.{RepresentsSession}
use Rattle.b67_layout.specs.Rows.{TablesShow}
use Rattle.b67_task.specs.Turns.{with_running}
use Rattle.b67_task.specs.Tables.{task_row, job_row, counts_of}
use Rattle.b67_task.proofs.Turns.{rests_is, turn_out, slot_same, inside_same, in_use_again}
use Rattle.b67_task.proofs.switching.switch_to.Goals as goal
use Rattle.b67_lemmas.proofs.Places.{get_within}

pub turn_of-turn-requires-clause-known : goal.turn_of-turn-requires-clause-known
turn_of-turn-requires-clause-known c =
    let q = c.requires in
    let k = c.args.machine.now.cpu in
    let h = q.stands.session.holds in
    (with_running q.plan 255, q.session, rests_is q.storage k.core k.regs k.critical q.plan q.session c.pause.new.tasks q.ordered h (c.pause.ensures.rests q.storage k.core k.critical q.plan q.session q.ordered h q.stands.tables))

pub switch_stack-requires : goal.switch_stack-requires
switch_stack-requires c =
    let q = c.requires in
    let k = c.args.machine.now.cpu in
    let h = q.stands.session.holds in
    let rests = rests_is q.storage k.core k.regs k.critical q.plan q.session c.pause.new.tasks q.ordered h (c.pause.ensures.rests q.storage k.core k.critical q.plan q.session q.ordered h q.stands.tables) in
    let (m, t, turn) = c.turn_of-turn.ensures.turn (with_running q.plan 255) q.session rests in
    record { storage = q.storage; plan = q.plan; session = q.session; member = m; task = t; ordered = q.ordered; stands = q.stands.session; waits = turn_out q.plan 255 q.session m t c.turn_of-turn.result turn }

pub returns-clause-stands : goal.returns-clause-stands
returns-clause-stands c = λ x told plan s r o stands at.
    let k = c.args.machine.now.cpu in
    let h = stands.session.holds in
    let rests = rests_is x k.core k.regs k.critical plan s c.pause.new.tasks o h (c.pause.ensures.rests x k.core k.critical plan s o h stands.tables) in
    let (m, t, turn) = c.turn_of-turn.ensures.turn (with_running plan 255) s rests in
    let inside = inside_same c.args.machine.now.tasks.rows.items c.pause.new.tasks.rows.items c.args.row c.pause.ensures.slots c.requires.inside in
    let (n, at_new) = get_within c.pause.new.tasks.rows.items c.args.row inside in
    let same = slot_same c.args.machine.now.tasks.rows.items c.pause.new.tasks.rows.items c.args.row r n c.pause.ensures.slots at at_new in
    record {
      session = subst (λ (i : ℕ). RepresentsSession x c.switch_stack.new.cpu (with_running plan i) s) (c.turn_of-turn.ensures.slot n at_new ∙ same) (c.switch_stack.ensures.stands x plan s m t o stands.session (turn_out plan 255 s m t c.turn_of-turn.result turn));
      storage = record { low = stands.storage.low; size = stands.storage.size ∙ sym c.switch_stack.ensures.len; shelf = stands.storage.shelf; device = stands.storage.device };
      tables = subst (λ (i : ℕ). TablesShow (with_running plan i) s (map task_row c.pause.new.tasks.rows.items) (map job_row c.pause.new.tasks.jobs) (record (counts_of c.pause.new.tasks) { running = c.args.row })) same
          (in_use_again c.pause.new.tasks plan s rests c.args.row n at_new c.turn_of-turn.ensures.few);
    }
