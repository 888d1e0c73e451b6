use Rattle.std.proofs.Common.{◌∙◌, ap}
use Rattle.b67_task.specs.declared.tables.Tasks.{Tasks}
use Rattle.b67_task.proofs.Keeping.{keeps_then}
use Rattle.b67_mcp.proofs.Begins.{order1, runs1, cut1, plan1, session1, member1, is_moved}
use Rattle.b67_mcp.proofs.process_started.begin.Goals as goal

pub start-number-requires : goal.start-number-requires
start-number-requires c = c.requires.call.starts

pub answer-requires-clause-call : goal.answer-requires-clause-call
answer-requires-clause-call c =
    let q = c.requires.call.starts in
    let cut = c.requires.call.may in
    let k = c.args.machine.now in
    let st = c.start-number.ensures.stands q.storage q.told q.plan q.session q.member q.task q.f q.segment q.level q.place q.slot q.ordered q.stands q.running q.may in
    let o1 = order1 q.storage q.told k q.plan q.session q.member q.task q.ordered q.stands q.running c.args.asked.cell c.args.asked.count q.f q.segment q.level q.place q.slot q.may cut in
    let r1 = runs1 q.storage q.told k q.plan q.session q.member q.task q.ordered q.stands q.running c.args.asked.cell c.args.asked.count q.f q.segment q.level q.place q.slot q.may cut in
    let m1 = cut1 q.storage q.told k q.plan q.session q.member q.task q.ordered q.stands q.running c.args.asked.cell c.args.asked.count q.f q.segment q.level q.place q.slot q.may cut in
    record {
      runs = record {
        storage = st.storage;
        told = q.told;
        plan = plan1 q.storage q.told k q.plan q.session q.member q.task q.ordered q.stands q.running c.args.asked.cell c.args.asked.count q.f q.segment q.level q.place q.slot q.may cut;
        session = session1 q.storage q.told k q.plan q.session q.member q.task q.ordered q.stands q.running c.args.asked.cell c.args.asked.count q.f q.segment q.level q.place q.slot q.may cut;
        member = member1 q.storage q.told k q.plan q.session q.member q.task q.ordered q.stands q.running c.args.asked.cell c.args.asked.count q.f q.segment q.level q.place q.slot q.may cut;
        task = q.task;
        ordered = o1;
        stands = st.stands;
        running = r1;
      };
      may = m1;
    }

pub returns-clause-stands : goal.returns-clause-stands
returns-clause-stands c = λ x told plan s m t f segment level place slot o h runs may cut.
    (let k = c.args.machine.now in
    let st = c.start-number.ensures.stands x told plan s m t f segment level place slot o h runs may in
    let p1 = plan1 x told k plan s m t o h runs c.args.asked.cell c.args.asked.count f segment level place slot may cut in
    let s1 = session1 x told k plan s m t o h runs c.args.asked.cell c.args.asked.count f segment level place slot may cut in
    let m1 = member1 x told k plan s m t o h runs c.args.asked.cell c.args.asked.count f segment level place slot may cut in
    is_moved x told k plan s m t o h runs c.args.asked.cell c.args.asked.count f segment level place slot may cut c.start-number.result c.args.next st.storage c.answer.new.machine
    (c.start-number.ensures.number x told plan s m t o h runs)
    (c.answer.ensures.stands st.storage told p1 s1 m1 t
    (order1 x told k plan s m t o h runs c.args.asked.cell c.args.asked.count f segment level place slot may cut) st.stands
    (runs1 x told k plan s m t o h runs c.args.asked.cell c.args.asked.count f segment level place slot may cut)
    (cut1 x told k plan s m t o h runs c.args.asked.cell c.args.asked.count f segment level place slot may cut)))

pub returns-clause-kept : goal.returns-clause-kept
returns-clause-kept c =
    let a = c.start-number.ensures.keeps in
    let b = c.answer.ensures.kept in
    keeps_then c.args.machine.now c.start-number.new.machine c.answer.new.machine a b

pub returns-clause-printed : goal.returns-clause-printed
returns-clause-printed c = c.answer.ensures.printed ∙ ap (λ (z : Tasks). z.printed) c.start-number.ensures.tables
