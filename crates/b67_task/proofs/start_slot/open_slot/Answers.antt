use Rattle.std.proofs.Common.{◌≡◌, ◌<◌, sym, ◌∙◌, arith}
use Rattle.b67_layout.specs.Layout.{machine_view}
use Rattle.b67_task.proofs.Opens.{few, has_room, one_lowest, opened_before, opened_now}
use Rattle.b67_task.proofs.start_slot.open_slot.Goals as goal

pub lowest_free-slot-requires : goal.lowest_free-slot-requires
lowest_free-slot-requires c =
    let q = c.requires in
    record { storage = q.storage; marks = c.args.cpu.now.critical; plan = q.plan; session = q.session; holds = q.stands.holds }

pub add_slot-requires : goal.add_slot-requires
add_slot-requires c =
    let q = c.requires in
    let now = c.args.cpu.now in
    let l = c.lowest_free-slot.ensures q.storage now.critical q.plan q.session q.stands.holds in
    let same : c.lowest_free-slot.result ≡ q.slot = one_lowest q.plan c.lowest_free-slot.result q.slot l.0 q.has.lowest in
    let is : q.slot ≡ q.plan.peak = sym same ∙ c.if-slot-cpu.true ∙ (few q.storage now.core now.regs now.critical q.plan q.session q.stands.holds).0 in
    record {
      room = (
        q.storage,
        machine_view q.plan q.session.jobs,
        q.stands.holds.memory,
        has_room q.storage now now c.args.areas.now c.args.areas.now q.plan q.session q.slot q.ordered q.stands q.low q.has is,
        q.low,
      );
    }

pub returns-then-slot-cpu-clause-slot : goal.returns-then-slot-cpu-clause-slot
returns-then-slot-cpu-clause-slot c = λ x plan s k h l. one_lowest plan c.lowest_free-slot.result k (c.lowest_free-slot.ensures x c.args.cpu.now.critical plan s h.holds).0 l

pub returns-then-slot-cpu-clause-stands : goal.returns-then-slot-cpu-clause-stands
returns-then-slot-cpu-clause-stands c = λ x plan s k o h low has.
    let now = c.args.cpu.now in
    let same : c.lowest_free-slot.result ≡ k = one_lowest plan c.lowest_free-slot.result k (c.lowest_free-slot.ensures x now.critical plan s h.holds).0 has.lowest in
    let is : k ≡ plan.peak = sym same ∙ c.if-slot-cpu.true ∙ (few x now.core now.regs now.critical plan s h.holds).0 in
    let room = has_room x now now c.args.areas.now c.args.areas.now plan s k o h low has is in
    opened_now x now c.add_slot.new.cpu c.args.areas.now c.add_slot.new.areas plan s k o h low has is
    (c.add_slot.ensures.stands x (machine_view plan s.jobs) h.holds.memory room low)
    c.add_slot.ensures.rest
    (c.add_slot.ensures.below x (machine_view plan s.jobs) h.holds.memory room low)

pub returns-else-slot-cpu-clause-slot : goal.returns-else-slot-cpu-clause-slot
returns-else-slot-cpu-clause-slot c = λ x plan s k h l. one_lowest plan c.lowest_free-slot.result k (c.lowest_free-slot.ensures x c.args.cpu.now.critical plan s h.holds).0 l

pub returns-else-slot-cpu-clause-stands : goal.returns-else-slot-cpu-clause-stands
returns-else-slot-cpu-clause-stands c = λ x plan s k o h low has.
    let now = c.args.cpu.now in
    let l = c.lowest_free-slot.ensures x now.critical plan s h.holds in
    let same : c.lowest_free-slot.result ≡ k = one_lowest plan c.lowest_free-slot.result k l.0 has.lowest in
    let less : k < plan.peak = omega (arith, same, l.1, c.if-slot-cpu.false, (few x now.core now.regs now.critical plan s h.holds).0) in
    opened_before x now now c.args.areas.now c.args.areas.now plan s k o h low has less
