use Rattle.std.proofs.Common.{◌+◌, refl, ◌∙◌, ap}
use Rattle.b67_layout.specs.Layout.{machine_view}
use Rattle.b67_refer.specs.declared.activation.Activation.{Activation}
use Rattle.b67_task.specs.Born.{with_peak}
use Rattle.b67_layout.specs.Peaks.{peak_with}
use Rattle.b67_task.specs.Starts.{StartsSome}
use Rattle.b67_task.proofs.StartContext.{has, some_slot, next_row, number_of, room_for, context, procedure, program, stack_now, marked, builds, is_started, keeps}
use Rattle.b67_task.proofs.starts.start.Goals as goal

pub next_number-number-requires : goal.next_number-number-requires
next_number-number-requires c =
    let q = c.requires in
    next_row c.args.machine.now c.args.cell c.args.args q c.running_row-parent.result.job (c.running_row-parent.ensures q.storage q.told q.plan q.session q.member q.task q.ordered q.stands q.running).0

pub open_slot-slot-requires : goal.open_slot-slot-requires
open_slot-slot-requires c = some_slot c.args.machine.now c.args.cell c.args.args c.requires

pub procedure_at-procedure-requires : goal.procedure_at-procedure-requires
procedure_at-procedure-requires c =
    let q = c.requires in
    let op = c.open_slot-slot.ensures.stands q.storage q.plan q.session q.slot q.ordered q.stands.session q.stands.storage.low (has c.args.machine.now c.args.cell c.args.args q) in
    let p = program c.args.machine.now c.args.cell c.args.args q c.open_slot-slot.new.cpu c.open_slot-slot.new.areas op in
    (record { place = q.place; level = q.level; segment = q.segment + 1 }, p.0, p.1)

pub enclosure_of-requires : goal.enclosure_of-requires
enclosure_of-requires c =
    let q = c.requires in
    let op = c.open_slot-slot.ensures.stands q.storage q.plan q.session q.slot q.ordered q.stands.session q.stands.storage.low (has c.args.machine.now c.args.cell c.args.args q) in (
      context c.args.machine.now c.args.cell c.args.args q c.open_slot-slot.new.cpu c.open_slot-slot.new.areas op,
      q.task.place,
      q.f,
      q.segment,
      q.level,
      q.place,
      procedure c.args.machine.now c.args.cell c.args.args q c.open_slot-slot.new.cpu c.open_slot-slot.new.areas op,
    )

pub build_child-critical-requires : goal.build_child-critical-requires
build_child-critical-requires c =
    let q = c.requires in
    let op = c.open_slot-slot.ensures.stands q.storage q.plan q.session q.slot q.ordered q.stands.session q.stands.storage.low (has c.args.machine.now c.args.cell c.args.args q) in
    let now = c.open_slot-slot.new.cpu in
    let areas = c.open_slot-slot.new.areas in
    let p = program c.args.machine.now c.args.cell c.args.args q now areas op in
    let env = c.enclosure_of.ensures.home (context c.args.machine.now c.args.cell c.args.args q now areas op) q.task.place q.f q.segment q.level q.place (procedure c.args.machine.now c.args.cell c.args.args q now areas op) in
    builds c.args.machine.now c.args.cell c.args.args q now areas op
    c.running_row-parent.result (c.running_row-parent.ensures q.storage q.told q.plan q.session q.member q.task q.ordered q.stands q.running)
    c.open_slot-slot.result (c.open_slot-slot.ensures.slot q.storage q.plan q.session q.slot q.stands.session q.may.lowest)
    c.procedure_at-procedure.result (c.procedure_at-procedure.ensures (record { place = q.place; level = q.level; segment = q.segment + 1 }) p.0 p.1)
    c.enclosure_of.result.record.stack c.enclosure_of.result.record.disp (ap (λ (a : Activation). a.stack) env) (ap (λ (a : Activation). a.disp) env)

pub add_row-requires : goal.add_row-requires
add_row-requires c =
    let q = c.requires in
    room_for c.args.machine.now c.args.cell c.args.args q _ (c.running_row-parent.ensures q.storage q.told q.plan q.session q.member q.task q.ordered q.stands q.running).0

pub returns-clause-number : goal.returns-clause-number
returns-clause-number c = λ x told plan s m t o h runs.
    number_of c.args.machine.now x told plan s m t o h runs c.running_row-parent.result.job c.next_number-number.result (c.running_row-parent.ensures x told plan s m t o h runs).0 c.next_number-number.ensures

pub returns-clause-stands : goal.returns-clause-stands
returns-clause-stands c = λ x told plan s m t f segment level place slot o h runs may.
    let q : StartsSome c.args.machine.now c.args.cell c.args.args = record { storage = x; told = told; plan = plan; session = s; member = m; task = t; ordered = o; stands = h; running = runs; f = f; segment = segment; level = level; place = place; slot = slot; may = may } in
    let op = c.open_slot-slot.ensures.stands q.storage q.plan q.session q.slot q.ordered q.stands.session q.stands.storage.low (has c.args.machine.now c.args.cell c.args.args q) in
    let now = c.open_slot-slot.new.cpu in
    let areas = c.open_slot-slot.new.areas in
    let p = program c.args.machine.now c.args.cell c.args.args q now areas op in
    let env = c.enclosure_of.ensures.home (context c.args.machine.now c.args.cell c.args.args q now areas op) q.task.place q.f q.segment q.level q.place (procedure c.args.machine.now c.args.cell c.args.args q now areas op) in
    let u = marked c.args.machine.now c.args.cell c.args.args q now areas op in
    let mine = c.running_row-parent.ensures x told plan s m t o h runs in
    is_started c.args.machine.now c.args.cell c.args.args q now areas op
    c.running_row-parent.result mine
    c.open_slot-slot.result (c.open_slot-slot.ensures.slot x plan s slot h.session may.lowest)
    c.procedure_at-procedure.result (c.procedure_at-procedure.ensures (record { place = place; level = level; segment = segment + 1 }) p.0 p.1)
    c.enclosure_of.result.record.stack c.enclosure_of.result.record.disp (ap (λ (a : Activation). a.stack) env) (ap (λ (a : Activation). a.disp) env)
    c.build_child-critical.new.cpu c.add_row.new.tasks c.next_number-number.result c.build_child-critical.result _
    c.build_child-critical.ensures.stands
    c.open_slot-slot.ensures.areas c.open_slot-slot.ensures.len c.build_child-critical.ensures.len
    (number_of c.args.machine.now x told plan s m t o h runs c.running_row-parent.result.job c.next_number-number.result mine.0 c.next_number-number.ensures)
    (c.build_child-critical.ensures.mark op.storage (machine_view (with_peak plan (peak_with s 1)) s.jobs) (stack_now c.args.machine.now c.args.cell c.args.args q now areas op) op.stands.holds.memory u.0 u.1)
    refl refl refl refl refl refl refl refl
    c.add_row.ensures.rows c.add_row.ensures.jobs c.add_row.ensures.rest

pub returns-clause-keeps : goal.returns-clause-keeps
returns-clause-keeps c =
    let q = c.requires in
    keeps c.args.machine.now c.args.cell c.args.args q c.build_child-critical.new.cpu c.open_slot-slot.new.areas c.add_row.new.tasks c.running_row-parent.result.job
    (c.running_row-parent.ensures q.storage q.told q.plan q.session q.member q.task q.ordered q.stands q.running).0
    (c.build_child-critical.ensures.len ∙ c.open_slot-slot.ensures.len) c.add_row.ensures.jobs c.add_row.ensures.rest
