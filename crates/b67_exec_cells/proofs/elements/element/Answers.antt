use Rattle.std.proofs.Common.{arith}
use Rattle.std.proofs.lemmas.Bool.{not-false, not-true}
use Rattle.b67_exec_cells.proofs.Arrays.{absent, present, bound, element-inside, element-is}
use Rattle.b67_exec_cells.proofs.elements.element.Goals as goal

pub returns-then-not-desc : goal.returns-then-not-desc
returns-then-not-desc c = λ x plan s m t ordered h runs n home e.
    absent x c.args.cpu.now plan s m t ordered h runs n c.args.index e c.array_descriptor-desc.result (c.array_descriptor-desc.ensures x plan s m t ordered h runs n c.args.index home e) (not-true _ c.if-not-desc.true)

pub overflow_add-desc : goal.overflow_add-desc
overflow_add-desc c =
    let q = c.requires in
    let r = q.runs in
    let d = c.array_descriptor-desc.ensures r.storage r.plan r.session r.member r.task r.ordered r.stands r.running q.number c.args.index q.home q.element in
    let i = element-inside r.storage c.args.cpu.now r.plan r.session r.member r.task r.ordered r.stands r.running q.number c.args.index q.element c.array_descriptor-desc.result d (not-false _ c.if-not-desc.false) in
    let b = bound r.storage c.args.cpu.now r.plan r.session r.member r.task r.ordered r.stands r.running q.number c.args.index q.element in
    omega (arith, i, b)

pub get-requires : goal.get-requires
get-requires c =
    let q = c.requires in
    let r = q.runs in
    let d = c.array_descriptor-desc.ensures r.storage r.plan r.session r.member r.task r.ordered r.stands r.running q.number c.args.index q.home q.element in
    element-inside r.storage c.args.cpu.now r.plan r.session r.member r.task r.ordered r.stands r.running q.number c.args.index q.element c.array_descriptor-desc.result d (not-false _ c.if-not-desc.false)

pub returns : goal.returns
returns c = λ x plan s m t ordered h runs n home e.
    let d = c.array_descriptor-desc.ensures x plan s m t ordered h runs n c.args.index home e in (
      c.array_descriptor-desc.result.address,
      present x c.args.cpu.now plan s m t ordered h runs n c.args.index e c.array_descriptor-desc.result d (not-false _ c.if-not-desc.false),
      element-is x c.args.cpu.now plan s m t ordered h runs n c.args.index e c.array_descriptor-desc.result c.get.result d (not-false _ c.if-not-desc.false) c.get.ensures,
    )
