use Rattle.std.proofs.Common.{arith, ap, sym, ◌∙◌, refl}
use Rattle.std.proofs.lemmas.Bool.{not-false, not-true}
use Rattle.b67_ctl.specs.declared.descriptors.DataDesc.{DataDesc}
use Rattle.b67_exec_cells.proofs.Arrays.{absent, present, bound, element-inside}
use Rattle.b67_fetch.proofs.storing.element_address.Goals as goal

pub returns-then-desc : goal.returns-then-desc
returns-then-desc c = λ x plan s m t ordered h runs n home e.
    let d = c.array_descriptor-desc.ensures x plan s m t ordered h runs n c.args.index home e in
    (not-true _ (ap (λ (z : DataDesc). z.read_only) (sym d) ∙ c.if-desc.true), refl)

pub returns-then-not-desc : goal.returns-then-not-desc
returns-then-not-desc c = λ x plan s m t ordered h runs n home e.
    let d = c.array_descriptor-desc.ensures x plan s m t ordered h runs n c.args.index home e in
    (not-false _ (ap (λ (z : DataDesc). z.read_only) (sym d) ∙ c.if-desc.false), absent x c.args.cpu.now plan s m t ordered h runs n c.args.index e c.array_descriptor-desc.result d (not-true _ c.if-not-desc.true), refl)

pub overflow_add-result : goal.overflow_add-result
overflow_add-result c =
    let q = c.requires in
    let r = q.runs in
    let d = c.array_descriptor-desc.ensures r.storage r.plan r.session r.member r.task r.ordered r.stands r.running q.number c.args.index q.home q.element in
    let i = element-inside r.storage c.args.cpu.now r.plan r.session r.member r.task r.ordered r.stands r.running q.number c.args.index q.element c.array_descriptor-desc.result d (not-false _ c.if-not-desc.false) in
    let b = bound r.storage c.args.cpu.now r.plan r.session r.member r.task r.ordered r.stands r.running q.number c.args.index q.element in
    omega (arith, i, b)

pub returns : goal.returns
returns c = λ x plan s m t ordered h runs n home e.
    let d = c.array_descriptor-desc.ensures x plan s m t ordered h runs n c.args.index home e in
    (not-false _ (ap (λ (z : DataDesc). z.read_only) (sym d) ∙ c.if-desc.false), (c.array_descriptor-desc.result.address, present x c.args.cpu.now plan s m t ordered h runs n c.args.index e c.array_descriptor-desc.result d (not-false _ c.if-not-desc.false), refl))
