use Rattle.std.proofs.Common.{◌≡◌, ◌+◌, ◌∙◌, length, arith, ap}
use Rattle.std.specs.Prelude.{max}
use Rattle.b67_ctl.specs.declared.descriptors.SegDesc.{SegDesc}
use Rattle.b67_task.proofs.Needs.{read, area_low, stacks_low, need_is}
use Rattle.b67_task.proofs.needing.need.Goals as goal

pub overflow_add-code : goal.overflow_add-code
overflow_add-code c =
    let q = c.requires.runs in
    let r = read q.storage q.told c.args.machine.now q.plan q.session q.member q.task q.ordered q.stands q.running in
    let code = ap (λ (d : SegDesc). d.words) (c.descriptor-code.ensures q.storage q.plan q.session q.member q.task q.ordered q.stands.session q.running) in
    omega (arith, code, r.short)

pub overflow_add-result-2 : goal.overflow_add-result-2
overflow_add-result-2 c =
    let q = c.requires.runs in
    let k = c.args.machine.now in
    let r = read q.storage q.told k q.plan q.session q.member q.task q.ordered q.stands q.running in
    let code = ap (λ (d : SegDesc). d.words) (c.descriptor-code.ensures q.storage q.plan q.session q.member q.task q.ordered q.stands.session q.running) in
    let peak : c.max-peak.result ≡ max k.cpu.regs.peak (length k.tasks.rows.items + c.args.stacks) =
    c.max-peak.ensures ∙ ap (λ n. max n (c.len.result + c.from.result)) c.from-2.ensures ∙ ap (λ n. max k.cpu.regs.peak (n + c.from.result)) c.len.ensures.value ∙ ap (λ n. max k.cpu.regs.peak (length k.tasks.rows.items + n)) c.from.ensures in
    let low = stacks_low k q.session q.member q.task r c.args.stacks c.max-peak.result c.from-3.result peak c.from-3.ensures c.requires.stacks in
    omega (arith, low, code, r.low, r.short)

pub overflow_add-result-3 : goal.overflow_add-result-3
overflow_add-result-3 c =
    let q = c.requires.runs in
    let k = c.args.machine.now in
    let r = read q.storage q.told k q.plan q.session q.member q.task q.ordered q.stands q.running in
    let code = ap (λ (d : SegDesc). d.words) (c.descriptor-code.ensures q.storage q.plan q.session q.member q.task q.ordered q.stands.session q.running) in
    let peak : c.max-peak.result ≡ max k.cpu.regs.peak (length k.tasks.rows.items + c.args.stacks) =
    c.max-peak.ensures ∙ ap (λ n. max n (c.len.result + c.from.result)) c.from-2.ensures ∙ ap (λ n. max k.cpu.regs.peak (n + c.from.result)) c.len.ensures.value ∙ ap (λ n. max k.cpu.regs.peak (length k.tasks.rows.items + n)) c.from.ensures in
    let low = stacks_low k q.session q.member q.task r c.args.stacks c.max-peak.result c.from-3.result peak c.from-3.ensures c.requires.stacks in
    omega (arith, low, code, r.low, r.short, area_low c.args.array c.requires.array, c.area_of.ensures)

pub returns : goal.returns
returns c = λ x told plan s m t o h runs.
    let k = c.args.machine.now in
    let r = read x told k plan s m t o h runs in
    let code = ap (λ (d : SegDesc). d.words) (c.descriptor-code.ensures x plan s m t o h.session runs) in
    let peak : c.max-peak.result ≡ max k.cpu.regs.peak (length k.tasks.rows.items + c.args.stacks) =
    c.max-peak.ensures ∙ ap (λ n. max n (c.len.result + c.from.result)) c.from-2.ensures ∙ ap (λ n. max k.cpu.regs.peak (n + c.from.result)) c.len.ensures.value ∙ ap (λ n. max k.cpu.regs.peak (length k.tasks.rows.items + n)) c.from.ensures in
    need_is k s m t r c.args.stacks c.max-peak.result c.from-3.result peak c.from-3.ensures c.descriptor-code.result.words c.args.array c.area_of.result code c.area_of.ensures
