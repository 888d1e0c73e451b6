use Rattle.std.proofs.Common.{◌≡◌, arith, sym, subst, ◌⊎◌}
use Rattle.std.specs.List.{slice_get}
use Rattle.b67_model.specs.Words.{Operand}
use Rattle.b67_stack.specs.declared.Cpu.{Cpu}
use Rattle.b67_layout.specs.Common.{with_job, IsInStack, RepresentsSession}
use Rattle.b67_mcp.specs.Calls.{job_cut}
use Rattle.b67_mcp.specs.Answered.{job_answered}
use Rattle.b67_mcp.proofs.Pushed.{room}
use Rattle.b67_mcp.proofs.Answering.{task_cut, member_cut, runs_cut, higher, changed, stands_answered}
use Rattle.b67_mcp.proofs.call.answer_call.Goals as goal

pub put-requires : goal.put-requires
put-requires c =
    let r = c.requires.call.runs in
    let q = c.args.next in
    let cut = c.cut_call.ensures.stands r.storage r.plan r.session r.member r.task r.ordered r.stands r.running c.requires.call.may in
    let o = room r.storage c.cut_call.new.cpu r.plan (with_job r.session r.member (job_cut r.member r.task q)) (member_cut r.member r.task q) (task_cut r.member r.task q) cut
    (runs_cut r.storage c.args.cpu.now c.cut_call.new.cpu r.plan r.session r.member r.task q r.ordered r.stands r.running c.requires.call.may cut) in
    let high = higher r.storage c.args.cpu.now c.cut_call.new.cpu r.plan r.session r.member r.task q r.ordered r.stands r.running c.requires.call.may cut in
    omega (arith, o.last, o.under, o.inside, high)

pub returns-clause-stands : goal.returns-clause-stands
returns-clause-stands c = λ x plan s m t o h runs bits numbers may e.
    (let cut = c.cut_call.ensures.stands x plan s m t o h runs may in
    let P : Cpu → Type 0 = λ cpu. RepresentsSession x cpu plan (with_job s m (job_answered m t (Operand bits) c.args.next numbers)) in
    subst P (sym c.put.ensures) (stands_answered x c.args.cpu.now c.cut_call.new.cpu plan s m t c.args.next o h runs may cut (Operand bits) c.args.w numbers tt (e, λ z. cc)))

pub returns-clause-changed : goal.returns-clause-changed
returns-clause-changed c = λ x plan s m t o h runs may i.
    (let cut = c.cut_call.ensures.stands x plan s m t o h runs may in
    let P : Cpu → Type 0 = λ cpu. (slice_get cpu.core i ≡ slice_get c.args.cpu.now.core i) ⊎ IsInStack c.args.cpu.now.regs i in
    subst P (sym c.put.ensures) (changed x c.args.cpu.now c.cut_call.new.cpu plan s m t c.args.next o h runs may cut c.args.w c.cut_call.ensures.core i))
