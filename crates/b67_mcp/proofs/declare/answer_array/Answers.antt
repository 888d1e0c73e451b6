use Rattle.std.proofs.Common.{◌≡◌, arith, sym, subst, ◌⊎◌}
use Rattle.std.specs.List.{slice_get}
use Rattle.b67_stack.specs.declared.Cpu.{Cpu}
use Rattle.b67_layout.specs.Common.{with_job, IsInStack, RepresentsSession}
use Rattle.b67_mcp.specs.Printed.{job_cut}
use Rattle.b67_mcp.specs.Declaring.{job_declared, with_home, storage_without}
use Rattle.b67_mcp.proofs.Pushed.{room}
use Rattle.b67_mcp.proofs.Answering.{task_cut, member_cut, runs_cut, higher, changed}
use Rattle.b67_mcp.proofs.Arrays.{array_answered}
use Rattle.b67_mcp.proofs.declare.answer_array.Goals as goal

pub put-requires : goal.put-requires
put-requires c =
    let r = c.requires.call.runs in
    let q = c.args.next in
    let cut = c.cut_call.ensures.stands r.storage r.plan r.session r.member r.task r.ordered r.stands r.running c.requires.call.may in
    let o = room r.storage c.cut_call.new.cpu r.plan (with_job r.session r.member (job_cut r.member r.task q)) (member_cut r.member r.task q) (task_cut r.member r.task q) cut
    (runs_cut r.storage c.args.cpu.now c.cut_call.new.cpu r.plan r.session r.member r.task q r.ordered r.stands r.running c.requires.call.may cut) in
    let high = higher r.storage c.args.cpu.now c.cut_call.new.cpu r.plan r.session r.member r.task q r.ordered r.stands r.running c.requires.call.may cut in
    omega (arith, o.last, o.under, o.inside, high)

pub returns-clause-stands : goal.returns-clause-stands
returns-clause-stands c = λ x plan s m t o h runs may.
    (let q = c.args.next in
    let P : Cpu → Type 0 = λ cpu. RepresentsSession (storage_without x cpu.regs.s) cpu (with_home plan m.constants.number m.progress.job.next_array cpu.regs.s) (with_job s m (job_declared m t c.args.length q)) in
    subst P (sym c.put.ensures) (array_answered x c.args.cpu.now c.cut_call.new.cpu plan s m t q o h runs may (λ there k r. c.cut_call.ensures.stands x there s m t o k r may) c.args.length c.word.result c.requires.some c.requires.small c.word.ensures))

pub returns-clause-changed : goal.returns-clause-changed
returns-clause-changed c = λ x plan s m t o h runs may i.
    (let cut = c.cut_call.ensures.stands x plan s m t o h runs may in
    let P : Cpu → Type 0 = λ cpu. (slice_get cpu.core i ≡ slice_get c.args.cpu.now.core i) ⊎ IsInStack c.args.cpu.now.regs i in
    subst P (sym c.put.ensures) (changed x c.args.cpu.now c.cut_call.new.cpu plan s m t c.args.next o h runs may cut c.word.result c.cut_call.ensures.core i))
