use Rattle.std.proofs.Common.{◌≡◌, refl, ◌∙◌, ap, arith, rules}
use Rattle.b67_ctl.specs.Layout.{flag_bit}
use Rattle.b67_stack.specs.Stacks.{top_mark}
use Rattle.b67_layout.proofs.Starts.{meets_runs, runs_here}
use Rattle.b67_layout.specs.Layout.{machine_view, stack_of_task}
use Rattle.b67_exec_cells.proofs.Put.{room, counted, flag_low}
use Rattle.b67_exec_cells.proofs.cells.count_cells.Goals as goal

pub is_top_entered-entered-requires : goal.is_top_entered-entered-requires
is_top_entered-entered-requires c = let q = c.requires in meets_runs q.storage c.args.cpu.now q.plan q.session q.member q.task q.stands q.running

pub overflow_sub-result : goal.overflow_sub-result
overflow_sub-result c = let q = c.requires in (room q.storage c.args.cpu.now q.plan q.session q.member q.task q.ordered q.stands q.running).top

pub overflow_sub-result-2 : goal.overflow_sub-result-2
overflow_sub-result-2 c =
    let q = c.requires in
    let n : c.from.result ≡ flag_bit c.is_top_entered-entered.result = search (rules, c.from.ensures) in
    let e : c.is_top_entered-entered.result ≡ (top_mark c.args.cpu.now.regs.slot (stack_of_task q.plan q.member.constants.number q.member.progress.job q.plan.running q.task)).entered = c.is_top_entered-entered.ensures q.storage (machine_view q.plan q.session.jobs) (stack_of_task q.plan q.member.constants.number q.member.progress.job q.plan.running q.task) q.stands.holds.memory (runs_here q.storage c.args.cpu.now q.plan q.session q.member q.task q.stands q.running) in
    let k = counted q.storage c.args.cpu.now q.plan q.session q.member q.task q.ordered q.stands q.running _ c.from.result refl (n ∙ ap flag_bit e) in
    omega (arith, k)

pub returns-clause-count : goal.returns-clause-count
returns-clause-count c = λ x plan s m t ordered h runs.
    let n : c.from.result ≡ flag_bit c.is_top_entered-entered.result = search (rules, c.from.ensures) in
    let e : c.is_top_entered-entered.result ≡ (top_mark c.args.cpu.now.regs.slot (stack_of_task plan m.constants.number m.progress.job plan.running t)).entered = c.is_top_entered-entered.ensures x (machine_view plan s.jobs) (stack_of_task plan m.constants.number m.progress.job plan.running t) h.holds.memory (runs_here x c.args.cpu.now plan s m t h runs) in
    let k = counted x c.args.cpu.now plan s m t ordered h runs _ c.from.result refl (n ∙ ap flag_bit e) in
    omega (arith, k)

pub returns-clause-above : goal.returns-clause-above
returns-clause-above c = let q = c.requires in let f = (room q.storage c.args.cpu.now q.plan q.session q.member q.task q.ordered q.stands q.running).top in omega (arith, f)

pub returns-clause-near : goal.returns-clause-near
returns-clause-near c =
    let q = c.requires in
    let n : c.from.result ≡ flag_bit c.is_top_entered-entered.result = search (rules, c.from.ensures) in
    let low = flag_low c.is_top_entered-entered.result in
    let f = (room q.storage c.args.cpu.now q.plan q.session q.member q.task q.ordered q.stands q.running).top in
    omega (arith, n, low, f)
