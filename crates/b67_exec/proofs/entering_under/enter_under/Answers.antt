use Rattle.std.proofs.Common.{◌≡◌, ◌-◌, ◌≤◌, ◌<◌, length, sym, ap, arith, subst, true}
use Rattle.b67_stack.specs.declared.Cpu.{Cpu}
use Rattle.b67_fetch.proofs.Values.{here_scene}
use Rattle.b67_exec.proofs.Overs.{leads_under, bounds, place_fits, may_enter, held_under, stored_made, stored_fault, restored}
use Rattle.b67_exec.proofs.entering_under.enter_under.Goals as goal

pub set-requires : goal.set-requires
set-requires c = let (a, q, o) = c.requires.over in (bounds a.storage c.args.cpu.now a.plan a.session a.member a.task a.ordered a.stands a.running q c.args.lower c.args.upper o).0

pub accident_on-requires-clause-procedure : goal.accident_on-requires-clause-procedure
accident_on-requires-clause-procedure c =
    let (a, q, o) = c.requires.over in
    let cpu = c.args.cpu.now in
    let l = leads_under a.storage cpu a.plan a.session a.member a.task a.ordered a.stands a.running q c.args.lower c.args.upper o in
    may_enter a.storage cpu a.plan a.session a.member a.task a.ordered a.stands a.running q c.args.lower c.args.upper o c.args.cell c.set.new.self c.set.ensures.value
    (c.requires.cell (here_scene a.storage cpu a.plan a.session a.member a.task a.ordered a.stands a.running) q o.frame o.segment o.level o.place l)

pub accident_on-requires-clause-back : goal.accident_on-requires-clause-back
accident_on-requires-clause-back c = let (a, q, o) = c.requires.over in place_fits a.storage c.args.cpu.now a.plan a.session a.member a.task a.ordered a.stands a.running q c.args.lower c.args.upper o

pub accident_on-requires-clause-known : goal.accident_on-requires-clause-known
accident_on-requires-clause-known c =
    let (a, q, o) = c.requires.over in
    held_under a.storage c.args.cpu.now a.plan a.session a.member a.task a.ordered a.stands a.running q c.args.lower c.args.upper o c.set.new.self c.set.ensures.value

pub overflow_sub-cpu-in-Fault : goal.overflow_sub-cpu-in-Fault
overflow_sub-cpu-in-Fault c =
    let (a, q, o) = c.requires.over in
    let cpu = c.args.cpu.now in
    let l = leads_under a.storage cpu a.plan a.session a.member a.task a.ordered a.stands a.running q c.args.lower c.args.upper o in
    let k = c.requires.cell (here_scene a.storage cpu a.plan a.session a.member a.task a.ordered a.stands a.running) q o.frame o.segment o.level o.place l in
    let f = stored_fault a.storage cpu a.plan a.session a.member a.task a.ordered a.stands a.running q c.args.lower c.args.upper o c.args.cell c.set.new.self c.set.ensures.value k c.accident_on.new.cpu true c.in-Fault.fault c.in-Fault.ensures.row in
    let b = (bounds a.storage cpu a.plan a.session a.member a.task a.ordered a.stands a.running q c.args.lower c.args.upper o).1 in
    let P : Cpu → Type 0 = λ z. 1 ≤ z.regs.s in
    subst P (sym f.1) b

pub set-requires-in-Fault : goal.set-requires-in-Fault
set-requires-in-Fault c =
    let (a, q, o) = c.requires.over in
    let cpu = c.args.cpu.now in
    let l = leads_under a.storage cpu a.plan a.session a.member a.task a.ordered a.stands a.running q c.args.lower c.args.upper o in
    let k = c.requires.cell (here_scene a.storage cpu a.plan a.session a.member a.task a.ordered a.stands a.running) q o.frame o.segment o.level o.place l in
    let f = stored_fault a.storage cpu a.plan a.session a.member a.task a.ordered a.stands a.running q c.args.lower c.args.upper o c.args.cell c.set.new.self c.set.ensures.value k c.accident_on.new.cpu true c.in-Fault.fault c.in-Fault.ensures.row in
    let b = (bounds a.storage cpu a.plan a.session a.member a.task a.ordered a.stands a.running q c.args.lower c.args.upper o).0 in
    let P : Cpu → Type 0 = λ z. z.regs.s - 1 < length z.core in
    let n : length c.set.new.self ≡ length cpu.core = c.set.ensures.len in
    let there : cpu.regs.s - 1 < length c.set.new.self = omega (arith, b, n) in
    let same = ap length (sym c.set.ensures.value) in
    subst P (sym f.1) (omega (arith, there, same))

pub returns-in-Fault : goal.returns-in-Fault
returns-in-Fault c = record {
  row = λ x plan s m t ordered h runs q keeps o.
      let cpu = c.args.cpu.now in
      let l = leads_under x cpu plan s m t ordered h runs q c.args.lower c.args.upper o in
      let k = c.requires.cell (here_scene x cpu plan s m t ordered h runs) q o.frame o.segment o.level o.place l in (
        (stored_fault x cpu plan s m t ordered h runs q c.args.lower c.args.upper o c.args.cell c.set.new.self c.set.ensures.value k c.accident_on.new.cpu keeps c.in-Fault.fault c.in-Fault.ensures.row).0,
        restored x cpu plan s m t ordered h runs q c.args.lower c.args.upper o c.args.cell c.set.new.self c.set.ensures.value k c.accident_on.new.cpu c.set-in-Fault.new.self keeps c.in-Fault.fault c.in-Fault.ensures.row c.set-in-Fault.ensures.value,
      );
}

pub returns-in_default : goal.returns-in_default
returns-in_default c = record {
  row = λ x plan s m t ordered h runs q keeps o.
      let cpu = c.args.cpu.now in
      let l = leads_under x cpu plan s m t ordered h runs q c.args.lower c.args.upper o in
      let k = c.requires.cell (here_scene x cpu plan s m t ordered h runs) q o.frame o.segment o.level o.place l in
      stored_made x cpu plan s m t ordered h runs q c.args.lower c.args.upper o c.args.cell c.set.new.self c.set.ensures.value k c.accident_on.new.cpu keeps c.accident_on.result c.in_default.not-Fault c.accident_on.ensures.row;
}
