use Rattle.std.proofs.Common.{◌+◌, ◌<◌, length, Ok, sym, ◌∙◌, ap, arith}
use Rattle.b67_word.specs.declared.faults.Fault.TheVariants.{InvalidOperand, StackUnderflow}
use Rattle.b67_model.specs.Common.{top}
use Rattle.b67_stack.specs.declared.Step.TheVariants as step
use Rattle.b67_layout.specs.Common.{RunsSome}
use Rattle.b67_layout.proofs.Starts.{meets_runs}
use Rattle.b67_refer.specs.declared.ends.End.TheVariants as end
use Rattle.b67_refer.specs.RunningContext.{live_of}
use Rattle.b67_entry.proofs.Firsts.{scene_of, faults_entered, faults_empty, faults_other, first_inside, Referring, referring}
use Rattle.b67_entry.proofs.Leads.{each, Led, led, meets_fault, fault_made, other_made, call_made, proc, may_enter, enter_made}
use Rattle.b67_entry.proofs.enter.entr.Goals.{Else-cpu, Else-tag-ne1, After-chase}
use Rattle.b67_entry.proofs.enter.entr.Goals as goal

inside : (c : Else-cpu) → RunsSome c.args.cpu.now → c.args.cpu.now.regs.f + 1 < length c.args.cpu.now.core
inside c r = first_inside c.args.cpu.now c.args.next r c.top_mark.result c.top_mark.ensures c.if-top_mark.false c.if-cpu.false

refers : (c : Else-tag-ne1) (r : RunsSome c.args.cpu.now) → Referring r c.args.next c.get-first.result
refers c r = referring c.args.cpu.now c.args.next r c.top_mark.result c.top_mark.ensures c.if-top_mark.false c.if-cpu.false c.get-first.result c.get-first.ensures (sym c.tag.ensures.value ∙ c.if-tag-ne1.false)

context : (c : After-chase) (r : RunsSome c.args.cpu.now) → Led r c.args.next c.chase.result
context c r = led (refers c.before.before.before.before r) c.chase.result c.chase.ensures.running

pub top_mark-requires : goal.top_mark-requires
top_mark-requires c = let r = c.requires.runs in meets_runs r.storage c.args.cpu.now r.plan r.session r.member r.task r.stands r.running

pub returns-then-top_mark : goal.returns-then-top_mark
returns-then-top_mark c = record {
  row = each c.args.cpu.now c.args.next c.args.cpu.now (step.Fault InvalidOperand) (λ r. meets_fault r c.args.next InvalidOperand (faults_entered c.args.cpu.now c.args.next r c.top_mark.result c.top_mark.ensures c.if-top_mark.true));
}

pub returns-then-cpu : goal.returns-then-cpu
returns-then-cpu c = record {
  row = each c.args.cpu.now c.args.next c.args.cpu.now (step.Fault StackUnderflow) (λ r. meets_fault r c.args.next StackUnderflow (faults_empty c.args.cpu.now c.args.next r c.top_mark.result c.top_mark.ensures c.if-top_mark.false c.if-cpu.true));
}

pub get-first-requires : goal.get-first-requires
get-first-requires c = inside (goal.at.get-first-requires c).Else-cpu c.requires.runs

pub overflow_add-cpu : goal.overflow_add-cpu
overflow_add-cpu c = omega (arith, inside (goal.at.overflow_add-cpu c).Else-cpu c.requires.runs, c.requires.runs.stands.holds.memory.directory.small)

pub returns-then-tag-ne1 : goal.returns-then-tag-ne1
returns-then-tag-ne1 c = record {
  row = each c.args.cpu.now c.args.next c.args.cpu.now (step.Fault InvalidOperand) (λ r. meets_fault r c.args.next InvalidOperand
      (faults_other c.args.cpu.now c.args.next r c.top_mark.result c.top_mark.ensures c.if-top_mark.false c.if-cpu.false c.get-first.result c.get-first.ensures (λ e. c.if-tag-ne1.true (c.tag.ensures.value ∙ e))));
}

pub chase-requires : goal.chase-requires
chase-requires c =
    let r = c.requires.runs in
    let k = refers (goal.at.chase-requires c).Else-tag-ne1 r in
    (live_of (scene_of r), r.stands.shows r.member r.task r.running, c.args.cpu.now.regs.f + 1, (top r.task.frames).identity, k.reference, k.stands)

pub enclosure_of-home-requires : goal.enclosure_of-home-requires
enclosure_of-home-requires c =
    let r = c.requires.runs in
    let p = proc (context (goal.at.enclosure_of-home-requires c).After-chase r) c.in-Ok-Proc.cell (c.in-Ok-Proc.is ∙ ap Ok c.in-Ok-Proc.field-0-is) in
    (scene_of r, c.args.next, p.f, p.segment, p.level, p.place, p.procedure)

pub enter-requires-clause-procedure : goal.enter-requires-clause-procedure
enter-requires-clause-procedure c = may_enter (context (goal.at.enter-requires-clause-procedure c).After-chase c.requires.runs) c.in-Ok-Proc.cell (c.in-Ok-Proc.is ∙ ap Ok c.in-Ok-Proc.field-0-is)

pub enter-requires-clause-home : goal.enter-requires-clause-home
enter-requires-clause-home c = λ a f segment level place e. c.enclosure_of-home.ensures.home a c.args.next f segment level place e.procedure

pub enter-requires-clause-mark : goal.enter-requires-clause-mark
enter-requires-clause-mark c = c.enclosure_of-home.ensures.mark

pub returns-in-Ok-Proc : goal.returns-in-Ok-Proc
returns-in-Ok-Proc c = record {
  row = each c.args.cpu.now c.args.next c.enter.new.cpu c.enter.result (λ r. enter_made (context (goal.at.returns-in-Ok-Proc c).After-chase r) c.in-Ok-Proc.cell (c.in-Ok-Proc.is ∙ ap Ok c.in-Ok-Proc.field-0-is) c.enter.new.cpu c.enter.result c.enter.ensures.row);
}

pub returns-in-Ok-Intrinsic : goal.returns-in-Ok-Intrinsic
returns-in-Ok-Intrinsic c = record {
  row = each c.args.cpu.now c.args.next c.args.cpu.now (step.Call c.in-Ok-Intrinsic.n) (λ r. call_made (context (goal.at.returns-in-Ok-Intrinsic c).After-chase r) c.in-Ok-Intrinsic.n (c.in-Ok-Intrinsic.is ∙ ap Ok c.in-Ok-Intrinsic.field-0-is));
}

pub returns-in-Err : goal.returns-in-Err
returns-in-Err c = record {
  row = each c.args.cpu.now c.args.next c.args.cpu.now (step.Fault c.in-Err.fault) (λ r. fault_made (context (goal.at.returns-in-Err c).After-chase r) c.in-Err.fault c.in-Err.is);
}

pub returns-in-Ok-Cell : goal.returns-in-Ok-Cell
returns-in-Ok-Cell c = record {
  row = each c.args.cpu.now c.args.next c.args.cpu.now (step.Fault InvalidOperand) (λ r. other_made (context (goal.at.returns-in-Ok-Cell c).After-chase r) (end.Cell c.in-Ok-Cell.field-0-0) tt (c.in-Ok-Cell.is ∙ ap Ok c.in-Ok-Cell.field-0-is));
}

pub returns-in-Ok-Element : goal.returns-in-Ok-Element
returns-in-Ok-Element c = record {
  row = each c.args.cpu.now c.args.next c.args.cpu.now (step.Fault InvalidOperand) (λ r. other_made (context (goal.at.returns-in-Ok-Element c).After-chase r) (end.Element c.in-Ok-Element.field-0-0 c.in-Ok-Element.field-0-1) tt (c.in-Ok-Element.is ∙ ap Ok c.in-Ok-Element.field-0-is));
}

pub returns-in-Ok-Array : goal.returns-in-Ok-Array
returns-in-Ok-Array c = record {
  row = each c.args.cpu.now c.args.next c.args.cpu.now (step.Fault InvalidOperand) (λ r. other_made (context (goal.at.returns-in-Ok-Array c).After-chase r) (end.Array c.in-Ok-Array.field-0-0) tt (c.in-Ok-Array.is ∙ ap Ok c.in-Ok-Array.field-0-is));
}
