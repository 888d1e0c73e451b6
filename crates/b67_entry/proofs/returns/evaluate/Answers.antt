use Rattle.std.proofs.Common.{◌+◌, ◌∷◌, Some, Option, Result, Ok, ◌∙◌, ap, arith, refl, subst}
use Rattle.b67_word.specs.Tagged.{Tagged}
use Rattle.b67_word.specs.declared.faults.Fault.{Fault}
use Rattle.b67_model.specs.Chase.{follow}
use Rattle.b67_refer.specs.declared.ends.End.{End}
use Rattle.b67_refer.specs.declared.ends.End.TheVariants as end
use Rattle.b67_refer.specs.Ends.{EndMeets}
use Rattle.b67_exec_cells.specs.Elements.{GivesElement}
use Rattle.b67_refer.specs.RunningContext.{live_of}
use Rattle.b67_entry.proofs.Retning.{not_operand}
use Rattle.b67_entry.proofs.Putting.{room_left, put_above, put_top}
use Rattle.b67_entry.proofs.Evaluating.{scene, seen, element_end, proc_end, cell_inside, cell_made, element_there, element_made, element_absent, array_refused, intrinsic_refused, fault_refused}
use Rattle.b67_entry.proofs.Calling.{proc_meets}
use Rattle.b67_entry.proofs.Callers.{below_mark}
use Rattle.b67_entry.proofs.Leaving.{may_return}
use Rattle.b67_entry.proofs.Environments.{plain, holds_left, caller_slots}
use Rattle.b67_entry.specs.Left.{caller_stack}
use Rattle.b67_refer.proofs.Chains.{level_is, level_low}
use Rattle.b67_ctl.specs.declared.registers.Regs.{Regs}
use Rattle.b67_entry.proofs.Candidates.{shown_there, follows_there, found_end, made_there, enters_there, entered_there}
use Rattle.b67_entry.proofs.Stops.{not_done}
use Rattle.b67_entry.proofs.returns.evaluate.Goals as goal

pub chase-requires : goal.chase-requires
chase-requires c =
    let (run, a, v, b, is) = c.requires.run in
    let x = run.storage in
    let plan = run.plan in
    let s = run.session in
    let m = run.member in
    let t = run.task in
    let o = run.ordered in
    let h = run.stands in
    let runs = run.running in
    let cpu = c.args.cpu.now in
    let (left, shown, at, owner, word, stands) = follows_there x cpu plan s m t o h runs a c.args.regs is v c.args.word b c.args.display c.requires.shown in
    (live_of left, shown, at, owner, word, stands)

pub get-value-requires : goal.get-value-requires
get-value-requires c =
    let (run, a, v, b, is) = c.requires.run in
    let x = run.storage in
    let plan = run.plan in
    let s = run.session in
    let m = run.member in
    let t = run.task in
    let o = run.ordered in
    let h = run.stands in
    let runs = run.running in
    let cpu = c.args.cpu.now in
    let E = found_end x cpu plan s m t o h runs a c.args.regs is v c.args.word b c.args.display c.chase.result c.requires.shown c.chase.ensures.running in
    let k : EndMeets (scene x cpu plan s m t o h runs a) a.back.place (Ok (end.Cell c.in-Ok-Cell.at)) (follow (seen x cpu plan s m t o h runs a) v) = subst (λ (z : Result End Fault). EndMeets (scene x cpu plan s m t o h runs a) a.back.place z (follow (seen x cpu plan s m t o h runs a) v)) (c.in-Ok-Cell.is ∙ ap Ok c.in-Ok-Cell.field-0-is) E in
    let no_operand = not_operand x cpu plan s m t o h runs v c.args.word b.word c.requires.tag in
    cell_inside x cpu plan s m t o h runs a v c.args.word b no_operand c.in-Ok-Cell.at k

pub put-requires : goal.put-requires
put-requires c =
    let (run, a, v, b, is) = c.requires.run in
    let x = run.storage in
    let plan = run.plan in
    let s = run.session in
    let m = run.member in
    let t = run.task in
    let o = run.ordered in
    let h = run.stands in
    let runs = run.running in
    let cpu = c.args.cpu.now in
    room_left x cpu plan s m t o h runs a c.args.regs is

pub element-requires : goal.element-requires
element-requires c =
    let (run, a, v, b, is) = c.requires.run in
    let x = run.storage in
    let plan = run.plan in
    let s = run.session in
    let m = run.member in
    let t = run.task in
    let o = run.ordered in
    let h = run.stands in
    let runs = run.running in
    let cpu = c.args.cpu.now in
    let E = found_end x cpu plan s m t o h runs a c.args.regs is v c.args.word b c.args.display c.chase.result c.requires.shown c.chase.ensures.running in
    let k : EndMeets (scene x cpu plan s m t o h runs a) a.back.place (Ok (end.Element c.in-Ok-Element.original c.in-Ok-Element.index)) (follow (seen x cpu plan s m t o h runs a) v) = subst (λ (z : Result End Fault). EndMeets (scene x cpu plan s m t o h runs a) a.back.place z (follow (seen x cpu plan s m t o h runs a) v)) (c.in-Ok-Element.is ∙ ap Ok c.in-Ok-Element.field-0-is) E in
    let (n, e, q) = element_end (scene x cpu plan s m t o h runs a) a.back.place c.in-Ok-Element.original c.in-Ok-Element.index (follow (seen x cpu plan s m t o h runs a) v) k in
    let no_operand = not_operand x cpu plan s m t o h runs v c.args.word b.word c.requires.tag in
    record { runs = run; number = n; home = q.array_of.home; element = element_there x cpu plan s m t o h runs a v c.args.word b no_operand c.in-Ok-Element.original n c.in-Ok-Element.index e q }

pub put-requires-in-Some : goal.put-requires-in-Some
put-requires-in-Some c =
    let (run, a, v, b, is) = c.requires.run in
    let x = run.storage in
    let plan = run.plan in
    let s = run.session in
    let m = run.member in
    let t = run.task in
    let o = run.ordered in
    let h = run.stands in
    let runs = run.running in
    let cpu = c.args.cpu.now in
    room_left x cpu plan s m t o h runs a c.args.regs is

pub accident_on-requires-clause-procedure : goal.accident_on-requires-clause-procedure
accident_on-requires-clause-procedure c =
    let (run, a, v, b, is) = c.requires.run in
    let x = run.storage in
    let plan = run.plan in
    let s = run.session in
    let m = run.member in
    let t = run.task in
    let o = run.ordered in
    let h = run.stands in
    let runs = run.running in
    let cpu = c.args.cpu.now in
    let E = found_end x cpu plan s m t o h runs a c.args.regs is v c.args.word b c.args.display c.chase.result c.requires.shown c.chase.ensures.running in
    let k : EndMeets (scene x cpu plan s m t o h runs a) a.back.place (Ok (end.Proc c.in-Ok-Proc.cell)) (follow (seen x cpu plan s m t o h runs a) v) = subst (λ (z : Result End Fault). EndMeets (scene x cpu plan s m t o h runs a) a.back.place z (follow (seen x cpu plan s m t o h runs a) v)) (c.in-Ok-Proc.is ∙ ap Ok c.in-Ok-Proc.field-0-is) E in
    let (f, segment, level, place, e, p) = proc_end (scene x cpu plan s m t o h runs a) a.back.place c.in-Ok-Proc.cell (follow (seen x cpu plan s m t o h runs a) v) k in
    enters_there x cpu plan s m t o h runs a c.args.regs is c.in-Ok-Proc.cell f segment level place p

pub overflow_sub-cpu : goal.overflow_sub-cpu
overflow_sub-cpu c =
    let (run, a, v, b, is) = c.requires.run in
    let here = plain run.storage c.args.cpu.now run.plan run.session run.member run.task run.ordered run.stands run.running in
    omega (arith, level_is c.args.cpu.now.core c.args.cpu.now.regs here, level_low c.args.cpu.now.core c.args.cpu.now.regs here)

pub accident_on-requires-clause-known : goal.accident_on-requires-clause-known
accident_on-requires-clause-known c =
    let (run, a, v, b, is) = c.requires.run in
    let cpu = c.args.cpu.now in
    holds_left cpu (plain run.storage cpu run.plan run.session run.member run.task run.ordered run.stands run.running) (run.stands.shows run.member run.task run.running) a.f (a.next ∷ a.more) a.level a.environment (Some a.back) a.frames a.entered
    c.args.regs (caller_slots cpu c.args.regs (caller_stack run.plan run.member run.task a) a.back is) (ap (λ (z : Regs). z.s + 1) is ∙ below_mark cpu (may_return run.storage cpu run.plan run.session run.member run.task run.ordered run.stands run.running a))

pub returns-in-Ok-Cell : goal.returns-in-Ok-Cell
returns-in-Ok-Cell c = record {
  row = λ x plan s m t o h runs a v b is.
      (let cpu = c.args.cpu.now in
      let E = found_end x cpu plan s m t o h runs a c.args.regs is v c.args.word b c.args.display c.chase.result c.requires.shown c.chase.ensures.running in
      let k : EndMeets (scene x cpu plan s m t o h runs a) a.back.place (Ok (end.Cell c.in-Ok-Cell.at)) (follow (seen x cpu plan s m t o h runs a) v) = subst (λ (z : Result End Fault). EndMeets (scene x cpu plan s m t o h runs a) a.back.place z (follow (seen x cpu plan s m t o h runs a) v)) (c.in-Ok-Cell.is ∙ ap Ok c.in-Ok-Cell.field-0-is) E in
      let no_operand = not_operand x cpu plan s m t o h runs v c.args.word b.word c.requires.tag in
      let shown = shown_there x cpu plan s m t o h runs a c.args.regs is c.args.display c.requires.shown in
      made_there x cpu plan s m t o h runs a c.args.regs is c.get-value.result c.args.display c.put.new.cpu _ c.put.ensures
      (cell_made x cpu plan s m t o h runs a v c.args.word b no_operand c.in-Ok-Cell.at k c.get-value.result c.args.display c.get-value.ensures shown));
  above = λ i low. put_above c.args.cpu.now c.args.regs c.args.display c.get-value.result c.put.new.cpu c.put.ensures i low;
  top = λ e. put_top c.args.cpu.now c.args.regs c.args.display c.get-value.result c.put.new.cpu c.put.ensures;
}

pub returns-in-Some : goal.returns-in-Some
returns-in-Some c = record {
  row = λ x plan s m t o h runs a v b is.
      (let cpu = c.args.cpu.now in
      let E = found_end x cpu plan s m t o h runs a c.args.regs is v c.args.word b c.args.display c.chase.result c.requires.shown c.chase.ensures.running in
      let k : EndMeets (scene x cpu plan s m t o h runs a) a.back.place (Ok (end.Element c.in-Ok-Element.original c.in-Ok-Element.index)) (follow (seen x cpu plan s m t o h runs a) v) = subst (λ (z : Result End Fault). EndMeets (scene x cpu plan s m t o h runs a) a.back.place z (follow (seen x cpu plan s m t o h runs a) v)) (c.in-Ok-Element.is ∙ ap Ok c.in-Ok-Element.field-0-is) E in
      let (n, e, q) = element_end (scene x cpu plan s m t o h runs a) a.back.place c.in-Ok-Element.original c.in-Ok-Element.index (follow (seen x cpu plan s m t o h runs a) v) k in
      let no_operand = not_operand x cpu plan s m t o h runs v c.args.word b.word c.requires.tag in
      let shown = shown_there x cpu plan s m t o h runs a c.args.regs is c.args.display c.requires.shown in
      let there = element_there x cpu plan s m t o h runs a v c.args.word b no_operand c.in-Ok-Element.original n c.in-Ok-Element.index e q in
      let gives = c.element.ensures x plan s m t o h runs n q.array_of.home there in
      let g = subst (λ (z : Option Tagged). GivesElement x plan m n c.in-Ok-Element.index z) c.in-Some.is gives in
      made_there x cpu plan s m t o h runs a c.args.regs is c.in-Some.value c.args.display c.put-in-Some.new.cpu _ c.put-in-Some.ensures
      (element_made x cpu plan s m t o h runs a v c.args.word b no_operand c.in-Ok-Element.original n c.in-Ok-Element.index e q g.0 c.in-Some.value c.args.display g.1 g.2 shown));
  above = λ i low. put_above c.args.cpu.now c.args.regs c.args.display c.in-Some.value c.put-in-Some.new.cpu c.put-in-Some.ensures i low;
  top = λ e. put_top c.args.cpu.now c.args.regs c.args.display c.in-Some.value c.put-in-Some.new.cpu c.put-in-Some.ensures;
}

pub returns-in-None : goal.returns-in-None
returns-in-None c = record {
  row = λ x plan s m t o h runs a v b is.
      (let cpu = c.args.cpu.now in
      let E = found_end x cpu plan s m t o h runs a c.args.regs is v c.args.word b c.args.display c.chase.result c.requires.shown c.chase.ensures.running in
      let k : EndMeets (scene x cpu plan s m t o h runs a) a.back.place (Ok (end.Element c.in-Ok-Element.original c.in-Ok-Element.index)) (follow (seen x cpu plan s m t o h runs a) v) = subst (λ (z : Result End Fault). EndMeets (scene x cpu plan s m t o h runs a) a.back.place z (follow (seen x cpu plan s m t o h runs a) v)) (c.in-Ok-Element.is ∙ ap Ok c.in-Ok-Element.field-0-is) E in
      let (n, e, q) = element_end (scene x cpu plan s m t o h runs a) a.back.place c.in-Ok-Element.original c.in-Ok-Element.index (follow (seen x cpu plan s m t o h runs a) v) k in
      let no_operand = not_operand x cpu plan s m t o h runs v c.args.word b.word c.requires.tag in
      let there = element_there x cpu plan s m t o h runs a v c.args.word b no_operand c.in-Ok-Element.original n c.in-Ok-Element.index e q in
      let gives = c.element.ensures x plan s m t o h runs n q.array_of.home there in
      let g = subst (λ (z : Option Tagged). GivesElement x plan m n c.in-Ok-Element.index z) c.in-None.is gives in
      (element_absent x cpu plan s m t o h runs a v c.args.word b no_operand c.in-Ok-Element.original n c.in-Ok-Element.index e q g, refl));
  above = λ i low. refl;
  top = λ e. absurd (not_done _ tt e);
}

pub returns-in-Ok-Proc : goal.returns-in-Ok-Proc
returns-in-Ok-Proc c = record {
  row = λ x plan s m t o h runs a v b is.
      (let cpu = c.args.cpu.now in
      let E = found_end x cpu plan s m t o h runs a c.args.regs is v c.args.word b c.args.display c.chase.result c.requires.shown c.chase.ensures.running in
      let k : EndMeets (scene x cpu plan s m t o h runs a) a.back.place (Ok (end.Proc c.in-Ok-Proc.cell)) (follow (seen x cpu plan s m t o h runs a) v) = subst (λ (z : Result End Fault). EndMeets (scene x cpu plan s m t o h runs a) a.back.place z (follow (seen x cpu plan s m t o h runs a) v)) (c.in-Ok-Proc.is ∙ ap Ok c.in-Ok-Proc.field-0-is) E in
      let (f, segment, level, place, e, p) = proc_end (scene x cpu plan s m t o h runs a) a.back.place c.in-Ok-Proc.cell (follow (seen x cpu plan s m t o h runs a) v) k in
      let no_operand = not_operand x cpu plan s m t o h runs v c.args.word b.word c.requires.tag in
      proc_meets x cpu plan s m t o h runs a c.in-Ok-Proc.cell f segment level place p v no_operand e c.accident_on.result c.accident_on.new.cpu
      (entered_there x cpu plan s m t o h runs a c.args.regs is c.in-Ok-Proc.cell f segment level place p c.accident_on.result c.accident_on.new.cpu c.accident_on.ensures.row));
  above = c.accident_on.ensures.above;
  top = λ e. let t = c.accident_on.ensures.top e in (omega arith, omega arith);
}

pub returns-in-Ok-Array : goal.returns-in-Ok-Array
returns-in-Ok-Array c = record {
  row = λ x plan s m t o h runs a v b is.
      (let cpu = c.args.cpu.now in
      let E = found_end x cpu plan s m t o h runs a c.args.regs is v c.args.word b c.args.display c.chase.result c.requires.shown c.chase.ensures.running in
      let k : EndMeets (scene x cpu plan s m t o h runs a) a.back.place (Ok (end.Array c.in-Ok-Array.field-0-0)) (follow (seen x cpu plan s m t o h runs a) v) = subst (λ (z : Result End Fault). EndMeets (scene x cpu plan s m t o h runs a) a.back.place z (follow (seen x cpu plan s m t o h runs a) v)) (c.in-Ok-Array.is ∙ ap Ok c.in-Ok-Array.field-0-is) E in
      let no_operand = not_operand x cpu plan s m t o h runs v c.args.word b.word c.requires.tag in
      (array_refused x cpu plan s m t o h runs a v c.args.word b no_operand c.in-Ok-Array.field-0-0 k, refl));
  above = λ i low. refl;
  top = λ e. absurd (not_done _ tt e);
}

pub returns-in-Ok-Intrinsic : goal.returns-in-Ok-Intrinsic
returns-in-Ok-Intrinsic c = record {
  row = λ x plan s m t o h runs a v b is.
      (let cpu = c.args.cpu.now in
      let E = found_end x cpu plan s m t o h runs a c.args.regs is v c.args.word b c.args.display c.chase.result c.requires.shown c.chase.ensures.running in
      let k : EndMeets (scene x cpu plan s m t o h runs a) a.back.place (Ok (end.Intrinsic c.in-Ok-Intrinsic.field-0-0)) (follow (seen x cpu plan s m t o h runs a) v) = subst (λ (z : Result End Fault). EndMeets (scene x cpu plan s m t o h runs a) a.back.place z (follow (seen x cpu plan s m t o h runs a) v)) (c.in-Ok-Intrinsic.is ∙ ap Ok c.in-Ok-Intrinsic.field-0-is) E in
      let no_operand = not_operand x cpu plan s m t o h runs v c.args.word b.word c.requires.tag in
      (intrinsic_refused x cpu plan s m t o h runs a v c.args.word b no_operand c.in-Ok-Intrinsic.field-0-0 k, refl));
  above = λ i low. refl;
  top = λ e. absurd (not_done _ tt e);
}

pub returns-in-Err : goal.returns-in-Err
returns-in-Err c = record {
  row = λ x plan s m t o h runs a v b is.
      (let cpu = c.args.cpu.now in
      let E = found_end x cpu plan s m t o h runs a c.args.regs is v c.args.word b c.args.display c.chase.result c.requires.shown c.chase.ensures.running in
      let no_operand = not_operand x cpu plan s m t o h runs v c.args.word b.word c.requires.tag in
      (fault_refused x cpu plan s m t o h runs a v c.args.word b no_operand c.in-Err.fault (subst (λ (z : Result End Fault). EndMeets (scene x cpu plan s m t o h runs a) a.back.place z (follow (seen x cpu plan s m t o h runs a) v)) c.in-Err.is E), refl));
  above = λ i low. refl;
  top = λ e. absurd (not_done _ tt e);
}
