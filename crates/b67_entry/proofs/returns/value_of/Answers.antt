use Rattle.std.proofs.Common.{◌≡◌, ◌+◌, ◌∙◌, ap, arith}
use Rattle.b67_ctl.specs.declared.registers.Regs.{Regs}
use Rattle.b67_refer.specs.declared.ends.End.TheVariants as end
use Rattle.b67_entry.proofs.Callers.{below_mark}
use Rattle.b67_entry.proofs.Leaving.{may_return}
use Rattle.b67_entry.proofs.Retning.{not_operand}
use Rattle.b67_entry.proofs.Putting.{room_left, put_above, put_top}
use Rattle.b67_entry.proofs.Evaluating.{cell_inside, cell_made}
use Rattle.b67_entry.proofs.Candidates.{shown_there, stands_there, end_there, made_there}
use Rattle.b67_entry.proofs.returns.value_of.Goals as goal

pub stuffed_operand-at-requires : goal.stuffed_operand-at-requires
stuffed_operand-at-requires c =
    let (run, a, v, b, is) = c.requires.run in
    let x = run.storage in
    let plan = run.plan in
    let s = run.session in
    let m = run.member in
    let t = run.task in
    let o = run.ordered in
    let h = run.stands in
    let runs = run.running in
    let cpu = c.args.cpu.now in
    stands_there x cpu plan s m t o h runs a c.args.regs is v c.args.word b

pub evaluate_apart-requires-clause-run : goal.evaluate_apart-requires-clause-run
evaluate_apart-requires-clause-run c = let (run, a, v, b, is) = c.requires.run in (run, a, v, b)

pub returns-then-at-eq0 : goal.returns-then-at-eq0
returns-then-at-eq0 c = record {
  row = λ x plan s m t o h runs a v b is. c.evaluate_apart.ensures.row x plan s m t o h runs a v b;
  above = c.evaluate_apart.ensures.above;
  top = λ e.
      let (run, a, v, b, is) = c.requires.run in
      let low : c.args.regs.s + 1 ≡ c.args.cpu.now.regs.f = ap (λ (z : Regs). z.s + 1) is ∙ below_mark c.args.cpu.now (may_return run.storage c.args.cpu.now run.plan run.session run.member run.task run.ordered run.stands run.running a) in
      let z = c.evaluate_apart.ensures.top e in
      (omega (arith, low, z.0), omega (arith, low, z.1));
}

pub get-value-requires : goal.get-value-requires
get-value-requires c =
    let (run, a, v, b, is) = c.requires.run in
    let x = run.storage in
    let plan = run.plan in
    let s = run.session in
    let m = run.member in
    let t = run.task in
    let o = run.ordered in
    let h = run.stands in
    let runs = run.running in
    let cpu = c.args.cpu.now in
    let no_operand = not_operand x cpu plan s m t o h runs v c.args.word b.word c.requires.tag in
    let at = c.stuffed_operand-at.result in
    cell_inside x cpu plan s m t o h runs a v c.args.word b no_operand at (end_there x cpu plan s m t o h runs a c.args.regs is v c.args.word b (end.Cell at) (c.stuffed_operand-at.ensures c.if-at-eq0.false))

pub settle-requires-clause-room : goal.settle-requires-clause-room
settle-requires-clause-room c =
    let (run, a, v, b, is) = c.requires.run in
    let x = run.storage in
    let plan = run.plan in
    let s = run.session in
    let m = run.member in
    let t = run.task in
    let o = run.ordered in
    let h = run.stands in
    let runs = run.running in
    let cpu = c.args.cpu.now in
    room_left x cpu plan s m t o h runs a c.args.regs is

pub returns : goal.returns
returns c = record {
  row = λ x plan s m t o h runs a v b is.
      (let cpu = c.args.cpu.now in
      let at = c.stuffed_operand-at.result in
      let d = c.settle.new.cpu.display in
      let k = end_there x cpu plan s m t o h runs a c.args.regs is v c.args.word b (end.Cell at) (c.stuffed_operand-at.ensures c.if-at-eq0.false) in
      let no_operand = not_operand x cpu plan s m t o h runs v c.args.word b.word c.requires.tag in
      let shown = shown_there x cpu plan s m t o h runs a c.args.regs is d c.settle.ensures.shown in
      made_there x cpu plan s m t o h runs a c.args.regs is c.get-value.result d c.settle.new.cpu _ c.settle.ensures.rest
      (cell_made x cpu plan s m t o h runs a v c.args.word b no_operand at k c.get-value.result d c.get-value.ensures shown));
  above = λ i low. put_above c.args.cpu.now c.args.regs c.settle.new.cpu.display c.get-value.result c.settle.new.cpu c.settle.ensures.rest i low;
  top = λ e. put_top c.args.cpu.now c.args.regs c.settle.new.cpu.display c.get-value.result c.settle.new.cpu c.settle.ensures.rest;
}
