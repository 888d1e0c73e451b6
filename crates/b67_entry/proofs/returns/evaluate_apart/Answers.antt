use Rattle.std.proofs.Common.{arith}
use Rattle.b67_layout.proofs.Starts.{meets_runs}
use Rattle.b67_entry.proofs.Again.{again, marks_again, regs_again, left_again, held_again, low_again}
use Rattle.b67_entry.proofs.returns.evaluate_apart.Goals as goal

pub top_mark-mark-requires : goal.top_mark-mark-requires
top_mark-mark-requires c = let r = c.requires.run.0 in meets_runs r.storage c.args.cpu.now r.plan r.session r.member r.task r.stands r.running

pub caller-regs-requires : goal.caller-regs-requires
caller-regs-requires c =
    let (r, a, v, b) = c.requires.run in (
      again r.storage c.args.cpu.now r.plan r.session r.member r.task r.ordered r.stands r.running a c.top_mark-mark.result c.top_mark-mark.ensures,
      marks_again r.storage c.args.cpu.now r.plan r.session r.member r.task r.ordered r.stands r.running a c.top_mark-mark.result c.top_mark-mark.ensures,
    )

pub rebuild_known-requires-clause-run : goal.rebuild_known-requires-clause-run
rebuild_known-requires-clause-run c =
    let (r, a, v, b) = c.requires.run in
    left_again r.storage c.args.cpu.now r.plan r.session r.member r.task r.ordered r.stands r.running a c.top_mark-mark.result c.top_mark-mark.ensures c.caller-regs.result c.caller-regs.ensures

pub rebuild_known-requires-clause-known : goal.rebuild_known-requires-clause-known
rebuild_known-requires-clause-known c =
    let (r, a, v, b) = c.requires.run in
    held_again r.storage c.args.cpu.now r.plan r.session r.member r.task r.ordered r.stands r.running a c.top_mark-mark.result c.top_mark-mark.ensures c.caller-regs.result c.caller-regs.ensures

pub evaluate-requires-clause-run : goal.evaluate-requires-clause-run
evaluate-requires-clause-run c =
    let (r, a, v, b) = c.requires.run in
    (r, a, v, b, regs_again r.storage c.args.cpu.now r.plan r.session r.member r.task r.ordered r.stands r.running a c.top_mark-mark.result c.top_mark-mark.ensures c.caller-regs.result c.caller-regs.ensures)

pub returns : goal.returns
returns c = record {
  row = λ x plan s m t o h runs a v b.
      c.evaluate.ensures.row x plan s m t o h runs a v b (regs_again x c.args.cpu.now plan s m t o h runs a c.top_mark-mark.result c.top_mark-mark.ensures c.caller-regs.result c.caller-regs.ensures);
  above = c.evaluate.ensures.above;
  top = λ e.
      let (r, a, v, b) = c.requires.run in
      let low = low_again r.storage c.args.cpu.now r.plan r.session r.member r.task r.ordered r.stands r.running a c.top_mark-mark.result c.top_mark-mark.ensures c.caller-regs.result c.caller-regs.ensures in
      let z = c.evaluate.ensures.top e in
      (omega (arith, low, z.0), omega (arith, low, z.1));
}
