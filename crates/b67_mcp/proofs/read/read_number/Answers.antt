use Rattle.std.proofs.Common.{sym, ◌∙◌, subst}
use Rattle.b67_layout.proofs.Fresh.{running_in_order}
use Rattle.b67_mcp.specs.Reads.{AreOperands}
use Rattle.b67_mcp.proofs.Reading.{not_none, critical, taken}
use Rattle.b67_mcp.proofs.read.read_number.Goals as goal

pub returns-then-count_cells-ne1 : goal.returns-then-count_cells-ne1
returns-then-count_cells-ne1 c = record { row = λ x plan s m t o h runs r arguments call shows. not_none plan m t r arguments call c.args.job.now (λ e. c.if-count_cells-ne1.true (c.count_cells.ensures.count x plan s m t o h runs ∙ e)) }

pub returns-then-is_critical : goal.returns-then-is_critical
returns-then-is_critical c = record {
  row = λ x plan s m t o h runs r arguments call shows.
      critical plan m t r arguments call c.args.job.now (sym (c.count_cells.ensures.count x plan s m t o h runs) ∙ c.if-count_cells-ne1.false) (sym (c.is_critical.ensures x plan s m t o h runs) ∙ c.if-is_critical.true);
}

pub next_number-requires-clause-operands : goal.next_number-requires-clause-operands
next_number-requires-clause-operands c =
    let r = c.requires.call.some.runs in
    subst AreOperands (sym c.requires.call.shows.numbers) (running_in_order r.plan r.session r.member r.task r.ordered r.running).0.tasks.reads

pub returns : goal.returns
returns c = record {
  row = λ x plan s m t o h runs r arguments call shows.
      taken plan m t r arguments call c.args.job.now (sym (c.count_cells.ensures.count x plan s m t o h runs) ∙ c.if-count_cells-ne1.false) c.next_number.new.job c.next_number.result
      (sym (c.is_critical.ensures x plan s m t o h runs) ∙ c.if-is_critical.false) (running_in_order plan s m t o runs).1.not_higher shows c.next_number.ensures.word c.next_number.ensures.left c.next_number.ensures.same;
}
