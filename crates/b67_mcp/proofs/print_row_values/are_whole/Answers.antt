use Rattle.std.proofs.Common.{ap, sym, ◌∙◌}
use Rattle.b67_mcp.specs.Texts.{is_some}
use Rattle.b67_mcp.proofs.Values.{none_left, some_left, all_left}
use Rattle.b67_mcp.proofs.print_row_values.are_whole.Goals as goal

pub returns-in-None : goal.returns-in-None
returns-in-None c = sym (sym c.loop-w.invariant ∙ ap is_some (none_left c.args.row.now c.loop-w.w-index c.w-item.result c.loop-w-test.true c.w-item.is (sym c.value.ensures ∙ c.in-None.is)))

pub loop-w-preserved : goal.loop-w-preserved
loop-w-preserved c = some_left c.args.row.now c.loop-w.w-index c.w-item.result c.in-Some.field-0 c.loop-w-test.true c.w-item.is (sym c.value.ensures ∙ c.in-Some.is) ∙ c.loop-w.invariant

pub returns : goal.returns
returns c = sym (sym c.loop-w.invariant ∙ all_left c.args.row.now c.loop-w.w-index c.loop-w-test.false)
