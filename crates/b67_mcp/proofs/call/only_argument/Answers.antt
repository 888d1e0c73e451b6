use Rattle.std.proofs.Common.{◌∙◌, refl, sym}
use Rattle.b67_mcp.proofs.Ones.{only_cell}
use Rattle.b67_mcp.proofs.call.only_argument.Goals as goal

pub returns-then-count_cells-ne2 : goal.returns-then-count_cells-ne2
returns-then-count_cells-ne2 c = λ x plan s m t o h runs. (λ e. c.if-count_cells-ne2.true (c.count_cells.ensures.count x plan s m t o h runs ∙ e), refl)

pub returns : goal.returns
returns c = λ x plan s m t o h runs.
    only_cell x plan m t c.args.cpu.now _ (sym (c.count_cells.ensures.count x plan s m t o h runs) ∙ c.if-count_cells-ne2.false) c.top_cell.result (c.top_cell.ensures.cell x plan s m t o h runs)
