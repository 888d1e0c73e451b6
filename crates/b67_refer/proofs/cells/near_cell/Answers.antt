use Rattle.std.proofs.Common.{inl, refl}
use Rattle.b67_refer.proofs.cells.near_cell.Goals as goal

pub top_cell-top-requires : goal.top_cell-top-requires
top_cell-top-requires c = let (a, f, n, e, low) = c.requires in (c.args.core.now, a, f, n, e)

pub returns-then-top-ne0 : goal.returns-then-top-ne0
returns-then-top-ne0 c = λ some a q f n e low. c.top_cell-top.ensures some c.args.core.now a q f n e low

pub under_cell-requires : goal.under_cell-requires
under_cell-requires c = let (a, f, n, e, low) = c.requires in (a, f, n, e, low, inl refl)

pub returns : goal.returns
returns c = λ some a q f n e low. c.under_cell.ensures some a q f n e low (inl refl)
