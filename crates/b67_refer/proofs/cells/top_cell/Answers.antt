use Rattle.std.proofs.Common.{◌+◌, refl, sym, arith, subst, ℕ, Ok}
use Rattle.b67_model.specs.Cells.{cell}
use Rattle.b67_layout.specs.Meets.{here}
use Rattle.b67_refer.specs.LiveCells.{CellMeets}
use Rattle.b67_refer.proofs.Founds.{mark_small}
use Rattle.b67_refer.proofs.Unders.{is_slot}
use Rattle.b67_refer.proofs.Walks.{Spans, top_spans, mark_high, inside_lands}
use Rattle.b67_refer.proofs.cells.top_cell.Goals as goal

pub returns-then-base-regs : goal.returns-then-base-regs
returns-then-base-regs c = λ some. absurd (some refl)

pub overflow_add-at : goal.overflow_add-at
overflow_add-at c =
    let (core, a, f, n, e) = c.requires in
    omega (arith, mark_small core c.args.regs.now a f c.args.base n e, c.from.ensures, c.ranges.offset.fits)

pub returns-then-at-regs : goal.returns-then-at-regs
returns-then-at-regs c = λ some. absurd (some refl)

pub returns : goal.returns
returns c = λ some core a q f n e low.
    let S : ℕ → Type 0 = λ m. Spans core c.args.regs.now a m (c.args.regs.now.s + 1) in
    let there = subst S (sym c.if-base-regs.false) (top_spans core c.args.regs.now a) in
    let own = is_slot core c.args.regs.now a f c.args.base n e (mark_high core c.args.regs.now a c.args.base (c.args.regs.now.s + 1) there) in
    subst (λ (i : ℕ). CellMeets a q f c.args.offset (Ok (c.args.base + i)) (cell (here a.member a.task q) f c.args.offset)) (sym c.from.ensures)
    (inside_lands core c.args.regs.now a q f c.args.base c.args.offset (c.args.regs.now.s + 1) n e own low there (omega (arith, c.if-at-regs.false, c.from.ensures)))
