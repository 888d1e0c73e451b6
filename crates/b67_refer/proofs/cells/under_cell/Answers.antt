use Rattle.std.proofs.Common.{◌+◌, ◌-◌, ◌≤◌, ◌∙◌, refl, sym, ap, arith, subst, ℕ, Bool, Ok}
use Rattle.b67_model.specs.Cells.{cell}
use Rattle.b67_layout.specs.Meets.{here}
use Rattle.b67_refer.specs.LiveCells.{CellMeets, IsPlain, cell_or_none}
use Rattle.b67_refer.proofs.Founds.{mark_small, top_runs, task_plain, top_inside}
use Rattle.b67_refer.proofs.Unders.{is_slot, is_running}
use Rattle.b67_refer.proofs.Walks.{Spans, over_spans, has_mark, next_spans, under_spans, mark_high, inside_lands}
use Rattle.b67_refer.proofs.cells.under_cell.Goals as goal

pub overflow_add-at : goal.overflow_add-at
overflow_add-at c =
    let (a, f, n, e, low, over) = c.requires in
    omega (arith, mark_small c.args.core.now c.args.regs.now a f c.args.base n e, c.from.ensures, c.ranges.offset.fits)

pub loop-turn-init : goal.loop-turn-init
loop-turn-init c = λ a over. over_spans c.args.core.now c.args.regs.now a c.args.over over

pub mark_at-requires : goal.mark_at-requires
mark_at-requires c =
    let (a, f, n, e, low, over) = c.requires in
    let x = c.loop-turn.invariant a over in
    has_mark c.args.core.now c.args.regs.now a c.loop-turn.past x.0 x.1

pub overflow_sub-mark : goal.overflow_sub-mark
overflow_sub-mark c =
    let (a, f, n, e, low, over) = c.requires in
    let x = c.loop-turn.invariant a over in
    let next = next_spans c.args.core.now c.args.regs.now a c.loop-turn.past x.0 x.1 c.mark_at.result c.mark_at.ensures in
    omega (arith, next.0, c.from-in-loop-turn.ensures)

pub returns-then-at-past : goal.returns-then-at-past
returns-then-at-past c = λ some. absurd (some refl)

pub returns-then-mark-base : goal.returns-then-mark-base
returns-then-mark-base c = λ some a q f n e low over.
    let x = c.loop-turn.invariant a over in
    let there = under_spans c.args.core.now c.args.regs.now a c.loop-turn.past x.0 x.1 c.mark_at.result c.mark_at.ensures c.args.base (ap (λ (k : ℕ). c.loop-turn.past - k) (sym c.from-in-loop-turn.ensures) ∙ c.if-mark-base.true) (omega (arith, c.if-at-past.false)) in
    let own = is_slot c.args.core.now c.args.regs.now a f c.args.base n e (mark_high c.args.core.now c.args.regs.now a c.args.base c.loop-turn.past there) in
    subst (λ (i : ℕ). CellMeets a q f c.args.offset (Ok (c.args.base + i)) (cell (here a.member a.task q) f c.args.offset)) (sym c.from.ensures)
    (inside_lands c.args.core.now c.args.regs.now a q f c.args.base c.args.offset c.loop-turn.past n e own low there (omega (arith, c.if-at-past.false, c.from.ensures)))

pub loop-turn-preserved : goal.loop-turn-preserved
loop-turn-preserved c = λ a over.
    let x = c.loop-turn.invariant a over in
    let next = next_spans c.args.core.now c.args.regs.now a c.loop-turn.past x.0 x.1 c.mark_at.result c.mark_at.ensures in
    subst (λ (k : ℕ). (p : ℕ) × Spans c.args.core.now c.args.regs.now a (c.loop-turn.past - k) p) (sym c.from-in-loop-turn.ensures) next.1

pub returns-then-offset-ge-FEW_CELLS : goal.returns-then-offset-ge-FEW_CELLS
returns-then-offset-ge-FEW_CELLS c = λ some. absurd (some refl)

pub is_plain-requires-clause-inside : goal.is_plain-requires-clause-inside
is_plain-requires-clause-inside c =
    let (a, f, n, e, low, over) = c.requires in
    let high : c.args.regs.now.bosr ≤ c.args.base = omega (arith, c.if-base-regs.false) in
    let own = is_running c.args.core.now c.args.regs.now a f c.args.base n e high in
    let t = top_runs c.args.core.now c.args.regs.now a a.task.place f c.args.base c.args.offset n e own high (omega (arith, c.if-at-regs.false)) in
    omega (arith, t, (top_inside c.args.core.now c.args.regs.now a a.task.place f c.args.base c.args.offset n e own).0, c.if-at-regs.false)

pub is_plain-requires-clause-small : goal.is_plain-requires-clause-small
is_plain-requires-clause-small c =
    let (a, f, n, e, low, over) = c.requires in
    let own = is_running c.args.core.now c.args.regs.now a f c.args.base n e (omega (arith, c.if-base-regs.false)) in
    (top_inside c.args.core.now c.args.regs.now a a.task.place f c.args.base c.args.offset n e own).1

pub returns-then-not-is_plain : goal.returns-then-not-is_plain
returns-then-not-is_plain c = λ some. absurd (some refl)

pub returns : goal.returns
returns c = λ some a q f n e low over.
    let high : c.args.regs.now.bosr ≤ c.args.base = omega (arith, c.if-base-regs.false) in
    let own = is_running c.args.core.now c.args.regs.now a f c.args.base n e high in
    let t = top_runs c.args.core.now c.args.regs.now a q f c.args.base c.args.offset n e own high (omega (arith, c.if-at-regs.false)) in
    let plain = subst (λ (i : ℕ). IsPlain c.args.core.now (c.args.base + 2) (c.args.base + i) c.is_plain.result) c.from.ensures c.is_plain.ensures in
    let found = task_plain c.args.core.now c.args.regs.now a q f c.args.base c.args.offset n e own low (omega (arith, t, c.if-at-regs.false, c.from.ensures)) c.is_plain.result plain in
    let same = subst (λ (b : Bool). CellMeets a q f c.args.offset (cell_or_none b (c.args.base + c.args.offset)) (cell (here a.member a.task q) f c.args.offset)) c.if-not-is_plain.false found in
    subst (λ (i : ℕ). CellMeets a q f c.args.offset (Ok (c.args.base + i)) (cell (here a.member a.task q) f c.args.offset)) (sym c.from.ensures) same
