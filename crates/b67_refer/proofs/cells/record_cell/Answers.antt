use Rattle.std.proofs.Common.{◌+◌, sym, arith, inl, inr, subst, ℕ, Bool, Ok}
use Rattle.b67_model.specs.Cells.{cell}
use Rattle.b67_layout.specs.Meets.{here}
use Rattle.b67_refer.specs.LiveCells.{CellMeets, cell_or_none}
use Rattle.b67_refer.proofs.Unders.{is_base}
use Rattle.b67_refer.proofs.Founds.{task_misses, address_small, mcp_far, mcp_found, dictionary_far, dictionary_found, dictionary_small}
use Rattle.b67_refer.proofs.cells.record_cell.Goals as goal
use Rattle.b67_refer.proofs.cells.record_cell.Goals.{then-offset-lt-FIRST_INTRINSIC-via-then-offset-lt-FIRST_INTRINSIC, then-offset-lt-FIRST_INTRINSIC-via-else-offset-lt-FIRST_INTRINSIC+then-offset-gt-LAST_INTRINSIC, then-offset-lt2-2-via-then-offset-lt2-2, then-offset-lt2-2-via-else-offset-lt2-2+then-from}

pub returns-then-offset-lt2 : goal.returns-then-offset-lt2
returns-then-offset-lt2 c = λ a q f n e kind.
    task_misses c.args.core.now c.args.regs.now a q f c.args.base c.args.offset n e (kind.0 c.if-of_slot.true) (inl (omega (arith, c.if-offset-lt2.true)))

pub near_cell-near-requires : goal.near_cell-near-requires
near_cell-near-requires c = let (a, f, n, e, kind) = c.requires in (a, f, n, e, omega (arith, c.if-offset-lt2.false))

pub returns-then-near-ne0 : goal.returns-then-near-ne0
returns-then-near-ne0 c = λ a q f n e kind. c.near_cell-near.ensures c.if-near-ne0.true a q f n e (omega (arith, c.if-offset-lt2.false))

pub has_far_cell-requires : goal.has_far_cell-requires
has_far_cell-requires c = let (a, f, n, e, kind) = c.requires in (a, f, n, kind.0 c.if-of_slot.true, e, omega (arith, c.if-offset-lt2.false))

pub returns-then-not-has_far_cell : goal.returns-then-not-has_far_cell
returns-then-not-has_far_cell c = λ a q f n e kind.
    subst (λ (b : Bool). CellMeets a q f c.args.offset (cell_or_none b (c.args.base + c.args.offset)) (cell (here a.member a.task q) f c.args.offset)) c.if-not-has_far_cell.true
    (c.has_far_cell.ensures a q f n (kind.0 c.if-of_slot.true) e (omega (arith, c.if-offset-lt2.false)))

pub overflow_add-result : goal.overflow_add-result
overflow_add-result c =
    let (a, f, n, e, kind) = c.requires in
    omega (arith, address_small c.args.core.now c.args.regs.now a a.task.place f c.args.base c.args.offset n e (kind.0 c.if-of_slot.true), c.from.ensures, c.ranges.offset.fits)

pub returns-then-of_slot : goal.returns-then-of_slot
returns-then-of_slot c = λ a q f n e kind.
    let same =
    subst (λ (b : Bool). CellMeets a q f c.args.offset (cell_or_none b (c.args.base + c.args.offset)) (cell (here a.member a.task q) f c.args.offset)) c.if-not-has_far_cell.false
    (c.has_far_cell.ensures a q f n (kind.0 c.if-of_slot.true) e (omega (arith, c.if-offset-lt2.false))) in
    subst (λ (i : ℕ). CellMeets a q f c.args.offset (Ok (c.args.base + i)) (cell (here a.member a.task q) f c.args.offset)) (sym c.from.ensures) same

pub returns-then-offset-lt-FIRST_INTRINSIC : goal.returns-then-offset-lt-FIRST_INTRINSIC
returns-then-offset-lt-FIRST_INTRINSIC c = λ a q f n e kind.
    mcp_far c.args.core.now c.args.regs.now a q f c.args.base c.args.offset n e c.if-base-eq0.true (elim c.then-offset-lt-FIRST_INTRINSIC.branch [
      | then-offset-lt-FIRST_INTRINSIC-via-then-offset-lt-FIRST_INTRINSIC w ↦ inl (omega (arith, w.if-offset-lt-FIRST_INTRINSIC.true))
      | then-offset-lt-FIRST_INTRINSIC-via-else-offset-lt-FIRST_INTRINSIC+then-offset-gt-LAST_INTRINSIC w ↦ inr (omega (arith, w.if-offset-gt-LAST_INTRINSIC.true))
    ])

pub returns-then-base-eq0 : goal.returns-then-base-eq0
returns-then-base-eq0 c = λ a q f n e kind.
    mcp_found c.args.core.now c.args.regs.now a q f c.args.base c.args.offset n e c.from-then-base-eq0.result c.from-then-base-eq0.ensures c.if-base-eq0.true (omega (arith, c.if-offset-lt-FIRST_INTRINSIC.false)) (omega (arith, c.if-offset-gt-LAST_INTRINSIC.false))

pub returns-then-offset-lt2-2 : goal.returns-then-offset-lt2-2
returns-then-offset-lt2-2 c = λ a q f n e kind.
    dictionary_far c.args.core.now c.args.regs.now a q f c.args.base c.args.offset n e c.if-base-eq0.false (is_base c.args.core.now c.args.regs.now a f c.args.base n e (kind.1 c.if-of_slot.false) c.if-base-eq0.false) (elim c.then-offset-lt2-2.branch [
      | then-offset-lt2-2-via-then-offset-lt2-2 w ↦ inl (omega (arith, w.if-offset-lt2-2.true))
      | then-offset-lt2-2-via-else-offset-lt2-2+then-from w ↦ inr (omega (arith, w.if-from.true, w.from-else-offset-lt2-2.ensures, w.from-else-offset-lt2-2-2.ensures))
    ])

pub overflow_add-result-2 : goal.overflow_add-result-2
overflow_add-result-2 c =
    let (a, f, n, e, kind) = c.requires in
    omega (arith, dictionary_small c.args.core.now c.args.regs.now a, is_base c.args.core.now c.args.regs.now a f c.args.base n e (kind.1 c.if-of_slot.false) c.if-base-eq0.false, c.from-2.ensures, c.ranges.offset.fits)

pub returns : goal.returns
returns c = λ a q f n e kind.
    let found = dictionary_found c.args.core.now c.args.regs.now a q f c.args.base c.args.offset n e c.if-base-eq0.false (is_base c.args.core.now c.args.regs.now a f c.args.base n e (kind.1 c.if-of_slot.false) c.if-base-eq0.false) (omega (arith, c.if-offset-lt2-2.false)) (omega (arith, c.if-from.false, c.from-else-offset-lt2-2.ensures, c.from-else-offset-lt2-2-2.ensures)) in
    subst (λ (i : ℕ). CellMeets a q f c.args.offset (Ok (c.args.base + i)) (cell (here a.member a.task q) f c.args.offset)) (sym c.from-2.ensures) found
