use Rattle.std.proofs.Common.{◌+◌, ◌-◌, ◌∙◌, sym, arith, inr, subst, ℕ}
use Rattle.std.specs.Prelude.{nat_lt}
use Rattle.b67_model.specs.Cells.{cell}
use Rattle.b67_layout.specs.Meets.{here}
use Rattle.b67_refer.specs.LiveCells.{CellMeets, IsPlain, cell_or_none}
use Rattle.b67_refer.proofs.Founds.{top, under_top, task_misses, task_marks, task_lands, task_plain, top_inside, address_small}
use Rattle.b67_refer.proofs.Walks.{has_mark, either_way, plain_more, Walk, walk_under, walk_there, walk_down}
use Rattle.b67_refer.proofs.cells.has_far_cell.Goals as goal

pub overflow_add-at : goal.overflow_add-at
overflow_add-at c =
    let (a, f, n, own, e, low) = c.requires in
    omega (arith, address_small c.args.core.now c.args.regs.now a a.task.place f c.args.base c.args.offset n e own, c.from.ensures, c.ranges.offset.fits)

pub last_record-last-requires : goal.last_record-last-requires
last_record-last-requires c =
    let (a, f, n, own, e, low) = c.requires in
    (a, top c.args.core.now c.args.regs.now a a.task.place f c.args.base c.args.offset n e own, under_top c.args.core.now c.args.regs.now a a.task.place f c.args.base c.args.offset n e own)

pub returns-then-at-last : goal.returns-then-at-last
returns-then-at-last c = λ a q f n own e low.
    let t = c.last_record-last.ensures.past a (top c.args.core.now c.args.regs.now a q f c.args.base c.args.offset n e own) (under_top c.args.core.now c.args.regs.now a q f c.args.base c.args.offset n e own) in
    task_misses c.args.core.now c.args.regs.now a q f c.args.base c.args.offset n e own (inr (omega (arith, t, c.if-at-last.true, c.from.ensures)))

pub is_plain-requires-clause-inside : goal.is_plain-requires-clause-inside
is_plain-requires-clause-inside c =
    let (a, f, n, own, e, low) = c.requires in
    let t = c.last_record-last.ensures.past a (top c.args.core.now c.args.regs.now a a.task.place f c.args.base c.args.offset n e own) (under_top c.args.core.now c.args.regs.now a a.task.place f c.args.base c.args.offset n e own) in
    omega (arith, t, (top_inside c.args.core.now c.args.regs.now a a.task.place f c.args.base c.args.offset n e own).0, c.if-at-last.false)

pub is_plain-requires-clause-small : goal.is_plain-requires-clause-small
is_plain-requires-clause-small c =
    let (a, f, n, own, e, low) = c.requires in
    (top_inside c.args.core.now c.args.regs.now a a.task.place f c.args.base c.args.offset n e own).1

pub returns-then-offset-lt-FEW_CELLS : goal.returns-then-offset-lt-FEW_CELLS
returns-then-offset-lt-FEW_CELLS c = λ a q f n own e low.
    let t = c.last_record-last.ensures.past a (top c.args.core.now c.args.regs.now a q f c.args.base c.args.offset n e own) (under_top c.args.core.now c.args.regs.now a q f c.args.base c.args.offset n e own) in
    let plain = subst (λ (i : ℕ). IsPlain c.args.core.now (c.args.base + 2) (c.args.base + i) c.is_plain.result) c.from.ensures c.is_plain.ensures in
    task_plain c.args.core.now c.args.regs.now a q f c.args.base c.args.offset n e own low (omega (arith, t, c.if-at-last.false, c.from.ensures)) c.is_plain.result plain

pub overflow_add-k-end : goal.overflow_add-k-end
overflow_add-k-end c =
    let (a, f, n, own, e, low) = c.requires in
    omega (arith, address_small c.args.core.now c.args.regs.now a a.task.place f c.args.base c.args.offset n e own, c.from.ensures, c.ranges.offset.fits)

pub loop-k-init : goal.loop-k-init
loop-k-init c = record {
  plain = λ j w low high there tag. absurd (omega (arith, low, high));
  walk = λ a f n own e.
      let t = top c.args.core.now c.args.regs.now a a.task.place f c.args.base c.args.offset n e own in
      let u = under_top c.args.core.now c.args.regs.now a a.task.place f c.args.base c.args.offset n e own in
      let S : ℕ → Type 0 = λ m. Walk c.args.core.now c.args.regs.now a c.args.base m (t + 1) in
      let T : ℕ → Type 0 = λ p. Walk c.args.core.now c.args.regs.now a c.args.base c.last_record-last.result.mark p in
      subst T (sym (c.last_record-last.ensures.past a t u)) (subst S (sym (c.last_record-last.ensures.mark a t u)) (walk_under c.args.core.now c.args.regs.now a f c.args.base t n own e u));
}

pub returns-then-mark-base : goal.returns-then-mark-base
returns-then-mark-base c = λ a q f n own e low.
    let there = walk_there c.args.core.now c.args.regs.now a c.args.base c.loop-k.mark c.loop-k.past (c.loop-k.invariant.walk a f n own e) c.if-mark-base.true in
    subst (λ (i : ℕ). CellMeets a q f c.args.offset (cell_or_none (nat_lt (c.args.base + i) c.loop-k.past) (c.args.base + c.args.offset)) (cell (here a.member a.task q) f c.args.offset)) (sym c.from.ensures)
    (either_way c.args.core.now c.args.regs.now a q f c.args.base c.args.offset c.loop-k.past n e own low there)

pub get-requires : goal.get-requires
get-requires c =
    let (a, f, n, own, e, low) = c.requires in
    let t = c.last_record-last.ensures.past a (top c.args.core.now c.args.regs.now a a.task.place f c.args.base c.args.offset n e own) (under_top c.args.core.now c.args.regs.now a a.task.place f c.args.base c.args.offset n e own) in
    omega (arith, t, (top_inside c.args.core.now c.args.regs.now a a.task.place f c.args.base c.args.offset n e own).0, c.if-at-last.false, c.loop-k-test.true)

pub returns-then-tag-eq3 : goal.returns-then-tag-eq3
returns-then-tag-eq3 c = λ a q f n own e low.
    task_marks c.args.core.now c.args.regs.now a q f c.args.base c.args.offset n e own c.loop-k.k c.get.result (omega (arith, c.loop-k.auto.k)) (omega (arith, c.loop-k-test.true, c.from.ensures)) c.get.ensures (sym c.tag.ensures.value ∙ c.if-tag-eq3.true)

pub mark_at-requires : goal.mark_at-requires
mark_at-requires c =
    let (a, f, n, own, e, low) = c.requires in
    let w = c.loop-k.invariant.walk a f n own e in
    has_mark c.args.core.now c.args.regs.now a c.loop-k.mark w.over w.spans

pub overflow_sub-mark : goal.overflow_sub-mark
overflow_sub-mark c =
    let (a, f, n, own, e, low) = c.requires in
    let next = walk_down c.args.core.now c.args.regs.now a c.args.base c.loop-k.mark c.loop-k.past (c.loop-k.invariant.walk a f n own e) c.if-mark-base.false c.mark_at.result c.mark_at.ensures in
    omega (arith, next.0, c.from-mark.ensures)

pub loop-k-preserved : goal.loop-k-preserved
loop-k-preserved c = record {
  plain = plain_more c.args.core.now (c.args.base + 2) c.loop-k.k c.get.result c.loop-k.invariant.plain c.get.ensures (λ z. c.if-tag-eq3.false (c.tag.ensures.value ∙ z));
  walk = λ a f n own e.
      let next = walk_down c.args.core.now c.args.regs.now a c.args.base c.loop-k.mark c.loop-k.past (c.loop-k.invariant.walk a f n own e) c.if-mark-base.false c.mark_at.result c.mark_at.ensures in
      subst (λ (n : ℕ). Walk c.args.core.now c.args.regs.now a c.args.base (c.loop-k.mark - n) c.loop-k.mark) (sym c.from-mark.ensures) next.1;
}

pub returns : goal.returns
returns c = λ a q f n own e low.
    let t = c.last_record-last.ensures.past a (top c.args.core.now c.args.regs.now a q f c.args.base c.args.offset n e own) (under_top c.args.core.now c.args.regs.now a q f c.args.base c.args.offset n e own) in
    task_lands c.args.core.now c.args.regs.now a q f c.args.base c.args.offset n e own low (omega (arith, t, c.if-at-last.false, c.from.ensures))
    (λ k w first high there tag. c.loop-k.invariant.plain k w first (omega (arith, high, c.from.ensures, c.loop-k-test.false, c.loop-k.auto.k)) there tag)
