use Rattle.std.proofs.Common.{◌∙◌, sym, arith}
use Rattle.b67_mcp.proofs.Scans.{over_start, over_inside, over_ends, over_next}
use Rattle.b67_mcp.proofs.cell_given.mark_under.Goals as goal

pub down-init : goal.down-init
down-init c = λ a q f offset bits p. over_start c.args.core.now c.args.regs.now a q c.args.cell f offset bits p

pub get-requires : goal.get-requires
get-requires c =
    let (a, q, f, offset, bits, p) = c.requires in
    over_inside c.args.core.now c.args.regs.now a q c.args.cell f offset bits p c.down.at (c.down.invariant a q f offset bits p)

pub overflow_sub-result : goal.overflow_sub-result
overflow_sub-result c =
    let (a, q, f, offset, bits, p) = c.requires in
    omega (arith, over_ends c.args.core.now c.args.regs.now a q c.args.cell f offset bits p c.down.at c.get.result (c.down.invariant a q f offset bits p) c.get.ensures (sym c.tag.ensures.value ∙ c.if-tag-eq3.true))

pub returns-then-tag-eq3 : goal.returns-then-tag-eq3
returns-then-tag-eq3 c = λ a q f offset bits p.
    omega (arith, over_ends c.args.core.now c.args.regs.now a q c.args.cell f offset bits p c.down.at c.get.result (c.down.invariant a q f offset bits p) c.get.ensures (sym c.tag.ensures.value ∙ c.if-tag-eq3.true))

pub overflow_sub-at : goal.overflow_sub-at
overflow_sub-at c =
    let (a, q, f, offset, bits, p) = c.requires in
    (over_next c.args.core.now c.args.regs.now a q c.args.cell f offset bits p c.down.at c.get.result (c.down.invariant a q f offset bits p) c.get.ensures (λ z. c.if-tag-eq3.false (c.tag.ensures.value ∙ z))).1

pub down-smaller : goal.down-smaller
down-smaller c =
    let (a, q, f, offset, bits, p) = c.requires in
    omega (arith, (over_next c.args.core.now c.args.regs.now a q c.args.cell f offset bits p c.down.at c.get.result (c.down.invariant a q f offset bits p) c.get.ensures (λ z. c.if-tag-eq3.false (c.tag.ensures.value ∙ z))).1)

pub down-preserved : goal.down-preserved
down-preserved c = λ a q f offset bits p.
    (over_next c.args.core.now c.args.regs.now a q c.args.cell f offset bits p c.down.at c.get.result (c.down.invariant a q f offset bits p) c.get.ensures (λ z. c.if-tag-eq3.false (c.tag.ensures.value ∙ z))).0
