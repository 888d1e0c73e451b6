use Rattle.std.proofs.Common.{sym, ◌∙◌, arith, ap}
use Rattle.b67_image_shape.specs.RecordTable.{filled_range, code_by}
use Rattle.b67_image_shape.proofs.Filling.{fill_starts, fill_bottom, fill_next, fill_ends}
use Rattle.b67_image_shape.proofs.records.fill_down.Goals as goal

pub down-init : goal.down-init
down-init c = fill_starts c.args.core.now c.args.base c.args.turns c.args.mark c.args.high c.args.records.now c.requires.mark c.requires.high

pub overflow_add-s : goal.overflow_add-s
overflow_add-s c = let small = c.down.invariant.s_small in omega (arith, small)

pub fill_range-requires : goal.fill_range-requires
fill_range-requires c = let small = c.down.invariant.s_small in let low = c.down.invariant.f_small in omega (arith, small, low, c.saturating_sub.ensures)

pub returns-then-back-eq0 : goal.returns-then-back-eq0
returns-then-back-eq0 c =
    fill_bottom c.args.core.now c.args.base c.args.turns c.down._turn c.down.f c.down.s c.down.records c.args.mark c.args.high c.args.records.now c.word_seen_at-w.result c.fill_range.new.records c.down.invariant c.down-test.true c.word_seen_at-w.ensures
    (sym c.part-back.ensures.value ∙ c.if-back-eq0.true) (c.fill_range.ensures ∙ ap (λ v. filled_range v c.down.f c.saturating_sub.result c.down.records) c.code_by.ensures ∙ ap (λ n. filled_range (code_by c.args.base c.down.f c.word_seen_at-w.result) c.down.f n c.down.records) c.saturating_sub.ensures)

pub down-preserved : goal.down-preserved
down-preserved c =
    fill_next c.args.core.now c.args.base c.args.turns c.down._turn c.down.f c.down.s c.down.records c.args.mark c.args.high c.args.records.now c.word_seen_at-w.result c.part-back.result c.fill_range.new.records c.down.invariant c.down-test.true c.word_seen_at-w.ensures
    c.part-back.ensures.value (omega (arith, c.if-back-eq0.false)) (c.fill_range.ensures ∙ ap (λ v. filled_range v c.down.f c.saturating_sub.result c.down.records) c.code_by.ensures ∙ ap (λ n. filled_range (code_by c.args.base c.down.f c.word_seen_at-w.result) c.down.f n c.down.records) c.saturating_sub.ensures)
    c.saturating_sub-f.result c.saturating_sub-s.result c.saturating_sub-f.ensures c.saturating_sub-s.ensures

pub returns : goal.returns
returns c = fill_ends c.args.core.now c.args.base c.args.turns c.down._turn c.down.f c.down.s c.down.records c.args.mark c.args.high c.args.records.now c.down.invariant (omega (arith, c.down-test.false))
