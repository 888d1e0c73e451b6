use Rattle.std.proofs.Common.{◌+◌, sym, ◌∙◌, arith}
use Rattle.std.proofs.lemmas.Bool.{ne_eqb}
use Rattle.b67_image_shape.proofs.WalkTurns.{walk_low, walk_unfit, walk_bottom, walk_above, walk_far, walk_next, walk_ends, walk_starts}
use Rattle.b67_image_shape.proofs.walk.walk_down.Goals as goal

pub down-init : goal.down-init
down-init c = walk_starts c.args.core.now c.args.base c.args.slot c.args.segments c.args.turns c.args.top c.args.mark c.args.high c.requires.small c.requires.top

pub returns-then-f-base : goal.returns-then-f-base
returns-then-f-base c = walk_low c.args.core.now c.args.base c.args.slot c.args.segments c.args.turns c.args.top c.args.mark c.args.high c.down._turn c.down.level c.down.f c.down.s c.down.invariant c.down-test.true (omega (arith, c.if-f-base.true))

pub record_fits-requires-clause-small : goal.record_fits-requires-clause-small
record_fits-requires-clause-small c = let small = c.down.invariant.f_small in omega (arith, small)

pub record_fits-requires-clause-top : goal.record_fits-requires-clause-top
record_fits-requires-clause-top c = let small = c.down.invariant.s_small in omega (arith, small)

pub returns-then-not-record_fits : goal.returns-then-not-record_fits
returns-then-not-record_fits c = walk_unfit c.args.core.now c.args.base c.args.slot c.args.segments c.args.turns c.args.top c.args.mark c.args.high c.down._turn c.down.level c.down.f c.down.s c.down.invariant c.down-test.true (omega (arith, c.if-f-base.false)) (sym c.record_fits.ensures ∙ c.if-not-record_fits.true)

pub returns-then-f-base-2 : goal.returns-then-f-base-2
returns-then-f-base-2 c = walk_bottom c.args.core.now c.args.base c.args.slot c.args.segments c.args.turns c.args.top c.args.mark c.args.high c.down._turn c.down.level c.down.f c.down.s c.word_seen_at-w.result c.part-back.result c.part.result c.down.invariant c.down-test.true (omega (arith, c.if-f-base.false)) (sym c.record_fits.ensures ∙ c.if-not-record_fits.false) c.word_seen_at-w.ensures c.part-back.ensures.value c.if-back-eq0.true c.if-f-base-2.true c.part.ensures.value

pub returns-else-f-base-2 : goal.returns-else-f-base-2
returns-else-f-base-2 c = ne_eqb c.down.f (c.args.base + 1) c.if-f-base-2.false ∙ walk_above c.args.core.now c.args.base c.args.slot c.args.segments c.args.turns c.args.top c.args.mark c.args.high c.down._turn c.down.level c.down.f c.down.s c.word_seen_at-w.result c.part-back.result c.down.invariant c.down-test.true (omega (arith, c.if-f-base.false)) (sym c.record_fits.ensures ∙ c.if-not-record_fits.false) c.word_seen_at-w.ensures c.part-back.ensures.value c.if-back-eq0.true c.if-f-base-2.false

pub returns-then-f-base-3 : goal.returns-then-f-base-3
returns-then-f-base-3 c = walk_far c.args.core.now c.args.base c.args.slot c.args.segments c.args.turns c.args.top c.args.mark c.args.high c.down._turn c.down.level c.down.f c.down.s c.word_seen_at-w.result c.part-back.result c.down.invariant c.down-test.true (omega (arith, c.if-f-base.false)) (sym c.record_fits.ensures ∙ c.if-not-record_fits.false) c.word_seen_at-w.ensures c.part-back.ensures.value (omega (arith, c.if-back-eq0.false)) (omega (arith, c.if-f-base-3.true))

pub level_under-level-requires : goal.level_under-level-requires
level_under-level-requires c = let small = c.down.invariant.f_small in omega (arith, small)

pub down-preserved : goal.down-preserved
down-preserved c = walk_next c.args.core.now c.args.base c.args.slot c.args.segments c.args.turns c.args.top c.args.mark c.args.high c.down._turn c.down.level c.down.f c.down.s c.word_seen_at-w.result c.part-back.result c.level_under-level.result c.down.invariant c.down-test.true (omega (arith, c.if-f-base.false)) (sym c.record_fits.ensures ∙ c.if-not-record_fits.false) c.word_seen_at-w.ensures c.part-back.ensures.value (omega (arith, c.if-back-eq0.false)) (omega (arith, c.if-f-base-3.false)) c.level_under-level.ensures

pub returns : goal.returns
returns c = walk_ends c.args.core.now c.args.base c.args.slot c.args.segments c.args.turns c.args.top c.args.mark c.args.high c.down._turn c.down.level c.down.f c.down.s c.down.invariant (omega (arith, c.down-test.false))
