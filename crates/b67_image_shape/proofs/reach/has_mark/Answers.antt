use Rattle.std.proofs.Common.{◌≡◌, ◌-◌, arith, sym, subst}
use Rattle.b67_image_shape.specs.Reaching.{has_mark}
use Rattle.b67_image_shape.proofs.ReachTurns.{mark_found, mark_last, mark_next, mark_none}
use Rattle.b67_image_shape.proofs.reach.has_mark.Goals as goal

pub returns-then-f-at : goal.returns-then-f-at
returns-then-f-at c = mark_found c.args.core.now c.args.at (has_mark c.args.core.now c.args.turns c.args.mark c.args.at) c.down.left c.down.f c.down.invariant c.down-test.true c.if-f-at.true

pub returns-then-back-eq0 : goal.returns-then-back-eq0
returns-then-back-eq0 c = mark_last c.args.core.now c.args.at (has_mark c.args.core.now c.args.turns c.args.mark c.args.at) c.down.left c.down.f c.down.invariant c.down-test.true c.if-f-at.false c.word_seen_at.result c.part-back.result c.word_seen_at.ensures c.part-back.ensures.value c.if-back-eq0.true

pub down-preserved : goal.down-preserved
down-preserved c =
    subst (λ n. has_mark c.args.core.now c.args.turns c.args.mark c.args.at ≡ has_mark c.args.core.now (c.down.left - 1) n c.args.at) (sym c.saturating_sub-f.ensures)
    (mark_next c.args.core.now c.args.at (has_mark c.args.core.now c.args.turns c.args.mark c.args.at) c.down.left c.down.f c.down.invariant c.down-test.true c.if-f-at.false c.word_seen_at.result c.part-back.result c.word_seen_at.ensures c.part-back.ensures.value c.if-back-eq0.false)

pub returns : goal.returns
returns c = mark_none c.args.core.now c.args.at (has_mark c.args.core.now c.args.turns c.args.mark c.args.at) c.down.left c.down.f c.down.invariant (omega (arith, c.down-test.false))
