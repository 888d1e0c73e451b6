use Rattle.std.proofs.Common.{ℕ, ◌+◌, List, length, sym, ◌∙◌, ap, subst, arith}
use Rattle.b67_word.specs.Tagged.{bits_at}
use Rattle.b67_dump.specs.Walk.{offset_from}
use Rattle.b67_dump.proofs.Sought.{IsSought, none_passed, found_number, found_offset, none_below, all_passed, one_down}
use Rattle.b67_dump.proofs.walking.owner_of.Goals as goal

pub down-init : goal.down-init
down-init c = none_passed c.args.core.now c.args.turns c.args.mark c.args.home

pub returns-then-at-from-clause-number : goal.returns-then-at-from-clause-number
returns-then-at-from-clause-number c =
    found_number c.args.core.now c.args.turns c.args.mark c.args.home c.down.turn c.down.at c.count_marks.result c.down.invariant c.down-test.true
    (omega (arith, c.if-at-from.true, c.from.ensures)) c.count_marks.ensures

pub returns-then-at-from-clause-offset : goal.returns-then-at-from-clause-offset
returns-then-at-from-clause-offset c =
    found_offset c.args.core.now c.args.turns c.args.mark c.args.home c.down.turn c.down.at c.offset_over.result c.down.invariant c.down-test.true
    (omega (arith, c.if-at-from.true, c.from.ensures)) c.offset_over.ensures

pub down-preserved : goal.down-preserved
down-preserved c =
    subst (IsSought c.args.core.now c.args.turns c.args.mark c.args.home (c.down.turn + 1)) (sym c.saturating_sub-at.ensures)
    (one_down c.args.core.now c.args.turns c.args.mark c.args.home c.down.turn c.down.at c.part-back.result c.down.invariant c.down-test.true
    (omega (arith, c.if-at-from.false, c.from.ensures)) (sym (c.part-back.ensures.value ∙ ap (λ w. bits_at w 0 14) c.word_seen_at.ensures)) (omega (arith, c.if-back-eq0.false)))

pub returns-after-down-clause-number : goal.returns-after-down-clause-number
returns-after-down-clause-number c =
    ap (λ (fs : List ℕ). length fs) (all_passed c.args.core.now c.args.turns c.args.mark c.args.home c.down.turn c.down.at c.down.invariant (omega (arith, c.down.auto.turn-end, c.down-test.false)))

pub returns-after-down-clause-offset : goal.returns-after-down-clause-offset
returns-after-down-clause-offset c =
    ap (offset_from c.args.core.now c.args.home) (all_passed c.args.core.now c.args.turns c.args.mark c.args.home c.down.turn c.down.at c.down.invariant (omega (arith, c.down.auto.turn-end, c.down-test.false)))

pub returns-then-back-eq0-clause-number : goal.returns-then-back-eq0-clause-number
returns-then-back-eq0-clause-number c =
    ap (λ (fs : List ℕ). length fs) (none_below c.args.core.now c.args.turns c.args.mark c.args.home c.down.turn c.down.at c.part-back.result c.down.invariant c.down-test.true
    (omega (arith, c.if-at-from.false, c.from.ensures)) (sym (c.part-back.ensures.value ∙ ap (λ w. bits_at w 0 14) c.word_seen_at.ensures)) c.if-back-eq0.true)

pub returns-then-back-eq0-clause-offset : goal.returns-then-back-eq0-clause-offset
returns-then-back-eq0-clause-offset c =
    ap (offset_from c.args.core.now c.args.home) (none_below c.args.core.now c.args.turns c.args.mark c.args.home c.down.turn c.down.at c.part-back.result c.down.invariant c.down-test.true
    (omega (arith, c.if-at-from.false, c.from.ensures)) (sym (c.part-back.ensures.value ∙ ap (λ w. bits_at w 0 14) c.word_seen_at.ensures)) c.if-back-eq0.true)
