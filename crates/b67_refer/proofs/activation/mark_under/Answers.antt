use Rattle.std.proofs.Common.{◌∙◌, ◌-◌, ℕ, sym, arith, subst}
use Rattle.b67_refer.specs.RunningContext.{live_of}
use Rattle.b67_refer.proofs.Scans.{over_start, over_inside, over_ends, over_next}
use Rattle.b67_refer.proofs.Walks.{top_small}
use Rattle.b67_refer.proofs.Enclosures.{Between, between_start, between_mark, between_down, between_at, between_under, cell_under, encloses}
use Rattle.b67_refer.proofs.activation.mark_under.Goals as goal
use Rattle.b67_refer.proofs.activation.mark_under.Goals.{then-is_elsewhere, else-is_elsewhere}

pub overflow_add-end : goal.overflow_add-end
overflow_add-end c = let a = c.requires.0 in omega (arith, top_small c.args.core.now c.args.regs.now (live_of a))

pub loop-turn-init : goal.loop-turn-init
loop-turn-init c = λ a. between_start c.args.core.now c.args.regs.now a

pub get-requires : goal.get-requires
get-requires c =
    let (a, q, f, segment, level, place, p) = c.requires in
    omega (arith, over_inside c.args.core.now c.args.regs.now a q c.args.cell f segment level place p c.args.cell (over_start c.args.core.now c.args.regs.now a q c.args.cell f segment level place p), c.if-last-cell.true)

pub returns-then-tag-eq3 : goal.returns-then-tag-eq3
returns-then-tag-eq3 c = λ a q f segment level place p.
    encloses c.args.core.now c.args.regs.now a q c.args.cell f segment level place p c.loop-turn.last c.loop-turn.end c.get.result (c.loop-turn.invariant a) c.if-last-cell.true c.if-cell-end.true c.get.ensures (sym c.tag.ensures.value ∙ c.if-tag-eq3.true)

pub mark_at-requires : goal.mark_at-requires
mark_at-requires c = let a = c.requires.0 in between_mark c.args.core.now c.args.regs.now a c.loop-turn.last c.loop-turn.end (c.loop-turn.invariant a)

pub overflow_sub-last : goal.overflow_sub-last
overflow_sub-last c =
    let a = c.requires.0 in
    let next = between_down c.args.core.now c.args.regs.now a c.loop-turn.last c.loop-turn.end (c.loop-turn.invariant a) c.mark_at.result c.mark_at.ensures in
    omega (arith, next.0, c.from-last.ensures)

pub loop-turn-preserved : goal.loop-turn-preserved
loop-turn-preserved c = λ a.
    let next = between_down c.args.core.now c.args.regs.now a c.loop-turn.last c.loop-turn.end (c.loop-turn.invariant a) c.mark_at.result c.mark_at.ensures in
    subst (λ (n : ℕ). Between c.args.core.now c.args.regs.now a (c.loop-turn.last - n) c.loop-turn.last) (sym c.from-last.ensures) next.1

pub last_record-other-requires : goal.last_record-other-requires
last_record-other-requires c =
    let (a, q, f, segment, level, place, p) = c.requires in
    let u = cell_under c.args.core.now c.args.regs.now a q c.args.cell f segment level place p in
    (live_of a, u.0, u.1)

pub down-init : goal.down-init
down-init c = record {
  scan = λ a q f segment level place p. over_start c.args.core.now c.args.regs.now a q c.args.cell f segment level place p;
  walk = λ a q f segment level place p. elim c.if-is_elsewhere.branch [
    | then-is_elsewhere w ↦ between_at c.args.core.now c.args.regs.now a c.if-is_elsewhere.mark w.last_record-other.result.mark c.if-is_elsewhere.past w.last_record-other.result.past w.mark-is w.past-is
        (between_under c.args.core.now c.args.regs.now a q c.args.cell f segment level place p w.last_record-other.result.mark w.last_record-other.result.past
        (λ top under. w.last_record-other.ensures.mark (live_of a) top under) (λ top under. w.last_record-other.ensures.past (live_of a) top under))
    | else-is_elsewhere w ↦ between_at c.args.core.now c.args.regs.now a c.if-is_elsewhere.mark c.loop-turn.last c.if-is_elsewhere.past c.loop-turn.end w.mark-is w.past-is (c.loop-turn.invariant a)
  ];
}

pub get-requires-then-cell-past : goal.get-requires-then-cell-past
get-requires-then-cell-past c =
    let (a, q, f, segment, level, place, p) = c.requires in
    omega (arith, over_inside c.args.core.now c.args.regs.now a q c.args.cell f segment level place p c.args.cell (over_start c.args.core.now c.args.regs.now a q c.args.cell f segment level place p), c.if-mark-cell.true)

pub returns-then-tag-eq3-2 : goal.returns-then-tag-eq3-2
returns-then-tag-eq3-2 c = λ a q f segment level place p.
    encloses c.args.core.now c.args.regs.now a q c.args.cell f segment level place p c.down.mark c.down.past c.get-then-cell-past.result (c.down.invariant.walk a q f segment level place p) c.if-mark-cell.true c.if-cell-past.true c.get-then-cell-past.ensures (sym c.tag-then-cell-past.ensures.value ∙ c.if-tag-eq3-2.true)

pub get-requires-in-down : goal.get-requires-in-down
get-requires-in-down c =
    let (a, q, f, segment, level, place, p) = c.requires in
    over_inside c.args.core.now c.args.regs.now a q c.args.cell f segment level place p c.down.at (c.down.invariant.scan a q f segment level place p)

pub overflow_sub-result : goal.overflow_sub-result
overflow_sub-result c =
    let (a, q, f, segment, level, place, p) = c.requires in
    omega (arith, over_ends c.args.core.now c.args.regs.now a q c.args.cell f segment level place p c.down.at c.get-in-down.result (c.down.invariant.scan a q f segment level place p) c.get-in-down.ensures (sym c.tag-in-down.ensures.value ∙ c.if-tag-eq3-3.true))

pub returns-then-tag-eq3-3 : goal.returns-then-tag-eq3-3
returns-then-tag-eq3-3 c = λ a q f segment level place p.
    omega (arith, over_ends c.args.core.now c.args.regs.now a q c.args.cell f segment level place p c.down.at c.get-in-down.result (c.down.invariant.scan a q f segment level place p) c.get-in-down.ensures (sym c.tag-in-down.ensures.value ∙ c.if-tag-eq3-3.true))

pub overflow_sub-at : goal.overflow_sub-at
overflow_sub-at c =
    let (a, q, f, segment, level, place, p) = c.requires in
    (over_next c.args.core.now c.args.regs.now a q c.args.cell f segment level place p c.down.at c.get-in-down.result (c.down.invariant.scan a q f segment level place p) c.get-in-down.ensures (λ z. c.if-tag-eq3-3.false (c.tag-in-down.ensures.value ∙ z))).1

pub mark_at-requires-in-down : goal.mark_at-requires-in-down
mark_at-requires-in-down c =
    let (a, q, f, segment, level, place, p) = c.requires in
    between_mark c.args.core.now c.args.regs.now a c.down.mark c.down.past (c.down.invariant.walk a q f segment level place p)

pub overflow_sub-mark : goal.overflow_sub-mark
overflow_sub-mark c =
    let (a, q, f, segment, level, place, p) = c.requires in
    let next = between_down c.args.core.now c.args.regs.now a c.down.mark c.down.past (c.down.invariant.walk a q f segment level place p) c.mark_at-in-down.result c.mark_at-in-down.ensures in
    omega (arith, next.0, c.from-mark.ensures)

pub down-smaller : goal.down-smaller
down-smaller c =
    let (a, q, f, segment, level, place, p) = c.requires in
    omega (arith, (over_next c.args.core.now c.args.regs.now a q c.args.cell f segment level place p c.down.at c.get-in-down.result (c.down.invariant.scan a q f segment level place p) c.get-in-down.ensures (λ z. c.if-tag-eq3-3.false (c.tag-in-down.ensures.value ∙ z))).1)

pub down-preserved : goal.down-preserved
down-preserved c = record {
  scan = λ a q f segment level place p.
      (over_next c.args.core.now c.args.regs.now a q c.args.cell f segment level place p c.down.at c.get-in-down.result (c.down.invariant.scan a q f segment level place p) c.get-in-down.ensures (λ z. c.if-tag-eq3-3.false (c.tag-in-down.ensures.value ∙ z))).0;
  walk = λ a q f segment level place p.
      let next = between_down c.args.core.now c.args.regs.now a c.down.mark c.down.past (c.down.invariant.walk a q f segment level place p) c.mark_at-in-down.result c.mark_at-in-down.ensures in
      subst (λ (n : ℕ). Between c.args.core.now c.args.regs.now a (c.down.mark - n) c.down.mark) (sym c.from-mark.ensures) next.1;
}
