use Rattle.std.proofs.Common.{arith, sym, ◌∙◌}
use Rattle.b67_overlay.proofs.Families.{walk_first, parent_read, walk_end, walk_used, walk_found, walk_on}
use Rattle.b67_overlay.proofs.spans.is_in_parent.Goals as goal

pub loop-n-init : goal.loop-n-init
loop-n-init c = λ low p f a l s e. walk_first p f c.args.address a c.args.slot c.from-child.result (s.kin c.args.slot a e) e c.from-child.ensures

pub parent_of-parent-requires-clause-inside : goal.parent_of-parent-requires-clause-inside
parent_of-parent-requires-clause-inside c =
    let (low, p, f, a, l, s, e) = c.requires in
    omega (arith, (c.loop-n.invariant low p f a l s e).used, s.few, l.slots.laid.first, l.inside, l.slots.laid.low)

pub parent_of-parent-requires-clause-small : goal.parent_of-parent-requires-clause-small
parent_of-parent-requires-clause-small c = let (low, p, f, a, l, s, e) = c.requires in l.small

pub returns-then-parent-from : goal.returns-then-parent-from
returns-then-parent-from c = λ low p f a l s e.
    walk_end c.args.core.now p f s c.args.address a c.loop-n.child c.loop-n.n (c.loop-n.invariant low p f a l s e) (sym (parent_read c.args.core.now p f s c.args.address a c.loop-n.child c.loop-n.n (c.loop-n.invariant low p f a l s e) c.parent_of-parent.result c.parent_of-parent.ensures.value (s.kin c.args.slot a e).job) ∙ c.if-parent-from.true ∙ c.from.ensures)

pub is_in_slot-requires : goal.is_in_slot-requires
is_in_slot-requires c =
    let (low, p, f, a, l, s, e) = c.requires in
    let w = c.loop-n.invariant low p f a l s e in
    let is = parent_read c.args.core.now p f s c.args.address a c.loop-n.child c.loop-n.n (c.loop-n.invariant low p f a l s e) c.parent_of-parent.result c.parent_of-parent.ensures.value (s.kin c.args.slot a e).job in
    (c.args.core.now, low, p, l, walk_used c.args.core.now p f s c.args.address a c.loop-n.child c.loop-n.n w c.parent_of-parent.result is (λ z. c.if-parent-from.false (z ∙ sym c.from.ensures)))

pub returns-then-is_in_slot : goal.returns-then-is_in_slot
returns-then-is_in_slot c = λ low p f a l s e.
    let w = c.loop-n.invariant low p f a l s e in
    let is = parent_read c.args.core.now p f s c.args.address a c.loop-n.child c.loop-n.n (c.loop-n.invariant low p f a l s e) c.parent_of-parent.result c.parent_of-parent.ensures.value (s.kin c.args.slot a e).job in
    let used = walk_used c.args.core.now p f s c.args.address a c.loop-n.child c.loop-n.n w c.parent_of-parent.result is (λ z. c.if-parent-from.false (z ∙ sym c.from.ensures)) in
    walk_found c.args.core.now p f s c.args.address a c.loop-n.child c.loop-n.n w c.parent_of-parent.result is (λ z. c.if-parent-from.false (z ∙ sym c.from.ensures)) (sym (c.is_in_slot.ensures c.args.core.now low p l used) ∙ c.if-is_in_slot.true)

pub loop-n-preserved : goal.loop-n-preserved
loop-n-preserved c = λ low p f a l s e.
    let w = c.loop-n.invariant low p f a l s e in
    let is = parent_read c.args.core.now p f s c.args.address a c.loop-n.child c.loop-n.n (c.loop-n.invariant low p f a l s e) c.parent_of-parent.result c.parent_of-parent.ensures.value (s.kin c.args.slot a e).job in
    let used = walk_used c.args.core.now p f s c.args.address a c.loop-n.child c.loop-n.n w c.parent_of-parent.result is (λ z. c.if-parent-from.false (z ∙ sym c.from.ensures)) in
    walk_on c.args.core.now p f s c.args.address a c.loop-n.child c.loop-n.n w c.parent_of-parent.result is (λ z. c.if-parent-from.false (z ∙ sym c.from.ensures)) (sym (c.is_in_slot.ensures c.args.core.now low p l used) ∙ c.if-is_in_slot.false)

pub returns : goal.returns
returns c = λ low p f a l s e. absurd (omega (arith, (c.loop-n.invariant low p f a l s e).few, c.loop-n-test.false))
