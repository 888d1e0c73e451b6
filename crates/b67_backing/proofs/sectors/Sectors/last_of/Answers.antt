use Rattle.std.proofs.Common.{arith, ap, Some, ◌∙◌}
use Rattle.b67_backing.proofs.Walks.{count_is, room, walk_at, walk_next, walk_end}
use Rattle.b67_backing.proofs.sectors.Sectors.last_of.Goals as goal

pub follow-next-requires : goal.follow-next-requires
follow-next-requires c =
    let (st, s, has) = c.requires in
    let i = c.loop-i.invariant st s has in
    walk_at c.args.self.now c.args.first st s has c.loop-i.at c.loop-i.i i.0 i.1

pub returns-then-next-eq0-clause-value : goal.returns-then-next-eq0-clause-value
returns-then-next-eq0-clause-value c = λ st s has.
    let i = c.loop-i.invariant st s has in
    walk_end c.args.self.now c.args.first st s has c.loop-i.at c.loop-i.i i.0 i.1 (c.follow-next.ensures ∙ ap Some c.if-next-eq0.true)

pub returns-then-next-eq0-clause-inside : goal.returns-then-next-eq0-clause-inside
returns-then-next-eq0-clause-inside c =
    let (st, s, has) = c.requires in
    let i = c.loop-i.invariant st s has in
    walk_at c.args.self.now c.args.first st s has c.loop-i.at c.loop-i.i i.0 i.1

pub returns-then-next-eq0-clause-room : goal.returns-then-next-eq0-clause-room
returns-then-next-eq0-clause-room c =
    let (st, s, has) = c.requires in
    let i = c.loop-i.invariant st s has in
    let e = walk_end c.args.self.now c.args.first st s has c.loop-i.at c.loop-i.i i.0 i.1 (c.follow-next.ensures ∙ ap Some c.if-next-eq0.true) in
    omega (arith, e.1, room c.args.self.now c.args.first st s has)

pub loop-i-preserved : goal.loop-i-preserved
loop-i-preserved c = λ st s has.
    let i = c.loop-i.invariant st s has in
    walk_next c.args.self.now c.args.first st s has c.loop-i.at c.loop-i.i i.0 i.1 c.follow-next.result c.follow-next.ensures c.if-next-eq0.false

pub unreachable-requires : goal.unreachable-requires
unreachable-requires c =
    let (st, s, has) = c.requires in
    let i = c.loop-i.invariant st s has in
    omega (arith, i.0, room c.args.self.now c.args.first st s has, count_is c.args.self.now c.args.first st s has, c.count-i-end.ensures)
