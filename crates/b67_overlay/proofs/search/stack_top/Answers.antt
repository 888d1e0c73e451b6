use Rattle.std.proofs.Common.{arith, sym, ◌∙◌, ap}
use Rattle.std.specs.List.{slice_get}
use Rattle.b67_overlay.proofs.Turning.{top_some, top_none}
use Rattle.b67_overlay.proofs.search.stack_top.Goals as goal

pub returns-in-Some : goal.returns-in-Some
returns-in-Some c = λ low p l h e.
    let get = ap (slice_get c.args.core.now) (sym e) ∙ c.get.ensures in
    let t = top_some c.args.core.now c.args.regs.now p c.args.k c.get.result get c.if-regs-k.false l.slots.laid.room (p.slots c.args.k) c.in-Some.top (l.slots.slots c.args.k h) (l.slots.laid.slots c.args.k h) c.in-Some.ensures.some.0 c.in-Some.ensures.some.1 c.in-Some.ensures.known in
    omega (arith, t, c.from.ensures)

pub returns-in-None : goal.returns-in-None
returns-in-None c = λ low p l h e.
    let get = ap (slice_get c.args.core.now) (sym e) ∙ c.get.ensures in
    let t = top_none c.args.core.now c.args.regs.now p c.args.k c.get.result get c.if-regs-k.false l.slots.laid.room (p.slots c.args.k) (l.slots.slots c.args.k h) (l.slots.laid.slots c.args.k h) c.in-None.ensures.known in
    omega (arith, t)
