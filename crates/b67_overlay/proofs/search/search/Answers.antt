use Rattle.std.proofs.Common.{◌≡◌, ℕ, ◌<◌, Some, arith, sym, ◌∙◌, subst}
use Rattle.b67_overlay.specs.Turns.{SpansTurned}
use Rattle.b67_overlay.specs.Spans.{span_of}
use Rattle.b67_overlay.proofs.Searching.{spans_none, spans_more, lies_on, shown_on, span_low}
use Rattle.b67_overlay.proofs.search.search.Goals as goal

pub loop-k-init : goal.loop-k-init
loop-k-init c = λ low p f l s o. (l, s, spans_none p f c.args.area c.args.original c.args.core.now)

pub span_in-span-requires : goal.span_in-span-requires
span_in-span-requires c =
    let (low, p, f, l, s, o) = c.requires.slots in
    let m = c.loop-k.invariant low p f l s o in
    (low, p, f, m.0, m.1, o, omega (arith, l.slots.regs.peak, s.few))

pub turn_span-requires-clause-inside : goal.turn_span-requires-clause-inside
turn_span-requires-clause-inside c = λ part is.
    let (low, p, f, l, s, o) = c.requires.slots in
    let m = c.loop-k.invariant low p f l s o in
    let h : c.loop-k.k < p.peak = omega (arith, l.slots.regs.peak) in
    let e : span_of f p c.args.original c.loop-k.k ≡ Some part = sym (c.span_in-span.ensures low p f m.0 m.1) ∙ is in
    span_low c.loop-k.core c.loop-k.core c.args.regs.now low p f c.args.original c.loop-k.k m.0 h part e

pub loop-k-preserved : goal.loop-k-preserved
loop-k-preserved c = λ low p f l s o.
    let m = c.loop-k.invariant low p f l s o in
    let h : c.loop-k.k < p.peak = omega (arith, l.slots.regs.peak) in
    let is = c.span_in-span.ensures low p f m.0 m.1 in
    let e = c.turn_span.ensures in (
      lies_on c.loop-k.core c.turn_span.new.core c.args.regs.now low p f c.args.original c.loop-k.k m.0 h e.size (rw (← is) e.others),
      shown_on c.loop-k.core c.turn_span.new.core c.args.regs.now low p f c.args.original c.loop-k.k m.0 h (rw (← is) e.others) m.1,
      spans_more c.loop-k.core c.turn_span.new.core c.args.regs.now low p f c.args.original c.loop-k.k m.0 h c.args.area c.args.core.now e.size (rw (← is) e.turned) (rw (← is) e.others) m.2,
    )

pub returns : goal.returns
returns c = λ low p f l s o.
    let m = c.loop-k.invariant low p f l s o in
    let e : p.peak ≡ c.loop-k.k = omega (arith, l.slots.regs.peak) in
    let P : ℕ → Type 0 = λ n. SpansTurned p f n c.args.area c.args.original c.args.core.now c.loop-k.core in
    subst P (sym e) m.2
