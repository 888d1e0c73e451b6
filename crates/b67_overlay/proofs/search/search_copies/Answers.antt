use Rattle.std.proofs.Common.{ℕ, arith, sym, subst}
use Rattle.b67_overlay.specs.Turns.{SpansTurned, Searched}
use Rattle.b67_overlay.proofs.Turning.{lies_of}
use Rattle.b67_overlay.proofs.Copies.{spans_searched}
use Rattle.b67_overlay.proofs.search.search_copies.Goals as goal

pub search-requires-clause-slots : goal.search-requires-clause-slots
search-requires-clause-slots c =
    let (x, p, t, s, k, i, e) = c.requires in
    (x.low, p, k.families, lies_of x c.args.cpu.now.core c.args.cpu.now.regs p s, k.shown, omega (arith, (s.slots.laid.homes t i.there).1, e))

pub search-requires-clause-small : goal.search-requires-clause-small
search-requires-clause-small c =
    let (x, p, t, s, k, i, e) = c.requires in
    omega (arith, (s.slots.laid.homes t i.there).1, s.inside, s.directory.small, e)

pub returns-clause-searched : goal.returns-clause-searched
returns-clause-searched c = λ x p t s k i e.
    let core = c.args.cpu.now.core in
    let regs = c.args.cpu.now.regs in
    let turned = c.search.ensures x.low p k.families (lies_of x core regs p s) k.shown (omega (arith, (s.slots.laid.homes t i.there).1, e)) in
    let T : ℕ → Type 0 = λ n. SpansTurned p k.families p.peak c.args.area n core c.search.new.core in
    let S : ℕ → Type 0 = λ n. Searched p p.peak c.args.area n core c.search.new.core in
    subst S e (spans_searched x core regs p s c.args.area t i k c.search.new.core (subst T (sym e) turned))
