use Rattle.std.proofs.Common.{◌≡◌, ◌∙◌, ap, ◌+◌, sym, subst, ℕ, arith}
use Rattle.b67_area.specs.Walk.{IsAbove}
use Rattle.b67_area.specs.Spans.{first_area}
use Rattle.b67_area.proofs.Keeps.{area_here, above_here}
use Rattle.b67_area.proofs.directory.Areas.after.Goals as goal

pub overflow_sub-address : goal.overflow_sub-address
overflow_sub-address c = let (ss, a, d, e) = c.requires in (area_here c.args.core.now c.args.self.now.low ss c.args.address a d e).0

pub words_of-requires : goal.words_of-requires
words_of-requires c = let (ss, a, d, e) = c.requires in (a, (area_here c.args.core.now c.args.self.now.low ss c.args.address a d e).1)

pub next_area-requires : goal.next_area-requires
next_area-requires c = grind (arith, area_here, above_here)

pub returns : goal.returns
returns c = λ ss a d e.
    let w : c.words_of.result ≡ a.words = c.words_of.ensures.value a (area_here c.args.core.now c.args.self.now.low ss c.args.address a d e).1 in
    let n = above_here c.args.core.now c.args.self.now.low ss c.args.address a d e in
    c.next_area.ensures n.0 n.1 n.2 (subst (λ (k : ℕ). IsAbove c.args.core.now n.0 n.1 (c.args.address + (k + 1)) n.2) (sym w) n.3) ∙ ap (λ (k : ℕ). first_area (c.args.address + (k + 1)) n.2) w ∙ sym n.4
