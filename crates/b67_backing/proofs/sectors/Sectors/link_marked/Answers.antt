use Rattle.std.proofs.Common.{◌∙◌, sym, ap}
use Rattle.b67_backing.specs.Links.{or_itself}
use Rattle.b67_backing.proofs.Linkings.{link_answers, free_answers, other_next}
use Rattle.b67_backing.proofs.sectors.Sectors.link_marked.Goals as goal

pub returns-then-free : goal.returns-then-free
returns-then-free c = sym (free_answers c.args.self.now c.args.n (sym c.requires.free ∙ c.if-free.true))

pub returns-then-next-eq0 : goal.returns-then-next-eq0
returns-then-next-eq0 c = sym (link_answers c.args.self.now c.args.n c.follow-next.result (sym c.requires.free ∙ c.if-free.false) c.follow-next.ensures ∙ ap (or_itself c.args.n) c.if-next-eq0.true)

pub returns : goal.returns
returns c = sym (link_answers c.args.self.now c.args.n c.follow-next.result (sym c.requires.free ∙ c.if-free.false) c.follow-next.ensures ∙ other_next c.args.n c.follow-next.result c.if-next-eq0.false)
