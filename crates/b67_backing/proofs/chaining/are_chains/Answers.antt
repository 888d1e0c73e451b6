use Rattle.b67_backing.proofs.Heads.{are_links, reached_all}
use Rattle.b67_backing.proofs.chaining.are_chains.Goals as goal

pub returns-then-not-are_marked-clause-none : goal.returns-then-not-are_marked-clause-none
returns-then-not-are_marked-clause-none c = λ ks a. c.if-not-are_marked.ensures.not (reached_all c.args.links.now c.mark_chains.new.seen ks a (c.if-not-mark_chains.ensures.all ks a))

pub returns-clause-some : goal.returns-clause-some
returns-clause-some c =
    (c.if-not-mark_chains.ensures.done.chains, are_links c.args.links.now c.mark_chains.new.seen c.requires.some c.requires.few c.if-not-mark_chains.ensures.done c.if-not-are_marked.ensures.yes)
