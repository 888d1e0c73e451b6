use Rattle.b67_backing.proofs.Heads.{inside_of}
use Rattle.b67_backing.proofs.chaining.are_of_chains.Goals as goal

pub returns-then-not-are_inside-clause-none : goal.returns-then-not-are_inside-clause-none
returns-then-not-are_inside-clause-none c = λ ks a. c.if-not-are_inside.ensures.not (inside_of c.args.links.now ks a)
