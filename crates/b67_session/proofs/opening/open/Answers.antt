use Rattle.b67_session.proofs.Openings.{opens_open}
use Rattle.b67_session.proofs.opening.open.Goals as goal

pub returns-in-Ok-clause-open : goal.returns-in-Ok-clause-open
returns-in-Ok-clause-open g c =
    rw c.of.ensures
    (opens_open c.args.deck.now c.args.programs.now (g.B.Backing.holds c.args.backing.now) (g.B.Backing.holds c.open_machine.new.backing) c.args.core_words (g.B.Backing.size c.args.backing.now) c.in-Ok.machine
    c.requires.range c.know_programs.ensures c.in-Ok.ensures.opens.2)
