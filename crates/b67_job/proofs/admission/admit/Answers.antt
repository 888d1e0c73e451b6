use Rattle.b67_job.proofs.Loads.{loads, handed_on}
use Rattle.b67_job.proofs.admission.admit.Goals as goal

pub returns-in-Ok-clause-answer : goal.returns-in-Ok-clause-answer
returns-in-Ok-clause-answer g c =
    let h = c.in-Ok.ensures.answer in
    loads g.S.Source.left g.S.Source.faults c.args.source.now c.read_deck.new.source h.0 c.in-Ok.deck c.prepare.result h.1 h.2 c.prepare.ensures

pub returns-in-Err-clause-answer : goal.returns-in-Err-clause-answer
returns-in-Err-clause-answer g c = rw c.deck_fault.ensures (handed_on g.S.Source.left g.S.Source.faults c.args.source.now c.read_deck.new.source c.in-Err.fault c.in-Err.ensures.answer)
