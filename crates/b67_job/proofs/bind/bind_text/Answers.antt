use Rattle.b67_job.proofs.Bound.{judged, not_judged}
use Rattle.b67_job.proofs.bind.bind_text.Goals as goal

pub returns-in-Ok-clause-answer : goal.returns-in-Ok-clause-answer
returns-in-Ok-clause-answer g c =
    let h = c.in-Ok.ensures.answer in
    judged g.S.Source.left g.S.Source.faults c.args.source.now c.read_deck.new.source c.args.pairs.now h.0 c.in-Ok.deck c.bind_deck.result h.1 h.2 c.bind_deck.ensures

pub returns-in-Err-clause-answer : goal.returns-in-Err-clause-answer
returns-in-Err-clause-answer g c = rw c.deck_fault.ensures (not_judged g.S.Source.left g.S.Source.faults c.args.source.now c.read_deck.new.source c.args.pairs.now c.in-Err.fault c.in-Err.ensures.answer)
