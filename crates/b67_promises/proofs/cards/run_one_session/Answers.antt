use Rattle.std.proofs.Common.{None}
use Rattle.b67_job.specs.Judgement.{judgement}
use Rattle.b67_promises.proofs.Words.{asks_run}
use Rattle.b67_promises.proofs.Calls.{call_prints}
use Rattle.b67_promises.proofs.Pairs.{same_lines}
use Rattle.b67_promises.proofs.Held.{prints_one}
use Rattle.b67_promises.proofs.cards.run_one_session.Goals as goal

pub returns-clause-decks : goal.returns-clause-decks
returns-clause-decks g c = λ bytes other h w w' told told' tells tells'.
    let one = call_prints g.K.Sink.taken g.K.Sink.faults c.args.printer.now c.run-one.new.printer (judgement bytes) None (asks_run c.args.words.now g.S.Source.left c.args.deck.now c.run-one.new.deck bytes w told) tells c.run-one.result.status c.run-one.ensures.due in
    let second = call_prints g.L.Sink.taken g.L.Sink.faults c.args.other_printer.now c.run-other.new.printer (judgement other) None (asks_run c.args.other_words.now g.T.Source.left c.args.other_deck.now c.run-other.new.deck other w' told') tells' c.run-other.result.status c.run-other.ensures.due in
    same_lines g.K.Sink.taken c.args.printer.now c.run-one.new.printer c.run-one.result.status g.L.Sink.taken c.args.other_printer.now c.run-other.new.printer c.run-other.result.status (judgement bytes) None
    one (second.0, second.1, prints_one bytes other None c.run-other.result.status second.0 h second.2)

pub returns-clause-call : goal.returns-clause-call
returns-clause-call g c = (c.run-one.result.machine, c.run-one.ensures.due)

pub returns-clause-other_call : goal.returns-clause-other_call
returns-clause-other_call g c = (c.run-other.result.machine, c.run-other.ensures.due)
