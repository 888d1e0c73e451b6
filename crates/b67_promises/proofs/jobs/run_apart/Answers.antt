use Rattle.std.proofs.Common.{arith}
use Rattle.b67_job.specs.Judgement.{judgement}
use Rattle.b67_promises.proofs.Words.{asks_run}
use Rattle.b67_promises.proofs.Stopped.{call_lists}
use Rattle.b67_promises.proofs.SharedJobs.{same_of_job}
use Rattle.b67_promises.proofs.Cores.{run_opens, is_run}
use Rattle.b67_promises.proofs.LoneCalls.{ends_alone}
use Rattle.b67_promises.proofs.jobs.run_apart.Goals as goal

pub returns-clause-jobs : goal.returns-clause-jobs
returns-clause-jobs g c = λ bytes other i j share w w' told told' tells tells'.
    same_of_job g.K.Sink.taken c.args.printer.now c.run-one.new.printer c.run-one.result.status g.L.Sink.taken c.args.other_printer.now c.run-other.new.printer c.run-other.result.status i j bytes other share
    (call_lists g.K.Sink.taken g.K.Sink.faults c.args.printer.now c.run-one.new.printer (judgement bytes) (asks_run c.args.words.now g.S.Source.left c.args.deck.now c.run-one.new.deck bytes w told) tells c.run-one.result.status c.run-one.ensures.due)
    (call_lists g.L.Sink.taken g.L.Sink.faults c.args.other_printer.now c.run-other.new.printer (judgement other) (asks_run c.args.other_words.now g.T.Source.left c.args.other_deck.now c.run-other.new.deck other w' told') tells' c.run-other.result.status c.run-other.ensures.due)

pub returns-clause-more_core : goal.returns-clause-more_core
returns-clause-more_core g c = λ bytes other i j core more h alone w w' le low told told' tells tells' read calm worked zero away.
    let one = asks_run c.args.words.now g.S.Source.left c.args.deck.now c.run-one.new.deck bytes (is_run core c.args.words.now w) told in
    let other_asks = asks_run c.args.other_words.now g.T.Source.left c.args.other_deck.now c.run-other.new.deck other (is_run more c.args.other_words.now w') told' in
    ends_alone i j bytes other h alone one other_asks tells tells' core more
    (run_opens c.args.words.now g.S.Source.left c.args.deck.now c.run-one.new.deck core (omega (arith, le, low)) w)
    (run_opens c.args.other_words.now g.T.Source.left c.args.other_deck.now c.run-other.new.deck more (omega (arith, low)) w')
    le read worked calm zero away c.run-one.ensures.due c.run-other.ensures.due

pub returns-clause-call : goal.returns-clause-call
returns-clause-call g c = (c.run-one.result.machine, c.run-one.ensures.due)

pub returns-clause-other_call : goal.returns-clause-other_call
returns-clause-other_call g c = (c.run-other.result.machine, c.run-other.ensures.due)
