use Rattle.std.proofs.Common.{None}
use Rattle.b67_job.specs.Judgement.{judgement}
use Rattle.b67_promises.proofs.Words.{asks_run}
use Rattle.b67_promises.proofs.OneTaskCalls.{same_in_turns}
use Rattle.b67_promises.proofs.jobs.run_apart_in_turns.Goals as goal

pub returns-clause-one_task : goal.returns-clause-one_task
returns-clause-one_task g c = λ bytes other text text' i j share w w' told told' tells tells' empty full empty' full' zero zero' one.
    same_in_turns text text' i j bytes other share
    (asks_run c.args.words.now g.S.Source.left c.args.deck.now c.run-one.new.deck bytes w told) (asks_run c.args.other_words.now g.T.Source.left c.args.other_deck.now c.run-turned.new.deck other w' told')
    tells tells' empty full empty' full' zero zero' one c.run-one.ensures.due c.run-turned.ensures.due

pub returns-clause-call : goal.returns-clause-call
returns-clause-call g c = (c.run-one.result.machine, c.run-one.ensures.due)

pub returns-clause-other_call : goal.returns-clause-other_call
returns-clause-other_call g c = (c.run-turned.result.machine, c.run-turned.ensures.due)
