use Rattle.std.proofs.Common.{ℕ, subst}
use Rattle.b67_job.specs.Device.{device_of}
use Rattle.b67_job.specs.Statuses.{StatusMeans}
use Rattle.b67_promises.proofs.ReadBack.{read_back}
use Rattle.b67_promises.proofs.halts.run_to_image.Goals as goal

pub returns-clause-read : goal.returns-clause-read
returns-clause-read g c = λ before text w took took' three few.
    let d = device_of g.B.Backing.holds g.B.Backing.size g.B.Backing.faults c.args.backing.now c.run-outcome.new.backing in
    let machine = c.run-outcome.result.machine in
    read_back c.args.words.now g.S.Source.left g.S.Source.faults c.args.deck.now c.run-outcome.new.deck d machine g.K.Sink.taken g.K.Sink.faults c.args.printer.now c.run-outcome.new.printer w before text took took' few
    (subst (λ (n : ℕ). StatusMeans c.args.words.now g.S.Source.left g.S.Source.faults c.args.deck.now c.run-outcome.new.deck d machine g.K.Sink.taken g.K.Sink.faults c.args.printer.now c.run-outcome.new.printer n) three c.run-outcome.ensures.status)
    c.run-outcome.ensures.opened c.outcome_is_typed.ensures c.tasks_are_few.ensures
