use Rattle.std.proofs.Common.{refl}
use Rattle.b67_session.proofs.InitialOpens.{uncalled}
use Rattle.b67_job.specs.Device.{device_of}
use Rattle.b67_job.proofs.Served.{loaded_in_range, served_deck, served_refusal, without}
use Rattle.b67_job.proofs.top.answer_run.Goals as goal

pub run_deck-requires-clause-range : goal.run_deck-requires-clause-range
run_deck-requires-clause-range g c = (loaded_in_range g.S.Source.left g.S.Source.faults c.args.deck.now c.admit.new.source c.in-Ok.loaded c.in-Ok.ensures.answer).0

pub run_deck-requires-clause-each : goal.run_deck-requires-clause-each
run_deck-requires-clause-each g c = rw c.as_slice.ensures (loaded_in_range g.S.Source.left g.S.Source.faults c.args.deck.now c.admit.new.source c.in-Ok.loaded c.in-Ok.ensures.answer).1

pub returns-in-Ok-clause-serves : goal.returns-in-Ok-clause-serves
returns-in-Ok-clause-serves g c = λ command runs.
    served_deck (device_of g.B.Backing.holds g.B.Backing.size g.B.Backing.faults c.args.backing.now c.run_deck.new.backing) command c.args.core c.args.closing c.in-Ok.loaded c.run_deck.result.machine c.run_deck.result.status
    runs c.in-Ok.ensures.answer (rw c.as_slice.ensures at c.run_deck.ensures.ends)

pub returns-in-Err-clause-serves : goal.returns-in-Err-clause-serves
returns-in-Err-clause-serves g c = λ command runs words e.
    let d = device_of g.B.Backing.holds g.B.Backing.size g.B.Backing.faults c.args.backing.now c.args.backing.now in
    without words g.S.Source.left g.S.Source.faults c.args.deck.now c.admit.new.source d g.K.Sink.taken g.K.Sink.faults c.args.printer.now c.refuse_program.new.printer
    c.without_machine.result.machine c.without_machine.result.status c.refuse_program.result c.without_machine.ensures.machine c.without_machine.ensures.status
    (served_refusal d command c.args.core c.args.closing c.in-Err.fault c.refuse_program.result runs refl c.in-Err.ensures.answer c.refuse_program.ensures words e)

pub returns-in-Err-clause-device : goal.returns-in-Err-clause-device
returns-in-Err-clause-device g c = uncalled g.B.Backing.holds g.B.Backing.size g.B.Backing.calls g.B.Backing.faults c.args.backing.now
