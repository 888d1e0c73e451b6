use Rattle.std.proofs.Common.{map, arith}
use Rattle.b67_codefile.specs.Meaning.{program_of}
use Rattle.b67_session.proofs.Openings.{opens_open}
use Rattle.b67_job.proofs.Decks.{refused, deck_run, after_more}
use Rattle.b67_job.proofs.runs.run_deck.Goals as goal

pub returns-in-Err-clause-ends : goal.returns-in-Err-clause-ends
returns-in-Err-clause-ends g c =
    refused g.K.Sink.taken g.K.Sink.faults g.B.Backing.holds g.B.Backing.size g.B.Backing.faults c.args.deck.now (map program_of c.args.programs.now) c.args.core c.args.closing
    c.args.backing.now c.open_machine.new.backing c.in-Err.fault c.args.printer.now c.refuse_opening.new.printer c.refuse_opening.result c.in-Err.ensures.opens c.refuse_opening.ensures

pub run_session-status-requires-clause-open : goal.run_session-status-requires-clause-open
run_session-status-requires-clause-open g c =
    opens_open c.args.deck.now c.args.programs.now (g.B.Backing.holds c.args.backing.now) (g.B.Backing.holds c.open_machine.new.backing) c.args.core (g.B.Backing.size c.args.backing.now) c.in-Ok.machine
    c.requires.range c.know_programs.ensures c.in-Ok.ensures.opens.2

pub run_session-status-requires-clause-sized : goal.run_session-status-requires-clause-sized
run_session-status-requires-clause-sized g c =
    let links = c.in-Ok.ensures.opens.2.sized in
    omega (arith, links, c.open_machine.ensures.device.size)

pub run_session-status-requires-clause-unprinted : goal.run_session-status-requires-clause-unprinted
run_session-status-requires-clause-unprinted g c = c.in-Ok.ensures.opens.2.printed

pub returns-clause-ends : goal.returns-clause-ends
returns-clause-ends g c =
    deck_run g.K.Sink.taken g.K.Sink.faults g.B.Backing.holds g.B.Backing.size g.B.Backing.calls g.B.Backing.faults c.args.deck.now c.args.programs.now c.args.core c.args.closing
    c.requires.range c.know_programs.ensures c.args.backing.now c.open_machine.new.backing c.run_session-status.new.backing c.in-Ok.machine c.run_session-status.new.machine c.in-Ok.ensures.opens
    c.args.printer.now c.run_session-status.new.printer c.run_session-status.result c.open_machine.ensures.device c.run_session-status.ensures.device
    c.run_session-status.ensures.goes_on c.run_session-status.ensures.keeps c.run_session-status.ensures.ran c.run_session-status.ensures.paged

pub returns-clause-device : goal.returns-clause-device
returns-clause-device g c = after_more c.open_machine.ensures.device c.run_session-status.ensures.device
