use Rattle.b67_promises.proofs.Made.{asm_made, convert_made, bind_made}
use Rattle.b67_promises.proofs.BoundCards.{binds}
use Rattle.b67_promises.proofs.Checked.{asm_is_accepted, convert_is_accepted, bound_is_accepted}
use Rattle.b67_promises.proofs.cards.check_printed.Goals as goal

pub returns-clause-asm : goal.returns-clause-asm
returns-clause-asm g c = λ text printed bytes other made_w w w' gave empty full told told' h fits read worked zero accepts.
    let made = asm_made g.P.Sink.taken g.P.Sink.faults c.args.cards.now c.run-made.new.printer text gave c.run-made.result.status c.run-made.ensures.due printed empty full zero made_w in
    asm_is_accepted g.L.Sink.taken g.L.Sink.faults c.args.other_printer.now c.run-other.new.printer other told' fits w' read worked c.run-other.result.status c.run-other.ensures.due
    g.K.Sink.taken g.K.Sink.faults c.args.printer.now c.run-checked.new.printer bytes told w c.run-checked.result.status accepts c.run-checked.ensures.due text printed h made

pub returns-clause-convert : goal.returns-clause-convert
returns-clause-convert g c = λ text printed bytes other made_w w w' gave empty full told told' h fits read worked zero accepts.
    let made = convert_made g.P.Sink.taken g.P.Sink.faults c.args.cards.now c.run-made.new.printer text gave c.run-made.result.status c.run-made.ensures.due printed empty full zero made_w in
    convert_is_accepted g.L.Sink.taken g.L.Sink.faults c.args.other_printer.now c.run-other.new.printer other told' fits w' read worked c.run-other.result.status c.run-other.ensures.due
    g.K.Sink.taken g.K.Sink.faults c.args.printer.now c.run-checked.new.printer bytes told w c.run-checked.result.status accepts c.run-checked.ensures.due text printed h made

pub returns-clause-bind : goal.returns-clause-bind
returns-clause-bind g c = λ text printed bytes other made_w w w' gave empty full told told' h fits read worked zero accepts.
    let made = bind_made g.P.Sink.taken g.P.Sink.faults c.args.cards.now c.run-made.new.printer text gave c.run-made.result.status c.run-made.ensures.due printed empty full zero c.run-made.ensures.status.no_command made_w in
    bound_is_accepted g.L.Sink.taken g.L.Sink.faults c.args.other_printer.now c.run-other.new.printer other told' fits w' read worked c.run-other.result.status c.run-other.ensures.due
    g.K.Sink.taken g.K.Sink.faults c.args.printer.now c.run-checked.new.printer bytes told w c.run-checked.result.status accepts c.run-checked.ensures.due printed h (binds made.0 text printed made.1)

pub returns-clause-made_call : goal.returns-clause-made_call
returns-clause-made_call g c = (c.run-made.result.machine, c.run-made.ensures.due)

pub returns-clause-call : goal.returns-clause-call
returns-clause-call g c = (c.run-checked.result.machine, c.run-checked.ensures.due)

pub returns-clause-other_call : goal.returns-clause-other_call
returns-clause-other_call g c = (c.run-other.result.machine, c.run-other.ensures.due)
