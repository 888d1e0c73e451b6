use Rattle.std.proofs.Common.{None}
use Rattle.b67_job.specs.Judgement.{judgement}
use Rattle.b67_promises.proofs.Words.{asks_run}
use Rattle.b67_promises.proofs.Calls.{call_prints}
use Rattle.b67_promises.proofs.Made.{asm_made, convert_made, one_run_lines, asm_run, convert_run}
use Rattle.b67_promises.proofs.cards.run_source_and_printed.Goals as goal

pub returns-clause-asm : goal.returns-clause-asm
returns-clause-asm g c = λ text printed bytes other made_w gave empty full zero h w w' told told' tells tells'.
    let made = asm_made g.P.Sink.taken g.P.Sink.faults c.args.cards.now c.run-made.new.printer text gave c.run-made.result.status c.run-made.ensures.due printed empty full zero made_w in
    let one = call_prints g.K.Sink.taken g.K.Sink.faults c.args.printer.now c.run-one.new.printer (judgement bytes) None (asks_run c.args.words.now g.S.Source.left c.args.deck.now c.run-one.new.deck bytes w told) tells c.run-one.result.status c.run-one.ensures.due in
    let second = call_prints g.L.Sink.taken g.L.Sink.faults c.args.other_printer.now c.run-other.new.printer (judgement other) None (asks_run c.args.other_words.now g.T.Source.left c.args.other_deck.now c.run-other.new.deck other w' told') tells' c.run-other.result.status c.run-other.ensures.due in
    one_run_lines g.K.Sink.taken c.args.printer.now c.run-one.new.printer c.run-one.result.status g.L.Sink.taken c.args.other_printer.now c.run-other.new.printer c.run-other.result.status bytes other None
    (λ p q is is'. asm_run bytes other text printed p q is is' h made) one second

pub returns-clause-convert : goal.returns-clause-convert
returns-clause-convert g c = λ text printed bytes other made_w gave empty full zero h w w' told told' tells tells'.
    let made = convert_made g.P.Sink.taken g.P.Sink.faults c.args.cards.now c.run-made.new.printer text gave c.run-made.result.status c.run-made.ensures.due printed empty full zero made_w in
    let one = call_prints g.K.Sink.taken g.K.Sink.faults c.args.printer.now c.run-one.new.printer (judgement bytes) None (asks_run c.args.words.now g.S.Source.left c.args.deck.now c.run-one.new.deck bytes w told) tells c.run-one.result.status c.run-one.ensures.due in
    let second = call_prints g.L.Sink.taken g.L.Sink.faults c.args.other_printer.now c.run-other.new.printer (judgement other) None (asks_run c.args.other_words.now g.T.Source.left c.args.other_deck.now c.run-other.new.deck other w' told') tells' c.run-other.result.status c.run-other.ensures.due in
    one_run_lines g.K.Sink.taken c.args.printer.now c.run-one.new.printer c.run-one.result.status g.L.Sink.taken c.args.other_printer.now c.run-other.new.printer c.run-other.result.status bytes other None
    (λ p q is is'. convert_run bytes other text printed p q is is' h made) one second

pub returns-clause-made_call : goal.returns-clause-made_call
returns-clause-made_call g c = (c.run-made.result.machine, c.run-made.ensures.due)

pub returns-clause-call : goal.returns-clause-call
returns-clause-call g c = (c.run-one.result.machine, c.run-one.ensures.due)

pub returns-clause-other_call : goal.returns-clause-other_call
returns-clause-other_call g c = (c.run-other.result.machine, c.run-other.ensures.due)
