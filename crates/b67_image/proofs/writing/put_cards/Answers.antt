use Rattle.b67_image.specs.Parts.{parts_of}
use Rattle.b67_image.specs.Spelling.{image_bytes}
use Rattle.b67_image.proofs.Joining.{cards_whole, cards_part, cards_stop}
use Rattle.b67_image.proofs.writing.put_cards.Goals as goal

pub returns-in-Ok-clause-whole : goal.returns-in-Ok-clause-whole
returns-in-Ok-clause-whole g c = cards_whole g.K.Sink.taken c.args.sink.now c.put_machine.new.sink c.finish.new.sink c.new-hand.result c.put_machine.new.hand (image_bytes (parts_of c.args.machine.now)) c.finish.result c.new-hand.ensures c.in-Ok.ensures.row c.finish.ensures.whole

pub returns-in-Ok-clause-part : goal.returns-in-Ok-clause-part
returns-in-Ok-clause-part g c = cards_part g.K.Sink.taken c.args.sink.now c.put_machine.new.sink c.finish.new.sink c.new-hand.result c.put_machine.new.hand (image_bytes (parts_of c.args.machine.now)) c.finish.result c.new-hand.ensures c.in-Ok.ensures.row c.finish.ensures.part

pub returns-in-Err-clause-part : goal.returns-in-Err-clause-part
returns-in-Err-clause-part g c = cards_stop g.K.Sink.taken c.args.sink.now c.put_machine.new.sink c.new-hand.result c.put_machine.new.hand (image_bytes (parts_of c.args.machine.now)) c.in-Err.failed c.new-hand.ensures c.in-Err.ensures.row
