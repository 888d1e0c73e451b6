use Rattle.b67_io.specs.Line.{ended}
use Rattle.b67_image.specs.Text.{card_lines, last_card}
use Rattle.b67_image.specs.Parts.{parts_of}
use Rattle.b67_image.specs.Spelling.{image_bytes}
use Rattle.b67_image.proofs.Joining.{part_then}
use Rattle.b67_image.proofs.writing.put_end.Goals as goal

pub returns-in-Ok-clause-part : goal.returns-in-Ok-clause-part
returns-in-Ok-clause-part g c = part_then g.K.Sink.taken c.args.sink.now c.put_cards.new.sink c.put_text.new.sink (card_lines (image_bytes (parts_of c.args.machine.now))) (ended last_card) c.put_text.result c.in-Ok.ensures.whole c.put_text.ensures.part
