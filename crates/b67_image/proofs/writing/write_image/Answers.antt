use Rattle.std.proofs.Common.{◌++◌}
use Rattle.b67_io.specs.Line.{ended}
use Rattle.b67_image.specs.Text.{card_lines, first_card, last_card}
use Rattle.b67_image.proofs.Chunks.{TookPart-longer}
use Rattle.b67_image.specs.Parts.{parts_of}
use Rattle.b67_image.specs.Image.{image_text}
use Rattle.b67_image.specs.Spelling.{image_bytes}
use Rattle.b67_image.proofs.Joining.{whole_then, part_then}
use Rattle.b67_image.proofs.writing.write_image.Goals as goal

pub returns-in-Ok-clause-whole : goal.returns-in-Ok-clause-whole
unfolding image_text
returns-in-Ok-clause-whole g c = whole_then g.K.Sink.taken c.args.sink.now c.put_text.new.sink c.put_end.new.sink (ended first_card) (card_lines (image_bytes (parts_of c.args.machine.now)) ++ ended last_card) c.put_end.result c.in-Ok.ensures.whole c.put_end.ensures.whole

pub returns-in-Ok-clause-part : goal.returns-in-Ok-clause-part
unfolding image_text
returns-in-Ok-clause-part g c = part_then g.K.Sink.taken c.args.sink.now c.put_text.new.sink c.put_end.new.sink (ended first_card) (card_lines (image_bytes (parts_of c.args.machine.now)) ++ ended last_card) c.put_end.result c.in-Ok.ensures.whole c.put_end.ensures.part

pub returns-in-Err-clause-part : goal.returns-in-Err-clause-part
unfolding image_text
returns-in-Err-clause-part g c = TookPart-longer (ended first_card) (card_lines (image_bytes (parts_of c.args.machine.now)) ++ ended last_card) c.in-Err.ensures.part
