use Rattle.std.proofs.Common.{codes}
use Rattle.b67_io.specs.Line.{ended}
use Rattle.b67_gen.specs.Generated.{literal_card, cell_card}
use Rattle.b67_gen.proofs.Cards.{three}
use Rattle.b67_gen.proofs.text.put_adding.Goals as goal

pub returns : goal.returns
returns c = three (ended (cell_card c.args.store.array)) (ended (literal_card c.args.store.index)) (codes "NXLV\nADD\n") c.args.into.now c.put_cell.new.into c.put_literal.new.into c.put_text.new.into c.in_ok-put_cell.ensures c.in_ok-put_literal.ensures c.in_ok-put_text.ensures
