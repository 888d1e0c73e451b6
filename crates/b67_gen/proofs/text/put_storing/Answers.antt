use Rattle.std.proofs.Common.{codes}
use Rattle.b67_io.specs.Line.{ended}
use Rattle.b67_gen.specs.Generated.{literal_card, cell_card}
use Rattle.b67_gen.proofs.Cards.{four}
use Rattle.b67_gen.proofs.text.put_storing.Goals as goal

pub returns : goal.returns
returns c = four (ended (literal_card c.args.store.value)) (ended (cell_card c.args.store.array)) (ended (literal_card c.args.store.index)) (codes "INDX\nSTOD\n") c.args.into.now c.put_literal.new.into c.put_cell.new.into c.put_literal-2.new.into c.put_text.new.into
    c.in_ok-put_literal.ensures c.in_ok-put_cell.ensures c.in_ok-put_literal-2.ensures c.in_ok-put_text.ensures
