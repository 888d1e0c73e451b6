use Rattle.std.proofs.Common.{codes}
use Rattle.b67_io.specs.Line.{ended}
use Rattle.b67_gen.specs.Generated.{literal_card}
use Rattle.b67_gen.proofs.Cards.{three}
use Rattle.b67_gen.proofs.text.put_making.Goals as goal

pub returns : goal.returns
returns c = three (codes "MKST\nNAMC 0,8\n") (ended (literal_card c.args.words)) (codes "ENTR\n") c.args.into.now c.put_text.new.into c.put_literal.new.into c.put_text-2.new.into c.in_ok-put_text.ensures c.in_ok-put_literal.ensures c.in_ok-put_text-2.ensures
