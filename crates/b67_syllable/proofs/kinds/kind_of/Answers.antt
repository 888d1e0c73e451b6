use Rattle.std.proofs.Common.{arith, refl}
use Rattle.b67_syllable.proofs.KindLemmas.{name_kind, table_kind}
use Rattle.b67_syllable.proofs.kinds.kind_of.Goals as goal

pub returns-in-64-to-127 : goal.returns-in-64-to-127
returns-in-64-to-127 c = name_kind c.args.first _ (omega arith) (omega arith) refl

pub returns-in_default : goal.returns-in_default
returns-in_default c = table_kind c.args.first c.kind_in.result (omega arith) (omega arith) c.kind_in.ensures
