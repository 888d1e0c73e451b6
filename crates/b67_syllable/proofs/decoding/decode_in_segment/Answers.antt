use Rattle.std.proofs.Common.{arith}
use Rattle.b67_syllable.proofs.CodeLemmas.{in_segment}
use Rattle.b67_syllable.proofs.decoding.decode_in_segment.Goals as goal

pub returns-in_default-kind : goal.returns-in_default-kind
returns-in_default-kind c = in_segment c.args.code.now c.args.at _ c.operator_near.ensures (omega (arith, c.requires))
