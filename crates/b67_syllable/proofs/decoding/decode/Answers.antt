use Rattle.b67_syllable.proofs.CodeLemmas.{in_segment}
use Rattle.b67_syllable.proofs.decoding.decode.Goals as goal

pub returns-in_default-kind-clause-segment : goal.returns-in_default-kind-clause-segment
returns-in_default-kind-clause-segment c = in_segment c.args.code.now c.args.at _ c.operator_near.ensures

pub returns-in_default-2-clause-segment : goal.returns-in_default-2-clause-segment
returns-in_default-2-clause-segment c = in_segment c.args.code.now c.args.at _ c.operator_of_kind.ensures
