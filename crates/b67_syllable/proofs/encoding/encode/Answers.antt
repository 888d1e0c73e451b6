use Rattle.b67_syllable.proofs.EncodingLemmas.{reads_back_as}
use Rattle.b67_syllable.proofs.encoding.encode.Goals as goal

pub returns-clause-again : goal.returns-clause-again
returns-clause-again c = reads_back_as c.args.op _ _ c.requires.bits c.put.ensures.syllables c.put.ensures.literal
