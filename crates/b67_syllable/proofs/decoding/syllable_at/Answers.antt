use Rattle.std.proofs.Common.{◌∙◌}
use Rattle.b67_syllable.proofs.CodeLemmas.{syllable_is}
use Rattle.b67_syllable.proofs.decoding.syllable_at.Goals as goal

pub returns : goal.returns
returns c = c.part.ensures.value ∙ syllable_is _ _ _ c.requires c.index-code-n.is
