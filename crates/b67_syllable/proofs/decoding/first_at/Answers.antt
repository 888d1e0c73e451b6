use Rattle.std.proofs.Common.{◌∙◌}
use Rattle.b67_syllable.proofs.CodeLemmas.{first_is}
use Rattle.b67_syllable.proofs.decoding.first_at.Goals as goal

pub returns : goal.returns
returns c = c.part.ensures.value ∙ first_is _ _ _ c.requires.in_word c.requires.word c.index-code-at.is
