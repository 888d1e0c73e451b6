use Rattle.std.proofs.Common.{◌∙◌}
use Rattle.b67_asm.proofs.NamesLaw.{lookup_seen}
use Rattle.b67_asm.proofs.names.place_of.Goals as goal

pub returns : goal.returns
returns c = c.copied.ensures ∙ c.get.ensures.value ∙ lookup_seen c.args.label.now c.args.labels.now.entries
