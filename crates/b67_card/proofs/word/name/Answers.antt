use Rattle.std.proofs.Common.{sym, ◌∙◌}
use Rattle.b67_card.proofs.Ascii.{name_ascii}
use Rattle.b67_card.proofs.word.name.Goals as goal

pub new-requires-clause-ascii : goal.new-requires-clause-ascii
new-requires-clause-ascii c = name_ascii c.args.word.now (sym c.is_name.ensures ∙ c.if-is_name.true)
