use Rattle.std.proofs.Common.{sym, ◌∙◌}
use Rattle.b67_card.proofs.Ascii.{printable_ascii}
use Rattle.b67_card.proofs.command.plain.Goals as goal

pub new-requires-clause-ascii : goal.new-requires-clause-ascii
new-requires-clause-ascii c = printable_ascii c.args.text.now (sym c.are_printable.ensures ∙ c.if-not-are_printable.false)
