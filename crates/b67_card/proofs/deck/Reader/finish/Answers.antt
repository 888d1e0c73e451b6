use Rattle.std.proofs.Common.{sym, ap, Ok, ◌∙◌}
use Rattle.b67_card.proofs.Finish.{deck_behind_is}
use Rattle.b67_card.proofs.deck.Reader.finish.Goals as goal

pub returns : goal.returns
returns c = λ before knows. deck_behind_is c.args.self c.in_ok-jobs.jobs before knows (sym c.is_between.ensures ∙ c.if-not-is_between.false) (c.in_ok-jobs.ensures _ knows.contents) ∙ ap Ok (sym c.into_deck.ensures)
