use Rattle.std.proofs.Common.{◌≡◌, ◌++◌, drop}
use Rattle.b67_model_text.specs.Deck.{bytes_in}
use Rattle.b67_job.proofs.convert.bytes_of.Given as goal

abbrev pub invariant-loop-card : goal.invariant-loop-card
invariant-loop-card l = l.bytes ++ bytes_in (drop l.card-index l.cards) ≡ bytes_in l.cards
