use Rattle.std.proofs.Common.{◌≡◌, ◌++◌}
use Rattle.b67_job.proofs.Cards.{first_cards}
use Rattle.b67_job.proofs.hex.put_cards.Given as goal

abbrev pub invariant-card : goal.invariant-card
invariant-card l = l.into ≡ l.initial.into ++ first_cards l.bytes l.card
