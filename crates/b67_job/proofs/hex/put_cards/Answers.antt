use Rattle.b67_job.proofs.Cards.{card_turn}
use Rattle.b67_job.proofs.hex.put_cards.Goals as goal

pub card-preserved : goal.card-preserved
card-preserved c = card_turn c.args.bytes.now c.args.into.now c.card.into c.put_card.new.into c.card.card c.min-end.result c.card.invariant c.min-end.ensures c.in_ok-put_card.ensures
