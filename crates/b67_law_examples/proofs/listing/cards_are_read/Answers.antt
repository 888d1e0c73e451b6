use Rattle.b67_law_examples.proofs.Programs.{cards_read}
use Rattle.b67_law_examples.proofs.listing.cards_are_read.Goals as goal

pub returns : goal.returns
returns c = cards_read
