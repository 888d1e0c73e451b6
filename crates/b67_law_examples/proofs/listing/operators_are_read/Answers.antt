use Rattle.b67_law_examples.proofs.Laying.{listing_is}
use Rattle.b67_law_examples.proofs.listing.operators_are_read.Goals as goal

pub returns : goal.returns
returns c = listing_is
