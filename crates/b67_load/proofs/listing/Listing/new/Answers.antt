use Rattle.std.proofs.Common.{map, ap, ◌∙◌}
use Rattle.b67_word.specs.Tagged.{contents}
use Rattle.b67_load.specs.Listing.{seen}
use Rattle.b67_load.proofs.Listed.{words-inside, listing-couples}
use Rattle.b67_load.proofs.listing.Listing.new.Goals as goal

pub starts_of-requires-clause-inside : goal.starts_of-requires-clause-inside
starts_of-requires-clause-inside c = words-inside c.args.code.now _ (ap (map seen) c.deref.ensures.value ∙ c.in_ok-entries.ensures)

pub invariant_of-result : goal.invariant_of-result
invariant_of-result c = record { marks = rw (← c.deref.ensures.value) c.in_ok-starts.ensures; couples = listing-couples (contents c.args.code.now) (map seen c.in_ok-entries.entries.items) c.in_ok-entries.ensures }
