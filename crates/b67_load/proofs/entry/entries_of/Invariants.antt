use Rattle.std.proofs.Common.{◌-◌, ◌*◌, length, map}
use Rattle.b67_word.specs.Tagged.{contents}
use Rattle.b67_model.specs.Operators.{count_at}
use Rattle.b67_load.specs.Listing.{seen}
use Rattle.b67_load.proofs.Listed.{Reads}
use Rattle.b67_load.proofs.entry.entries_of.Given as goal

abbrev pub invariant-entries : goal.invariant-entries
invariant-entries l = Reads (contents l.code) l.at (map seen l.entries.items)

abbrev pub decreases-entries : goal.decreases-entries
decreases-entries l = 6 * length l.code - count_at l.at
