use Rattle.std.proofs.Common.{map, take}
use Rattle.b67_load.specs.Listing.{seen}
use Rattle.b67_load.proofs.Starts.{Marked}
use Rattle.b67_load.proofs.entry.starts_of.Given as goal

abbrev pub invariant-entries : goal.invariant-entries
invariant-entries l = Marked l.words l.starts.items (map seen (take l.entry-index l.entries))
