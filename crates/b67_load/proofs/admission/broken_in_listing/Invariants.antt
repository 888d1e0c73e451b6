use Rattle.std.proofs.Common.{map, drop}
use Rattle.b67_load.specs.Listing.{seen}
use Rattle.b67_load.specs.Broken.{listed}
use Rattle.b67_load.proofs.FirstRefusal.{Remains}
use Rattle.b67_load.proofs.admission.broken_in_listing.Given as goal

abbrev pub invariant-entries : goal.invariant-entries
invariant-entries l = Remains (listed l.file l.number l.segment l.listing) l.listing (map seen (drop l.entry-index l.entry-items))
