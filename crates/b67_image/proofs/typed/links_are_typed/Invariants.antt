use Rattle.std.proofs.Common.{◌+◌, ◌-◌, ◌<◌, length, map}
use Rattle.std.specs.List.{AllByRecursion}
use Rattle.b67_backing.specs.Shelf.{row}
use Rattle.b67_backing.specs.Links.{table_link}
use Rattle.b67_image.specs.Within.{IsFour}
use Rattle.b67_image.proofs.typed.links_are_typed.Given as goal

abbrev pub invariant-sectors : goal.invariant-sectors
invariant-sectors l = (l.n < length l.sectors.links) × AllByRecursion IsFour (map (table_link l.sectors) (row (l.n + 1) (length l.sectors.links - 1 - l.n)))

abbrev pub decreases-sectors : goal.decreases-sectors
decreases-sectors l = l.n
