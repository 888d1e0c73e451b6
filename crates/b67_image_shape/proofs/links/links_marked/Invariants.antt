use Rattle.std.proofs.Common.{◌≡◌, take}
use Rattle.b67_backing.specs.Links.{links_in}
use Rattle.b67_image_shape.proofs.links.links_marked.Given as goal

abbrev pub invariant-each : goal.invariant-each
invariant-each l = l.links.items ≡ take l.k (links_in l.sectors)
