use Rattle.std.proofs.Common.{◌≡◌, ◌++◌, drop}
use Rattle.std.specs.List.{flat_map}
use Rattle.b67_gen.specs.Generated.{on_lines, adding}
use Rattle.b67_gen.proofs.text.put_addings.Given as goal

abbrev pub invariant-stores : goal.invariant-stores
invariant-stores l = l.fn.into ++ on_lines (flat_map adding l.stores) ≡ l.into ++ on_lines (flat_map adding (drop l.store-index l.stores))
