use Rattle.std.proofs.Common.{◌≡◌, ◌++◌, drop}
use Rattle.std.specs.List.{flat_map}
use Rattle.b67_gen.specs.Generated.{on_lines, making}
use Rattle.b67_gen.proofs.text.put_makings.Given as goal

abbrev pub invariant-arrays : goal.invariant-arrays
invariant-arrays l = l.fn.into ++ on_lines (flat_map making l.arrays) ≡ l.into ++ on_lines (flat_map making (drop l.words-index l.arrays))
