use Rattle.std.proofs.Common.{◌≡◌, ℕ, ◌<◌, ◌+◌, length, Some}
use Rattle.std.specs.List.{slice_get}
use Rattle.b67_backing.proofs.sectors.Sectors.new.Given as goal

abbrev pub invariant-loop-i : goal.invariant-loop-i
invariant-loop-i l = (length l.links.items ≡ l.i) × ((k : ℕ) → k < l.i → slice_get l.links.items k ≡ Some (k + 1))
