use Rattle.std.proofs.Common.{◌≡◌, ◌≢◌, ℕ, ◌≤◌}
use Rattle.b67_backing.specs.Links.{sector_link, mark}
use Rattle.b67_backing.proofs.chaining.are_marked.Given as goal

abbrev pub invariant-each : goal.invariant-each
invariant-each l = (n : ℕ) → 1 ≤ n → n ≤ l.i → sector_link l.links n ≢ 0 → mark l.seen n ≡ 1
