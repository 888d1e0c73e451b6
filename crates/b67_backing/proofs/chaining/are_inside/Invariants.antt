use Rattle.std.proofs.Common.{ℕ, ◌<◌, ◌≤◌, length, get_or}
use Rattle.b67_backing.proofs.chaining.are_inside.Given as goal

abbrev pub invariant-inside : goal.invariant-inside
invariant-inside l = (i : ℕ) → i < l.link-index → get_or l.links i 0 ≤ length l.links
