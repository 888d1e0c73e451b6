use Rattle.std.proofs.Common.{◌≡◌, ℕ, ◌≤◌, true, false, get_or}
use Rattle.b67_image_shape.specs.Chains.{IsChainHead}
use Rattle.b67_image_shape.proofs.chains.are_claimed.Given as goal

abbrev pub invariant-each : goal.invariant-each
invariant-each l = (n : ℕ) → n ≤ l.i → IsChainHead l.links n → get_or l.claimed n false ≡ true
