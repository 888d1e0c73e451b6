use Rattle.std.proofs.Common.{◌≡◌, ℕ, ◌<◌, slice_get, option_map}
use Rattle.b67_core.specs.Numbers.{under}
use Rattle.b67_core.proofs.put_under.Given as goal

abbrev pub invariant-loop-i : goal.invariant-loop-i
invariant-loop-i l = (k : ℕ) → k < l.i → slice_get l.into k ≡ option_map (under l.tag) (slice_get l.from k)
