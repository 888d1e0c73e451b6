use Rattle.std.proofs.Common.{◌≡◌, ℕ, ◌+◌, ◌<◌, option_map}
use Rattle.std.specs.List.{slice_get}
use Rattle.b67_word.specs.Numbers.{number}
use Rattle.b67_core.proofs.Core.copy_out.Given as goal

abbrev pub invariant-loop-i : goal.invariant-loop-i
invariant-loop-i l = (k : ℕ) → k < l.i → slice_get l.into k ≡ option_map number (slice_get l.self (l.at + k))
