use Rattle.std.proofs.Common.{◌≡◌, ◌⊎◌, ℕ, ◌+◌, ◌<◌, ◌≤◌, length, option_map}
use Rattle.std.specs.List.{slice_get}
use Rattle.b67_core.specs.Numbers.{word_of}
use Rattle.b67_core.proofs.Core.copy_in.Given as goal

abbrev pub invariant-loop-i : goal.invariant-loop-i
invariant-loop-i l =
    (length l.self ≡ length l.fn.self) × (((k : ℕ) → k < l.i → slice_get l.self (l.at + k) ≡ option_map word_of (slice_get l.from k)) × ((k : ℕ) → (k < l.at) ⊎ (l.at + l.i ≤ k) → slice_get l.self k ≡ slice_get l.fn.self k))
