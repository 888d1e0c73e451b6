use Rattle.std.proofs.Common.{◌≡◌, ℕ, ◌+◌, ◌^◌, ◌<◌, ◌≤◌, length, Some}
use Rattle.std.specs.List.{slice_get}
use Rattle.b67_word.specs.Tagged.{word}
use Rattle.b67_session.proofs.laying.lay_mcp.Given as goal

abbrev pub invariant-loop-number : goal.invariant-loop-number
invariant-loop-number l =
    (length l.core ≡ length l.fn.core)
    × (slice_get l.core 0 ≡ Some (word 3 (2 ^ 46)))
    × ((n : ℕ) → 8 ≤ n → n < l.number → slice_get l.core n ≡ Some (word 7 (2 ^ 19 + n)))
    × ((i : ℕ) → 19 ≤ i → slice_get l.core i ≡ slice_get l.fn.core i)
