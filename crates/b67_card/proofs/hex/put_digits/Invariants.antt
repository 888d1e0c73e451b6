use Rattle.std.proofs.Common.{◌≡◌, ◌++◌, length}
use Rattle.b67_model_text.specs.Hex.{digit_bytes}
use Rattle.b67_card.proofs.hex.put_digits.Given as goal

abbrev pub invariant-loop-rest : goal.invariant-loop-rest
invariant-loop-rest l = l.into ++ digit_bytes l.rest ≡ l.fn.into ++ digit_bytes l.text

abbrev pub decreases-loop-rest : goal.decreases-loop-rest
decreases-loop-rest l = length l.rest
