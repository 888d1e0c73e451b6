use Rattle.std.proofs.Common.{◌≡◌, ◌<◌, ◌^◌, take}
use Rattle.b67_model_text.specs.Statements.{digit_bits}
use Rattle.b67_asm.proofs.number.digit_bits.Given as goal

abbrev pub invariant-loop-digit : goal.invariant-loop-digit
invariant-loop-digit l = (l.bits ≡ digit_bits (take l.digit-index l.digits)) × (l.bits < 2 ^ 48)
