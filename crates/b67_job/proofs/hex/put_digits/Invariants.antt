use Rattle.std.proofs.Common.{◌≡◌, ◌++◌, take}
use Rattle.b67_model_text.specs.Hex.{hex_text}
use Rattle.b67_job.proofs.hex.put_digits.Given as goal

abbrev pub invariant-loop-byte : goal.invariant-loop-byte
invariant-loop-byte l = l.into ≡ l.initial.into ++ hex_text (take l.byte-index l.bytes)
