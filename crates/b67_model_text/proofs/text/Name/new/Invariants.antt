use Rattle.std.proofs.Common.{◌≡◌, take}
use Rattle.b67_model_text.proofs.text.Name.new.Given as goal

abbrev pub invariant-loop-byte : goal.invariant-loop-byte
invariant-loop-byte l = l.characters.bytes ≡ take l.byte-index l.bytes
