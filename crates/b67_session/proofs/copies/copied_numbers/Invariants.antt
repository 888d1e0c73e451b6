use Rattle.std.proofs.Common.{◌≡◌, take}
use Rattle.b67_session.proofs.copies.copied_numbers.Given as goal

abbrev pub invariant-numbers : goal.invariant-numbers
invariant-numbers l = l.copy ≡ take l.number-index l.numbers
