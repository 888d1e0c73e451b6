use Rattle.std.proofs.Common.{◌≡◌, take}
use Rattle.b67_model.specs.Endings.{all_with}
use Rattle.b67_session.proofs.deaths.all_ended.Given as goal

abbrev pub invariant-loop-at : goal.invariant-loop-at
invariant-loop-at l = l.list.items ≡ all_with l.ending (take l.at l.numbers)
