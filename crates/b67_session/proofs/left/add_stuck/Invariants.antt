use Rattle.std.proofs.Common.{◌≡◌, ◌≤◌, ◌+◌, ◌++◌, length, take}
use Rattle.b67_word.specs.declared.faults.Ending.TheVariants.{Deadlock}
use Rattle.b67_model.specs.Endings.{all_with}
use Rattle.b67_session.specs.Closing.{others_of}
use Rattle.b67_session.proofs.left.add_stuck.Given as goal

abbrev pub invariant-loop-at : goal.invariant-loop-at
invariant-loop-at l = record {
  all : l.list.items ≡ l.fn.list.items ++ all_with Deadlock (others_of l.dead (take l.at l.live));
  few : length l.list.items ≤ length l.fn.list.items + l.at;
}
