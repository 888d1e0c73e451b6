use Rattle.std.proofs.Common.{◌≡◌, drop, find}
use Rattle.b67_task.specs.LeftRows.{is_of}
use Rattle.b67_task.proofs.end_rows.slot_in.Given as goal

abbrev pub invariant-loop-at : goal.invariant-loop-at
invariant-loop-at l = find (is_of l.job l.number) (drop l.at l.rows) ≡ find (is_of l.job l.number) l.rows
