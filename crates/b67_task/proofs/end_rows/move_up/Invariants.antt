use Rattle.b67_task.specs.LeftRows.{freed, row_is_kept}
use Rattle.b67_task.specs.Deaths.{ending_numbers}
use Rattle.b67_task.proofs.Moves.{Moves}
use Rattle.b67_task.proofs.end_rows.move_up.Given as goal

abbrev pub invariant-loop-at : goal.invariant-loop-at
invariant-loop-at l = Moves (freed l.job (ending_numbers l.list)) (row_is_kept l.job (ending_numbers l.list)) l.fn.rows l.rows l.kept l.at
