use Rattle.std.proofs.Common.{◌-◌, ◌≤◌, Ok}
use Rattle.b67_task.specs.Tables.{job_row}
use Rattle.b67_layout_shown.specs.Reading.{cells_in}
use Rattle.b67_layout_shown.specs.Machines.{sight_of}
use Rattle.b67_dump.specs.Walk.{shapes_text}
use Rattle.b67_dump.specs.Put.{PutsText}
use Rattle.b67_dump.proofs.printing.put_cells.Given as goal

abbrev pub invariant-cells : goal.invariant-cells
invariant-cells g l = (l.done ≤ l.count) × PutsText g.K.Sink.taken g.K.Sink.faults l.fn.sink l.sink (Ok tt) (shapes_text (sight_of l.machine) (job_row l.row) l.job (cells_in l.machine.cpu.core l.from l.done))

abbrev pub decreases-cells : goal.decreases-cells
decreases-cells g l = l.count - l.done
