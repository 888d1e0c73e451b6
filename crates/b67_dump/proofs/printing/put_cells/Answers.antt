use Rattle.std.proofs.Common.{◌≡◌, Ok, ap, arith}
use Rattle.b67_task.specs.Tables.{job_row}
use Rattle.b67_layout_shown.specs.Reading.{cells_in}
use Rattle.b67_layout_shown.specs.Machines.{sight_of}
use Rattle.b67_dump.specs.Walk.{shapes_text}
use Rattle.b67_dump.proofs.Putting.{puts_none, puts_as, puts_passed}
use Rattle.b67_dump.proofs.Printed.{cell_turn, cell_stop}
use Rattle.b67_dump.proofs.printing.put_cells.Goals as goal

pub cells-init : goal.cells-init
cells-init g c = (omega arith, puts_none g.K.Sink.taken g.K.Sink.faults c.args.sink.now)

pub cells-preserved : goal.cells-preserved
cells-preserved g c = (
  omega (arith, c.cells-test.true),
  cell_turn g.K.Sink.taken g.K.Sink.faults (sight_of c.args.machine.now) (job_row c.args.row.now) c.args.job c.args.sink.now c.cells.sink c.put.new.sink (Ok tt) c.args.from c.cells.done c.cell_line.result c.cells.invariant.1 c.cell_line.ensures c.in_ok-put.ensures,
)

pub returns-in_err-put : goal.returns-in_err-put
returns-in_err-put g c =
    puts_passed g.K.Sink.taken g.K.Sink.faults c.args.sink.now c.put.new.sink c.from_residual.result c.in_err-put.field-0.0 _ c.from_residual.ensures.0
    (cell_stop g.K.Sink.taken g.K.Sink.faults (sight_of c.args.machine.now) (job_row c.args.row.now) c.args.job c.args.sink.now c.cells.sink c.put.new.sink c.in_err-put.field-0.0 c.args.from c.cells.done c.args.count c.cell_line.result c.cells.invariant.1 c.cell_line.ensures c.cells-test.true c.in_err-put.ensures)

pub returns : goal.returns
returns g c =
    let end : c.cells.done ≡ c.args.count = let inside = c.cells.invariant.0 in let past = c.cells-test.false in omega (arith, inside, past) in
    puts_as g.K.Sink.taken g.K.Sink.faults c.args.sink.now c.cells.sink (Ok tt) _ _ (ap (λ n. shapes_text (sight_of c.args.machine.now) (job_row c.args.row.now) c.args.job (cells_in c.args.machine.now.cpu.core c.args.from n)) end) c.cells.invariant.1
