use Rattle.std.proofs.Common.{sym, ◌∙◌, arith, ◌-◌}
use Rattle.b67_layout_shown.specs.Machines.{sight_of}
use Rattle.b67_task.specs.Tables.{task_row, job_row}
use Rattle.b67_image_shape.proofs.CellTurns.{cells_next, cells_stop}
use Rattle.b67_image_shape.proofs.cells.cells_stand.Goals as goal

pub returns-then-not-cell_stands : goal.returns-then-not-cell_stands
returns-then-not-cell_stands c =
    cells_stop (sight_of c.args.task.now.machine.now) c.args.task.now.records.now c.args.task.now.kinds.now (job_row c.args.task.now.job.now) (task_row c.args.task.now.row) c.args.high c.args.s c.args.from c.args.many c.down.left (c.down.left - 1) (omega (arith, c.down-test.true)) c.down.invariant.1 (sym c.cell_stands.ensures ∙ c.if-not-cell_stands.true)

pub down-preserved : goal.down-preserved
down-preserved c = (
  (let low = c.down.invariant.0 in omega (arith, low)),
  cells_next (sight_of c.args.task.now.machine.now) c.args.task.now.records.now c.args.task.now.kinds.now (job_row c.args.task.now.job.now) (task_row c.args.task.now.row) c.args.high c.args.s c.args.from c.args.many c.down.left (c.down.left - 1) (omega (arith, c.down-test.true)) c.down.invariant.1 (sym c.cell_stands.ensures ∙ c.if-not-cell_stands.false),
)
