use Rattle.b67_layout_shown.specs.Machines.{sight_of}
use Rattle.b67_task.specs.Tables.{task_row}
use Rattle.b67_image_shape.proofs.StandTests.{top_runs_fit, top_waits_fit}
use Rattle.b67_image_shape.proofs.walk_tasks.top_fits.Goals as goal

pub returns-then-row-regs : goal.returns-then-row-regs
returns-then-row-regs c = top_runs_fit (sight_of c.args.machine.now) (task_row c.args.row) c.base_of-base.result _ c.if-row-regs.true c.base_of-base.ensures.value c.registers_fit.ensures

pub returns : goal.returns
returns c = top_waits_fit (sight_of c.args.machine.now) (task_row c.args.row) c.base_of-base.result c.word_seen_at.result _ c.if-row-regs.false c.base_of-base.ensures.value c.word_seen_at.ensures c.is_toscw.ensures
