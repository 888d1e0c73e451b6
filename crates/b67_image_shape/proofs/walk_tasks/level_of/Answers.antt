use Rattle.b67_layout_shown.specs.Machines.{sight_of}
use Rattle.b67_task.specs.Tables.{task_row}
use Rattle.b67_image_shape.proofs.StandTests.{level_runs, level_waits}
use Rattle.b67_image_shape.proofs.walk_tasks.level_of.Goals as goal

pub returns-then-row-regs : goal.returns-then-row-regs
returns-then-row-regs c = level_runs (sight_of c.args.machine.now) (task_row c.args.row) c.if-row-regs.true

pub returns : goal.returns
returns c = level_waits (sight_of c.args.machine.now) (task_row c.args.row) c.base_of-base.result c.part.result c.word_seen_at-w.result c.if-row-regs.false c.base_of-base.ensures.value c.word_seen_at-w.ensures c.part.ensures.value
