use Rattle.std.proofs.Common.{rules}
use Rattle.b67_task.specs.Tables.{task_row}
use Rattle.b67_layout_shown.specs.Machines.{sight_of}
use Rattle.b67_layout_shown.proofs.Tops.{top_running, top_resting}
use Rattle.b67_layout_shown.proofs.seeing.top_of.Goals as goal

pub returns-then-row-regs-clause-s : goal.returns-then-row-regs-clause-s
returns-then-row-regs-clause-s c = rw (top_running (sight_of c.args.machine.now) (task_row c.args.row) c.if-row-regs.true) (search rules)

pub returns-then-row-regs-clause-f : goal.returns-then-row-regs-clause-f
returns-then-row-regs-clause-f c = rw (top_running (sight_of c.args.machine.now) (task_row c.args.row) c.if-row-regs.true) (search rules)

pub returns-then-row-regs-clause-segment : goal.returns-then-row-regs-clause-segment
returns-then-row-regs-clause-segment c = rw (top_running (sight_of c.args.machine.now) (task_row c.args.row) c.if-row-regs.true) (search rules)

pub returns-then-row-regs-clause-place : goal.returns-then-row-regs-clause-place
returns-then-row-regs-clause-place c = rw (top_running (sight_of c.args.machine.now) (task_row c.args.row) c.if-row-regs.true) (search rules)

pub returns-clause-s : goal.returns-clause-s
returns-clause-s c = rw (top_resting (sight_of c.args.machine.now) (task_row c.args.row) c.if-row-regs.false) (search rules)

pub returns-clause-f : goal.returns-clause-f
returns-clause-f c = rw (top_resting (sight_of c.args.machine.now) (task_row c.args.row) c.if-row-regs.false) (search rules)

pub returns-clause-segment : goal.returns-clause-segment
returns-clause-segment c = rw (top_resting (sight_of c.args.machine.now) (task_row c.args.row) c.if-row-regs.false) (search rules)

pub returns-clause-place : goal.returns-clause-place
returns-clause-place c = rw (top_resting (sight_of c.args.machine.now) (task_row c.args.row) c.if-row-regs.false) (search rules)
