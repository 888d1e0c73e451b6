use Rattle.b67_task.proofs.Marking.{raised_none, raised_by}
use Rattle.b67_task.proofs.marks.depend.Goals as goal

pub returns-then-row-ge-SLOTS : goal.returns-then-row-ge-SLOTS
returns-then-row-ge-SLOTS c = raised_none c.args.marks.now c.args.row c.if-row-ge-SLOTS.true

pub returns : goal.returns
returns c = raised_by c.args.marks.now c.raise.new.critical c.args.row c.raise.ensures.own c.raise.ensures.others
