use Rattle.b67_task.proofs.Rooms.{none_if, room_if}
use Rattle.b67_task.proofs.choosing.choose.Goals as goal

pub returns-clause-none : goal.returns-clause-none
returns-clause-none c = λ plan s o shows. none_if plan s o c.args.tasks.now shows c.by_rules.result (c.by_rules.ensures plan s o shows)

pub returns-clause-room : goal.returns-clause-room
returns-clause-room c = λ plan s o shows. room_if plan s o c.args.tasks.now shows c.by_rules.result (c.by_rules.ensures plan s o shows)
