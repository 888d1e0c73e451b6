use Rattle.std.proofs.Common.{◌+◌, ap, ◌∙◌, arith}
use Rattle.b67_word.specs.Tagged.{word}
use Rattle.b67_session.proofs.Writes.{task_lies, task_outside}
use Rattle.b67_session.proofs.laying.lay_first_task.Goals as goal

pub returns-clause-task : goal.returns-clause-task
returns-clause-task c =
    task_lies c.args.core.now c.set.new.self c.set-2.new.self c.set-3.new.self c.set-4.new.self c.args.at c.args.slot (32 + c.from.result) c.word.result c.word-2.result c.word-3.result c.of.result
    (record { is = c.set.ensures.value; inside = omega arith })
    (record { is = c.set-2.ensures.value; inside = omega arith })
    (record { is = c.set-3.ensures.value; inside = omega arith })
    (record { is = c.set-4.ensures.value; inside = omega arith })
    (omega arith) c.requires.above c.requires.few
    (c.word.ensures ∙ ap (word 3) (omega arith))
    (c.word-2.ensures ∙ ap (word 3) (omega arith))
    (c.word-3.ensures ∙ ap (word 3) (omega arith))
    c.of.ensures

pub returns-clause-outside : goal.returns-clause-outside
returns-clause-outside c =
    task_outside c.args.core.now c.set.new.self c.set-2.new.self c.set-3.new.self c.set-4.new.self c.args.at c.args.slot (32 + c.from.result) c.word.result c.word-2.result c.word-3.result c.of.result
    (record { is = c.set.ensures.value; inside = omega arith })
    (record { is = c.set-2.ensures.value; inside = omega arith })
    (record { is = c.set-3.ensures.value; inside = omega arith })
    (record { is = c.set-4.ensures.value; inside = omega arith })
    (omega arith) c.requires.above c.requires.few
