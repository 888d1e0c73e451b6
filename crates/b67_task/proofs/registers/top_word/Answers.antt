use Rattle.std.proofs.Common.{◌∙◌}
use Rattle.b67_task.proofs.TopWords.{running_top, running_word}
use Rattle.b67_task.proofs.registers.top_word.Goals as goal

pub word-requires : goal.word-requires
word-requires c = let q = c.requires in running_top q.storage c.args.cpu.now.core c.args.cpu.now.regs q.machine_view q.stands q.stack q.runs

pub returns : goal.returns
returns c = λ x p stack s u. c.word.ensures ∙ running_word x c.args.cpu.now.core c.args.cpu.now.regs p s stack u
