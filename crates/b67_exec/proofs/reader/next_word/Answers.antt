use Rattle.std.proofs.Common.{arith}
use Rattle.b67_exec_cells.proofs.Codes.{short}
use Rattle.b67_exec.proofs.Readers.{words-are}
use Rattle.b67_exec.proofs.reader.next_word.Goals as goal

pub overflow_add-word : goal.overflow_add-word
overflow_add-word c =
    let q = c.requires.runs in
    let b = c.requires.stands.behind in
    let long = short q.storage c.args.cpu.now q.plan q.session q.member q.task q.ordered q.stands q.running in
    let same = words-are q.storage c.args.cpu.now q.plan q.session q.member q.task q.ordered q.stands q.running c.args.r.code (b.code q.storage q.plan q.session q.member q.task q.ordered q.stands q.running) in
    omega (arith, long, same, c.requires.stands.inside)

pub word_at-requires-clause-code : goal.word_at-requires-clause-code
word_at-requires-clause-code c = c.requires.stands.behind.code

pub returns-clause-word : goal.returns-clause-word
returns-clause-word c = λ x plan s m t ordered h runs. let e = c.word_at.ensures.word x plan s m t ordered h runs in omega (arith, e)

pub returns-clause-small : goal.returns-clause-small
returns-clause-small c = c.word_at.ensures.small

pub returns-clause-inside : goal.returns-clause-inside
returns-clause-inside c = omega (arith, c.if-from-r.false, c.from.ensures)

pub returns-then-from-r-clause-end : goal.returns-then-from-r-clause-end
returns-then-from-r-clause-end c = λ none. omega (arith, c.if-from-r.true, c.from.ensures)
