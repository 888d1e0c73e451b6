use Rattle.std.proofs.Common.{arith, ap, ◌∙◌, get_or}
use Rattle.b67_exec.proofs.Readers.{word-in, in-core, range-long}
use Rattle.b67_exec.proofs.reader.word_at.Goals as goal

pub words-words-requires : goal.words-words-requires
words-words-requires c =
    let q = c.requires.runs in
    in-core q.storage c.args.cpu.now q.plan q.session q.member q.task q.ordered q.stands q.running c.args.code (c.requires.code q.storage q.plan q.session q.member q.task q.ordered q.stands q.running)

pub bounds-words-from : goal.bounds-words-from
bounds-words-from c =
    let q = c.requires.runs in
    let n = range-long q.storage c.args.cpu.now q.plan q.session q.member q.task q.ordered q.stands q.running c.args.code (c.requires.code q.storage q.plan q.session q.member q.task q.ordered q.stands q.running) c.words-words.result.now c.words-words.ensures in
    omega (arith, n, c.from.ensures, c.requires.inside)

pub returns-clause-word : goal.returns-clause-word
returns-clause-word c = λ x plan s m t ordered h runs.
    let w = c.index-words-from.result in
    let got = c.index-words-from.is ∙ ap (λ i. get_or c.words-words.result.now i w) c.from.ensures in
    let is = word-in x c.args.cpu.now plan s m t ordered h runs c.args.code (c.requires.code x plan s m t ordered h runs) c.words-words.result.now c.args.word w c.words-words.ensures c.requires.inside got in
    omega (arith, is, c.bits.ensures.value)

pub returns-clause-small : goal.returns-clause-small
returns-clause-small c = c.bits.ensures.small
