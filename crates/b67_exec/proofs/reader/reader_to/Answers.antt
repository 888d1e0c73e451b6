use Rattle.std.proofs.Common.{arith}
use Rattle.b67_model.specs.Common.{code_of}
use Rattle.b67_exec.proofs.Readers.{words-are, begun}
use Rattle.b67_exec.proofs.reader.reader_to.Goals as goal

pub returns-clause-at : goal.returns-clause-at
returns-clause-at c = λ x plan s m t ordered h runs.
    let same = words-are x c.args.cpu.now plan s m t ordered h runs c.args.code (c.requires.code x plan s m t ordered h runs) in
    begun c.args.code (code_of m.constants t.segment) c.args.at c.loaded.result c.requires.in_word (omega (arith, same, c.requires.inside)) (c.loaded.ensures x plan s m t ordered h runs)
