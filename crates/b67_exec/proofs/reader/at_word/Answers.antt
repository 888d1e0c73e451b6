use Rattle.std.proofs.Common.{arith, refl}
use Rattle.b67_model.specs.Common.{code_of}
use Rattle.b67_exec.proofs.Readers.{words-are, opened, ended}
use Rattle.b67_exec.proofs.reader.at_word.Goals as goal

pub returns-then-from-code-clause-at : goal.returns-then-from-code-clause-at
returns-then-from-code-clause-at c = λ x plan s m t ordered h runs.
    let same = words-are x c.args.cpu.now plan s m t ordered h runs c.args.code (c.requires.code x plan s m t ordered h runs) in
    ended c.args.code (code_of m.constants t.segment) c.args.word _ (omega (arith, same, c.if-from-code.true, c.from.ensures, c.requires.within)) refl

pub returns-clause-at : goal.returns-clause-at
returns-clause-at c = λ x plan s m t ordered h runs.
    let same = words-are x c.args.cpu.now plan s m t ordered h runs c.args.code (c.requires.code x plan s m t ordered h runs) in
    opened c.args.code (code_of m.constants t.segment) c.args.word c.loaded.result (omega (arith, same, c.if-from-code.false, c.from.ensures)) (c.loaded.ensures x plan s m t ordered h runs)
