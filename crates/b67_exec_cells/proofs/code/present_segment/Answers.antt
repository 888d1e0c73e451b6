use Rattle.std.proofs.lemmas.Bool.{not-false, not-true}
use Rattle.b67_exec_cells.proofs.Codes.{absent}
use Rattle.b67_exec_cells.proofs.code.present_segment.Goals as goal

pub returns-then-not-desc : goal.returns-then-not-desc
returns-then-not-desc c = λ x plan s m t ordered h runs.
    absent x c.args.cpu.now plan s m t ordered h runs c.descriptor-desc.result (c.descriptor-desc.ensures x plan s m t ordered h runs) (not-true _ c.if-not-desc.true)

pub returns : goal.returns
returns c = λ x plan s m t ordered h runs. (c.descriptor-desc.ensures x plan s m t ordered h runs, not-false _ c.if-not-desc.false)
