use Rattle.std.proofs.Common.{refl, sym, ◌∙◌}
use Rattle.b67_exec_cells.specs.Meanings.{of_two}
use Rattle.b67_model.specs.Rows as rows
use Rattle.b67_exec_cells.proofs.Rows.{two_missing, two_done, two_refused}
use Rattle.b67_exec_cells.proofs.numbers.on_two.Goals as goal

pub returns-in-Err-clause-row : goal.returns-in-Err-clause-row
returns-in-Err-clause-row c = λ x plan s m t ordered h runs.
    (two_missing x c.args.cpu.now plan s m t c.args.next (rows.on_two (of_two c.args.op)) c.in-Err.fault refl (λ b. refl) (c.in-Err.ensures.cells x plan s m t ordered h runs), refl)

pub returns-in-Ok-compute-clause-row : goal.returns-in-Ok-compute-clause-row
returns-in-Ok-compute-clause-row c = λ x plan s m t ordered h runs.
    two_done x c.args.cpu.now plan s m t c.args.next c.put_over.result c.put_over.new.cpu (of_two c.args.op) c.in-Ok.words.0 c.in-Ok.words.1 c.in-Ok-compute.w (c.in-Ok.ensures.cells x plan s m t ordered h runs)
    (sym c.in-Ok-compute.is ∙ c.compute.ensures) (c.put_over.ensures.row x plan s m t ordered h runs)

pub returns-in-Err-compute-clause-row : goal.returns-in-Err-compute-clause-row
returns-in-Err-compute-clause-row c = λ x plan s m t ordered h runs.
    (two_refused x c.args.cpu.now plan s m t c.args.next (of_two c.args.op) c.in-Ok.words.0 c.in-Ok.words.1 c.in-Err-compute.fault (c.in-Ok.ensures.cells x plan s m t ordered h runs) (sym c.in-Err-compute.is ∙ c.compute.ensures), refl)
