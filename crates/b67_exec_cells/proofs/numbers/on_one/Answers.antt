use Rattle.std.proofs.Common.{refl, sym, ◌∙◌}
use Rattle.b67_exec_cells.specs.Meanings.{of_one}
use Rattle.b67_model.specs.Rows as rows
use Rattle.b67_exec_cells.proofs.Rows.{top_missing, one_done, one_refused}
use Rattle.b67_exec_cells.proofs.numbers.on_one.Goals as goal

pub returns-in-Err-clause-row : goal.returns-in-Err-clause-row
returns-in-Err-clause-row c = λ x plan s m t ordered h runs.
    (top_missing x c.args.cpu.now plan s m t c.args.next (rows.on_one (of_one c.args.op)) c.in-Err.fault refl (c.in-Err.ensures.cell x plan s m t ordered h runs), refl)

pub returns-in-Ok-change-clause-row : goal.returns-in-Ok-change-clause-row
returns-in-Ok-change-clause-row c = λ x plan s m t ordered h runs.
    one_done x c.args.cpu.now plan s m t c.args.next c.put_over.result c.put_over.new.cpu (of_one c.args.op) c.in-Ok.word c.in-Ok-change.w (c.in-Ok.ensures.cell x plan s m t ordered h runs)
    (sym c.in-Ok-change.is ∙ c.change.ensures) (c.put_over.ensures.row x plan s m t ordered h runs)

pub returns-in-Err-change-clause-row : goal.returns-in-Err-change-clause-row
returns-in-Err-change-clause-row c = λ x plan s m t ordered h runs.
    (one_refused x c.args.cpu.now plan s m t c.args.next (of_one c.args.op) c.in-Ok.word c.in-Err-change.fault (c.in-Ok.ensures.cell x plan s m t ordered h runs) (sym c.in-Err-change.is ∙ c.change.ensures), refl)
