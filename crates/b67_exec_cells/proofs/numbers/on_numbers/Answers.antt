use Rattle.std.proofs.Common.{refl, sym, ◌∙◌}
use Rattle.b67_arith.specs.Numerics.{of_numbers}
use Rattle.b67_model.specs.Rows as rows
use Rattle.b67_exec_cells.proofs.Rows.{two_missing, two_done, two_refused}
use Rattle.b67_exec_cells.proofs.numbers.on_numbers.Goals as goal

pub returns-in-Err : goal.returns-in-Err
returns-in-Err c = record {
  row = λ x plan s m t ordered h runs.
      (two_missing x c.args.cpu.now plan s m t c.args.next (rows.on_two (of_numbers c.args.op)) c.in-Err.fault refl (λ b. refl) (c.in-Err.ensures.cells x plan s m t ordered h runs), refl);
}

pub returns-in-Ok-combine : goal.returns-in-Ok-combine
returns-in-Ok-combine c = record {
  row = λ x plan s m t ordered h runs.
      two_done x c.args.cpu.now plan s m t c.args.next c.put_over.result c.put_over.new.cpu (of_numbers c.args.op) c.in-Ok.words.0 c.in-Ok.words.1 c.in-Ok-combine.number (c.in-Ok.ensures.cells x plan s m t ordered h runs)
      (sym c.in-Ok-combine.is ∙ c.combine.ensures) (c.put_over.ensures.row x plan s m t ordered h runs);
}

pub returns-in-Err-combine : goal.returns-in-Err-combine
returns-in-Err-combine c = record {
  row = λ x plan s m t ordered h runs.
      (two_refused x c.args.cpu.now plan s m t c.args.next (of_numbers c.args.op) c.in-Ok.words.0 c.in-Ok.words.1 c.in-Err-combine.fault (c.in-Ok.ensures.cells x plan s m t ordered h runs) (sym c.in-Err-combine.is ∙ c.combine.ensures), refl);
}
