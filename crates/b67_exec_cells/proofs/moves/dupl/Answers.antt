use Rattle.std.proofs.Common.{refl, sym, ◌∙◌}
use Rattle.b67_model.specs.Rows as rows
use Rattle.b67_exec_cells.proofs.Rows.{top_missing, original_refused, doubled_top}
use Rattle.b67_exec_cells.proofs.moves.dupl.Goals as goal

pub returns-in-Err : goal.returns-in-Err
returns-in-Err c = record {
  row = λ x plan s m t ordered h runs.
      (top_missing x c.args.cpu.now plan s m t c.args.next rows.dupl c.in-Err.fault refl (c.in-Err.ensures.cell x plan s m t ordered h runs), refl);
}

pub returns-then-is_original : goal.returns-then-is_original
returns-then-is_original c = record {
  row = λ x plan s m t ordered h runs. (
    original_refused x c.args.cpu.now plan s m t c.args.next rows.dupl c.in-Ok.word (λ a rest e. rw e refl) (c.in-Ok.ensures.cell x plan s m t ordered h runs)
        (λ w f. sym (c.is_original.ensures x plan m t w c.args.cpu.now.regs.s f) ∙ c.if-is_original.true),
    refl,
  );
}

pub returns : goal.returns
returns c = record {
  row = λ x plan s m t ordered h runs.
      doubled_top x c.args.cpu.now plan s m t c.args.next ordered runs c.replace_cells.result c.replace_cells.new.cpu c.in-Ok.word (c.in-Ok.ensures.cell x plan s m t ordered h runs)
      (λ w f. sym (c.is_original.ensures x plan m t w c.args.cpu.now.regs.s f) ∙ c.if-is_original.false) (c.replace_cells.ensures.row x plan s m t ordered h runs);
}
