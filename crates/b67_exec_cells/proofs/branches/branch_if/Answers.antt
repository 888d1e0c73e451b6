use Rattle.std.proofs.Common.{◌%◌, ◌==◌, ℕ, refl, sym, ◌∙◌, ap}
use Rattle.std.proofs.Math.Bool.{beq}
use Rattle.b67_exec_cells.proofs.Targets.{branch_missing, branch_refused, branch_taken, branch_passed}
use Rattle.b67_exec_cells.proofs.branches.branch_if.Goals as goal

pub returns-in-Err : goal.returns-in-Err
returns-in-Err c = record {
  row = λ x plan s m t ordered h runs.
      (branch_missing x c.args.cpu.now plan s m t c.args.wanted c.args.target c.args.next c.in-Err.fault (c.in-Err.ensures.cell x plan s m t ordered h runs), refl);
}

pub returns-then-tag-ne0 : goal.returns-then-tag-ne0
returns-then-tag-ne0 c = record {
  row = λ x plan s m t ordered h runs.
      (branch_refused x c.args.cpu.now plan s m t c.args.wanted c.args.target c.args.next c.in-Ok.word (c.in-Ok.ensures.cell x plan s m t ordered h runs) (λ e. c.if-tag-ne0.true (c.tag.ensures.value ∙ e)), refl);
}

pub returns-then-bits-wanted : goal.returns-then-bits-wanted
returns-then-bits-wanted c = record {
  row = λ x plan s m t ordered h runs.
      branch_taken x c.args.cpu.now plan s m t c.args.wanted c.args.target c.args.next c.drop_cells.new.cpu c.in-Ok.word (c.in-Ok.ensures.cell x plan s m t ordered h runs) (sym c.tag.ensures.value ∙ c.if-tag-ne0.false)
      (ap (λ (n : ℕ). beq (n % 2 == 1) c.args.wanted) (sym c.bits.ensures.value) ∙ c.if-bits-wanted.true) (c.drop_cells.ensures.row x plan s m t ordered h runs);
}

pub returns-else-bits-wanted : goal.returns-else-bits-wanted
returns-else-bits-wanted c = record {
  row = λ x plan s m t ordered h runs.
      branch_passed x c.args.cpu.now plan s m t c.args.wanted c.args.target c.args.next c.drop_cells-else-bits-wanted.new.cpu c.in-Ok.word (c.in-Ok.ensures.cell x plan s m t ordered h runs) (sym c.tag.ensures.value ∙ c.if-tag-ne0.false)
      (ap (λ (n : ℕ). beq (n % 2 == 1) c.args.wanted) (sym c.bits.ensures.value) ∙ c.if-bits-wanted.false) (c.drop_cells-else-bits-wanted.ensures.row x plan s m t ordered h runs);
}
