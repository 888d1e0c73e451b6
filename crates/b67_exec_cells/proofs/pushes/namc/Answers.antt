use Rattle.std.proofs.Common.{[], refl, arith}
use Rattle.b67_model.specs.Words.{Name}
use Rattle.b67_layout.specs.Tops.{cells}
use Rattle.b67_exec_cells.proofs.Rows.{marked}
use Rattle.b67_exec_cells.proofs.pushes.namc.Goals as goal

pub replace_cells-requires-clause-cells : goal.replace_cells-requires-clause-cells
replace_cells-requires-clause-cells c = marked c.args.cpu.now c.requires.runs

pub returns : goal.returns
returns c = record {
  row = λ x plan s m t ordered h runs.
      c.replace_cells.ensures.row x plan s m t ordered h runs [] (cells t) (Name c.args.couple) refl refl tt tt (c.word.ensures, λ z. omega (arith, z));
}
