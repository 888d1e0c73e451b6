use Rattle.std.proofs.Common.{[], refl}
use Rattle.b67_layout.specs.Tops.{cells}
use Rattle.b67_exec_cells.proofs.Rows.{marked}
use Rattle.b67_exec_cells.proofs.branches.branch_to.Goals as goal

pub drop_cells-requires-clause-cells : goal.drop_cells-requires-clause-cells
drop_cells-requires-clause-cells c = marked c.args.cpu.now c.requires

pub returns-clause-row : goal.returns-clause-row
returns-clause-row c = λ x plan s m t ordered h runs. c.drop_cells.ensures.row x plan s m t ordered h runs [] (cells t) refl refl tt
