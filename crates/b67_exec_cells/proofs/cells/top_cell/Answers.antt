use Rattle.std.proofs.Common.{arith}
use Rattle.b67_layout.specs.Tops.{cells}
use Rattle.b67_exec_cells.proofs.Put.{room, top_given, none_given}
use Rattle.b67_exec_cells.proofs.cells.top_cell.Goals as goal

pub returns-then-not-has_cells-clause-cell : goal.returns-then-not-has_cells-clause-cell
returns-then-not-has_cells-clause-cell c = λ x plan s m t ordered h runs.
    let few = c.has_cells.ensures.few c.if-not-has_cells.true x plan s m t ordered h runs in
    none_given x c.args.cpu.now plan m t (cells t) (omega (arith, few))

pub get-requires : goal.get-requires
get-requires c = let q = c.requires in let r = room q.storage c.args.cpu.now q.plan q.session q.member q.task q.ordered q.stands q.running in omega (arith, r.last, r.under, r.inside)

pub returns-clause-cell : goal.returns-clause-cell
returns-clause-cell c = λ x plan s m t ordered h runs.
    let enough = c.has_cells.ensures.enough c.if-not-has_cells.false x plan s m t ordered h runs in
    top_given x c.args.cpu.now plan s m t ordered h runs c.get.result c.get.ensures (omega (arith, enough))
