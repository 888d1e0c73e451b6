use Rattle.std.proofs.Common.{refl, sym, subst, None}
use Rattle.b67_model.specs.Steps.{leaves_cells}
use Rattle.b67_layout.specs.Meets.{here, IsMade}
use Rattle.b67_stack.specs.declared.Cpu.{Cpu}
use Rattle.b67_exec_cells.proofs.Put.{dropped}
use Rattle.b67_exec_cells.proofs.cells.drop_cells.Goals as goal

pub returns-clause-row : goal.returns-clause-row
returns-clause-row c = λ x plan s m t ordered h runs gone rest e n plain.
    let P : Cpu → Type 0 = λ now. IsMade x plan s m c.args.cpu.now now (leaves_cells (here m t c.args.next) rest None) in
    subst P (sym c.go_on_at.ensures) (dropped x c.args.cpu.now plan s m t ordered h runs c.args.count c.args.next gone rest e n plain)

pub returns-clause-stays : goal.returns-clause-stays
returns-clause-stays c = rw c.go_on_at.ensures (record { dict = refl; segment = refl; place = refl })
