use Rattle.std.proofs.Common.{sym, subst}
use Rattle.b67_model.specs.declared.operators.Op.TheVariants.{Plain}
use Rattle.b67_model.specs.declared.operators.Code.{Code}
use Rattle.b67_model.specs.declared.operators.Code.TheVariants as codes
use Rattle.b67_exec.specs.Far.{MadeOn}
use Rattle.b67_exec.proofs.Fars.{on_by}
use Rattle.b67_exec.proofs.arms.makes_behind.Goals as goal

pub returns-in-Mkst : goal.returns-in-Mkst
returns-in-Mkst c =
    let P : Code → Type 0 = λ k. MadeOn (Plain k) c.args.next c.args.cpu.now c.is_done.result c.mkst.new.cpu c.is_done.new.why in
    subst P (sym c.in-Mkst.is) (on_by (Plain codes.Mkst) c.args.next c.args.cpu.now c.mkst.new.cpu c.requires.runs c.mkst.result c.is_done.result c.is_done.new.why c.is_done.ensures c.mkst.ensures.row c.mkst.ensures.stays)
