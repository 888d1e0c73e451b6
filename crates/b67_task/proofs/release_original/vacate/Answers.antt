use Rattle.std.proofs.Common.{ℕ, Option, sym, subst}
use Rattle.b67_task.specs.Released.{Vacated}
use Rattle.b67_task.proofs.FreedArrays.{present_area, vacated_some}
use Rattle.b67_task.proofs.release_original.vacate.Goals as goal

pub returns-clause-vacated : goal.returns-clause-vacated
returns-clause-vacated c = λ spans h d f.
    let p = present_area h c.args.original.present c.args.original.address c.if-not-original.false f.present f.address in
    let a = f.area c.args.original.address p in
    let e = c.free.ensures in
    let P : Option ℕ → Type 0 = λ o. Vacated c.args.areas.now.low o spans c.args.core.now c.free.new.core in
    subst P (sym p) (vacated_some c.args.areas.now.low c.args.original.address spans c.args.core.now c.free.new.core (e.row spans a.0 d a.1) (e.outside spans a.0 d a.1) (e.areas spans) e.len)
