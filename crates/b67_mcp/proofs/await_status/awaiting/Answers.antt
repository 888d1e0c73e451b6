use Rattle.std.proofs.Common.{◌≡◌, ℤ, ◌∙◌, ap, arith, w64, to_z, of_z}
use Rattle.std.specs.Prelude.{pos, nat_abs}
use Rattle.std.proofs.lemmas.Int.{to_z-of_z}
use Rattle.b67_task.specs.declared.tables.TaskState.TheVariants.{Awaits}
use Rattle.b67_mcp.proofs.await_status.awaiting.Goals as goal

pub overflow_cast-result : goal.overflow_cast-result
overflow_cast-result c =
    let (n, is, low) = c.requires in
    let e : to_z w64 (of_z w64 c.args.number) ≡ pos n = to_z-of_z w64 c.args.number c.ranges.number ∙ is in
    rw e (tt, omega (arith, low, c.ranges.next))

pub returns : goal.returns
returns c = λ n is. ap (λ (z : ℤ). Awaits (nat_abs z)) (to_z-of_z w64 c.args.number c.ranges.number ∙ is)
