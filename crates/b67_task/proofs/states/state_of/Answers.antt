use Rattle.std.proofs.Common.{ℤ, w64, to_z, of_z, subst}
use Rattle.std.proofs.lemmas.Int.{to_z-of_z}
use Rattle.b67_task.specs.Lives.{StateIs}
use Rattle.b67_task.proofs.Living.{state_is}
use Rattle.b67_task.proofs.states.state_of.Goals as goal

pub returns : goal.returns
returns c = λ plan s m h.
    subst (λ (z : ℤ). StateIs plan m z c.state_in.result) (to_z-of_z w64 c.args.number c.ranges.number)
    (state_is plan s m c.args.tasks.now c.args.job h (to_z w64 (of_z w64 c.args.number)) c.as_slice.result.now c.as_slice.ensures.value c.state_in.result c.state_in.ensures)
