use Rattle.std.proofs.Common.{◌≡◌, ℤ, true, false, w64, to_z, of_z, subst}
use Rattle.std.proofs.lemmas.Int.{to_z-of_z}
use Rattle.b67_model.specs.Intrinsics.{is_live}
use Rattle.b67_task.proofs.Living.{live_is, none_live}
use Rattle.b67_task.proofs.states.lives.Goals as goal

pub returns-in-Some : goal.returns-in-Some
returns-in-Some c = λ plan s m h.
    subst (λ (z : ℤ). true ≡ is_live m.progress.job z) (to_z-of_z w64 c.args.number c.ranges.number)
    (live_is plan s m c.args.tasks.now c.args.job h (to_z w64 (of_z w64 c.args.number)) _ (c.in-Some.ensures plan s m h))

pub returns-in-None : goal.returns-in-None
returns-in-None c = λ plan s m h.
    subst (λ (z : ℤ). false ≡ is_live m.progress.job z) (to_z-of_z w64 c.args.number c.ranges.number) (none_live m.progress.job (to_z w64 (of_z w64 c.args.number)) (c.in-None.ensures plan s m h))
