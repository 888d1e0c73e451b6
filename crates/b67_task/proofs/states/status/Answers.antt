use Rattle.std.proofs.Common.{◌≡◌, ◌∙◌, ℤ, sym, true, false, w64, to_z, of_z, subst}
use Rattle.std.proofs.lemmas.Int.{to_z-of_z}
use Rattle.b67_model.specs.Intrinsics.{status_of}
use Rattle.b67_task.specs.Tables.{state_of}
use Rattle.b67_task.specs.Lives.{status_shown}
use Rattle.b67_task.proofs.Living.{told_is, next_at, ended_is}
use Rattle.b67_task.proofs.states.status.Goals as goal

pub next_number-requires : goal.next_number-requires
next_number-requires c =
    let q = c.requires in
    let n = next_at q.plan q.session q.job_of c.args.tasks.now c.args.job q.has in
    (n.0, n.1, n.3)

pub returns-in-Some : goal.returns-in-Some
returns-in-Some c = λ plan s m h.
    c.told_of.ensures
    ∙ subst (λ (z : ℤ). status_shown (state_of c.in-Some.state) ≡ status_of m.progress.job z) (to_z-of_z w64 c.args.number c.ranges.number)
    (told_is plan s m c.args.tasks.now c.args.job h (to_z w64 (of_z w64 c.args.number)) c.in-Some.state (c.in-Some.ensures plan s m h))

pub returns-then-is_before : goal.returns-then-is_before
returns-then-is_before c = λ plan s m h.
    let n = next_at plan s m c.args.tasks.now c.args.job h in
    ended_is m.progress.job c.args.number (to_z w64 (of_z w64 c.args.number)) (to_z-of_z w64 c.args.number c.ranges.number) (c.in-None.ensures plan s m h)
    c.next_number.result (c.next_number.ensures n.0 n.1 ∙ n.2) true (sym c.if-is_before.true ∙ c.is_before.ensures)

pub returns-else-is_before : goal.returns-else-is_before
returns-else-is_before c = λ plan s m h.
    let n = next_at plan s m c.args.tasks.now c.args.job h in
    ended_is m.progress.job c.args.number (to_z w64 (of_z w64 c.args.number)) (to_z-of_z w64 c.args.number c.ranges.number) (c.in-None.ensures plan s m h)
    c.next_number.result (c.next_number.ensures n.0 n.1 ∙ n.2) false (sym c.if-is_before.false ∙ c.is_before.ensures)
