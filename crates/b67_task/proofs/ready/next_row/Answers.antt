use Rattle.std.proofs.Common.{◌≡◌, ◌+◌, ◌∙◌, ℕ, length, sym, subst, arith, inl, refl}
use Rattle.b67_model.specs.Schedule.{Who}
use Rattle.b67_task.specs.Chosen.{who_is, IsDistance}
use Rattle.b67_task.proofs.Nearer.{Nearest, nearest_as, seen, passes, stays, takes, no_row, one_row}
use Rattle.b67_task.proofs.ready.next_row.Goals.{then-is_ready+then-far-nearest, then-is_ready+else-far-nearest, else-is_ready}
use Rattle.b67_task.proofs.ready.next_row.Goals as goal

pub loop-at-init : goal.loop-at-init
loop-at-init c = inl (refl, refl, λ k w lt a. absurd (omega (arith, lt)))

pub loop-at-preserved : goal.loop-at-preserved
loop-at-preserved c =
    let rows = c.args.rows.now in
    let last = who_is c.args.last in
    let at = seen rows c.loop-at.at _ (omega arith) in
    elim c.if-is_ready.branch [
      | then-is_ready+then-far-nearest w ↦
          nearest_as (c.loop-at.at + 1) rows last _ _ c.if-is_ready.nearest c.if-is_ready.best w.nearest-is w.best-is
          (takes rows c.loop-at.at _ at last c.loop-at.nearest c.loop-at.best w.distance-far.result (sym c.is_ready.ensures ∙ w.if-is_ready.true) w.if-far-nearest.true
          (subst (λ (v : Who). IsDistance last v w.distance-far.result) w.who_of.ensures w.distance-far.ensures) c.loop-at.invariant)
      | then-is_ready+else-far-nearest w ↦
          nearest_as (c.loop-at.at + 1) rows last _ _ c.if-is_ready.nearest c.if-is_ready.best w.nearest-is w.best-is
          (stays rows c.loop-at.at _ at last c.loop-at.nearest c.loop-at.best w.distance-far.result w.if-far-nearest.false
          (subst (λ (v : Who). IsDistance last v w.distance-far.result) w.who_of.ensures w.distance-far.ensures) c.loop-at.invariant)
      | else-is_ready w ↦
          nearest_as (c.loop-at.at + 1) rows last _ _ c.if-is_ready.nearest c.if-is_ready.best w.nearest-is w.best-is
          (passes rows c.loop-at.at _ at last c.loop-at.nearest c.loop-at.best (sym c.is_ready.ensures ∙ w.if-is_ready.false) c.loop-at.invariant)
    ]

pub returns-then-best : goal.returns-then-best
returns-then-best c =
    let rows = c.args.rows.now in
    let is : c.loop-at.at ≡ length rows = omega arith in
    no_row rows (who_is c.args.last) c.loop-at.nearest c.loop-at.best (omega arith) c.if-best.true (subst (λ (n : ℕ). Nearest n rows (who_is c.args.last) c.loop-at.nearest c.loop-at.best) is c.loop-at.invariant)

pub returns-else-best : goal.returns-else-best
returns-else-best c =
    let rows = c.args.rows.now in
    let is : c.loop-at.at ≡ length rows = omega arith in
    one_row rows (who_is c.args.last) c.loop-at.nearest c.loop-at.best c.if-best.false (subst (λ (n : ℕ). Nearest n rows (who_is c.args.last) c.loop-at.nearest c.loop-at.best) is c.loop-at.invariant)
