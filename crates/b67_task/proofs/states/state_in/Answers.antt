use Rattle.std.proofs.Common.{◌≡◌, ◌∙◌, ℤ, None, sym, true, false, arith, w64, to_z, of_z, subst}
use Rattle.std.proofs.lemmas.Int.{to_z-of_z}
use Rattle.b67_task.specs.Lives.{FoundState}
use Rattle.b67_task.proofs.Living.{found_state, none_more, none_found}
use Rattle.b67_task.proofs.states.state_in.Goals as goal

pub loop-at-init : goal.loop-at-init
loop-at-init c = λ i q low there ej en. omega (arith, low)

pub returns-then-is_of : goal.returns-then-is_of
returns-then-is_of c = let e = c.is_of.ensures.0 c.if-is_of.true in found_state c.args.rows.now c.loop-at.at _ c.args.job c.args.number (omega (arith, c.loop-at-test.true)) e.0 (e.1 ∙ to_z-of_z w64 c.args.number c.ranges.number)

pub loop-at-preserved : goal.loop-at-preserved
loop-at-preserved c = none_more c.args.rows.now c.loop-at.at _ c.args.job (to_z w64 (of_z w64 c.args.number)) (omega (arith, c.loop-at-test.true)) c.loop-at.invariant
    (λ q. let same : false ≡ true = sym c.if-is_of.false ∙ c.is_of.ensures.1 q in let z : ⊥ = cc in z)

pub returns : goal.returns
returns c = subst (λ (z : ℤ). FoundState c.args.rows.now c.args.job z None) (to_z-of_z w64 c.args.number c.ranges.number)
    (none_found c.args.rows.now c.loop-at.at c.args.job (to_z w64 (of_z w64 c.args.number)) (omega (arith, c.loop-at-test.false)) c.loop-at.invariant)
