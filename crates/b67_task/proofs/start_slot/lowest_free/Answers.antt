use Rattle.std.proofs.Common.{◌≡◌, ℕ, ◌+◌, ◌≤◌, sym, ◌∙◌, ap, arith, inl, inr, subst, refl}
use Rattle.std.specs.List.{slice_get}
use Rattle.std.proofs.lemmas.Bool.{cases_lt}
use Rattle.b67_task.proofs.Opens.{IsTaken, few, lowest}
use Rattle.b67_task.proofs.start_slot.lowest_free.Goals as goal

pub get-requires : goal.get-requires
get-requires c =
    let q = c.requires in
    let f = few q.storage c.args.core.now c.args.regs.now q.marks q.plan q.session q.holds in
    omega (arith, f.0, f.1, f.2, c.from.ensures, c.loop-slot-test.true)

pub returns-then-tag-eq0 : goal.returns-then-tag-eq0
returns-then-tag-eq0 c = λ x marks plan s h.
    let f = few x c.args.core.now c.args.regs.now marks plan s h in
    let at : 32 + c.loop-slot.slot ≡ 32 + c.loop-slot.slot = refl in
    let low : c.loop-slot.slot ≤ plan.peak = omega (arith, f.0, c.loop-slot-test.true) in
    (lowest x c.args.core.now c.args.regs.now marks plan s h c.loop-slot.slot low c.loop-slot.invariant (inr (c.get.result, ap (λ (n : ℕ). slice_get c.args.core.now (32 + n)) (sym c.from.ensures) ∙ c.get.ensures, sym c.tag.ensures.value ∙ c.if-tag-eq0.true)), low)

pub loop-slot-preserved : goal.loop-slot-preserved
loop-slot-preserved c = λ i low. elim (cases_lt i c.loop-slot.slot) [
  | inl less ↦ c.loop-slot.invariant i less
  | inr more ↦
      (let e : c.loop-slot.slot ≡ i = omega (arith, more, low) in
      subst (IsTaken c.args.core.now) e (c.get.result, ap (λ (n : ℕ). slice_get c.args.core.now (32 + n)) (sym c.from.ensures) ∙ c.get.ensures, λ z. c.if-tag-eq0.false (c.tag.ensures.value ∙ z)))
]

pub returns : goal.returns
returns c = λ x marks plan s h.
    let f = few x c.args.core.now c.args.regs.now marks plan s h in
    let low : c.args.regs.now.peak ≤ plan.peak = omega (arith, f.0) in
    (lowest x c.args.core.now c.args.regs.now marks plan s h c.args.regs.now.peak low (λ i less. c.loop-slot.invariant i (omega (arith, less, c.loop-slot-test.false))) (inl f.0), low)
