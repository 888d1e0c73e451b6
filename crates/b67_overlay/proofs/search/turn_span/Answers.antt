use Rattle.std.proofs.Common.{◌<◌, ◌≤◌, ◌⊎◌, Option, Some, inl, inr, ⊎_elim, refl, sym, arith, subst}
use Rattle.std.proofs.lemmas.Bool.{cases_lt}
use Rattle.b67_overlay.specs.declared.spans.Span.{Span}
use Rattle.b67_overlay.specs.Spans.{InSpan}
use Rattle.b67_overlay.proofs.search.turn_span.Goals as goal

pub returns-then-part-clause-turned : goal.returns-then-part-clause-turned
returns-then-part-clause-turned c = λ i inside.
    let at : InSpan (Some c.in-Some.part) i = subst (λ (o : Option Span). InSpan o i) c.in-Some.is inside in
    absurd (omega (arith, at.0, at.1))

pub returns-then-part-clause-others : goal.returns-then-part-clause-others
returns-then-part-clause-others c = λ i out. refl

pub turn_part-requires-clause-inside : goal.turn_part-requires-clause-inside
turn_part-requires-clause-inside c = c.requires.inside c.in-Some.part c.in-Some.is

pub returns-else-part-clause-turned : goal.returns-else-part-clause-turned
returns-else-part-clause-turned c = λ i inside.
    let at : InSpan (Some c.in-Some.part) i = subst (λ (o : Option Span). InSpan o i) c.in-Some.is inside in
    c.turn_part.ensures.turned i at.0 at.1

pub returns-else-part-clause-others : goal.returns-else-part-clause-others
returns-else-part-clause-others c = λ i out.
    let away : InSpan (Some c.in-Some.part) i → ⊥ = λ h. out (subst (λ (o : Option Span). InSpan o i) (sym c.in-Some.is) h) in
    let side : (i < c.in-Some.part.from) ⊎ (c.in-Some.part.upto ≤ i) = ⊎_elim
    (λ (low : i < c.in-Some.part.from). inl low)
    (λ (from : c.in-Some.part.from ≤ i). ⊎_elim (λ (under : i < c.in-Some.part.upto). absurd (away (from, under))) (λ (over : c.in-Some.part.upto ≤ i). inr over) (cases_lt i c.in-Some.part.upto))
    (cases_lt i c.in-Some.part.from) in
    c.turn_part.ensures.others i side

pub returns-in-None-clause-turned : goal.returns-in-None-clause-turned
returns-in-None-clause-turned c = λ i inside. absurd (subst (λ (o : Option Span). InSpan o i) c.in-None.is inside)
