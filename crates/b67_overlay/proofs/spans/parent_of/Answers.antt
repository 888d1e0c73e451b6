use Rattle.std.proofs.Common.{sym, ◌∙◌, ap, arith}
use Rattle.std.proofs.lemmas.Option.{same_Some}
use Rattle.b67_ctl.specs.declared.vector.VectorWord.{VectorWord}
use Rattle.b67_overlay.specs.Spans.{parent_field}
use Rattle.b67_overlay.proofs.spans.parent_of.Goals as goal

pub overflow_add-slot : goal.overflow_add-slot
overflow_add-slot c = omega (arith, c.requires.inside, c.requires.small)

pub returns-clause-value : goal.returns-clause-value
returns-clause-value c = λ a hj hk e.
    let v : VectorWord = record { parent = parent_field a.parents; job = a.job } in
    let is = c.read.ensures.value v (record { parent = hk; job = hj }) (same_Some _ _ (sym c.get.ensures ∙ e)) in
    c.from.ensures ∙ ap (λ (w : VectorWord). w.parent) is
