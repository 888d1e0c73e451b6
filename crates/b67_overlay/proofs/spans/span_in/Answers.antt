use Rattle.std.proofs.Common.{ℕ, ◌+◌, refl, sym, ◌∙◌, ap}
use Rattle.std.specs.List.{slice_get}
use Rattle.b67_overlay.specs.Spans.{span_of_kin}
use Rattle.b67_overlay.proofs.Families.{lives_here, nobody_here}
use Rattle.b67_overlay.proofs.spans.span_in.Goals as goal

pub returns-then-tag-eq0 : goal.returns-then-tag-eq0
returns-then-tag-eq0 c = λ low p f l s.
    let (low', p', f', l', s', o, small) = c.requires in
    let read = ap (λ (n : ℕ). slice_get c.args.core.now (32 + n)) (sym c.from.ensures) ∙ c.get.ensures in
    sym (nobody_here f p c.args.original c.args.slot (f.kin c.args.slot) c.get.result (sym c.tag.ensures.value ∙ c.if-tag-eq0.true) (sym read ∙ s.vector c.args.slot small))

pub span_of_task-requires : goal.span_of_task-requires
span_of_task-requires c =
    let (low, p, f, l, s, o, small) = c.requires in
    let read = ap (λ (n : ℕ). slice_get c.args.core.now (32 + n)) (sym c.from.ensures) ∙ c.get.ensures in
    let a = lives_here f c.args.slot (f.kin c.args.slot) c.get.result (λ z. c.if-tag-eq0.false (c.tag.ensures.value ∙ z)) (sym read ∙ s.vector c.args.slot small) refl in
    (low, p, f, a.0, l, s, o, a.1)

pub returns : goal.returns
returns c = λ low p f l s.
    let (low', p', f', l', s', o, small) = c.requires in
    let read = ap (λ (n : ℕ). slice_get c.args.core.now (32 + n)) (sym c.from.ensures) ∙ c.get.ensures in
    let a = lives_here f c.args.slot (f.kin c.args.slot) c.get.result (λ z. c.if-tag-eq0.false (c.tag.ensures.value ∙ z)) (sym read ∙ s.vector c.args.slot small) refl in
    c.span_of_task.ensures low p f a.0 l s a.1 ∙ ap (span_of_kin f p c.args.original c.args.slot) (sym a.1)
