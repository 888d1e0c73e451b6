use Rattle.std.proofs.Common.{◌≡◌, ◌-◌, suc, sym, ◌∙◌, ap, arith}
use Rattle.b67_dump.specs.Walk.{marks_in}
use Rattle.b67_dump.specs.Records.{top_above}
use Rattle.b67_dump.proofs.Printed.{top_is}
use Rattle.b67_dump.proofs.walking.top_at.Goals as goal

pub returns-then-above-eq0 : goal.returns-then-above-eq0
returns-then-above-eq0 c = λ turns inside. sym (ap (top_above c.args.top (marks_in c.args.core.now turns c.args.mark)) c.if-above-eq0.true)

pub returns-else-above-eq0 : goal.returns-else-above-eq0
returns-else-above-eq0 c = λ turns inside.
    let marks = marks_in c.args.core.now turns c.args.mark in
    let on : suc (c.args.above - 1) ≡ c.args.above = omega (arith, c.if-above-eq0.false) in
    c.saturating_sub.ensures ∙ ap (λ n. n - 1) (c.mark_at.ensures turns (omega (arith, c.if-above-eq0.false, inside)))
    ∙ sym (top_is c.args.top marks (c.args.above - 1) (omega (arith, c.if-above-eq0.false, inside))) ∙ ap (top_above c.args.top marks) on
