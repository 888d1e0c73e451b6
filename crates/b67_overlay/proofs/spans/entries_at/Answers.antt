use Rattle.std.proofs.Common.{sym, ◌∙◌, arith}
use Rattle.b67_overlay.proofs.Families.{entries_field}
use Rattle.b67_overlay.proofs.spans.entries_at.Goals as goal

pub overflow_add-at : goal.overflow_add-at
overflow_add-at c = omega (arith, c.requires.inside, c.requires.small)

pub returns-clause-value : goal.returns-clause-value
returns-clause-value c = λ n h e. c.part.ensures.value ∙ entries_field n c.get.result h (sym c.get.ensures ∙ e)
