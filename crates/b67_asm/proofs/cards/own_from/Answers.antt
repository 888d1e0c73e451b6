use Rattle.std.proofs.Common.{◌≡◌, false, sym, ap, subst, ◌∙◌, List}
use Rattle.b67_model_text.specs.declared.assembly.Line.{Line}
use Rattle.b67_model_text.specs.Asm.{own}
use Rattle.b67_asm.specs.Blocks.{has_entry_card}
use Rattle.b67_asm.proofs.Entries.{plain_rest}
use Rattle.b67_asm.proofs.cards.own_from.Goals as goal

pub returns-clause-plain : goal.returns-clause-plain
returns-clause-plain c = λ none. subst (λ (lines : List Line). has_entry_card lines ≡ false) (sym (c.own_of.ensures.own ∙ ap own c.rest_from.ensures.rest)) (plain_rest c.args.from c.args.lines.now none)
