use Rattle.std.proofs.Common.{ap, sym, ◌∙◌, Ok}
use Rattle.b67_job.proofs.Cards.{assembled_file}
use Rattle.b67_job.proofs.asm.assembled_text.Goals as goal

pub returns-in-Ok-text_of : goal.returns-in-Ok-text_of
returns-in-Ok-text_of c = assembled_file c.args.cards.now c.in-Ok.file c.in-Ok.ensures.0 c.in-Ok.ensures.1 c.in-Ok.ensures.2 ∙ ap Ok (sym c.in-Ok-text_of.ensures)
