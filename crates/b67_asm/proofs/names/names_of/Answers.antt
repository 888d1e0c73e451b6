use Rattle.b67_model_text.specs.Asm.{cards_of_segments}
use Rattle.b67_asm.proofs.Taking.{syllable_is, entry_is}
use Rattle.b67_asm.proofs.names.names_of.Goals as goal

pub returns : goal.returns
returns c = λ j. record {
  means = λ q. c.in_ok-meanings.ensures q j;
  label = λ n q. syllable_is c.in_ok-segments.segments.items (cards_of_segments c.args.lines.now) n q c.in_ok-segments.ensures j;
  entry = λ n q. entry_is c.in_ok-segments.segments.items (cards_of_segments c.args.lines.now) n q c.in_ok-segments.ensures j;
}
