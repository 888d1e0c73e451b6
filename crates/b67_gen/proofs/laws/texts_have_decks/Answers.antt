use Rattle.b67_gen.proofs.Read.{generated_has_deck}
use Rattle.b67_gen.proofs.laws.texts_have_decks.Goals as goal

pub returns : goal.returns
returns c = generated_has_deck
