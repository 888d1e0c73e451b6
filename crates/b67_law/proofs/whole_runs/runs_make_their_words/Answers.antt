use Rattle.b67_law.proofs.Makers.{runs_make_their_words}
use Rattle.b67_law.proofs.whole_runs.runs_make_their_words.Goals as goal

pub returns : goal.returns
returns c = runs_make_their_words
