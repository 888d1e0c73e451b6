use Rattle.b67_law.proofs.Makers.{sessions_keep_or_make_their_words}
use Rattle.b67_law.proofs.whole_runs.sessions_keep_or_make_their_words.Goals as goal

pub returns : goal.returns
returns c = sessions_keep_or_make_their_words
