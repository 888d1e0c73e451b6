use Rattle.b67_job.proofs.Jobs.{decks_in_range}
use Rattle.b67_job.proofs.ranges.decks_are_in_range.Goals as goal

pub returns : goal.returns
returns c = λ text d e. decks_in_range text d e
