use Rattle.b67_job.proofs.Prepared.{prepared_in_range}
use Rattle.b67_job.proofs.ranges.prepared_decks_are_in_range.Goals as goal

pub returns : goal.returns
returns c = λ text d ps e. prepared_in_range text d ps e
