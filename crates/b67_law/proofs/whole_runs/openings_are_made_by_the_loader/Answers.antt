use Rattle.b67_law.proofs.Opened.{openings_are_made_by_the_loader}
use Rattle.b67_law.proofs.whole_runs.openings_are_made_by_the_loader.Goals as goal

pub returns : goal.returns
returns c = openings_are_made_by_the_loader
