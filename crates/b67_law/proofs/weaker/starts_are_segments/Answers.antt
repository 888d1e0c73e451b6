use Rattle.b67_law.proofs.Sessions as S
use Rattle.b67_law.proofs.weaker.starts_are_segments.Goals as goal

pub returns : goal.returns
returns c = S.starts_are_segments
