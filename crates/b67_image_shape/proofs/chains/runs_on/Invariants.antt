use Rattle.b67_image_shape.proofs.ChainTests.{RunsOn}
use Rattle.b67_image_shape.proofs.chains.runs_on.Given as goal

abbrev pub invariant-walk : goal.invariant-walk
invariant-walk l = RunsOn l.links l.first l.behind l._i l.at
