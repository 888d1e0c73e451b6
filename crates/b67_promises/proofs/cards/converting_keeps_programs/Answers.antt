use Rattle.b67_promises.proofs.Converted as law
use Rattle.b67_promises.proofs.cards.converting_keeps_programs.Goals as goal

pub returns : goal.returns
returns c = law.converting_keeps_programs
