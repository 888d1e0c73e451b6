use Rattle.b67_promises.proofs.Held as law
use Rattle.b67_promises.proofs.cards.codefiles_hold_programs.Goals as goal

pub returns : goal.returns
returns c = law.codefiles_hold_programs
