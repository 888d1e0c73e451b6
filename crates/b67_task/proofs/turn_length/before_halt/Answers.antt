use Rattle.std.proofs.Common.{◌≡◌, ◌+◌, sym, ◌∙◌, arith}
use Rattle.std.proofs.lemmas.Option.{none-some}
use Rattle.b67_task.proofs.turn_length.before_halt.Goals as goal

pub returns-in-Some-clause-halt : goal.returns-in-Some-clause-halt
returns-in-Some-clause-halt c = grind arith

pub returns-in-None-clause-halt : goal.returns-in-None-clause-halt
returns-in-None-clause-halt c = λ j low at. absurd (none-some (c.args.made + j) (sym c.in-None.is ∙ at))
