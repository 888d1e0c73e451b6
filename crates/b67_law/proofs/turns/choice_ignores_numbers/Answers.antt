use Rattle.b67_law.proofs.Choices.{choice_ignores_numbers}
use Rattle.b67_law.proofs.turns.choice_ignores_numbers.Goals as goal

pub returns : goal.returns
returns c = choice_ignores_numbers
