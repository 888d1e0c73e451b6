use Rattle.b67_law.proofs.Choices.{chosen_tasks_are_ready}
use Rattle.b67_law.proofs.turns.chosen_tasks_are_ready.Goals as goal

pub returns : goal.returns
returns c = chosen_tasks_are_ready
