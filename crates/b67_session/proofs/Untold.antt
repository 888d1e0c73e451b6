-- The machine over a storage that says nothing of the device.
use Rattle.std.proofs.Common.{ℕ, List, Option, None, arith}
use Rattle.b67_model.specs.Schedule.{Session}
use Rattle.b67_stack.specs.Represents.{Storage}
use Rattle.b67_layout.proofs.Untold.{untold}
use Rattle.b67_layout.specs.Common.{Placement}
use Rattle.b67_task.specs.declared.tables.Machine.{Machine}
use Rattle.b67_task.specs.Tables.{MachineRepresents}

pub machine_untold : (x : Storage) (told : Option (List (List ℕ))) (k : Machine) (plan : Placement) (s : Session) → MachineRepresents x told k plan s → MachineRepresents (untold x) None k plan s
machine_untold x told k plan s h = grind arith
