-- What is said of each session that a machine represents.
use Rattle.std.specs.Prelude.{ℕ, List, Option}
use Rattle.b67_model.specs.Common.{IsInOrderButPlaces, Session}
use Rattle.b67_stack.specs.Common.{Storage}
use Rattle.b67_layout.specs.Common.{Placement}
use Rattle.b67_task.specs.declared.tables.Machine.{Machine}
use Rattle.b67_task.specs.Tables.{MachineRepresents}

-- this holds of each session in order that the machine represents, whatever its places, and whatever its device holds
abbrev pub ForEachShown : Machine → (Session → Type 0) → Type 0
ForEachShown k P = (x : Storage) (told : Option (List (List ℕ))) (plan : Placement) (s : Session) → IsInOrderButPlaces s → MachineRepresents x told k plan s → P s
