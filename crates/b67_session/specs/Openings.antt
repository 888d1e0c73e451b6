-- On which machines a slice may be called.
use Rattle.std.specs.Prelude.{ℕ, List, Option}
use Rattle.b67_layout.specs.Machine.{Says}
use Rattle.b67_model.specs.Common.{Session}
use Rattle.b67_task.specs.declared.tables.Machine.{Machine}
use Rattle.b67_task.specs.Tables.{AreCountable}
use Rattle.b67_session.specs.Slices.{StandsAt, IsOpen}

-- each that represents a session in order over what is known of the sectors, if the device tells that, and whose jobs' numbers
-- can be counted
abbrev pub MachinesAreOpen : Type 0
MachinesAreOpen = (said told : Option (List (List ℕ))) (k : Machine) (s : Session) → Says said told → StandsAt said k s → AreCountable k.tasks.jobs → IsOpen told k
