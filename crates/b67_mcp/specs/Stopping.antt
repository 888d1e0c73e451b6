-- The stop for a want of space, with the numbers that it says.
use Rattle.std.specs.Prelude.{◌≡◌, ℕ, ◌+◌, List, length, Option}
use Rattle.b67_model.specs.Sectors.{sectors}
use Rattle.b67_model.specs.Schedule.{Session}
use Rattle.b67_layout.specs.Orders.{IsInOrderButCounts}
use Rattle.b67_layout.specs.Placement.{Placement}
use Rattle.b67_backing.specs.declared.refusals.SpaceFault.{SpaceFault}
use Rattle.b67_backing.specs.declared.refusals.SpaceFault.TheVariants as space
use Rattle.b67_stack.specs.Represents.{Storage}
use Rattle.b67_task.specs.declared.tables.Machine.{Machine}
use Rattle.b67_task.specs.Tables.{MachineRepresents}
use Rattle.b67_mcp.specs.declared.ends.Stop.{Stop}
use Rattle.b67_mcp.specs.declared.ends.Stop.TheVariants as stops

-- the sectors of each session that the machine represents are so many
abbrev pub SumsTo : Machine → ℕ → Type 0
SumsTo k sum =
    (x : Storage) (told : Option (List (List ℕ))) (plan : Placement) (s : Session) → IsInOrderButCounts s → MachineRepresents x told k plan s → sum ≡ sectors s.jobs

-- the stop for a want of space: where sectors are missing, with the session's and the device's
abbrev pub StopsFor : Machine → SpaceFault → Stop → Type 0
StopsFor k (space.NoCore words size) stop = stop ≡ stops.NoCore words size
StopsFor k (space.BackingFull wants free) stop =
    (sum : ℕ) × (count : ℕ) × (stop ≡ stops.BackingFull sum count) × SumsTo k sum × (count + 1 ≡ length k.sectors.links)
StopsFor k space.BackingFault stop = stop ≡ stops.BackingFault
