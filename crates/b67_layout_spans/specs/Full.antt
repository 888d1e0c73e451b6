-- When the sectors of a device are too few for a session.
use Rattle.std.specs.Prelude.{◌≡◌, ℕ, ◌+◌, ◌<◌, List, length, Option}
use Rattle.b67_area.specs.declared.Areas.{Areas}
use Rattle.b67_backing.specs.Shelf.{Table}
use Rattle.b67_model.specs.Sectors.{sectors}
use Rattle.b67_model.specs.Schedule.{Session}
use Rattle.b67_stack.specs.declared.Cpu.{Cpu}
use Rattle.b67_stack.specs.Represents.{Storage}
use Rattle.b67_layout.specs.Machine.{MachineRepresentsView}
use Rattle.b67_overlay.specs.AreasEvicted.{IsShortBy}
use Rattle.b67_layout.specs.Placement.{Placement}
use Rattle.b67_layout.specs.Layout.{machine_view}

-- over a machine that represents a session, and a device of so many sectors: where a present array keeps no chain and needs
-- more sectors than are free, the session takes more sectors than there are
abbrev pub ShortIsFull : Type 0
ShortIsFull =
    (x : Storage) (cpu : Cpu) (areas : Areas) (table : Table) (told : Option (List (List ℕ))) (plan : Placement) (s : Session) (wants free size : ℕ)
    → MachineRepresentsView x cpu areas table told (machine_view plan s.jobs) → IsShortBy x (machine_view plan s.jobs) wants free
    → size + 1 ≡ length table.links → size < sectors s.jobs
