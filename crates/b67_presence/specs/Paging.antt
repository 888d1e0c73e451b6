-- A machine that represents a session meets what paging asks of it.
use Rattle.std.specs.Prelude.{ℕ, List, Option}
use Rattle.b67_model.specs.Schedule.{Session}
use Rattle.b67_stack.specs.Represents.{Storage}
use Rattle.b67_overlay.specs.Spans.{MachineCanPage}
use Rattle.b67_layout.specs.Common.{IsInOrderButCounts, Placement, machine_view}
use Rattle.b67_task.specs.declared.tables.Machine.{Machine}
use Rattle.b67_presence.specs.Bringing.{StandsOver}

-- whatever the session's places and counts, and whether or not the device tells what its sectors hold: copies lie where
-- they are searched
abbrev pub SessionsCanPage : Type 0
SessionsCanPage =
    (x : Storage) (told : Option (List (List ℕ))) (k : Machine) (plan : Placement) (s : Session) → IsInOrderButCounts s → StandsOver x told k plan s
    → MachineCanPage x k.cpu k.areas k.sectors told (machine_view plan s.jobs)
