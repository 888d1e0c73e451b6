-- The text of a dump is a function of the session alone, and doesn't see by what names the session speaks.
use Rattle.std.specs.Prelude.{◌≡◌, ℕ, List, Option}
use Rattle.b67_model.specs.Common.{IsInOrderButPlaces, Session}
use Rattle.b67_stack.specs.Common.{Storage}
use Rattle.b67_layout.specs.Common.{Placement}
use Rattle.b67_task.specs.declared.tables.Machine.{Machine}
use Rattle.b67_task.specs.Tables.{MachineRepresents}
use Rattle.b67_layout_shown.specs.Shown.{shown}
use Rattle.b67_layout_shown.specs.Machines.{sight_of}
use Rattle.b67_dump.specs.Dump.{dump_text}
use Rattle.b67_dump.specs.Walk.{walk_text}

-- the dump of each session that a machine represents is that of what the machine shows
abbrev pub DumpsAreShown : Type 0
DumpsAreShown =
    (x : Storage) (told : Option (List (List ℕ))) (k : Machine) (plan : Placement) (s : Session) → IsInOrderButPlaces s → MachineRepresents x told k plan s →
    dump_text s ≡ dump_text (shown (sight_of k))

-- so machines that represent one session have one dump, whatever lies where, and whatever is absent
abbrev pub DumpsAreOne : Type 0
DumpsAreOne =
    (x x' : Storage) (told told' : Option (List (List ℕ))) (k k' : Machine) (plan plan' : Placement) (s : Session) → IsInOrderButPlaces s →
    MachineRepresents x told k plan s → MachineRepresents x' told' k' plan' s → dump_text (shown (sight_of k)) ≡ dump_text (shown (sight_of k'))

-- what is read off a machine is the dump of each session that it represents
abbrev pub WalksAreDumps : Type 0
WalksAreDumps =
    (x : Storage) (told : Option (List (List ℕ))) (k : Machine) (plan : Placement) (s : Session) → IsInOrderButPlaces s → MachineRepresents x told k plan s →
    walk_text (sight_of k) ≡ dump_text s
