use Rattle.std.proofs.Common.{Err, ap}
use Rattle.b67_layout.proofs.Devices.{Served-same}
use Rattle.b67_overlay.proofs.Answered.{ok_err, fault_core, fault_full}
use Rattle.b67_presence.proofs.Ways.{read_in}
use Rattle.b67_presence.proofs.objects.page_in_room.Goals as goal

pub returns-in-Ok-clause-row : goal.returns-in-Ok-clause-row
returns-in-Ok-clause-row g c = λ x p t m a. let row = c.in-Ok.ensures.row x p t m a in record { outside = row.outside; came = read_in m.stands a row; refused = tt }

pub returns-in-Ok-clause-fails : goal.returns-in-Ok-clause-fails
returns-in-Ok-clause-fails g c = record { no_core = λ need size. ok_err; not_full = λ wants free. ok_err }

pub returns-in-Err-BackingFault-clause-row : goal.returns-in-Err-BackingFault-clause-row
returns-in-Err-BackingFault-clause-row g c = λ x p t m a. let row = c.in-Err-BackingFault.ensures.row x p t m a in record { outside = row.outside; came = tt; refused = row.refused }

pub returns-in-Err-BackingFault-clause-fails : goal.returns-in-Err-BackingFault-clause-fails
returns-in-Err-BackingFault-clause-fails g c = record { no_core = λ need size. fault_core; not_full = λ wants free. fault_full }

pub returns-in-Ok-clause-device : goal.returns-in-Ok-clause-device
returns-in-Ok-clause-device g c = Served-same _ _ _ _ _ _ c.page_in.ensures.device

pub returns-in-Err-BackingFault-clause-device : goal.returns-in-Err-BackingFault-clause-device
returns-in-Err-BackingFault-clause-device g c = Served-same _ _ _ _ _ _ c.page_in.ensures.device

pub unreachable-requires : goal.unreachable-requires
unreachable-requires g c =
    let (x, p, t, m, a, room) = c.requires.machine in
    (c.in-Err-NoHole.ensures.row x p t m a).full.0 (ap Err c.in-Err-NoHole.field-0-is) room
