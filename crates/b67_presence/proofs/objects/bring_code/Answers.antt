use Rattle.std.proofs.Common.{Err, refl, ap, arith}
use Rattle.b67_layout.proofs.Below.{Stayed-then}
use Rattle.b67_layout.proofs.Devices.{Served-then, Served-same}
use Rattle.b67_overlay.proofs.Shedding.{AreasEvicted-none}
use Rattle.b67_overlay.proofs.Answered.{ok_err, fault_full}
use Rattle.b67_presence.proofs.Ways.{read_in, came_of}
use Rattle.b67_presence.proofs.objects.bring_code.Goals as goal

pub force_code-requires-clause-machine : goal.force_code-requires-clause-machine
force_code-requires-clause-machine g c =
    let (x, p, t, m, a, fits) = c.requires.machine in
    (x, p, t, (c.in-Err-NoHole.ensures.row x p t m a).refused, a, omega (arith, fits, c.page_in.ensures.keeps.len))

pub returns-in-Ok-clause-row : goal.returns-in-Ok-clause-row
returns-in-Ok-clause-row g c = λ x p t m a.
    let row = c.in-Ok.ensures.row x p t m a in
    record {
      outside = row.outside;
      came = λ r. came_of (AreasEvicted-none x 0) (read_in m.stands a row r);
      refused = tt;
      full = λ wants free e. absurd (ok_err e);
    }

pub returns-in-Err-BackingFault-clause-row : goal.returns-in-Err-BackingFault-clause-row
returns-in-Err-BackingFault-clause-row g c = λ x p t m a.
    let row = c.in-Err-BackingFault.ensures.row x p t m a in
    record {
      outside = row.outside;
      came = tt;
      refused = record { storage = x; sheds = AreasEvicted-none x 0; stands = row.refused };
      full = λ wants free e. absurd (fault_full e);
    }

pub returns-in-Err-NoHole-clause-row : goal.returns-in-Err-NoHole-clause-row
returns-in-Err-NoHole-clause-row g c = λ x p t m a.
    let row = c.in-Err-NoHole.ensures.row x p t m a in
    let forced = c.force_code.ensures.row x p t row.refused a in
    record {
      outside = Stayed-then p c.args.cpu.now.core c.page_in.new.cpu.core c.force_code.new.cpu.core row.outside forced.outside;
      came = forced.came;
      refused = forced.refused;
      full = λ wants free e.
          let none = row.full.0 (ap Err c.in-Err-NoHole.field-0-is) in
          let (w, short, still) = forced.full wants free e in
          (none, w, short, still none);
    }

pub returns-in-Ok-clause-hole : goal.returns-in-Ok-clause-hole
returns-in-Ok-clause-hole g c = λ x p t m a room. record { sectors = refl; device = c.page_in.ensures.device.same; stays = tt; read = read_in m.stands a (c.in-Ok.ensures.row x p t m a) }

pub returns-in-Err-NoHole-clause-hole : goal.returns-in-Err-NoHole-clause-hole
returns-in-Err-NoHole-clause-hole g c = λ x p t m a room. absurd ((c.in-Err-NoHole.ensures.row x p t m a).full.0 (ap Err c.in-Err-NoHole.field-0-is) room)

pub returns-in-Ok-clause-device : goal.returns-in-Ok-clause-device
returns-in-Ok-clause-device g c = Served-same _ _ _ _ _ _ c.page_in.ensures.device

pub returns-in-Err-BackingFault-clause-device : goal.returns-in-Err-BackingFault-clause-device
returns-in-Err-BackingFault-clause-device g c = Served-same _ _ _ _ _ _ c.page_in.ensures.device

pub returns-in-Err-NoHole-clause-device : goal.returns-in-Err-NoHole-clause-device
returns-in-Err-NoHole-clause-device g c = Served-then _ _ _ _ _ _ _ (Served-same _ _ _ _ _ _ c.page_in.ensures.device) c.force_code.ensures.device

pub returns-in-Err-BackingFault-clause-hole : goal.returns-in-Err-BackingFault-clause-hole
returns-in-Err-BackingFault-clause-hole g c = λ x p t m a room. record { sectors = refl; device = c.page_in.ensures.device.same; read = tt; stays = (c.in-Err-BackingFault.ensures.row x p t m a).refused }
