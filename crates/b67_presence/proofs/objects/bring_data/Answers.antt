use Rattle.std.proofs.Common.{ℕ, ◌+◌, length, Err, refl, sym, ap, arith, subst}
use Rattle.b67_layout.proofs.Below.{Stayed-then}
use Rattle.b67_layout.proofs.Devices.{Served-then, Served-same}
use Rattle.b67_overlay.specs.AreasEvicted.{IsShortBy}
use Rattle.b67_overlay.proofs.Shedding.{AreasEvicted-none}
use Rattle.b67_presence.specs.Brings.{StandsEvicted, IsCode, NoHoleStill}
use Rattle.b67_overlay.proofs.Answered.{ok_err, fault_full}
use Rattle.b67_presence.proofs.Ways.{read_in, came_of}
use Rattle.b67_presence.proofs.Forcing.{both_came, may_wait}
use Rattle.b67_presence.proofs.objects.bring_data.Goals as goal

pub force_data-requires-clause-machine : goal.force_data-requires-clause-machine
force_data-requires-clause-machine g c =
    let (x, p, t, d, at, m, a, k, fits) = c.requires.machine in
    let seg = c.segment_at-segment.ensures x c.args.cpu.now.regs p d at m.stands k in
    let K : ℕ → Type 0 = λ n. IsCode x p c.args.code n d in
    (x, p, t, d, (c.in-Err-NoHole.ensures.row x p t m a).refused, a, subst K (sym seg.1) k, omega (arith, fits, c.page_in.ensures.keeps.len))

pub returns-in-Ok-clause-row : goal.returns-in-Ok-clause-row
returns-in-Ok-clause-row g c = λ x p t d at m a k.
    let row = c.in-Ok.ensures.row x p t m a in
    record {
      outside = row.outside;
      both = λ r. both_came m a k (came_of (AreasEvicted-none x at) (read_in m.stands a row r));
      refused = tt;
      zeros = λ room z. (refl, row.untouched z);
      full = λ wants free e. absurd (ok_err e);
    }

pub returns-in-Err-BackingFault-clause-row : goal.returns-in-Err-BackingFault-clause-row
returns-in-Err-BackingFault-clause-row g c = λ x p t d at m a k.
    let row = c.in-Err-BackingFault.ensures.row x p t m a in
    record {
      outside = row.outside;
      both = tt;
      refused = λ r. may_wait d a (record { storage = x; sheds = AreasEvicted-none x 0; stands = row.refused });
      zeros = λ room z. absurd (row.zeros z (ap Err c.in-Err-BackingFault.field-0-is));
      full = λ wants free e. absurd (fault_full e);
    }

pub returns-in-Err-NoHole-clause-row : goal.returns-in-Err-NoHole-clause-row
returns-in-Err-NoHole-clause-row g c = λ x p t d at m a k.
    let row = c.in-Err-NoHole.ensures.row x p t m a in
    let seg = c.segment_at-segment.ensures x c.args.cpu.now.regs p d at m.stands k in
    let K : ℕ → Type 0 = λ n. IsCode x p c.args.code n d in
    let none = row.full.0 (ap Err c.in-Err-NoHole.field-0-is) in
    let forced = c.force_data.ensures.row x p t d row.refused a (subst K (sym seg.1) k) in
    record {
      outside = Stayed-then p c.args.cpu.now.core c.page_in.new.cpu.core c.force_data.new.cpu.core row.outside forced.outside;
      both = forced.both;
      refused = forced.waits;
      zeros = λ room z. absurd (none room);
      full = λ wants free e.
          let Q : ℕ → Type 0 = λ n. (w : StandsEvicted x p n c.force_data.new.cpu c.force_data.new.areas c.force_data.new.sectors (g.B.Backing.holds c.force_data.new.backing)) × IsShortBy w.storage p wants free × NoHoleStill (length t.numbers + 2) x w.storage in
          let r = subst Q seg.1 (c.force_data.ensures.full x p t wants free row.refused a e) in
          (none, r.0, r.1, r.2 none);
    }

pub returns-in-Ok-clause-hole : goal.returns-in-Ok-clause-hole
returns-in-Ok-clause-hole g c = λ x p t m a room. record { sectors = refl; device = c.page_in.ensures.device.same; stays = tt; read = read_in m.stands a (c.in-Ok.ensures.row x p t m a) }

pub returns-in-Err-NoHole-clause-hole : goal.returns-in-Err-NoHole-clause-hole
returns-in-Err-NoHole-clause-hole g c = λ x p t m a room. absurd ((c.in-Err-NoHole.ensures.row x p t m a).full.0 (ap Err c.in-Err-NoHole.field-0-is) room)

pub returns-in-Ok-clause-device : goal.returns-in-Ok-clause-device
returns-in-Ok-clause-device g c = Served-same _ _ _ _ _ _ c.page_in.ensures.device

pub returns-in-Err-BackingFault-clause-device : goal.returns-in-Err-BackingFault-clause-device
returns-in-Err-BackingFault-clause-device g c = Served-same _ _ _ _ _ _ c.page_in.ensures.device

pub returns-in-Err-NoHole-clause-device : goal.returns-in-Err-NoHole-clause-device
returns-in-Err-NoHole-clause-device g c = Served-then _ _ _ _ _ _ _ (Served-same _ _ _ _ _ _ c.page_in.ensures.device) c.force_data.ensures.device

pub returns-in-Err-BackingFault-clause-hole : goal.returns-in-Err-BackingFault-clause-hole
returns-in-Err-BackingFault-clause-hole g c = λ x p t m a room. record { sectors = refl; device = c.page_in.ensures.device.same; read = tt; stays = (c.in-Err-BackingFault.ensures.row x p t m a).refused }
