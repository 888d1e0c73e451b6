use Rattle.b67_layout.proofs.Devices.{Served-none, Served-then, Keeps-none, Keeps-then}
use Rattle.b67_overlay.proofs.Shedding.{directory_here, object_here, falls_here}
use Rattle.b67_overlay.proofs.Claiming.{claims_none, claims_all, claims_past, claims_refused, claims_on}
use Rattle.b67_overlay.proofs.claims.claim.Goals as goal

pub areas-init : goal.areas-init
areas-init g c = record {
  keeps = Keeps-none c.args.cpu.now c.args.areas.now c.args.sectors.now;
  device = Served-none g.B.Backing.holds g.B.Backing.size g.B.Backing.calls g.B.Backing.faults c.args.backing.now;
  stands = λ x p m. claims_none c.args.upto c.first-next.result m c.first-next.ensures;
}

pub after-next-requires : goal.after-next-requires
after-next-requires g c = let (x, p, m) = c.requires.machine in directory_here (c.areas.invariant.stands x p m).walk c.in-Some.is

pub areas-smaller : goal.areas-smaller
areas-smaller g c = let (x, p, m) = c.requires.machine in falls_here (c.areas.invariant.stands x p m).walk c.in-Some.is c.after-next.result c.after-next.ensures

pub overlay-requires-clause-machine : goal.overlay-requires-clause-machine
overlay-requires-clause-machine g c =
    let (x, p, m) = c.requires.machine in
    let w = c.areas.invariant.stands x p m in
    let (t, pr) = object_here w.walk c.in-Some.is in
    (w.storage, p, t, w.walk.stands, pr)

pub returns-then-at-upto-clause-row : goal.returns-then-at-upto-clause-row
returns-then-at-upto-clause-row g c = λ x p m. claims_past (c.areas.invariant.stands x p m) c.in-Some.is c.if-at-upto.true

pub returns-clause-row : goal.returns-clause-row
returns-clause-row g c = λ x p m. claims_all (c.areas.invariant.stands x p m) c.in_default.is

pub returns-in-Err-clause-row : goal.returns-in-Err-clause-row
returns-in-Err-clause-row g c = λ x p m.
    let w = c.areas.invariant.stands x p m in
    let (t, pr) = object_here w.walk c.in-Some.is in
    claims_refused c.overlay.ensures.device w pr c.if-at-upto.false c.in-Err.fault (c.in-Err.ensures.row w.storage p t w.walk.stands pr)

pub returns-in-Err-clause-device : goal.returns-in-Err-clause-device
returns-in-Err-clause-device g c = Served-then _ _ _ _ _ _ _ c.areas.invariant.device c.overlay.ensures.device

pub areas-preserved : goal.areas-preserved
areas-preserved g c =
    let v = c.areas.invariant in
    record {
      keeps = Keeps-then c.args.cpu.now c.areas.cpu c.overlay.new.cpu c.args.areas.now c.areas.areas c.overlay.new.areas c.args.sectors.now c.areas.sectors c.overlay.new.sectors v.keeps c.overlay.ensures.keeps;
      device = Served-then _ _ _ _ _ _ _ v.device c.overlay.ensures.device;
      stands = λ x p m.
          let w = v.stands x p m in
          let (t, pr) = object_here w.walk c.in-Some.is in
          claims_on c.overlay.ensures.device w pr c.if-at-upto.false c.in-Some.is c.after-next.result c.after-next.ensures (c.in-Ok.ensures.row w.storage p t w.walk.stands pr);
    }
