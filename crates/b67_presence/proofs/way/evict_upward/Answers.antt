use Rattle.std.proofs.Common.{Ok, ◌∙◌, ap}
use Rattle.b67_layout.proofs.Devices.{Served-none, Served-then, Keeps-none, Keeps-then}
use Rattle.b67_overlay.proofs.Answered.{err_ok, ok_true}
use Rattle.b67_overlay.proofs.Shedding.{tells_still, directory_here, object_here, falls_here}
use Rattle.b67_presence.proofs.Ways.{absent_after}
use Rattle.b67_presence.proofs.Upward.{gives_none, clears, ends_so, goes_on}
use Rattle.b67_presence.proofs.way.evict_upward.Goals as goal

pub areas-init : goal.areas-init
areas-init g c = record {
  keeps = Keeps-none c.args.cpu.now c.args.areas.now c.args.sectors.now;
  device = Served-none g.B.Backing.holds g.B.Backing.size g.B.Backing.calls g.B.Backing.faults c.args.backing.now;
  stands = λ x p t m a. gives_none t c.args.spare c.first-next.result m c.first-next.ensures;
}

pub after-next-requires : goal.after-next-requires
after-next-requires g c = let (x, p, t, m, a) = c.requires.machine in directory_here (c.areas.invariant.stands x p t m a).walk c.in-Some.is

pub areas-smaller : goal.areas-smaller
areas-smaller g c = let (x, p, t, m, a) = c.requires.machine in falls_here (c.areas.invariant.stands x p t m a).walk c.in-Some.is c.after-next.result c.after-next.ensures

pub evict_area-requires-clause-machine : goal.evict_area-requires-clause-machine
evict_area-requires-clause-machine g c =
    let (x, p, t, m, a) = c.requires.machine in
    let w = c.areas.invariant.stands x p t m a in
    let (u, pr) = object_here w.walk c.in-Some.is in
    (w.storage, p, t, u, w.walk.stands, absent_after w.sheds a, pr)

pub returns-in-Ok-true-clause-row : goal.returns-in-Ok-true-clause-row
returns-in-Ok-true-clause-row g c = λ x p t m a.
    let w = c.areas.invariant.stands x p t m a in
    let (u, pr) = object_here w.walk c.in-Some.is in
    ends_so w pr (c.evict_area.ensures.row w.storage p t u w.walk.stands (absent_after w.sheds a) pr) (tells_still c.evict_area.ensures.device) (c.in-Ok-true.is ∙ ap Ok c.in-Ok-true.field-0-test) ok_true

pub returns-in-Err-clause-row : goal.returns-in-Err-clause-row
returns-in-Err-clause-row g c = λ x p t m a.
    let w = c.areas.invariant.stands x p t m a in
    let (u, pr) = object_here w.walk c.in-Some.is in
    ends_so w pr (c.evict_area.ensures.row w.storage p t u w.walk.stands (absent_after w.sheds a) pr) (tells_still c.evict_area.ensures.device) c.in-Err.is err_ok

pub returns-clause-row : goal.returns-clause-row
returns-clause-row g c = λ x p t m a. clears (c.areas.invariant.stands x p t m a) c.in_default.is

pub returns-in-Ok-true-clause-device : goal.returns-in-Ok-true-clause-device
returns-in-Ok-true-clause-device g c = Served-then _ _ _ _ _ _ _ c.areas.invariant.device c.evict_area.ensures.device

pub returns-in-Err-clause-device : goal.returns-in-Err-clause-device
returns-in-Err-clause-device g c = Served-then _ _ _ _ _ _ _ c.areas.invariant.device c.evict_area.ensures.device

pub areas-preserved : goal.areas-preserved
areas-preserved g c =
    let v = c.areas.invariant in
    record {
      keeps = Keeps-then c.args.cpu.now c.areas.cpu c.evict_area.new.cpu c.args.areas.now c.areas.areas c.evict_area.new.areas c.args.sectors.now c.areas.sectors c.evict_area.new.sectors v.keeps c.evict_area.ensures.keeps;
      device = Served-then _ _ _ _ _ _ _ v.device c.evict_area.ensures.device;
      stands = λ x p t m a.
          let w = v.stands x p t m a in
          let (u, pr) = object_here w.walk c.in-Some.is in
          goes_on w pr (c.evict_area.ensures.row w.storage p t u w.walk.stands (absent_after w.sheds a) pr) (tells_still c.evict_area.ensures.device) (c.in-Ok-false.is ∙ ap Ok c.in-Ok-false.field-0-test) c.in-Some.is c.after-next.result c.after-next.ensures;
    }
