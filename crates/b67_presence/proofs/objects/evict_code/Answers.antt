use Rattle.std.proofs.Common.{refl, ap, inl, subst}
use Rattle.std.proofs.lemmas.Result.{on_ok_weaker, on_err_weaker}
use Rattle.b67_ctl.specs.declared.registers.Regs.{Regs}
use Rattle.b67_stack.specs.declared.Cpu.{Cpu}
use Rattle.b67_stack.specs.Common.{MachineView, PagedObject, Storage, Represents, LowWordsStayed}
use Rattle.b67_layout.specs.Machine.{IsAbsent}
use Rattle.b67_layout.proofs.Devices.{Served-then}
use Rattle.b67_layout.proofs.Untold.{untold}
use Rattle.b67_layout.proofs.Below.{Stayed-then}
use Rattle.b67_overlay.specs.Overlaid.{overlaid}
use Rattle.b67_overlay.specs.Spans.{MachineCanPage}
use Rattle.b67_presence.specs.Brings.{IsReadable, IsCode, BothIn, MayWait}
use Rattle.b67_presence.proofs.Resort.{paging_untold, absent_untold, code_untold, present_code, no_array, absent_t, readable_y, room_t, room_c, absent_z, readable_z, waits_first, waits_second, both_in, reads_x, Stayed-read, ok_under, err_under}
use Rattle.b67_presence.proofs.objects.evict_code.Given.{Over}
use Rattle.b67_presence.proofs.objects.evict_code.Goals.{After-discard}
use Rattle.b67_presence.proofs.objects.evict_code.Goals as goal

-- once the code is out of core
module _ (g : Over) (c : After-discard g) {x : Storage} {p : MachineView} {t d : PagedObject} (m : MachineCanPage x c.args.cpu.now c.args.areas.now c.args.sectors.now (g.B.Backing.holds c.args.backing.now) p) (a : IsAbsent x p c.args.home t) (k : IsCode x p c.args.code c.args.spare d) where
  out : MachineCanPage (overlaid x d c.args.spare (g.B.Backing.holds c.args.backing.now)) c.discard.new.cpu c.discard.new.areas c.args.sectors.now (g.B.Backing.holds c.args.backing.now) p
  out = c.discard.ensures.stands x c.args.sectors.now (g.B.Backing.holds c.args.backing.now) p d m (present_code m a k) (no_array m a k)

  shown : Represents (overlaid x d c.args.spare (g.B.Backing.holds c.args.backing.now)) c.discard.new.cpu.core c.args.cpu.now.regs p
  shown =
      let R : Regs → Type 0 = λ q. Represents (overlaid x d c.args.spare (g.B.Backing.holds c.args.backing.now)) c.discard.new.cpu.core q p in
      subst R (ap (λ (z : Cpu). z.regs) c.discard.ensures.rest) out.stands

  stayed : LowWordsStayed p c.args.cpu.now.core c.discard.new.cpu.core
  stayed = c.discard.ensures.outside x p d m.stands m.copies m.low (present_code m a k)

pub discard-requires : goal.discard-requires
discard-requires g c = let (x, p, t, d, m, a, k, alone, fits) = c.requires.machine in (x, p, d, m.stands, m.copies, m.low, present_code m a k, no_array m a k)

pub page_in_room-requires-clause-machine : goal.page_in_room-requires-clause-machine
page_in_room-requires-clause-machine g c =
    let (x, p, t, d, m, a, k, alone, fits) = c.requires.machine in
    let after = (goal.at.page_in_room-requires-clause-machine g c).After-discard in
    (_, p, t, out g after m a k, absent_t m a k, room_t m a k alone c.discard.ensures.len fits (shown g after m a k))

pub page_in_room-requires-in-Ok-clause-machine : goal.page_in_room-requires-in-Ok-clause-machine
page_in_room-requires-in-Ok-clause-machine g c =
    let (x, p, t, d, m', a', k', alone, fits) = c.requires.machine in
    let m = paging_untold m' in
    let a = absent_untold a' in
    let k = code_untold k' in
    let after = (goal.at.page_in_room-requires-in-Ok-clause-machine g c).After-discard in
    let read = (c.in-Ok.ensures.row _ p t (out g after m a k) (absent_t m a k)).came (readable_y m a k (inl refl)) in
    (_, read.machine_view, d, read.stands, absent_z m a k read, room_c m a k alone c.discard.ensures.len fits (shown g after m a k) read.at)

pub returns-in-Err-clause-row : goal.returns-in-Err-clause-row
returns-in-Err-clause-row g c = λ x p t d m a k alone.
    let after = (goal.at.returns-in-Err-clause-row g c).After-discard in
    let row = c.in-Err.ensures.row _ p t (out g after m a k) (absent_t m a k) in
    record {
      outside = Stayed-then p c.args.cpu.now.core c.discard.new.cpu.core c.page_in_room.new.cpu.core (stayed g after m a k) row.outside;
      both = tt;
      waits = λ r. waits_first m a k row.refused;
    }

pub returns-in-Ok-clause-row : goal.returns-in-Ok-clause-row
returns-in-Ok-clause-row g c = λ x p t d m a k alone.
    let after = (goal.at.returns-in-Ok-clause-row g c).After-discard in
    let last = c.page_in_room-in-Ok in
    let row = c.in-Ok.ensures.row _ p t (out g after m a k) (absent_t m a k) in
    record {
      outside =
          let m' = paging_untold m in
          let a' = absent_untold a in
          let k' = code_untold k in
          let first = c.in-Ok.ensures.row _ p t (out g after m' a' k') (absent_t m' a' k') in
          let read = first.came (readable_y m' a' k' (inl refl)) in
          let again = last.ensures.row _ read.machine_view d read.stands (absent_z m' a' k' read) in
          Stayed-then p c.args.cpu.now.core c.page_in_room.new.cpu.core last.new.cpu.core
          (Stayed-then p c.args.cpu.now.core c.discard.new.cpu.core c.page_in_room.new.cpu.core (stayed g after m' a' k') first.outside)
          (Stayed-read (untold x) p read.machine_view t (reads_x m' a' k' read) c.page_in_room.new.cpu.core last.new.cpu.core again.outside);
      both = ok_under (IsReadable x p) (BothIn x p t d last.new.cpu last.new.areas c.args.sectors.now (g.B.Backing.holds last.new.backing)) last.result (λ r.
          let read = row.came (readable_y m a k r) in
          on_ok_weaker last.result (λ came. both_in m a k read (came (readable_z m a k read r))) (last.ensures.row _ read.machine_view d read.stands (absent_z m a k read)).came);
      waits = err_under (IsReadable x p) (MayWait x p t d last.new.cpu last.new.areas c.args.sectors.now (g.B.Backing.holds last.new.backing)) last.result (λ r.
          let read = row.came (readable_y m a k r) in
          on_err_weaker last.result (λ refused. waits_second m a k read refused) (last.ensures.row _ read.machine_view d read.stands (absent_z m a k read)).refused);
    }

pub returns-in-Ok-clause-device : goal.returns-in-Ok-clause-device
returns-in-Ok-clause-device g c = Served-then _ _ _ _ _ _ _ c.page_in_room.ensures.device c.page_in_room-in-Ok.ensures.device
