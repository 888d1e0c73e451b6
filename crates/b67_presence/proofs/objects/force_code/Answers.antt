use Rattle.std.proofs.Common.{length, Ok, ◌∙◌, ap, arith}
use Rattle.std.proofs.lemmas.Result.{on_ok_weaker, on_err_weaker}
use Rattle.b67_layout.proofs.Below.{Stayed-then}
use Rattle.b67_layout.proofs.Devices.{Served-then}
use Rattle.b67_overlay.proofs.Answered.{ok_err, same_err}
use Rattle.b67_presence.proofs.Ways.{absent_after, readable_after, came_of}
use Rattle.b67_presence.proofs.Forcing.{room_alone}
use Rattle.b67_presence.proofs.objects.force_code.Goals as goal

pub page_in_room-requires-clause-machine : goal.page_in_room-requires-clause-machine
page_in_room-requires-clause-machine g c =
    let (x, p, t, m, a, fits) = c.requires.machine in
    let (w, alone) = (c.make_way.ensures.row x p t m a).clear (c.in-Ok-false.is ∙ ap Ok c.in-Ok-false.field-0-test) in
    let y = w.storage in
    (y, p, t, w.stands, absent_after w.sheds a, room_alone y c.make_way.new.cpu c.make_way.new.areas c.make_way.new.sectors (g.B.Backing.holds c.make_way.new.backing) p (length t.numbers) w.stands alone (omega (arith, w.sheds.low, c.make_way.ensures.keeps.len)))

pub returns-in-Ok-true-clause-row : goal.returns-in-Ok-true-clause-row
returns-in-Ok-true-clause-row g c = λ x p t m a.
    let row = c.make_way.ensures.row x p t m a in
    record { outside = row.outside; came = λ r. row.came (c.in-Ok-true.is ∙ ap Ok c.in-Ok-true.field-0-test) r; refused = tt; full = λ wants free e. absurd (ok_err e) }

pub returns-in-Ok-false-clause-row : goal.returns-in-Ok-false-clause-row
returns-in-Ok-false-clause-row g c = λ x p t m a.
    let (w, alone) = (c.make_way.ensures.row x p t m a).clear (c.in-Ok-false.is ∙ ap Ok c.in-Ok-false.field-0-test) in
    let y = w.storage in
    let row = c.page_in_room.ensures.row y p t w.stands (absent_after w.sheds a) in
    record {
      outside = Stayed-then p c.args.cpu.now.core c.make_way.new.cpu.core c.page_in_room.new.cpu.core ((c.make_way.ensures.row x p t m a).outside) row.outside;
      came = on_ok_weaker c.page_in_room.result (λ came r. came_of w.sheds (came (readable_after p w.sheds r))) row.came;
      refused = on_err_weaker c.page_in_room.result (λ refused. record { storage = y; sheds = w.sheds; stands = refused }) row.refused;
      full = λ wants free e. absurd (c.page_in_room.ensures.fails.not_full wants free e);
    }

pub returns-in-Ok-false-clause-device : goal.returns-in-Ok-false-clause-device
returns-in-Ok-false-clause-device g c = Served-then _ _ _ _ _ _ _ c.make_way.ensures.device c.page_in_room.ensures.device

pub returns-in-Err-clause-row : goal.returns-in-Err-clause-row
returns-in-Err-clause-row g c = λ x p t m a. record {
  outside = (c.make_way.ensures.row x p t m a).outside;
  came = tt;
  refused = (c.in-Err.ensures.row x p t m a).refused;
  full = λ wants free e. (c.in-Err.ensures.row x p t m a).full wants free (same_err e);
}
