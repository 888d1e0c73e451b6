use Rattle.std.proofs.Common.{Ok, ◌∙◌, ap, arith}
use Rattle.std.proofs.lemmas.Result.{on_ok_weaker, on_err_weaker}
use Rattle.b67_layout.proofs.Below.{Stayed-then}
use Rattle.b67_layout.proofs.Devices.{Served-then}
use Rattle.b67_overlay.proofs.Answered.{same_err}
use Rattle.b67_presence.proofs.Ways.{absent_after, readable_after}
use Rattle.b67_presence.proofs.Forcing.{code_after, both_came, may_wait, both_before, wait_before}
use Rattle.b67_presence.proofs.objects.force_data.Goals as goal

pub evict_code-requires-clause-machine : goal.evict_code-requires-clause-machine
evict_code-requires-clause-machine g c =
    let (x, p, t, d, m, a, k, fits) = c.requires.machine in
    let (w, alone) = (c.make_way.ensures.row x p t m a).clear (c.in-Ok-false.is ∙ ap Ok c.in-Ok-false.field-0-test) in
    let y = w.storage in
    let ay = absent_after w.sheds a in
    let ky = code_after x y p c.args.code c.args.spare d w.sheds k in
    (y, p, t, d, w.stands, ay, ky, alone, omega (arith, w.sheds.low, c.make_way.ensures.keeps.len))

pub returns-in-Ok-true-clause-row : goal.returns-in-Ok-true-clause-row
returns-in-Ok-true-clause-row g c = λ x p t d m a k.
    let row = c.make_way.ensures.row x p t m a in
    record {
      outside = row.outside;
      both = λ r. both_came m a k (row.came (c.in-Ok-true.is ∙ ap Ok c.in-Ok-true.field-0-test) r);
      waits = tt;
    }

pub returns-in-Err-clause-row : goal.returns-in-Err-clause-row
returns-in-Err-clause-row g c = λ x p t d m a k. record {
  outside = (c.make_way.ensures.row x p t m a).outside;
  both = tt;
  waits = λ r. may_wait d a (c.in-Err.ensures.row x p t m a).refused;
}

pub returns-in-Ok-false-clause-row : goal.returns-in-Ok-false-clause-row
returns-in-Ok-false-clause-row g c = λ x p t d m a k.
    let (w, alone) = (c.make_way.ensures.row x p t m a).clear (c.in-Ok-false.is ∙ ap Ok c.in-Ok-false.field-0-test) in
    let y = w.storage in
    let ay = absent_after w.sheds a in
    let ky = code_after x y p c.args.code c.args.spare d w.sheds k in
    let row = c.evict_code.ensures.row y p t d w.stands ay ky alone in
    record {
      outside = Stayed-then p c.args.cpu.now.core c.make_way.new.cpu.core c.evict_code.new.cpu.core ((c.make_way.ensures.row x p t m a).outside) row.outside;
      both = on_ok_weaker c.evict_code.result (λ both r. both_before x y p c.args.spare t d c.evict_code.new.cpu c.evict_code.new.areas c.make_way.new.sectors (g.B.Backing.holds c.evict_code.new.backing) w.sheds (both (readable_after p w.sheds r))) row.both;
      waits = on_err_weaker c.evict_code.result (λ waits r. wait_before x y p c.args.spare t d c.evict_code.new.cpu c.evict_code.new.areas c.make_way.new.sectors (g.B.Backing.holds c.evict_code.new.backing) w.sheds (waits (readable_after p w.sheds r))) row.waits;
    }

pub returns-in-Ok-false-clause-full : goal.returns-in-Ok-false-clause-full
returns-in-Ok-false-clause-full g c = λ x p t wants free m a e. absurd (c.evict_code.ensures.fails.not_full wants free e)

pub returns-in-Ok-false-clause-device : goal.returns-in-Ok-false-clause-device
returns-in-Ok-false-clause-device g c = Served-then _ _ _ _ _ _ _ c.make_way.ensures.device c.evict_code.ensures.device

pub returns-in-Err-clause-full : goal.returns-in-Err-clause-full
returns-in-Err-clause-full g c = λ x p t wants free m a e. (c.in-Err.ensures.row x p t m a).full wants free (same_err e)
