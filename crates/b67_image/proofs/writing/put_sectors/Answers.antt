use Rattle.std.proofs.Common.{length, Ok, sym, ap, arith}
use Rattle.std.specs.List.{flat_map}
use Rattle.b67_backing.specs.Links.{links_in}
use Rattle.b67_backing.proofs.Linkings.{links_in-length}
use Rattle.b67_image.proofs.Chunks.{punched_stop, punched_is, window_on, window_stop, items_end}
use Rattle.b67_image.specs.Spelling.{four_bytes}
use Rattle.b67_image.proofs.writing.put_sectors.Goals as goal

pub returns-in_err-put_count-clause-row : goal.returns-in_err-put_count-clause-row
returns-in_err-put_count-clause-row g c = punched_stop g.K.Sink.taken c.args.sink.now c.put_count.new.sink c.args.hand.now c.put_count.new.hand c.from_residual.result (four_bytes (length (links_in c.args.sectors.now))) _ (flat_map four_bytes (links_in c.args.sectors.now)) c.from_residual.ensures.0 (ap four_bytes (sym (links_in-length c.args.sectors.now c.count-count.result c.count-count.ensures))) c.in_err-put_count.ensures.row

pub windows-init : goal.windows-init
windows-init g c = record {
  later = omega (arith, c.in_ok-put_count.ensures.cause.later);
  punched = punched_is g.K.Sink.taken c.args.sink.now c.put_count.new.sink c.args.hand.now c.put_count.new.hand (Ok tt) _ _ (ap four_bytes (sym (links_in-length c.args.sectors.now c.count-count.result c.count-count.ensures))) c.in_ok-put_count.ensures.row;
  inside = omega arith;
}

pub windows-preserved : goal.windows-preserved
windows-preserved g c = record {
  later = omega (arith, c.windows.invariant.later, c.in_ok-put_window.ensures.cause.later);
  punched = window_on four_bytes g.K.Sink.taken c.args.sink.now c.windows.sink c.put_window.new.sink c.args.hand.now c.windows.hand c.put_window.new.hand (four_bytes (length (links_in c.args.sectors.now))) (links_in c.args.sectors.now) c.windows.done c.min-many.result c.windows.invariant.punched c.in_ok-put_window.ensures.row;
  inside = omega (arith, c.windows-test.true, c.min-many.ensures);
}

pub returns-in_err-put_window-clause-row : goal.returns-in_err-put_window-clause-row
returns-in_err-put_window-clause-row g c = window_stop four_bytes g.K.Sink.taken c.args.sink.now c.windows.sink c.put_window.new.sink c.args.hand.now c.windows.hand c.put_window.new.hand (four_bytes (length (links_in c.args.sectors.now))) (links_in c.args.sectors.now) c.windows.done c.min-many.result c.from_residual-in_err-put_window.result c.from_residual-in_err-put_window.ensures.0 c.windows.invariant.punched c.in_err-put_window.ensures.row

pub returns-clause-row : goal.returns-clause-row
returns-clause-row g c = items_end four_bytes g.K.Sink.taken c.args.sink.now c.windows.sink c.args.hand.now c.windows.hand (four_bytes (length (links_in c.args.sectors.now))) (links_in c.args.sectors.now) c.windows.done (omega (arith, c.windows-test.false, links_in-length c.args.sectors.now c.count-count.result c.count-count.ensures)) c.windows.invariant.punched
