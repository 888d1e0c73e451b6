use Rattle.b67_io.specs.Tape.{tape_told, tape_faults}
use Rattle.b67_job.proofs.Served.{loaded_in_range}
use Rattle.b67_surface.proofs.slice_rows.opened.Goals as goal

pub open_deck-requires-clause-range : goal.open_deck-requires-clause-range
open_deck-requires-clause-range g c = (loaded_in_range tape_told tape_faults c.new-tape.result c.admit.new.source c.in-Ok.loaded c.in-Ok.ensures.answer).0

pub open_deck-requires-clause-each : goal.open_deck-requires-clause-each
open_deck-requires-clause-each g c = rw c.as_slice.ensures (loaded_in_range tape_told tape_faults c.new-tape.result c.admit.new.source c.in-Ok.loaded c.in-Ok.ensures.answer).1
