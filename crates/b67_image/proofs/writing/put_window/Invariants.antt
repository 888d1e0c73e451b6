use Rattle.std.proofs.Common.{◌≤◌, Ok, take, drop}
use Rattle.std.specs.List.{flat_map}
use Rattle.b67_backing.specs.Links.{links_in}
use Rattle.b67_image.specs.Punching.{Punched}
use Rattle.b67_image.specs.Spelling.{four_bytes}
use Rattle.b67_image.proofs.writing.put_window.Given as goal

abbrev pub invariant-each : goal.invariant-each
invariant-each g l = record {
  later : g.K.Sink.faults l.fn.sink ≤ g.K.Sink.faults l.sink;
  punched : Punched g.K.Sink.taken l.fn.sink l.sink l.fn.hand l.hand (Ok tt) (flat_map four_bytes (take l.k (take l.many (drop l.before (links_in l.sectors)))));
}
