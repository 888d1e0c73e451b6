use Rattle.std.proofs.Common.{◌+◌, map, arith}
use Rattle.std.proofs.lemmas.Result.{on_ok_weaker}
use Rattle.b67_codefile.specs.Meaning.{segment_of}
use Rattle.b67_load.specs.Objects.{code_from}
use Rattle.b67_load.specs.StoredObjects.{stocked}
use Rattle.b67_load.proofs.Steps.{sectors-parts, all_written, all_spared}
use Rattle.b67_load.proofs.installing.install_objects.Goals as goal

pub install_segments-requires-clause-sectors : goal.install_segments-requires-clause-sectors
install_segments-requires-clause-sectors g c = record {
  known = c.requires.sectors.known;
  same = c.requires.sectors.same;
  room = omega (arith, c.requires.sectors.room, sectors-parts c.args.base c.args.file.now c.as_slice-segments.result.now c.as_slice-rows.result.now c.as_slice-segments.ensures c.as_slice-rows.ensures);
}

pub install_rows-requires-clause-sectors : goal.install_rows-requires-clause-sectors
install_rows-requires-clause-sectors g c =
    let (st, is) = c.requires.sectors.known in
    record {
      known = (stocked (code_from (c.args.base + 2) (map segment_of c.as_slice-segments.result.now)) st, c.in_ok-install_segments.ensures.writes.shelf st is);
      same = omega (arith, c.requires.sectors.same, c.install_segments.ensures.device.size, c.install_segments.ensures.spares.links);
      room = omega (arith, c.requires.sectors.room, c.in_ok-install_segments.ensures.writes.left, sectors-parts c.args.base c.args.file.now c.as_slice-segments.result.now c.as_slice-rows.result.now c.as_slice-segments.ensures c.as_slice-rows.ensures);
    }

pub returns-clause-writes : goal.returns-clause-writes
returns-clause-writes g c =
    on_ok_weaker c.install_rows.result
    (all_written g.B.Backing.holds c.args.base c.args.file.now c.as_slice-segments.result.now c.as_slice-rows.result.now _ _ _ c.as_slice-segments.ensures c.as_slice-rows.ensures c.in_ok-install_segments.ensures.writes c.install_rows.ensures.spares)
    c.install_rows.ensures.writes

pub returns-clause-spares : goal.returns-clause-spares
returns-clause-spares g c =
    all_spared g.B.Backing.holds c.args.base c.args.file.now c.as_slice-segments.result.now c.as_slice-rows.result.now _ _ _ c.as_slice-segments.ensures c.as_slice-rows.ensures c.install_segments.ensures.spares c.install_rows.ensures.spares
