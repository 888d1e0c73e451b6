use Rattle.std.proofs.Common.{arith}
use Rattle.b67_load.proofs.Starts.{marked-more, mark-within}
use Rattle.b67_load.proofs.entry.starts_of.Goals as goal

pub index_mut-requires : goal.index_mut-requires
index_mut-requires c = mark-within c.args.words c.args.entries.now c.entries.entry-index _ _ _ c.entries-test.true c.requires.inside (omega (arith, c.entries.invariant.room, c.entries.starts.ok.0)) c.count_at.ensures

pub entries-preserved : goal.entries-preserved
entries-preserved c = rw c.count_at.ensures (marked-more c.args.words _ c.args.entries.now c.entries.entry-index _ c.entries-test.true c.requires.inside c.entries.invariant)
