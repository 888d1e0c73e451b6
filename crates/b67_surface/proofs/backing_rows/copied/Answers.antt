use Rattle.std.proofs.Common.{arith}
use Rattle.b67_backing.specs.Shelf.{all_free, taken}
use Rattle.b67_surface.proofs.backing_rows.copied.Goals as goal

pub save-saved-requires-clause-chain : goal.save-saved-requires-clause-chain
save-saved-requires-clause-chain g c = (taken 2 (all_free 3), c.in-Some.ensures.chain (all_free 3) c.requires.free)

pub save-saved-requires-clause-same : goal.save-saved-requires-clause-same
save-saved-requires-clause-same g c = omega (arith, c.requires.size, c.take.ensures.count)

pub restore-restored-requires-clause-chain : goal.restore-restored-requires-clause-chain
restore-restored-requires-clause-chain g c = (taken 2 (all_free 3), c.in-Some.ensures.chain (all_free 3) c.requires.free)

pub restore-restored-requires-clause-same : goal.restore-restored-requires-clause-same
restore-restored-requires-clause-same g c = omega (arith, c.save-saved.ensures.device.size, c.requires.size, c.take.ensures.count)
