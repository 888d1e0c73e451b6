use Rattle.std.proofs.Common.{arith}
use Rattle.b67_image.proofs.Codes.{links_typed}
use Rattle.b67_image.proofs.typed.links_are_typed.Goals as goal

pub returns : goal.returns
returns c = links_typed c.args.sectors.now c.sectors.n (omega (arith, c.sectors-test.false)) c.sectors.invariant.1
