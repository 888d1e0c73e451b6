use Rattle.std.proofs.Common.{◌≤◌, ◌<◌, length, arith, replicate, zero}
use Rattle.b67_recorded.specs.Mirror.{mirrored}
use Rattle.b67_recorded.proofs.Knowing.{tested, tested_back, within, behind}
use Rattle.b67_recorded.proofs.mirror.Mirrored.is_known.Goals as goal

pub returns-then-n-len : goal.returns-then-n-len
returns-then-n-len g c =
    let size = g.B.Backing.size c.args.self.now.inner in
    let held = c.args.self.now.held.items in
    let few : c.args.n ≤ length held = grind arith in
    tested c.index.result.now c.args.numbers.now (mirrored size held) c.args.n c.eq.result (within size held c.args.n c.index.result.now c.requires.low few c.index.ensures) c.eq.ensures

pub returns : goal.returns
returns g c =
    let size = g.B.Backing.size c.args.self.now.inner in
    let held = c.args.self.now.held.items in
    let more : length held < c.args.n = grind arith in
    tested_back (replicate 30 zero) c.args.numbers.now (mirrored size held) c.args.n c.eq-2.result (behind size held c.args.n more c.requires.high) c.eq-2.ensures
