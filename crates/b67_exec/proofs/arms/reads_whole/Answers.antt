use Rattle.std.proofs.Common.{refl}
use Rattle.b67_exec.proofs.Wholes.{stands_whole, whole_away, whole_not}
use Rattle.b67_exec.proofs.arms.reads_whole.Goals as goal

pub makes_whole-requires-clause-whole : goal.makes_whole-requires-clause-whole
makes_whole-requires-clause-whole c = stands_whole c.args.cpu.now c.args.reader c.requires.stands c.requires.whole

pub returns-then-makes_whole : goal.returns-then-makes_whole
returns-then-makes_whole c = whole_away c.args.cpu.now c.makes_whole.new.cpu c.makes_whole.result c.makes_whole.new.why c.if-makes_whole.true c.makes_whole.ensures

pub returns-else-makes_whole : goal.returns-else-makes_whole
returns-else-makes_whole c =
    let no = whole_not c.args.cpu.now c.makes_whole.new.cpu c.makes_whole.result c.makes_whole.new.why c.if-makes_whole.false c.makes_whole.ensures in
    (no.0, refl, no.1)
