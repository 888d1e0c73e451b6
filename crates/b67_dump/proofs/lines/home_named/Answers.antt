use Rattle.std.proofs.Common.{rules}
use Rattle.b67_dump.proofs.Lined.{bit_set, bit_clear}
use Rattle.b67_dump.proofs.lines.home_named.Goals as goal

pub returns-then-part-eq1 : goal.returns-then-part-eq1
returns-then-part-eq1 c = let b = bit_set c.args.w 47 c.part.result c.part.ensures.value c.if-part-eq1.true in rw b (search rules)

pub returns-else-part-eq1 : goal.returns-else-part-eq1
returns-else-part-eq1 c = let b = bit_clear c.args.w 47 c.part.result c.part.ensures.value c.if-part-eq1.false in rw b (search rules)
