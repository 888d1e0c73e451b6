use Rattle.std.proofs.Common.{refl}
use Rattle.b67_image.proofs.Steps.{no_offset, no_number, no_other}
use Rattle.b67_image.proofs.tables.state_by_kind.Goals as goal

pub returns-in-0 : goal.returns-in-0
returns-in-0 c = rw (c.in-0.is, c.if-number-eq0.true, c.if-offset-eq0.true) refl

pub returns-in-1 : goal.returns-in-1
returns-in-1 c = rw (c.in-1.is, c.if-offset-eq0-2.true) refl

pub returns-in-2 : goal.returns-in-2
returns-in-2 c = rw c.in-2.is refl

pub returns-in_default : goal.returns-in_default
returns-in_default c = rw c.in-0.is (no_offset c.args.number c.args.offset c.if-offset-eq0.false)

pub returns-in_default-2 : goal.returns-in_default-2
returns-in_default-2 c = rw c.in-0.is (no_number c.args.number c.args.offset c.if-number-eq0.false)

pub returns-in_default-3 : goal.returns-in_default-3
returns-in_default-3 c = rw c.in-1.is (no_other c.args.number c.args.offset c.if-offset-eq0-2.false)
