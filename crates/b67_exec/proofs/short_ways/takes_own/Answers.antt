use Rattle.std.proofs.Common.{refl}
use Rattle.b67_model.specs.declared.operators.Op.TheVariants.{Plain}
use Rattle.b67_model.specs.declared.operators.Code.TheVariants as codes
use Rattle.b67_exec.proofs.Fars.{on_shortly}
use Rattle.b67_exec.proofs.short_ways.takes_own.Goals as goal

pub nxlv_at-requires-clause-item : goal.nxlv_at-requires-clause-item
nxlv_at-requires-clause-item c = c.in-Some.ensures (c.in-Some.original, c.in-Some.index) refl

pub returns-in-Some : goal.returns-in-Some
returns-in-Some c = on_shortly (Plain codes.Nxlv) c.args.next c.args.cpu.now c.nxlv_at.new.cpu c.requires c.nxlv_at.result c.is_made.result c.is_made.ensures c.nxlv_at.ensures.row c.nxlv_at.ensures.stays
