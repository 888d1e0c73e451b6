use Rattle.std.proofs.Common.{refl}
use Rattle.b67_model.specs.declared.operators.Op.TheVariants.{Plain}
use Rattle.b67_model.specs.declared.operators.Code.TheVariants as codes
use Rattle.b67_exec.proofs.Fars.{on_shortly}
use Rattle.b67_exec.proofs.short_ways.indexes_own.Goals as goal

pub indx_at-requires-clause-item : goal.indx_at-requires-clause-item
indx_at-requires-clause-item c = c.in-Some.ensures (c.in-Some.original, c.in-Some.index) refl

pub returns-in-Some : goal.returns-in-Some
returns-in-Some c = on_shortly (Plain codes.Indx) c.args.next c.args.cpu.now c.indx_at.new.cpu c.requires c.indx_at.result c.is_made.result c.is_made.ensures c.indx_at.ensures.row c.indx_at.ensures.stays
