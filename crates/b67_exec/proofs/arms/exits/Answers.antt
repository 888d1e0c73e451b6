use Rattle.std.proofs.Common.{arith}
use Rattle.b67_model.specs.declared.operators.Op.TheVariants.{Plain}
use Rattle.b67_exec.proofs.Mades.{leaving_made, leaving_refused, top_fits}
use Rattle.b67_exec.proofs.arms.exits.Goals as goal

pub overflow_add-upto : goal.overflow_add-upto
overflow_add-upto c = omega (arith, top_fits c.args.cpu.now c.requires.runs)

pub returns-then-makes_leaving : goal.returns-then-makes_leaving
returns-then-makes_leaving c = leaving_made (Plain c.args.code) c.args.cpu.now c.makes_leaving.new.cpu c.makes_leaving.result c.makes_leaving.new.why c.if-makes_leaving.true c.makes_leaving.ensures

pub returns-else-makes_leaving : goal.returns-else-makes_leaving
returns-else-makes_leaving c = leaving_refused (Plain c.args.code) c.args.cpu.now c.makes_leaving.new.cpu c.makes_leaving.result c.makes_leaving.new.why c.if-makes_leaving.false c.makes_leaving.ensures
