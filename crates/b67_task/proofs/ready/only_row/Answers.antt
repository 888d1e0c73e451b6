use Rattle.std.proofs.Common.{refl, sym, ◌∙◌, arith}
use Rattle.b67_task.proofs.Nearer.{seen, alone, alone_not}
use Rattle.b67_task.proofs.ready.only_row.Goals as goal

pub returns-then-is_ready : goal.returns-then-is_ready
returns-then-is_ready c = λ last. alone c.args.rows.now 0 _ (seen c.args.rows.now 0 _ (omega (arith, c.requires))) last refl (sym c.is_ready.ensures ∙ c.if-is_ready.true)

pub returns : goal.returns
returns c = λ last. alone_not c.args.rows.now 0 _ (seen c.args.rows.now 0 _ (omega (arith, c.requires))) last refl (sym c.is_ready.ensures ∙ c.if-is_ready.false)
