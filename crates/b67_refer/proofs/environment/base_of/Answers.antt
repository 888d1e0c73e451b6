use Rattle.std.proofs.Common.{arith}
use Rattle.b67_refer.proofs.Bases.{of_dictionary}
use Rattle.b67_refer.proofs.environment.base_of.Goals as goal

pub returns-then-stack-lt-MCP_STACK-clause-small : goal.returns-then-stack-lt-MCP_STACK-clause-small
returns-then-stack-lt-MCP_STACK-clause-small c = let a = c.requires in (of_dictionary c.args.core.now c.args.regs.now a.0 c.args.stack a.1 (omega (arith, c.if-stack-from.false, c.from.ensures)) c.if-stack-lt-MCP_STACK.true).1
