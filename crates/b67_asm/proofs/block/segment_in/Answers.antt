use Rattle.std.proofs.Common.{sym}
use Rattle.b67_asm.specs.Scope.{names_in}
use Rattle.b67_asm.proofs.Parts.{segment_made}
use Rattle.b67_asm.proofs.block.segment_in.Goals as goal

pub returns-in-Ok-segment_code-clause-exact : goal.returns-in-Ok-segment_code-clause-exact
returns-in-Ok-segment_code-clause-exact c =
    let h = c.in-Ok-segment_code.ensures in
    segment_made (names_in c.args.names.now) c.args.segments c.args.block.now.segments c.args.block.now.rows c.args.block.now.number c.in-Ok.level c.args.block.now.name.now c.args.level c.args.block.now.own.now h.0 h.1 c.in-Ok-segment_code.coded.entries c.in-Ok-segment_code.coded.code (sym c.in-Ok.ensures.exact) c.in-Ok.ensures.small c.in-Ok.ensures.some h.2 h.3 h.4
