use Rattle.std.proofs.Common.{subst}
use Rattle.b67_model_text.specs.Asm as asm
use Rattle.b67_asm.specs.Blocks.{IsAssembled, with_names}
use Rattle.b67_asm.proofs.assembly.assemble_lines.Goals as goal

pub returns : goal.returns
returns c = subst (λ (names : asm.Names). IsAssembled c.with_names.result (asm.version_in c.args.lines.now) (with_names names c.args.lines.now)) c.in_ok-names.ensures c.with_names.ensures
