use Rattle.std.proofs.Common.{sym, ◌∙◌}
use Rattle.b67_mcp.proofs.Cells.{plain_tag, copy_tells}
use Rattle.b67_mcp.proofs.process_asked.is_original.Goals as goal

pub returns-then-tag-ne5 : goal.returns-then-tag-ne5
returns-then-tag-ne5 c = λ x plan s m t o h runs v i. sym (plain_tag x c.args.cpu.now plan s m t o h runs c.args.w v i (λ z. c.if-tag-ne5.true (c.tag.ensures.value ∙ z)))

pub returns : goal.returns
returns c = λ x plan s m t o h runs v i.
    copy_tells x c.args.cpu.now plan s m t o h runs c.args.w v i (sym c.tag.ensures.value ∙ c.if-tag-ne5.false) c.read.result c.read.ensures
