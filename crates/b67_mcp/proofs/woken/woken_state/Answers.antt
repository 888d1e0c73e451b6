use Rattle.std.proofs.Common.{sym, ◌∙◌, ap}
use Rattle.b67_mcp.specs.Woken.{woken_state}
use Rattle.b67_mcp.proofs.WokenRows.{woken_there, other_mark, other_offset}
use Rattle.b67_mcp.proofs.woken.woken_state.Goals.{else-at-mark-via-then-at-mark+else-other-offset, else-at-mark-via-else-at-mark}
use Rattle.b67_mcp.proofs.woken.woken_state.Goals as goal

pub returns-then-other-offset : goal.returns-then-other-offset
returns-then-other-offset c = woken_there c.args.mark c.args.offset c.in-WaitsAt.at c.in-WaitsAt.other c.if-at-mark.true c.if-other-offset.true ∙ sym (ap (woken_state c.args.mark c.args.offset) c.in-WaitsAt.is)

pub returns-else-at-mark : goal.returns-else-at-mark
returns-else-at-mark c =
    elim c.else-at-mark.branch [
      | else-at-mark-via-then-at-mark+else-other-offset w ↦ other_offset c.args.mark c.args.offset c.in-WaitsAt.at c.in-WaitsAt.other w.if-other-offset.false
      | else-at-mark-via-else-at-mark w ↦ other_mark c.args.mark c.args.offset c.in-WaitsAt.at c.in-WaitsAt.other w.if-at-mark.false
    ]
    ∙ sym (ap (woken_state c.args.mark c.args.offset) c.in-WaitsAt.is)
