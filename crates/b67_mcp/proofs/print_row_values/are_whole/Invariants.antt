use Rattle.std.proofs.Common.{◌≡◌, drop}
use Rattle.b67_mcp.specs.Texts.{values_of, is_some}
use Rattle.b67_mcp.proofs.print_row_values.are_whole.Given as goal

abbrev pub invariant-loop-w : goal.invariant-loop-w
invariant-loop-w l = is_some (values_of (drop l.w-index l.row)) ≡ is_some (values_of l.row)
