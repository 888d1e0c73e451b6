use Rattle.std.specs.Prelude.{◌≡◌, ◌≤◌, false, take, length}
use Rattle.std.specs.List.{list_any}
use Rattle.b67_model.specs.Intrinsics.{is_original}
use Rattle.b67_layout.specs.Meets.{ForEach}
use Rattle.b67_layout.specs.Tops.{cells}
use Rattle.b67_mcp.proofs.process_asked.any_original.Given as goal

abbrev pub invariant-loop-above : goal.invariant-loop-above
invariant-loop-above l = ForEach l.cpu (λ x plan s m t. l.count ≤ length (cells t) → list_any is_original (take l.above (cells t)) ≡ false)
