use Rattle.std.proofs.Common.{◌≡◌, ◌++◌, ◌≤◌, ◌-◌, ◌*◌, ◌%◌, length}
use Rattle.b67_model_text.specs.Encoding.{filling}
use Rattle.b67_asm.proofs.lay.fill.Given as goal
use Rattle.b67_model.specs.declared.limits.TheConstants.{MOST_SEGMENT}

abbrev pub invariant-loop-out : goal.invariant-loop-out
invariant-loop-out l = (l.out.items ++ filling (length l.out.items) ≡ l.fn.out.items ++ filling (length l.fn.out.items)) × (length l.fn.out.items ≤ length l.out.items) × (length l.fn.out.items ≤ 6 * MOST_SEGMENT → length l.out.items ≤ 6 * MOST_SEGMENT)

abbrev pub decreases-loop-out : goal.decreases-loop-out
decreases-loop-out l = (6 - length l.out.items % 6) % 6
