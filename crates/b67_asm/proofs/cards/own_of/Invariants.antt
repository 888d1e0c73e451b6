use Rattle.std.proofs.Common.{◌≡◌, ◌≤◌, ◌-◌, ◌++◌, length, take, drop}
use Rattle.b67_model_text.specs.Asm.{own}
use Rattle.b67_asm.proofs.cards.own_of.Given as goal

abbrev pub invariant-loop-count : goal.invariant-loop-count
invariant-loop-count l = (l.count ≤ length l.lines) × (take l.count l.lines ++ own (drop l.count l.lines) ≡ own l.lines)

abbrev pub decreases-loop-count : goal.decreases-loop-count
decreases-loop-count l = length l.lines - l.count
