use Rattle.std.proofs.Common.{◌≡◌, ◌≤◌, ◌*◌, ℕ, List, drop}
use Rattle.std.specs.Option.{option_or}
use Rattle.b67_model_text.specs.Asm.{meaning, labels}
use Rattle.b67_asm.specs.Names.{label_entries}
use Rattle.b67_asm.proofs.names.labels_of.Given as goal

abbrev pub invariant-loop-line : goal.invariant-loop-line
invariant-loop-line l = (l.n ≤ 12 * l.line-index) × ((q : List ℕ) → option_or (meaning (label_entries l.labels.entries) q) (meaning (labels l.n (drop l.line-index l.lines)) q) ≡ meaning (labels 0 l.lines) q)
