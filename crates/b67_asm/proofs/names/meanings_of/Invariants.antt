use Rattle.std.proofs.Common.{◌≡◌, ◌≤◌, ℕ, List, drop}
use Rattle.std.specs.Option.{option_or}
use Rattle.b67_model_text.specs.Asm.{meaning, definitions}
use Rattle.b67_asm.specs.Names.{name_entries}
use Rattle.b67_asm.proofs.names.meanings_of.Given as goal

abbrev pub invariant-loop-line : goal.invariant-loop-line
invariant-loop-line l = (l.segments ≤ l.line-index) × (l.rows ≤ l.line-index) × ((q : List ℕ) → option_or (meaning (name_entries l.names.entries) q) (meaning (definitions l.segments l.rows (drop l.line-index l.lines)) q) ≡ meaning (definitions 0 0 l.lines) q)
