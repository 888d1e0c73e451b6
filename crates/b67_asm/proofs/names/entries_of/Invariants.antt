use Rattle.std.proofs.Common.{◌≡◌, ◌||◌, ℕ, List, is_some, drop}
use Rattle.std.specs.List.{list_any}
use Rattle.b67_model_text.specs.Asm.{meaning, names_entry}
use Rattle.b67_asm.specs.Names.{label_entries}
use Rattle.b67_asm.proofs.names.entries_of.Given as goal

abbrev pub invariant-loop-line : goal.invariant-loop-line
invariant-loop-line l = (q : List ℕ) → (is_some (meaning (label_entries l.entries.entries) q) || list_any (λ l. names_entry q l.says) (drop l.line-index l.lines)) ≡ list_any (λ l. names_entry q l.says) l.lines
