use Rattle.std.proofs.Common.{◌≡◌, ◌++◌, drop}
use Rattle.b67_model_text.specs.Statements.{lines_of}
use Rattle.b67_asm.proofs.statement.lines_of.Given as goal

abbrev pub invariant-loop-card : goal.invariant-loop-card
invariant-loop-card l = l.lines ++ lines_of (drop l.card-index l.cards) ≡ lines_of l.cards
