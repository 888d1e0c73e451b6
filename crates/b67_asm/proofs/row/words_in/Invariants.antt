use Rattle.std.proofs.Common.{◌≡◌, ◌≤◌, [], length, drop}
use Rattle.std.specs.List.{AllByRecursion}
use Rattle.b67_word.specs.Tagged.{contents}
use Rattle.b67_codefile.specs.Spelling.{HasTag}
use Rattle.b67_model_text.specs.Asm.{row_words}
use Rattle.b67_asm.specs.Scope.{names_in}
use Rattle.b67_asm.specs.RowPutting.{words_behind}
use Rattle.b67_asm.proofs.row.words_in.Given as goal
use Rattle.b67_model.specs.declared.limits.TheConstants.{MOST_ARRAY}

abbrev pub invariant-loop-line : goal.invariant-loop-line
invariant-loop-line l = (length l.words ≤ MOST_ARRAY) × (l.line-index ≤ length l.words) × AllByRecursion (HasTag 0) l.words × (words_behind (contents l.words) (row_words (names_in l.names) (length l.words) (drop l.line-index l.lines)) ≡ words_behind [] (row_words (names_in l.names) 0 l.lines))
