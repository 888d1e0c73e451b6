-- The text of one activation record, by its mark and its topmost word.
use Rattle.std.specs.Prelude.{ℕ, zero, suc, ◌+◌, ◌-◌, List, [], ◌∷◌, ◌++◌, length, codes, decimal}
use Rattle.b67_word.specs.Tagged.{Tagged}
use Rattle.b67_io.specs.Line.{ended}
use Rattle.b67_stack.specs.Common.{Activation}
use Rattle.b67_layout.specs.Common.{JobRow}
use Rattle.b67_layout_shown.specs.Reading.{word_seen_at, mscw_in, activation_by}
use Rattle.b67_layout_shown.specs.Shown.{Sight}
use Rattle.b67_dump.specs.Dump.{beside}
use Rattle.b67_dump.specs.Walk.{head_text, shapes_text}

-- the activation record whose mark stands at f, up to s
abbrev pub activation_in : List Tagged → ℕ → ℕ → Activation
activation_in core f s = let m = mscw_in (word_seen_at core f) in activation_by core f s m m.entered

abbrev pub activation_text : Sight → JobRow → ℕ → ℕ → Activation → List ℕ
activation_text k row job number a = ended (beside (codes "FRAME") (beside (decimal number) (head_text k job a.head))) ++ shapes_text k row job a.cells

abbrev pub record_text : Sight → JobRow → ℕ → ℕ → ℕ → ℕ → List ℕ
record_text k row job number f s = activation_text k row job number (activation_in k.core f s)

-- those of marks from the top one down, of which the first reaches up to s, the bottom one first
abbrev pub marked_text : Sight → JobRow → ℕ → ℕ → List ℕ → List ℕ
marked_text k row job s [] = []
marked_text k row job s (f ∷ below) = marked_text k row job (f - 1) below ++ record_text k row job (length below + 1) f s

-- what the record of a mark reaches up to, with so many marks above it: the word under the next mark
abbrev pub top_above : ℕ → List ℕ → ℕ → ℕ
top_above s marks zero = s
top_above s [] (suc i) = s
top_above s (f ∷ below) (suc i) = top_above (f - 1) below i
