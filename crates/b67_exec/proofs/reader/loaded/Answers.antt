use Rattle.std.proofs.Common.{◌+◌, ◌*◌, ◌%◌, ◌^◌, ap, ◌∙◌}
use Rattle.std.specs.Prelude.{slice_index}
use Rattle.std.specs.Int.{w64, rotate_left}
use Rattle.b67_model.specs.Common.{code_of}
use Rattle.b67_exec.specs.Near.{syllables_of}
use Rattle.b67_exec.proofs.reader.loaded.Goals as goal

pub returns : goal.returns
unfolding syllables_of
returns c = λ x plan s m t ordered h runs.
    c.rotate_left.ensures ∙ ap (λ z. rotate_left w64 (z * 2 ^ 16 % 2 ^ 64) (8 + 8 * c.from.result)) (c.word_at-word.ensures.word x plan s m t ordered h runs)
    ∙ ap (λ z. rotate_left w64 (slice_index (code_of m.constants t.segment) c.args.at.word * 2 ^ 16 % 2 ^ 64) (8 + 8 * z)) c.from.ensures
