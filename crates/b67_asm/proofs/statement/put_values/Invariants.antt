use Rattle.std.proofs.Common.{◌≡◌, ◌++◌, map, drop}
use Rattle.std.specs.Option.{option_map}
use Rattle.b67_model_text.specs.Statements.{all_bits}
use Rattle.b67_asm.proofs.statement.put_values.Given as goal

abbrev pub invariant-loop-word : goal.invariant-loop-word
invariant-loop-word l = option_map (λ more. l.into ++ more) (all_bits (map (λ w. w.now) (drop l.word-index l.words))) ≡ option_map (λ more. l.fn.into ++ more) (all_bits (map (λ w. w.now) l.words))
