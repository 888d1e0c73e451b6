use Rattle.std.proofs.Common.{◌≡◌, ◌++◌, map, drop}
use Rattle.std.specs.Option.{option_map}
use Rattle.b67_model_text.specs.Placing.{operands_in}
use Rattle.b67_card.proofs.contents.put_operands.Given as goal

abbrev pub invariant-loop-word : goal.invariant-loop-word
invariant-loop-word l = option_map (λ more. l.into ++ more) (operands_in (map (λ w. w.now) (drop l.word-index l.words))) ≡ option_map (λ more. l.fn.into ++ more) (operands_in (map (λ w. w.now) l.words))
