use Rattle.std.proofs.Common.{◌+◌, ℕ, List, take, drop, Some, ap, ◌∙◌}
use Rattle.std.specs.Option.{option_map}
use Rattle.b67_card.proofs.Slices.{rest_is}
use Rattle.b67_card.proofs.word.parted.Goals as goal

pub returns-in-Some : goal.returns-in-Some
returns-in-Some c = ap (λ (rest : List ℕ). Some (take c.in-Some.at c.args.text.now, rest)) (rest_is (c.in-Some.at + 1) c.args.text.now) ∙ ap (option_map (λ at. (take at c.args.text.now, drop (at + 1) c.args.text.now))) c.in-Some.ensures
