-- A step that isn't done.
use Rattle.std.proofs.Common.{◌≡◌, subst}
use Rattle.b67_stack.specs.declared.Step.{Step}
use Rattle.b67_stack.specs.declared.Step.TheVariants as step

abbrev pub Stops : Step → Type 0
Stops step.Done = ⊥
Stops _ = Unit {0}

pub not_done : (answered : Step) → Stops answered → answered ≡ step.Done → ⊥
not_done answered stops e = subst Stops e stops
