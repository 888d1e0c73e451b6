use Rattle.std.proofs.Common.{◌≡◌, ◌≤◌, ◌+◌, ◌-◌, ℕ, List, Option}
use Rattle.b67_model.specs.Common.{Session, after}
use Rattle.b67_stack.specs.declared.Step.TheVariants.{Done}
use Rattle.b67_session.specs.Slices.{StandsAt, Keeps}
use Rattle.b67_session.specs.Steps.{GoesOnInTurn}
use Rattle.b67_session.specs.Search.{CountsOn, PassesBy}
use Rattle.b67_session.proofs.finding.go_on_looking.Given as goal

abbrev pub invariant-operator : goal.invariant-operator
invariant-operator l = record {
  counts : CountsOn l.next l.most l.made;
  why : l.why ≡ Done;
  keeps : Keeps l.initial.machine l.machine;
  goes_on : (said : Option (List (List ℕ))) (s : Session) → StandsAt said l.initial.machine s → GoesOnInTurn said (l.made - l.next) s l.initial.machine l.machine;
  turn : l.machine.tasks.turn + l.next ≡ l.initial.machine.tasks.turn + l.made;
  passes : (said : Option (List (List ℕ))) (start s : Session) (from : ℕ) → StandsAt said l.initial.machine s → 1 ≤ s.turn → after l.next start ≡ s → from ≤ l.next
      → PassesBy l.what l.places from l.next l.made start l.initial.best l.best;
}

abbrev pub decreases-operator : goal.decreases-operator
decreases-operator l = l.most - l.made
