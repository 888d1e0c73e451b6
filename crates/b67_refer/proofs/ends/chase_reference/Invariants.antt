use Rattle.std.proofs.Common.{ℕ, ◌-◌, Bool}
use Rattle.b67_word.specs.declared.couples.Place.{Place}
use Rattle.b67_model.specs.Words.{Word}
use Rattle.b67_refer.specs.RunningContext.{LiveContext, IsShown, running_of}
use Rattle.b67_refer.specs.LiveCells.{StandsFor}
use Rattle.b67_refer.specs.LiveEnds.{IsReference}
use Rattle.b67_refer.proofs.SeenFrom.{eye}
use Rattle.b67_refer.proofs.Names.{Rest}
use Rattle.b67_refer.proofs.ends.chase_reference.Given as goal

abbrev pub invariant-loop-i : goal.invariant-loop-i
invariant-loop-i l =
    (a : LiveContext l.core l.regs) (q : Place) → IsShown (running_of a) l.display → (at owner : ℕ) (v : Word) → StandsFor a at owner l.initial.w v → IsReference v
    → (own : Bool) × Rest l.core l.regs (eye a own) q l.links (l.links - l._i) v l.w
