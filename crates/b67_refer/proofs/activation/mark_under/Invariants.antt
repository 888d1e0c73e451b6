use Rattle.std.proofs.Common.{ℕ}
use Rattle.b67_word.specs.declared.couples.Place.{Place}
use Rattle.b67_refer.specs.RunningContext.{RunningContext}
use Rattle.b67_refer.specs.Ends.{IsProcAt}
use Rattle.b67_refer.proofs.Scans.{Over}
use Rattle.b67_refer.proofs.Enclosures.{Between}
use Rattle.b67_refer.proofs.activation.mark_under.Given as goal

abbrev pub invariant-loop-turn : goal.invariant-loop-turn
invariant-loop-turn l = (a : RunningContext l.core l.regs) → Between l.core l.regs a l.last l.end

abbrev pub invariant-down : goal.invariant-down
invariant-down l = record {
  scan : (a : RunningContext l.core l.regs) (q : Place) (f segment level : ℕ) (place : Place) (p : IsProcAt a q l.cell f segment level place) → Over l.core l.regs a q l.cell f segment level place p l.at;
  walk : (a : RunningContext l.core l.regs) (q : Place) (f segment level : ℕ) (place : Place) → IsProcAt a q l.cell f segment level place → Between l.core l.regs a l.mark l.past;
}

abbrev pub decreases-down : goal.decreases-down
decreases-down l = l.at
