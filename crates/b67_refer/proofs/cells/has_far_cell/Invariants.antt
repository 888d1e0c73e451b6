use Rattle.std.proofs.Common.{◌≡◌, ℕ, ◌+◌, ◌<◌, ◌≤◌, Some}
use Rattle.std.specs.List.{slice_get}
use Rattle.b67_word.specs.Tagged.{Tagged}
use Rattle.b67_model.specs.InOrder.{NamesEntered}
use Rattle.b67_refer.specs.LiveCells as live
use Rattle.b67_refer.specs.RunningContext.{LiveContext}
use Rattle.b67_refer.proofs.Walks.{Walk}
use Rattle.b67_refer.proofs.cells.has_far_cell.Given as goal

abbrev pub invariant-loop-k : goal.invariant-loop-k
invariant-loop-k l = record {
  plain : (j : ℕ) (w : Tagged) → l.base + 2 ≤ j → j < l.k → slice_get l.core j ≡ Some w → w.tag ≡ 3 → ⊥;
  walk : (a : LiveContext l.core l.regs) (f : ℕ) → NamesEntered (live.reach a) f → 1 < f → l.base ≡ live.frame_at_core a f → Walk l.core l.regs a l.base l.mark l.past;
}
