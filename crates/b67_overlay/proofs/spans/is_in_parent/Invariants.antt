use Rattle.std.proofs.Common.{◌≡◌, ℕ, Some}
use Rattle.b67_stack.specs.MachineView.{MachineView}
use Rattle.b67_overlay.specs.Turns.{Lies}
use Rattle.b67_overlay.specs.Spans.{Resident, Families, ShowsFamilies}
use Rattle.b67_overlay.proofs.Families.{Walk}
use Rattle.b67_overlay.proofs.spans.is_in_parent.Given as goal

abbrev pub invariant-loop-n : goal.invariant-loop-n
invariant-loop-n l = (low : ℕ) (p : MachineView) (f : Families) (a : Resident) → Lies l.core l.regs low p → ShowsFamilies l.core p f → f.kin l.fn.slot ≡ Some a
    → Walk p f l.fn.address a l.child l.n
