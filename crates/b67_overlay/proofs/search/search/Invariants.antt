use Rattle.std.proofs.Common.{ℕ, ◌<◌}
use Rattle.b67_stack.specs.MachineView.{MachineView}
use Rattle.b67_overlay.specs.Turns.{SpansTurned, Lies}
use Rattle.b67_overlay.specs.Spans.{Families, ShowsFamilies}
use Rattle.b67_overlay.proofs.search.search.Given as goal

abbrev pub invariant-loop-k : goal.invariant-loop-k
invariant-loop-k l = (low : ℕ) (p : MachineView) (f : Families) → Lies l.initial.core l.regs low p → ShowsFamilies l.initial.core p f → l.original < low
    → Lies l.core l.regs low p × ShowsFamilies l.core p f × SpansTurned p f l.k l.area l.original l.initial.core l.core
