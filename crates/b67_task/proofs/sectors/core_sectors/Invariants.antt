use Rattle.std.proofs.Common.{◌≡◌, ℕ, true, ◌+◌, ◌-◌, ◌*◌, ◌≤◌}
use Rattle.b67_stack.specs.MachineView.{MachineView, slot_base}
use Rattle.b67_overlay.specs.Turns.{Lies}
use Rattle.b67_task.specs.Sums.{core_sectors_from, sectors_of_slots}
use Rattle.b67_task.proofs.sectors.core_sectors.Given as goal

abbrev pub invariant-loop-slot : goal.invariant-loop-slot
invariant-loop-slot l = record {
  value : (low : ℕ) (p : MachineView) → Lies l.core l.regs low p → (l.base ≡ slot_base p l.slot) × (l.sum ≡ core_sectors_from true l.core 160 (p.stacks - 160) + sectors_of_slots l.core p l.slot);
  low : l.sum ≤ 2185 * l.base;
}
