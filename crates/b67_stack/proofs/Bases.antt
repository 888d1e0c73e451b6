-- Slots follow each other.
use Rattle.std.proofs.Common.{◌≡◌, ℕ, ◌+◌, ◌*◌, ◌<◌, ◌≤◌, arith}
use Rattle.std.proofs.Math.Nat.{mul-le-mul_right}
use Rattle.b67_stack.specs.MachineView.{MachineView, slot_base}

next_product : (k n : ℕ) → (k + 1) * n ≡ k * n + n
next_product k n = grind arith

pub base-step : (p : MachineView) (k : ℕ) → slot_base p (k + 1) ≡ slot_base p k + p.size
base-step p k = omega (arith, next_product k p.size)

pub base-apart : (p : MachineView) (j k : ℕ) → j < k → slot_base p j + p.size ≤ slot_base p k
base-apart p j k h = omega (arith, next_product j p.size, mul-le-mul_right {m = j + 1} {n = k} p.size (omega arith))
