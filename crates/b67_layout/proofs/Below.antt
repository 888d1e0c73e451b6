-- The words below the slots.
use Rattle.std.proofs.Common.{◌≢◌, ℕ, ◌<◌, ◌≤◌, ◌⊎◌, ⊎_elim, List, refl, ◌∙◌, arith}
use Rattle.b67_word.specs.Tagged.{Tagged}
use Rattle.b67_ctl.specs.declared.registers.Regs.{Regs}
use Rattle.b67_stack.specs.Common.{MachineView, Storage, Represents, LowWordsStayed}

pub Stayed-none : (p : MachineView) (core : List Tagged) → LowWordsStayed p core core
Stayed-none p core = λ i low out apart. refl

pub Stayed-then : (p : MachineView) (core mid new : List Tagged) → LowWordsStayed p core mid → LowWordsStayed p mid new → LowWordsStayed p core new
Stayed-then p core mid new a b = λ i low out apart. b i low out apart ∙ a i low out apart

pub stacks_low : (x : Storage) (core : List Tagged) (r : Regs) (p : MachineView) → Represents x core r p → p.stacks ≤ x.low
stacks_low x core r p s = omega (arith, s.slots.laid.low)

pub not_heads : (i : ℕ) → (i < 152) ⊎ (160 ≤ i) → i ≢ 152
not_heads i out e = ⊎_elim (λ (a : i < 152). let z : ⊥ = omega arith in z) (λ (a : 160 ≤ i). let z : ⊥ = omega arith in z) out
