-- The array and the index that two words give.
use Rattle.std.specs.Prelude.{◌≡◌, ◌≤◌, ◌+◌, ℕ, List, [], ◌∷◌, Result, Ok, Err}
use Rattle.b67_word.specs.declared.couples.Place.{Place}
use Rattle.b67_word.specs.declared.faults.Fault.{Fault}
use Rattle.b67_word.specs.declared.faults.Fault.TheVariants.{StackUnderflow, InvalidOperand}
use Rattle.b67_model.specs.Common.{Answer, ◌>>=◌, Word, number, SessionJob, OperatorContext, cells_of, index_below, indexed, in_order}
use Rattle.b67_refer.specs.declared.ends.End.{End}
use Rattle.b67_refer.specs.declared.ends.End.TheVariants as end
use Rattle.b67_stack.specs.declared.Cpu.{Cpu}
use Rattle.b67_layout.specs.Placement.{Placement}
use Rattle.b67_layout.specs.Meets.{here, ForEach}
use Rattle.b67_exec_cells.specs.Elements.{HasElement}

-- the array at an end
abbrev pub array_in : End → Result ℕ Fault
array_in (end.Array original) = Ok original
array_in _ = Err InvalidOperand

-- the array was found by the address of its original, or the fault
abbrev pub FindsArray : Placement → SessionJob → Result ℕ Fault → Answer ℕ → Type 0
FindsArray plan m (Ok home) (Ok n) = (home ≡ plan.home m.constants.number n) × HasElement m.progress.job n 0
FindsArray plan m (Err x) (Err y) = x ≡ y
FindsArray plan m _ _ = ⊥

-- the index that an operand's bits are below a length
abbrev pub index_in : ℕ → ℕ → Answer ℕ
index_in length bits = number bits >>= index_below length

-- the element was found by the address of its array's original, or the fault
abbrev pub FindsItem : Placement → SessionJob → Result (ℕ × ℕ) Fault → Answer (ℕ × ℕ) → Type 0
FindsItem plan m (Ok found) (Ok item) = (found.0 ≡ plan.home m.constants.number item.0) × (found.1 ≡ item.1) × HasElement m.progress.job item.0 item.1
FindsItem plan m (Err x) (Err y) = x ≡ y
FindsItem plan m _ _ = ⊥

-- the element that the two top ones of some cells give
abbrev pub FindsTopItem : Placement → SessionJob → OperatorContext → List Word → Result (ℕ × ℕ) Fault → Type 0
FindsTopItem plan m h [] found = found ≡ Err StackUnderflow
FindsTopItem plan m h (b ∷ []) found = found ≡ Err StackUnderflow
FindsTopItem plan m h (b ∷ a ∷ rest) found = let two = in_order b a in FindsItem plan m found (indexed h two.0 two.1)

-- the two top cells give an element, by the address of its array's original
pub record IsTopItem (cpu : Cpu) (found : ℕ × ℕ) : Type 0 where
  pub item : ForEach cpu (λ x plan s m t. (q : Place) → FindsTopItem plan m (here m t q) (cells_of (here m t q)) (Ok found))
  pub above : cpu.regs.f + 2 ≤ cpu.regs.s
