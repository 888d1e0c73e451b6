-- A head is settled in a core that is clear there.
use Rattle.std.proofs.Common.{◌≡◌, ◌≢◌, ℕ, ◌+◌, ◌≤◌, List, ap, arith}
use Rattle.b67_word.specs.Tagged.{Tagged}
use Rattle.b67_ctl.specs.declared.registers.Regs.{Regs}
use Rattle.b67_lemmas.specs.Lists.{Has}
use Rattle.b67_stack.specs.Common.{Activation, stack_words, PagedObject, MachineView, RunsOn, stack_of, NoOriginalAboveTop, Storage, Represents}
use Rattle.b67_stack.proofs.Slots.{running_slot}

-- no original stands on the two words over the top
abbrev pub IsClear : Regs → MachineView → Type 0
IsClear r p = (t : PagedObject) → Has p.objects t → (t.home ≢ r.s + 1) × (t.home ≢ r.s + 2)

-- as none does where all of them stand at or under the top
pub clear_settled : (x : Storage) (core : List Tagged) (r : Regs) (p : MachineView) (k : ℕ) (stack : List Activation) → Represents x core r p → RunsOn p k stack → r.s + 2 ≤ r.losr → NoOriginalAboveTop p → IsClear r p
clear_settled x core r p k stack s u room settled t int = grind arith
