-- Where the stacks begin that a word may name.
use Rattle.std.proofs.Common.{◌≡◌, ℕ, ◌+◌, ◌*◌, ◌<◌, ◌≤◌, ◌^◌, arith, List, length}
use Rattle.b67_word.specs.Tagged.{Tagged}
use Rattle.b67_ctl.specs.declared.registers.Regs.{Regs}
use Rattle.b67_stack.specs.MachineView.{MachineView}
use Rattle.b67_stack.proofs.Bases.{base-apart}
use Rattle.b67_layout.specs.Common.{base_of, machine_view, with_objects}
use Rattle.b67_layout.proofs.Sessions.{dictionary_below}
use Rattle.b67_refer.specs.RunningContext.{LiveContext, IsStackOf}
use Rattle.b67_lemmas.proofs.Members.{keyed_has}

module _ (core : List Tagged) (r : Regs) (a : LiveContext core r) where
  abbrev pub viewed : MachineView
  viewed = with_objects a.left (machine_view a.plan a.session.jobs)

  -- a slot lies inside core
  pub slot_inside : (k : ℕ) → k < a.plan.peak → (a.plan.stacks + k * a.plan.size + a.plan.size ≤ a.storage.low) × (a.storage.low ≤ length core) × (length core < 2 ^ 20)
  slot_inside k used =
      let m = a.holds.memory in
      let after = base-apart viewed k a.plan.peak used in
      (omega (arith, after, m.slots.laid.low), m.inside, m.directory.small)

  pub stacks_is : r.stacks ≡ a.plan.stacks
  stacks_is = a.holds.memory.slots.regs.stacks

  pub size_is : r.stack_size ≡ a.plan.size
  size_is = a.holds.memory.slots.regs.size

  pub dictionary_is : r.dict ≡ a.plan.dictionary a.member.constants.number
  dictionary_is = (a.holds.running a.member a.runner a.running).dict

  -- the dictionary lies below slot 0
  pub dictionary_low : a.plan.dictionary a.member.constants.number + 2 ≤ a.plan.stacks
  dictionary_low = dictionary_below a.plan 160 a.session.jobs a.member a.holds.fits.dictionaries (keyed_has (λ m. m.constants.number) a.member.constants.number a.session.jobs a.member a.running.member).0

  pub slot_zero : (a.plan.stacks ≤ a.storage.low) × (a.storage.low < 2 ^ 20)
  slot_zero = let m = a.holds.memory in (let low : a.storage.low ≡ a.plan.stacks + a.plan.peak * a.plan.size = m.slots.laid.low in omega (arith, low), omega (arith, m.inside, m.directory.small))

  pub of_slot : (k : ℕ) → IsStackOf a k → k < 120 → (r.stacks + k * r.stack_size ≡ base_of a.plan k) × (r.stacks + k * r.stack_size < 2 ^ 20)
  of_slot k is low = grind (arith, slot_inside)

  pub of_dictionary : (k : ℕ) → IsStackOf a k → 120 ≤ k → k < 136 → (r.dict ≡ base_of a.plan k) × (r.dict < 2 ^ 20)
  of_dictionary k is low high = grind (arith, dictionary_low)
