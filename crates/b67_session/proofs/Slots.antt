-- The slots of a session that opens: each first task waits.
use Rattle.std.proofs.Common.{◌≡◌, ◌≢◌, ℕ, suc, ◌+◌, ◌*◌, ◌<◌, ◌≤◌, ◌^◌, List, Option, Some, refl, ◌∙◌, ap, arith}
use Rattle.std.specs.List.{slice_get}
use Rattle.std.specs.Prelude.{option_map, unwrap_or}
use Rattle.std.proofs.lemmas.Bool.{ne_eqb}
use Rattle.b67_word.specs.Tagged.{Tagged}
use Rattle.b67_law.specs.Opening.{Opening, opened_from}
use Rattle.b67_ctl.specs.declared.registers.Regs.{Regs}
use Rattle.b67_stack.specs.Common.{Locations, Fits, LieDownward, words, Waiting, MachineView, slot_base, SlotFits, RepresentsSlot}
use Rattle.b67_layout.specs.Common.{Slotted, slot_of, slot_in, slot_by, slot_at}
use Rattle.b67_session.specs.Opened.{first_stack, opening_plan, programs_of}
use Rattle.b67_session.specs.Words.{SlotLies}
use Rattle.b67_session.proofs.Members.{member_at, slot_at_place, slot_of_job}
use Rattle.b67_lemmas.proofs.Places.{at_mapped}

module _ (stack : ℕ) (openings : List Opening) (k : ℕ) (o : Opening) (found : slice_get openings k ≡ Some o) (small : k < 8) where
  pub slot_is : slot_at (opening_plan stack (programs_of openings)) (opened_from 1 stack openings) k ≡ Waiting (first_stack (k + 1))
  slot_is =
      let plan = opening_plan stack (programs_of openings) in
      let jobs = opened_from 1 stack openings in
      ap (slot_by plan jobs k) (slot_at_place 0 (programs_of openings) k k o.program (at_mapped (λ (x : Opening). x.program) openings k o found) (omega arith))
      ∙ ap (slot_in plan k (k + 1) 1) (member_at stack 1 openings k (k + 1) o found (omega arith))
      ∙ rw (ne_eqb k 255 (λ e. omega (arith, e, small))) refl

  pub slot_number : slot_of (opening_plan stack (programs_of openings)) (k + 1) 1 ≡ k
  slot_number = ap (λ (r : Option Slotted). unwrap_or (option_map (λ (s : Slotted). s.slot) r) 255) (slot_of_job 0 (programs_of openings) k k o.program (at_mapped (λ (x : Opening). x.program) openings k o found) (omega arith))

-- a stack that hasn't run fits its slot
pub first_fits : (p : MachineView) (k job : ℕ) → 64 ≤ p.size → job ≤ 8 → SlotFits p k (Waiting (first_stack job))
first_fits p k job low few = grind arith

-- and stands in core
pub first_stands : (core : List Tagged) (r : Regs) (p : MachineView) (k job : ℕ) → r.slot ≢ k → SlotLies core (slot_base p k) job → RepresentsSlot core r p k (Waiting (first_stack job))
first_stands core r p k job other lies = (other, lies.top)

pub first_lies : (held : Locations) (core : List Tagged) (p : MachineView) (k job : ℕ) → k < 8 → SlotLies core (slot_base p k) job → LieDownward (Fits held) core (suc (slot_base p k)) (words k (first_stack job))
first_lies held core p k job small lies = grind arith
