-- An operator that isn't made, since its segment is absent or its place is outside it.
use Rattle.std.proofs.Common.{◌≡◌, ℕ, ◌≤◌, Bool, true, false, List, length, None, Err, refl, sym, subst, inl, inr, ◌⊎◌, arith}
use Rattle.std.specs.Prelude.{nat_lt}
use Rattle.std.proofs.lemmas.Bool.Decides.{nat_tests}
use Rattle.b67_word.specs.declared.couples.Place.{Place}
use Rattle.b67_word.specs.declared.faults.Fault.TheVariants.{InvalidOperator}
use Rattle.b67_ctl.specs.declared.descriptors.SegDesc.{SegDesc}
use Rattle.b67_model.specs.declared.operators.Undecodable.TheVariants.{BadPlace}
use Rattle.b67_model.specs.Common.{operator_at, code_of}
use Rattle.b67_stack.specs.declared.Cpu.{Cpu}
use Rattle.b67_stack.specs.declared.What.TheVariants.{Code}
use Rattle.b67_stack.specs.declared.Step.TheVariants as answers
use Rattle.b67_layout.specs.Common.{RunsSome, ForEach}
use Rattle.b67_exec_cells.specs.Running.{GivesSegment}
use Rattle.b67_exec.specs.Near.{HoldsCode, IsOutside, StopsHere}
use Rattle.b67_exec.proofs.Readers.{words-are}
use Rattle.b67_exec.proofs.Through.{unread_stops}

pub absent_stops : (cpu : Cpu) → RunsSome cpu → ForEach cpu (λ x plan s m t. GivesSegment x plan m t None) → StopsHere cpu (answers.Absent (Code cpu.regs.segment))
absent_stops cpu q none = grind arith

outside : (code : List ℕ) (at : Place) → (6 ≤ at.syllable) ⊎ (length code ≤ at.word) → operator_at code at ≡ Err BadPlace
outside code at (inl far) = let one : nat_lt at.syllable 6 ≡ false = grind (arith, nat_tests) in rw one refl
outside code at (inr far) = by (nat_lt at.syllable 6) refl where
  by : (b : Bool) → nat_lt at.syllable 6 ≡ b → operator_at code at ≡ Err BadPlace
  by true one = let two : nat_lt at.word (length code) ≡ false = grind (arith, nat_tests) in rw (one, two) refl
  by false one = rw one refl

pub outside_stops : (cpu : Cpu) (desc : SegDesc) → HoldsCode cpu desc → IsOutside cpu.regs.place desc → StopsHere cpu (answers.Fault InvalidOperator)
outside_stops cpu desc code out = unread_stops cpu desc code (λ x plan s m t ordered h runs.
    let same = words-are x cpu plan s m t ordered h runs desc (code x plan s m t ordered h runs) in
    let P : Place → Type 0 = λ p. operator_at (code_of m.constants t.segment) p ≡ Err BadPlace in
    let there : (6 ≤ cpu.regs.place.syllable) ⊎ (length (code_of m.constants t.segment) ≤ cpu.regs.place.word) = subst (λ (n : ℕ). (6 ≤ cpu.regs.place.syllable) ⊎ (n ≤ cpu.regs.place.word)) same out in
    (BadPlace, sym (subst P (h.holds.running m t runs).place (outside (code_of m.constants t.segment) cpu.regs.place there))))
