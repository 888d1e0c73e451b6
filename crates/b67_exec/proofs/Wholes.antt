-- An operator that is read whole, and was made or not; and where one is read so.
use Rattle.std.proofs.Common.{◌≡◌, ℕ, ◌+◌, ◌%◌, ◌^◌, ◌<◌, ◌≤◌, Bool, true, false, List, length, Option, Some, Ok, sym, ap, subst, ◌∙◌, inl, inr, arith}
use Rattle.std.specs.Prelude.{nat_lt}
use Rattle.std.proofs.lemmas.Bool.{cases_lt}
use Rattle.std.proofs.lemmas.Bool.Decides.{nat_tests}
use Rattle.b67_word.specs.declared.couples.Place.{Place}
use Rattle.b67_ctl.specs.declared.descriptors.SegDesc.{SegDesc}
use Rattle.b67_model.specs.declared.operators.Op.{Op}
use Rattle.b67_model.specs.Common.{Form, branch, form_of, count_at, reads, operator_at, code_of, reading_of, syllable}
use Rattle.b67_stack.specs.declared.Cpu.{Cpu}
use Rattle.b67_stack.specs.declared.Step.{Step}
use Rattle.b67_layout.specs.Common.{ForEach}
use Rattle.b67_layout_step.specs.Keeping.{is_leaving}
use Rattle.b67_exec_cells.specs.Running.{GivesReading}
use Rattle.b67_exec.specs.Operators.{leaves_record, is_read_whole, BeginsWhole, ReadsWhole}
use Rattle.b67_exec.specs.declared.reader.Reader.{Reader}
use Rattle.b67_exec.specs.Near.{HoldsCode, ReaderAt, ReaderBehind, FarMade, MadeOrNot, StopsHere, branch_op}
use Rattle.b67_exec.specs.Far.{MadeAway}
use Rattle.b67_exec.proofs.Readings.{operator_read}
use Rattle.b67_exec.proofs.Through.{refused_stops, syllable_at}

-- ---- what was read

pub whole_stays : (op : Op) → is_read_whole op ≡ true → is_leaving op ≡ false
whole_stays op is = grind arith

module _ (op : Op) (next : Place) (old new : Cpu) (desc : SegDesc) (code : HoldsCode old desc) (read : ForEach old (λ x plan s m t. GivesReading x plan m t (Some (Ok (op, next))))) (stays : is_leaving op ≡ false) where
  pub whole_made : (made : Bool) (why : Step) → MadeAway op next old made new why → MadeOrNot old made new why
  whole_made true why m = record {
    row = λ x plan s m2 t ordered h runs. let q = read x plan s m2 t ordered h runs in operator_read x plan s m2 t _ old new q.0 (Ok (op, next)) q.1 q.2 (m x plan s m2 t ordered h runs);
    left = λ x plan s m2 t ordered h runs. let q = read x plan s m2 t ordered h runs in sym (ap leaves_record q.2) ∙ stays;
  }
  whole_made false why m = (m.same, refused_stops old new desc op next why code (λ x plan s m2 t ordered h runs. (read x plan s m2 t ordered h runs).2) m)

pub whole_away : (old new : Cpu) (made : Bool) (why : Step) → made ≡ true → MadeOrNot old made new why → FarMade old new
whole_away old new made why is m = grind arith

pub whole_not : (old new : Cpu) (made : Bool) (why : Step) → made ≡ false → MadeOrNot old made new why → (new ≡ old) × StopsHere old why
whole_not old new made why is m = grind arith

-- ---- where one is read so

-- a branch may be
pub whole_branch : (always wanted : Bool) (form : Option Form) → form ≡ Some (branch (branch_op always wanted)) → BeginsWhole form
whole_branch always wanted form is = grind arith

reads_whole : (code : List ℕ) (n : ℕ) (form : Option Form) → BeginsWhole form → ReadsWhole (reads code n form)
reads_whole code n form is = grind arith

at_whole : (code : List ℕ) (at : Place) (r : Reader) → at.syllable < 6 → ReaderAt r code (count_at at + 0) → BeginsWhole (form_of (r.bits % 2 ^ 8)) → ReadsWhole (operator_at code at)
at_whole code at r in_word a is =
    let one : nat_lt at.syllable 6 ≡ true = grind (arith, nat_tests) in
    elim (cases_lt r.word (length code)) [
      | inl low ↦
          let inside : at.word < length code = omega (arith, a.at, a.in_word, low, in_word) in
          let two : nat_lt at.word (length code) ≡ true = grind (arith, nat_tests) in
          let same : count_at at + 0 ≡ count_at at = omega arith in
          let first : r.bits % 2 ^ 8 ≡ syllable code (count_at at) = syllable_at r code (count_at at + 0) a low ∙ ap (syllable code) same in
          rw (one, two) (reads_whole code (count_at at) (form_of (syllable code (count_at at))) (subst (λ (z : ℕ). BeginsWhole (form_of z)) first is))
      | inr high ↦
          let outside : length code ≤ at.word = omega (arith, a.at, a.in_word, high, in_word) in
          let two : nat_lt at.word (length code) ≡ false = grind (arith, nat_tests) in
          rw (one, two) tt
    ]

pub stands_whole : (cpu : Cpu) (r : Reader) → ReaderBehind cpu r 0 → BeginsWhole (form_of (r.bits % 2 ^ 8)) → ForEach cpu (λ x plan s m t. ReadsWhole (reading_of m.constants t))
stands_whole cpu r b is x plan s m t ordered h runs =
    let in_word : t.place.syllable < 6 = (let P : Place → Type 0 = λ p. p.syllable < 6 in subst P (h.holds.running m t runs).place b.in_word) in
    at_whole (code_of m.constants t.segment) t.place r in_word (b.at x plan s m t ordered h runs) is
