-- An operator read syllable after syllable, and where the reader stands once the task has gone on.
use Rattle.std.proofs.Common.{◌≡◌, ℕ, ◌+◌, ◌-◌, ◌*◌, ◌/◌, ◌%◌, ◌^◌, ◌<◌, ◌≤◌, ◌≢◌, Bool, true, false, List, [], ◌∷◌, length, Option, Some, None, Ok, Err, refl, sym, ◌∙◌, ap, subst, arith}
use Rattle.std.specs.Prelude.{nat_lt, nat_le, slice_index}
use Rattle.std.proofs.lemmas.Bool.Decides.{nat_tests}
use Rattle.b67_word.specs.declared.couples.Place.{Place}
use Rattle.b67_word.specs.declared.faults.Fault.TheVariants.{InvalidOperator}
use Rattle.b67_ctl.specs.declared.descriptors.SegDesc.{SegDesc}
use Rattle.b67_model.specs.declared.operators.Op.{Op}
use Rattle.b67_model.specs.declared.operators.Op.TheVariants.{Plain}
use Rattle.b67_model.specs.declared.operators.Code.{Code}
use Rattle.b67_arith.specs.declared.numerics.Numeric.{Numeric}
use Rattle.b67_arith.specs.Numerics.{of_numbers}
use Rattle.b67_model.specs.declared.operators.Undecodable.{Undecodable}
use Rattle.b67_model.specs.declared.operators.Undecodable.TheVariants.{PastEnd}
use Rattle.b67_model.specs.Common.{Answer, Done, Form, Alone, OneMore, TwoMore, Literal, Task, SessionJob, Session, Reading, form_of, syllable, count_at, place_at, ends_at, reads, operator_at, reading_of, code_of, row, called, OperatorContext, Word, operand, on_cells, on_two, branch_if, leaves_cells, cells_of}
use Rattle.b67_stack.specs.declared.Cpu.{Cpu}
use Rattle.b67_stack.specs.declared.Step.{Step}
use Rattle.b67_stack.specs.declared.Step.TheVariants as answers
use Rattle.b67_stack.specs.Common.{Storage}
use Rattle.b67_layout.specs.Common.{Placement, IsInOrderButCounts, IsRunning, RepresentsSession, RunsSome, ForEach, here, IsMade, Meets, IsWordOf, GivesTop, cells}
use Rattle.b67_layout.proofs.PlainOperands.{plain_operand}
use Rattle.b67_exec_cells.proofs.Rows.{Drops, an_operand}
use Rattle.b67_word.specs.Tagged.{Tagged}
use Rattle.b67_exec_cells.proofs.Codes.{present}
use Rattle.b67_exec_cells.specs.Tops.{StaysInSegment}
use Rattle.b67_entry.specs.Procedures.{CallsOrMeets}
use Rattle.b67_layout_step.specs.Keeping.{is_leaving}
use Rattle.b67_exec.specs.Operators.{moves_cells, OperatorMeets, leaves_record}
use Rattle.b67_exec.specs.declared.reader.Reader.{Reader}
use Rattle.b67_exec.specs.Far.{RowRefused}
use Rattle.b67_exec.specs.Near.{HoldsCode, ReaderAt, ReaderBehind, ReaderInside, EndsBehind, StopsHere, reader_place, is_straight, WentOn, NearMade, MadeNear, FarMade, code_of_numbers, word_op, branch_op}
use Rattle.b67_exec.specs.declared.firsts.Near.{Near}
use Rattle.b67_exec.specs.Firsts.{near_form}
use Rattle.b67_exec.proofs.Nears.{unmet, made_near, LeavesCells, leaves, straight_leaves, straight_stays, straight_calls, branch_stays, branch_calls, holds_on, code_on, place_on, dict_on, segment_on}
use Rattle.b67_exec.proofs.Readings.{operator_read}
use Rattle.b67_exec.proofs.Readers.{top_is, words-are}

-- ---- what is read

pub same_place : (p q : Place) → p.word ≡ q.word → p.syllable ≡ q.syllable → p ≡ q
same_place p q word syllable = grind arith

-- the syllable on top of a reader
pub syllable_at : (r : Reader) (code : List ℕ) (k : ℕ) → ReaderAt r code k → r.word < length code → r.bits % 2 ^ 8 ≡ syllable code k
syllable_at r code k a inside = grind (arith, top_is)

-- its place
place_is : (r : Reader) (code : List ℕ) (k : ℕ) → ReaderAt r code k → place_at k ≡ reader_place r
place_is r code k a = grind arith

-- the code goes on up to it
ends_before : (next : Reader) (code : List ℕ) (k : ℕ) (op : Op) → ReaderAt next code k → ends_at code k op ≡ Ok (op, reader_place next)
ends_before next code k op a =
    let test : nat_le k (6 * length code) ≡ true = (let low : k ≤ 6 * length code = a.within in grind (arith, nat_tests)) in
    rw test (ap (λ (p : Place). Ok (op, p)) (place_is next code k a))

-- or ends behind its last syllable
ends_behind : (last : Reader) (code : List ℕ) (k : ℕ) (op : Op) → ReaderAt last code k → last.word < length code → ends_at code (k + 1) op ≡ Ok (op, place_at (k + 1))
ends_behind last code k op a inside = grind arith

-- an operator goes past the end of the code
past_end : (code : List ℕ) (k : ℕ) (op : Op) → 6 * length code < k → ends_at code k op ≡ Err PastEnd
past_end code k op past = grind arith

-- where a first syllable begins an operator, it isn't behind the end of the code
within_code : (r : Reader) (code : List ℕ) (k : ℕ) (f : Form) → ReaderAt r code k → form_of (r.bits % 2 ^ 8) ≡ Some f → r.word < length code
within_code r code k f a is = grind arith

module _ (code : List ℕ) (at : Place) (r : Reader) (in_word : at.syllable < 6) (a : ReaderAt r code (count_at at + 0)) where
  begins : (f : Form) → form_of (r.bits % 2 ^ 8) ≡ Some f → operator_at code at ≡ reads code (count_at at) (Some f)
  begins f is =
      let there = within_code r code (count_at at + 0) f a is in
      let one : nat_lt at.syllable 6 ≡ true = grind (arith, nat_tests) in
      let inside : at.word < length code = omega (arith, a.at, a.in_word, there, in_word) in
      let two : nat_lt at.word (length code) ≡ true = grind (arith, nat_tests) in
      grind (arith, syllable_at)

  lone : (op : Code) (next : Reader) → form_of (r.bits % 2 ^ 8) ≡ Some (Alone op) → ReaderAt next code (count_at at + 1) → operator_at code at ≡ Ok (Plain op, reader_place next)
  lone op next is b = begins (Alone op) is ∙ ends_before next code (count_at at + 1) (Plain op) b

  pair : (op : ℕ → Op) (second next : Reader) → form_of (r.bits % 2 ^ 8) ≡ Some (OneMore op) → ReaderAt second code (count_at at + 1) → second.word < length code → ReaderAt next code (count_at at + 2) → operator_at code at ≡ Ok (op (second.bits % 2 ^ 8), reader_place next)
  pair op second next is b two c =
      begins (OneMore op) is ∙ ap (λ (z : ℕ). ends_at code (count_at at + 2) (op z)) (sym (syllable_at second code (count_at at + 1) b two)) ∙ ends_before next code (count_at at + 2) (op (second.bits % 2 ^ 8)) c

  triple : (op : ℕ → ℕ → Op) (second third next : Reader) → form_of (r.bits % 2 ^ 8) ≡ Some (TwoMore op) → ReaderAt second code (count_at at + 1) → second.word < length code → ReaderAt third code (count_at at + 2) → third.word < length code → ReaderAt next code (count_at at + 3)
      → operator_at code at ≡ Ok (op (second.bits % 2 ^ 8) (third.bits % 2 ^ 8), reader_place next)
  triple op second third next is b two c three d =
      begins (TwoMore op) is ∙ ap (λ (z : ℕ). ends_at code (count_at at + 3) (op z (syllable code (count_at at + 2)))) (sym (syllable_at second code (count_at at + 1) b two))
      ∙ ap (λ (z : ℕ). ends_at code (count_at at + 3) (op (second.bits % 2 ^ 8) z)) (sym (syllable_at third code (count_at at + 2) c three)) ∙ ends_before next code (count_at at + 3) (op (second.bits % 2 ^ 8) (third.bits % 2 ^ 8)) d

  literal : (op : ℕ → Op) (next : Reader) → form_of (r.bits % 2 ^ 8) ≡ Some (Literal op) → ReaderAt next code (6 * (r.word + 2)) → operator_at code at ≡ Ok (op (slice_index code (r.word + 1)), reader_place next)
  literal op next is b =
      let word : count_at at / 6 ≡ r.word = omega (arith, a.at, a.in_word) in
      let P : ℕ → Type 0 = λ z. ends_at code (6 * (z + 2)) (op (slice_index code (z + 1))) ≡ Ok (op (slice_index code (r.word + 1)), reader_place next) in
      begins (Literal op) is ∙ subst P (sym word) (ends_before next code (6 * (r.word + 2)) (op (slice_index code (r.word + 1))) b)

  lone_behind : (op : Code) → form_of (r.bits % 2 ^ 8) ≡ Some (Alone op) → operator_at code at ≡ Ok (Plain op, place_at (count_at at + 0 + 1))
  lone_behind op is =
      let more : count_at at + 1 ≡ count_at at + 0 + 1 = omega arith in
      begins (Alone op) is ∙ ap (λ (z : ℕ). ends_at code z (Plain op)) more ∙ ends_behind r code (count_at at + 0) (Plain op) a (within_code r code (count_at at + 0) (Alone op) a is)

  triple_behind : (op : ℕ → ℕ → Op) (second third : Reader) → form_of (r.bits % 2 ^ 8) ≡ Some (TwoMore op) → ReaderAt second code (count_at at + 1) → second.word < length code → ReaderAt third code (count_at at + 2) → third.word < length code
      → operator_at code at ≡ Ok (op (second.bits % 2 ^ 8) (third.bits % 2 ^ 8), place_at (count_at at + 2 + 1))
  triple_behind op second third is b two c three =
      let more : count_at at + 3 ≡ count_at at + 2 + 1 = omega arith in
      begins (TwoMore op) is ∙ ap (λ (z : ℕ). ends_at code (count_at at + 3) (op z (syllable code (count_at at + 2)))) (sym (syllable_at second code (count_at at + 1) b two))
      ∙ ap (λ (z : ℕ). ends_at code (count_at at + 3) (op (second.bits % 2 ^ 8) z)) (sym (syllable_at third code (count_at at + 2) c three))
      ∙ ap (λ (z : ℕ). ends_at code z (op (second.bits % 2 ^ 8) (third.bits % 2 ^ 8))) more ∙ ends_behind third code (count_at at + 2) (op (second.bits % 2 ^ 8) (third.bits % 2 ^ 8)) c three

  pair_past : (op : ℕ → Op) → form_of (r.bits % 2 ^ 8) ≡ Some (OneMore op) → count_at at + 1 ≡ 6 * length code → operator_at code at ≡ Err PastEnd
  pair_past op is end = begins (OneMore op) is ∙ past_end code (count_at at + 2) (op (syllable code (count_at at + 1))) (omega (arith, end))

  triple_past : (op : ℕ → ℕ → Op) (n : ℕ) → form_of (r.bits % 2 ^ 8) ≡ Some (TwoMore op) → n ≤ 2 → count_at at + n ≡ 6 * length code → operator_at code at ≡ Err PastEnd
  triple_past op n is few end = begins (TwoMore op) is ∙ past_end code (count_at at + 3) (op (syllable code (count_at at + 1)) (syllable code (count_at at + 2))) (omega (arith, end, few))

  literal_past : (op : ℕ → Op) → form_of (r.bits % 2 ^ 8) ≡ Some (Literal op) → length code ≤ r.word + 1 → operator_at code at ≡ Err PastEnd
  literal_past op is end =
      let word : count_at at / 6 ≡ r.word = omega (arith, a.at, a.in_word) in
      begins (Literal op) is ∙ past_end code (6 * (count_at at / 6 + 2)) (op (slice_index code (count_at at / 6 + 1))) (omega (arith, word, end))

-- the operator at the running place was read, and a reader stands behind it
pub record ReadsThrough (cpu : Cpu) (op : Op) (next : Reader) : Type 0 where
  pub reads : ForEach cpu (λ x plan s m t. ◌≡◌ {A = Reading} (Ok (op, reader_place next)) (reading_of m.constants t))
  pub length : ℕ
  pub stands : ReaderBehind cpu next length

-- the operator at the running place was read, and it ends before another place
abbrev pub ReadsTo : Cpu → Op → Place → Type 0
ReadsTo cpu op next = ForEach cpu (λ x plan s m t. ◌≡◌ {A = Reading} (Ok (op, next)) (reading_of m.constants t))

-- no operator stands there
abbrev pub ReadsNone : Cpu → Type 0
ReadsNone cpu = ForEach cpu (λ x plan s m t. (u : Undecodable) × ◌≡◌ {A = Reading} (Err u) (reading_of m.constants t))

-- the place behind an operator of one syllable, and of three
abbrev pub one_on : Cpu → Place
one_on cpu = place_at (count_at cpu.regs.place + 0 + 1)

abbrev pub three_on : Cpu → Place
three_on cpu = place_at (count_at cpu.regs.place + 2 + 1)

-- a reader isn't at the end
inside_code : (cpu : Cpu) (r : Reader) (n : ℕ) → ReaderInside cpu r n → ForEach cpu (λ x plan s m t. r.word < length (code_of m.constants t.segment))
inside_code cpu r n i x plan s m t ordered h runs = let same = words-are x cpu plan s m t ordered h runs r.code (i.behind.code x plan s m t ordered h runs) in omega (arith, same, i.inside)

pub inside_of : (cpu : Cpu) (r : Reader) (n : ℕ) (f : Form) → RunsSome cpu → ReaderBehind cpu r n → form_of (r.bits % 2 ^ 8) ≡ Some f → ReaderInside cpu r n
inside_of cpu r n f q b is =
    let same = words-are q.storage cpu q.plan q.session q.member q.task q.ordered q.stands q.running r.code (b.code q.storage q.plan q.session q.member q.task q.ordered q.stands q.running) in
    grind (arith, within_code)

module _ (cpu : Cpu) (r : Reader) (b : ReaderBehind cpu r 0) where
  in_its_word : (x : Storage) (plan : Placement) (s : Session) (m : SessionJob) (t : Task) → RepresentsSession x cpu plan s → IsRunning plan s.jobs m t → t.place.syllable < 6
  in_its_word x plan s m t h runs = let P : Place → Type 0 = λ p. p.syllable < 6 in subst P (h.holds.running m t runs).place b.in_word

  -- an operator without parameters
  pub lone_through : (op : Code) (next : Reader) → form_of (r.bits % 2 ^ 8) ≡ Some (Alone op) → ReaderBehind cpu next (0 + 1) → ReadsThrough cpu (Plain op) next
  lone_through op next is c = record {
    reads = λ x plan s m t ordered h runs.
        sym (lone (code_of m.constants t.segment) t.place r (in_its_word x plan s m t h runs) (b.at x plan s m t ordered h runs) op next is (c.at x plan s m t ordered h runs));
    length = 0 + 1;
    stands = c;
  }

  -- one behind which no reader need stand
  pub lone_to : (op : Code) → form_of (r.bits % 2 ^ 8) ≡ Some (Alone op) → ReadsTo cpu (Plain op) (one_on cpu)
  lone_to op is = λ x plan s m t ordered h runs.
      let read = sym (lone_behind (code_of m.constants t.segment) t.place r (in_its_word x plan s m t h runs) (b.at x plan s m t ordered h runs) op is) in
      let P : Place → Type 0 = λ p. ◌≡◌ {A = Reading} (Ok (Plain op, place_at (count_at p + 0 + 1))) (reading_of m.constants t) in
      subst P (sym (h.holds.running m t runs).place) read

  -- one with a syllable
  pub pair_through : (op : ℕ → Op) (second next : Reader) (low : ℕ) (made : Op) → form_of (r.bits % 2 ^ 8) ≡ Some (OneMore op) → ReaderInside cpu second (0 + 1) → ReaderBehind cpu next (0 + 1 + 1) → low ≡ second.bits % 2 ^ 8 → made ≡ op low → ReadsThrough cpu made next
  pair_through op second next low made is c d low_is made_is =
      let same : op (second.bits % 2 ^ 8) ≡ made = ap op (sym low_is) ∙ sym made_is in
      record {
        reads = λ x plan s m t ordered h runs.
            let R : Op → Type 0 = λ o. ◌≡◌ {A = Reading} (Ok (o, reader_place next)) (reading_of m.constants t) in
            subst R same (sym (pair (code_of m.constants t.segment) t.place r (in_its_word x plan s m t h runs) (b.at x plan s m t ordered h runs) op second next is (c.behind.at x plan s m t ordered h runs) (inside_code cpu second (0 + 1) c x plan s m t ordered h runs) (d.at x plan s m t ordered h runs)));
        length = 0 + 1 + 1;
        stands = d;
      }

  -- one with two
  pub triple_through : (op : ℕ → ℕ → Op) (second third next : Reader) (high low : ℕ) (made : Op) → form_of (r.bits % 2 ^ 8) ≡ Some (TwoMore op) → ReaderInside cpu second (0 + 1) → ReaderInside cpu third (0 + 1 + 1) → ReaderBehind cpu next (0 + 1 + 1 + 1)
      → high ≡ second.bits % 2 ^ 8 → low ≡ third.bits % 2 ^ 8 → made ≡ op high low → ReadsThrough cpu made next
  triple_through op second third next high low made is c d e high_is low_is made_is =
      let same : op (second.bits % 2 ^ 8) (third.bits % 2 ^ 8) ≡ made = ap (λ (z : ℕ). op z (third.bits % 2 ^ 8)) (sym high_is) ∙ ap (op high) (sym low_is) ∙ sym made_is in
      record {
        reads = λ x plan s m t ordered h runs.
            let R : Op → Type 0 = λ o. ◌≡◌ {A = Reading} (Ok (o, reader_place next)) (reading_of m.constants t) in
            subst R same (sym (triple (code_of m.constants t.segment) t.place r (in_its_word x plan s m t h runs) (b.at x plan s m t ordered h runs) op second third next is (c.behind.at x plan s m t ordered h runs) (inside_code cpu second (0 + 1) c x plan s m t ordered h runs) (d.behind.at x plan s m t ordered h runs) (inside_code cpu third (0 + 1 + 1) d x plan s m t ordered h runs) (e.at x plan s m t ordered h runs)));
        length = 0 + 1 + 1 + 1;
        stands = e;
      }

  -- one with two, behind which no reader need stand
  pub triple_to : (op : ℕ → ℕ → Op) (second third : Reader) (high low : ℕ) (made : Op) → form_of (r.bits % 2 ^ 8) ≡ Some (TwoMore op) → ReaderInside cpu second (0 + 1) → ReaderInside cpu third (0 + 1 + 1)
      → high ≡ second.bits % 2 ^ 8 → low ≡ third.bits % 2 ^ 8 → made ≡ op high low → ReadsTo cpu made (three_on cpu)
  triple_to op second third high low made is c d high_is low_is made_is = λ x plan s m t ordered h runs.
      let same : op (second.bits % 2 ^ 8) (third.bits % 2 ^ 8) ≡ made = ap (λ (z : ℕ). op z (third.bits % 2 ^ 8)) (sym high_is) ∙ ap (op high) (sym low_is) ∙ sym made_is in
      let R : Op → Type 0 = λ o. ◌≡◌ {A = Reading} (Ok (o, place_at (count_at t.place + 2 + 1))) (reading_of m.constants t) in
      let read = subst R same (sym (triple_behind (code_of m.constants t.segment) t.place r (in_its_word x plan s m t h runs) (b.at x plan s m t ordered h runs) op second third is (c.behind.at x plan s m t ordered h runs) (inside_code cpu second (0 + 1) c x plan s m t ordered h runs) (d.behind.at x plan s m t ordered h runs) (inside_code cpu third (0 + 1 + 1) d x plan s m t ordered h runs))) in
      let P : Place → Type 0 = λ p. ◌≡◌ {A = Reading} (Ok (made, place_at (count_at p + 2 + 1))) (reading_of m.constants t) in
      subst P (sym (h.holds.running m t runs).place) read

  -- one with the next word
  pub literal_through : (op : ℕ → Op) (next : Reader) (bits : ℕ) → form_of (r.bits % 2 ^ 8) ≡ Some (Literal op) → HoldsCode cpu next.code → ForEach cpu (λ x plan s m t. bits ≡ slice_index (code_of m.constants t.segment) (r.word + 1))
      → ForEach cpu (λ x plan s m t. ReaderAt next (code_of m.constants t.segment) (6 * (r.word + 2))) → ReadsThrough cpu (op bits) next
  literal_through op next bits is code word at = record {
    reads = λ x plan s m t ordered h runs.
        let R : ℕ → Type 0 = λ n. ◌≡◌ {A = Reading} (Ok (op n, reader_place next)) (reading_of m.constants t) in
        subst R (sym (word x plan s m t ordered h runs)) (sym (literal (code_of m.constants t.segment) t.place r (in_its_word x plan s m t h runs) (b.at x plan s m t ordered h runs) op next is (at x plan s m t ordered h runs)));
    length = 12 - r.syllable;
    stands = record {
      code = code;
      in_word = b.in_word;
      at = λ x plan s m t ordered h runs.
          let a = b.at x plan s m t ordered h runs in
          let there : 6 * (r.word + 2) ≡ count_at t.place + (12 - r.syllable) = omega (arith, a.at, a.in_word) in
          subst (λ (n : ℕ). ReaderAt next (code_of m.constants t.segment) n) there (at x plan s m t ordered h runs);
    };
  }

  -- none: the code ends too early
  pub literal_ends : (op : ℕ → Op) → form_of (r.bits % 2 ^ 8) ≡ Some (Literal op) → r.code.words ≤ r.word + 1 → ReadsNone cpu
  literal_ends op is end = λ x plan s m t ordered h runs.
      let same = words-are x cpu plan s m t ordered h runs r.code (b.code x plan s m t ordered h runs) in
      (PastEnd, sym (literal_past (code_of m.constants t.segment) t.place r (in_its_word x plan s m t h runs) (b.at x plan s m t ordered h runs) op is (omega (arith, same, end))))

  pub pair_ends : (op : ℕ → Op) → form_of (r.bits % 2 ^ 8) ≡ Some (OneMore op) → EndsBehind cpu (0 + 1) → ReadsNone cpu
  pair_ends op is end = λ x plan s m t ordered h runs.
      (PastEnd, sym (pair_past (code_of m.constants t.segment) t.place r (in_its_word x plan s m t h runs) (b.at x plan s m t ordered h runs) op is (end x plan s m t ordered h runs)))

  pub triple_ends : (op : ℕ → ℕ → Op) (n : ℕ) → form_of (r.bits % 2 ^ 8) ≡ Some (TwoMore op) → n ≤ 2 → EndsBehind cpu n → ReadsNone cpu
  triple_ends op n is few end = λ x plan s m t ordered h runs.
      (PastEnd, sym (triple_past (code_of m.constants t.segment) t.place r (in_its_word x plan s m t h runs) (b.at x plan s m t ordered h runs) op n is few (end x plan s m t ordered h runs)))

-- ---- what isn't made

-- no operator is read
pub unread_stops : (cpu : Cpu) (desc : SegDesc) → HoldsCode cpu desc → ReadsNone cpu → StopsHere cpu (answers.Fault InvalidOperator)
unread_stops cpu desc code none = record {
  other = λ e. cc;
  row = λ x plan s m t ordered h runs.
      let given = code x plan s m t ordered h runs in
      let read = none x plan s m t ordered h runs in
      operator_read x plan s m t (answers.Fault InvalidOperator) cpu cpu desc.address (Err read.0) (present x cpu plan s m t ordered h runs desc given.0 given.1) read.1 (refl, refl);
}

-- one that was read is refused
pub refused_stops : (old new : Cpu) (desc : SegDesc) (op : Op) (q : Place) (why : Step) → HoldsCode old desc → ReadsTo old op q → RowRefused op q old new why → StopsHere old why
refused_stops old new desc op q why code read r = record {
  other = r.other;
  row = λ x plan s m t ordered h runs.
      let given = code x plan s m t ordered h runs in
      let C : Cpu → Type 0 = λ z. CallsOrMeets x plan s m why old z (called op (here m t q)) (row op (here m t q)) in
      operator_read x plan s m t why old old desc.address (Ok (op, q)) (present x old plan s m t ordered h runs desc given.0 given.1) (read x plan s m t ordered h runs) (subst C r.same (r.row x plan s m t ordered h runs));
}

-- ---- what is made

-- an operator that was read and calls no intrinsic
row_of : (old new : Cpu) (before : Reader) (next : Place) (op : Op) → HoldsCode old before.code → ReadsTo old op next → ((h : OperatorContext) → called op h ≡ None)
    → (x : Storage) (plan : Placement) (s : Session) (m : SessionJob) (t : Task) → IsInOrderButCounts s → RepresentsSession x old plan s → IsRunning plan s.jobs m t → IsMade x plan s m old new (row op (here m t next)) → OperatorMeets x plan s m t answers.Done old new
row_of old new before next op code read quiet x plan s m t ordered h runs k =
    let given = code x plan s m t ordered h runs in
    let C : Option ℕ → Type 0 = λ o. CallsOrMeets x plan s m answers.Done old new o (row op (here m t next)) in
    operator_read x plan s m t answers.Done old new before.code.address (Ok (op, next)) (present x old plan s m t ordered h runs before.code given.0 given.1) (read x plan s m t ordered h runs) (subst C (sym (quiet (here m t next))) k)

-- a reader of the code, where the task has gone on to its place in the same segment
pub stands_there : (old new : Cpu) (r : RunsSome old) (answer : Answer Done) (k : IsMade r.storage r.plan r.session r.member old new answer) (at : Reader) (n : ℕ) → new.regs.dict ≡ old.regs.dict → new.regs.segment ≡ old.regs.segment
    → HoldsCode old at.code → ReaderAt at (code_of r.member.constants r.task.segment) n → new.regs.place ≡ reader_place at → ReaderBehind new at 0
stands_there old new r answer k at n dict segment code a place = record {
  code = holds_on old new at.code r answer k dict segment code;
  in_word = subst (λ (p : Place). p.syllable < 6) (sym place) a.in_word;
  at = λ x plan s m t ordered h runs.
      let same = code_on old new at.code r answer k dict segment code x plan s m t ordered h runs in
      let here_is : t.place ≡ reader_place at = sym (h.holds.running m t runs).place ∙ place in
      let count : n ≡ count_at (reader_place at) + 0 = omega (arith, a.at) in
      subst (λ (p : Place). ReaderAt at (code_of m.constants t.segment) (count_at p + 0)) (sym here_is)
      (subst (λ (i : ℕ). ReaderAt at (code_of m.constants t.segment) i) count (subst (λ (c : List ℕ). ReaderAt at c n) same a));
}

-- with other cells alone
stands_with : (old new : Cpu) (r : RunsSome old) (answer : Answer Done) (k : IsMade r.storage r.plan r.session r.member old new answer) (at : Reader) (n : ℕ) → LeavesCells r.member r.task k.job [] k.touched (λ p. p ≡ reader_place at)
    → HoldsCode old at.code → ReaderAt at (code_of r.member.constants r.task.segment) n → ReaderBehind new at 0
stands_with old new r answer k at n l code a =
    let G : Place → Type 0 = λ p. p ≡ reader_place at in
    stands_there old new r answer k at n (dict_on old new r answer k G l) (segment_on old new r answer k G l) code a (place_on old new r answer k G l ∙ l.goes)

-- the task goes on at a place, with fewer cells
pub record GoesWith (x : Storage) (plan : Placement) (s : Session) (m : SessionJob) (t : Task) (old new : Cpu) (place : Place) : Type 0 where
  pub answer : Answer Done
  pub made : IsMade x plan s m old new answer
  pub leaves : LeavesCells m t made.job [] made.touched (λ p. p ≡ place)

module _ (x : Storage) (plan : Placement) (s : Session) (m : SessionJob) (t : Task) (old new : Cpu) (q : Place) where
  -- no cell was taken off
  pub drops_none : Drops x old plan s m t q 0 new → GoesWith x plan s m t old new q
  drops_none drops =
      let k = drops [] (cells t) refl refl tt in
      record { answer = leaves_cells (here m t q) (cells t) None; made = k; leaves = leaves m t k.job [] k.touched (λ p. p ≡ q) q refl (cells t) k.is }

  -- the top cell was, an operand
  pub drops_operand : (u : Tagged) → GivesTop x plan m t old (cells t) (Ok u) → u.tag ≡ 0 → Drops x old plan s m t q 1 new → GoesWith x plan s m t old new q
  drops_operand u given is drops = by_cells (cells t) refl given where
    by_cells : (cs : List Word) → cells t ≡ cs → GivesTop x plan m t old cs (Ok u) → GoesWith x plan s m t old new q
    by_cells [] e g = absurd (let z : ⊥ = cc in z)
    by_cells (a ∷ rest) e g =
        let same : g.0 ≡ u = (let d = g.1 in cc) in
        let P : Tagged → Type 0 = λ v. IsWordOf x plan m t a old.regs.s v in
        let o : operand a ≡ Ok u.bits = an_operand x plan m t a old.regs.s u (subst P same g.2.is) is in
        let k = drops (a ∷ []) rest e refl (plain_operand a u.bits o, tt) in
        record { answer = leaves_cells (here m t q) rest None; made = k; leaves = leaves m t k.job [] k.touched (λ p. p ≡ q) q refl rest k.is }

-- where a reader stands
pub goes_to : (x : Storage) (plan : Placement) (s : Session) (m : SessionJob) (t : Task) (old new : Cpu) (q : Place) (at : Reader) → reader_place at ≡ q → GoesWith x plan s m t old new q → GoesWith x plan s m t old new (reader_place at)
goes_to x plan s m t old new q at is g = subst (λ (p : Place). GoesWith x plan s m t old new p) (sym is) g

-- an operator that goes on behind it
pub straight_made : (old new : Cpu) (before next after : Reader) (op : Op) (answered : Step) (made : Bool) (why : Step) → RunsSome old → ReaderBehind old before 0 → is_straight op ≡ true → ReadsThrough old op next
    → ForEach old (λ x plan s m t. Meets x plan s m answered old new (row op (here m t (reader_place next)))) → WentOn answered made before next after why → MadeNear old before made new after why
straight_made old new before next after op answered true why r b near read each w =
    let done : ForEach old (λ x plan s m t. IsMade x plan s m old new (row op (here m t (reader_place next)))) = λ x plan s m t ordered h runs. subst (λ (z : Step). Meets x plan s m z old new (row op (here m t (reader_place next)))) w.0 (each x plan s m t ordered h runs) in
    let k = done r.storage r.plan r.session r.member r.task r.ordered r.stands r.running in
    let answer : Answer Done = row op (here r.member r.task (reader_place next)) in
    let G : Place → Type 0 = λ p. p ≡ reader_place next in
    let l = straight_leaves r.member r.task k.job [] k.touched G (reader_place next) refl op near k.is in
    record {
      row = λ x plan s m t ordered h runs. row_of old new before (reader_place next) op b.code read.reads (straight_calls op near) x plan s m t ordered h runs (done x plan s m t ordered h runs);
      left = λ x plan s m t ordered h runs. ap leaves_record (sym (read.reads x plan s m t ordered h runs)) ∙ straight_stays op near;
      stands = subst (λ (z : Reader). ReaderBehind new z 0) (sym w.1)
          (stands_with old new r answer k next (count_at r.task.place + read.length) l read.stands.code (read.stands.at r.storage r.plan r.session r.member r.task r.ordered r.stands r.running));
    }
straight_made old new before next after op answered false why r b near read each w =
    let same = unmet r.storage r.plan r.session r.member answered old new (row op (here r.member r.task (reader_place next))) w.1 (each r.storage r.plan r.session r.member r.task r.ordered r.stands r.running) in
    let no : RowRefused op (reader_place next) old new why = record {
      same = same;
      other = subst (λ (z : Step). z ≢ answers.Done) (sym w.0) w.1;
      row = λ x plan s m t ordered h runs.
          let C : Option ℕ → Type 0 = λ o. CallsOrMeets x plan s m why old new o (row op (here m t (reader_place next))) in
          subst C (sym (straight_calls op near (here m t (reader_place next)))) (subst (λ (z : Step). Meets x plan s m z old new (row op (here m t (reader_place next)))) (sym w.0) (each x plan s m t ordered h runs));
    } in
    (same, w.2, refused_stops old new before.code op (reader_place next) why b.code read.reads no)

-- a branch: a reader stands where the task goes on
pub branch_made : (old new : Cpu) (before at : Reader) (always wanted : Bool) (target next : Place) (r : RunsSome old) → ReaderBehind old before 0 → ReadsTo old (branch_op always wanted target) next
    → ForEach old (λ x plan s m t. IsMade x plan s m old new (row (branch_op always wanted target) (here m t next)))
    → GoesWith r.storage r.plan r.session r.member r.task old new (reader_place at) → HoldsCode old at.code → (n : ℕ) → ReaderAt at (code_of r.member.constants r.task.segment) n → NearMade old new at
branch_made old new before at always wanted target next r b read made g code n stands =
    let op : Op = branch_op always wanted target in
    record {
      row = λ x plan s m t ordered h runs. row_of old new before next op b.code read (branch_calls always wanted target) x plan s m t ordered h runs (made x plan s m t ordered h runs);
      left = λ x plan s m t ordered h runs. ap leaves_record (sym (read x plan s m t ordered h runs)) ∙ branch_stays always wanted target;
      stands = stands_with old new r g.answer g.made at n g.leaves code stands;
    }

-- a far operator that leaves no activation record
module _ (old new : Cpu) (before next : Reader) (op : Op) (q : Place) (code : HoldsCode old before.code) (read : ReadsThrough old op next) (at : q ≡ reader_place next)
    (made : ForEach old (λ x plan s m t. CallsOrMeets x plan s m answers.Done old new (called op (here m t q)) (row op (here m t q)))) (stays : is_leaving op ≡ false) where
  pub far_made : FarMade old new
  far_made = record {
    row = λ x plan s m t ordered h runs.
        let given = code x plan s m t ordered h runs in
        let C : Place → Type 0 = λ p. CallsOrMeets x plan s m answers.Done old new (called op (here m t p)) (row op (here m t p)) in
        operator_read x plan s m t answers.Done old new before.code.address (Ok (op, reader_place next)) (present x old plan s m t ordered h runs before.code given.0 given.1) (read.reads x plan s m t ordered h runs) (subst C at (made x plan s m t ordered h runs));
    left = λ x plan s m t ordered h runs. ap leaves_record (sym (read.reads x plan s m t ordered h runs)) ∙ stays;
  }

  -- after which the task goes on behind it
  pub far_on : RunsSome old → StaysInSegment old new q → NearMade old new next
  far_on r there =
      let h = here r.member r.task q in
      let k = made_near r.storage r.plan r.session r.member old new (called op h) (row op h) (made r.storage r.plan r.session r.member r.task r.ordered r.stands r.running) in
      record {
        row = far_made.row;
        left = far_made.left;
        stands = stands_there old new r (row op h) k next (count_at r.task.place + read.length) there.dict there.segment read.stands.code (read.stands.at r.storage r.plan r.session r.member r.task r.ordered r.stands r.running) (there.place ∙ at);
      }

-- ---- forms and rows

-- the form of the first syllable, by what the table says
pub form_is : (said n : Near) (first top : ℕ) (f : Form) → ((g : Form) → near_form said first ≡ Some g → form_of first ≡ Some g) → first ≡ top → said ≡ n → near_form n first ≡ Some f → form_of top ≡ Some f
form_is said n first top f known top_is is says = ap form_of (sym top_is) ∙ known f (ap (λ (k : Near). near_form k first) is ∙ says)

pub form_at : (said n : Near) (first top : ℕ) (F : ℕ → Form) → ((g : Form) → near_form said first ≡ Some g → form_of first ≡ Some g) → first ≡ top → said ≡ n → near_form n first ≡ Some (F first) → form_of top ≡ Some (F top)
form_at said n first top F known top_is is says = let P : ℕ → Type 0 = λ z. form_of z ≡ Some (F z) in subst P top_is (known (F first) (ap (λ (k : Near). near_form k first) is ∙ says))

pub word_straight : (procedure : Bool) (bits : ℕ) → is_straight (word_op procedure bits) ≡ true
word_straight procedure bits = grind arith

pub moves_straight : (code : Code) → moves_cells code ≡ true → is_straight (Plain code) ≡ true
moves_straight code is = grind arith

pub numbers_straight : (op : Numeric) → is_straight (Plain (code_of_numbers op)) ≡ true
numbers_straight op = grind arith

pub numbers_row : (op : Numeric) (h : OperatorContext) → on_cells (on_two (of_numbers op)) h ≡ row (Plain (code_of_numbers op)) h
numbers_row op h = grind arith

pub branch_row : (wanted : Bool) (target : Place) (h : OperatorContext) → branch_if wanted h (cells_of h) target ≡ row (branch_op false wanted target) h
branch_row wanted target h = grind arith

-- a row under another name, at the same place
pub each_as : (old new : Cpu) (answered : Step) (op : Op) (p q : Place) (f : OperatorContext → Answer Done) → p ≡ q → ((h : OperatorContext) → f h ≡ row op h)
    → ForEach old (λ x plan s m t. Meets x plan s m answered old new (f (here m t p))) → ForEach old (λ x plan s m t. Meets x plan s m answered old new (row op (here m t q)))
each_as old new answered op p q f same is each x plan s m t ordered h runs = grind arith

-- a reader at a place of the code
pub aimed : (cpu : Cpu) (aim : Reader) (target : Place) → RunsSome cpu → target.syllable < 6 → ForEach cpu (λ x plan s m t. ReaderAt aim (code_of m.constants t.segment) (count_at target + 0)) → reader_place aim ≡ target
aimed cpu aim target q in_word aims =
    let a = aims q.storage q.plan q.session q.member q.task q.ordered q.stands q.running in
    same_place (reader_place aim) target (omega (arith, a.at, a.in_word, in_word)) (omega (arith, a.at, a.in_word, in_word))
