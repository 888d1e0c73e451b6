-- What an admitted codefile keeps: an operator stands wherever one may go on.
use Rattle.std.proofs.Common.{◌≡◌, ℕ, ◌+◌, ◌-◌, ◌/◌, ◌%◌, ◌^◌, ◌≤◌, ◌<◌, Bool, true, false, not, eqb, ltb, ◌&&◌, ◌||◌, List, length, Option, Some, None, Ok, refl, sym, ap, ◌∙◌, subst, inl, inr, arith}
use Rattle.std.specs.List.{slice_get, list_any}
use Rattle.std.proofs.lemmas.Bool.{cases_Bool, ltb-false, ltb-true, true≢false, eqb-true, not-false, or_parts}
use Rattle.std.proofs.lemmas.Bool.Decides.{eqb_tells}
use Rattle.b67_word.specs.Operands.{bit}
use Rattle.b67_word.specs.declared.couples.Place.{Place}
use Rattle.b67_model.specs.declared.operators.Op.{Op}
use Rattle.b67_model.specs.declared.operators.Op.TheVariants.{Valc, Namc, Lt8, Lt16, Lt48, Mpcw, Brun, Brtr, Brfl, Bset, Brst, Isol, Insr, Plain}
use Rattle.b67_lemmas.specs.Lists.{Has}
use Rattle.b67_lemmas.proofs.Members.{all_in, any_has, has_get, keyed_has}
use Rattle.b67_model.specs.Common.{Segment, Task, JobConstants, OperatorContext, level_of_frame, running, operator_at, place_of_bits, Program, At, origin, listing, is_start, target_of, may_be_last, holds_of, holds_at, is_outside, is_last, named_segment, named_level, may_begin_at, has_stray_bits, breaks_rule_8, IsAdmitted, reading_of, proc_of, IsStart, SegmentInOrder, SettingInOrder, TaskInOrder}
use Rattle.b67_law.specs.Parameters.{StartsAt, ParametersFit}
use Rattle.b67_law.specs.Laws.{RowsKeepOrder, PlacesHaveOperators}
use Rattle.b67_law.proofs.Readings.{OpBits, ReadFits}
use Rattle.b67_law.proofs.Segments.{reading_fits}
use Rattle.b67_law.proofs.Kept.{here}
use Rattle.b67_law.proofs.Whole.{step_good}
use Rattle.b67_law.proofs.Admitted.{listed, Sound, admitted_sound, Entered, entered, StandsAt, stands_sound, start_stands, origin_stands}

and_false : (a b : Bool) → (a && not b) ≡ false → a ≡ true → b ≡ true
and_false a b e t = grind arith

-- a literal names a segment of its level, at which a procedure may begin at its place
pub record Named (p : Program) (disp level bits : ℕ) : Type 0 where
  pub low : 2 ≤ disp
  pub code : Segment
  pub found : slice_get p.segments (disp - 2) ≡ Some code
  pub of_level : code.level ≡ level
  pub begins : may_begin_at (Some code) bits ≡ true

abbrev pub level_of_segment : Option Segment → Option ℕ
level_of_segment None = None
level_of_segment (Some s) = Some s.level

named_some : (p : Program) (disp level bits : ℕ) → 2 ≤ disp → (o : Option Segment) → slice_get p.segments (disp - 2) ≡ o → holds_of (level_of_segment o) (λ n. eqb n level) ≡ true → may_begin_at o bits ≡ true → Named p disp level bits
named_some p disp level bits low o is e b = grind arith

named_by : (p : Program) (disp level bits : ℕ) → holds_of (named_level p disp) (λ n. eqb n level) ≡ true → may_begin_at (named_segment p disp) bits ≡ true → Named p disp level bits
named_by p disp level bits e b = grind arith

-- no bit stands above the place of a literal
few_bits : (p : Program) (bits : ℕ) → has_stray_bits p bits ≡ false → bits < 2 ^ 36
few_bits p bits e = grind arith

place_is : (bits : ℕ) → bits < 2 ^ 36 → place_of_bits (bits / 2 ^ 20) ≡ record { word = (bits / 2 ^ 20) % 2 ^ 13; syllable = (bits / 2 ^ 33) % 2 ^ 3 }
place_is bits small = let e : bits / 2 ^ 20 / 2 ^ 13 ≡ (bits / 2 ^ 33) % 2 ^ 3 = omega arith in λ i. record { word = (bits / 2 ^ 20) % 2 ^ 13; syllable = e i }

has_entry : (entries : List ℕ) (bits : ℕ) → list_any (λ e. eqb e bits) entries ≡ true → Has entries bits
has_entry entries bits e = let found = any_has (λ e. eqb e bits) entries e in subst (Has entries) (eqb-true found.0 bits found.2) found.1

-- in a sound listing something stands where a procedure may begin
begins_with_something : (p : Program) (n : ℕ) (s : Segment) → Sound (listed p n s) → 0 < length s.code → (bits : ℕ) → may_begin_at (Some s) bits ≡ true → StandsAt (listing s.code) (place_of_bits bits)
begins_with_something p n s sound some bits b = elim (eqb_tells bits 0) [
  | inl t ↦ subst (λ (k : ℕ). StandsAt (listing s.code) (place_of_bits k)) (sym t.1) (origin_stands s.code some)
  | inr t ↦ start_stands s.code (place_of_bits bits) (listing s.code) (λ x h. h) (sound.starts bits (has_entry s.entries bits (rw t.0 at b)))
]

module _ (p : Program) (constants : JobConstants) (admitted : IsAdmitted p) (same : constants.segments ≡ p.segments) (unchanging : SettingInOrder constants) where
  -- the segment of a place, with its sound listing
  sound_at : (i : ℕ) (s : Segment) → slice_get constants.segments i ≡ Some s → (m : ℕ) × Sound (listed p m s)
  sound_at i s e = admitted_sound p i s admitted (subst (λ ss. slice_get ss i ≡ Some s) same e)

  module _ (task : Task) (level : ℕ) (at : IsStart constants task.segment level task.place) where
    reading_is : (op : Op) (next : Place) → reading_of constants task ≡ Ok (op, next) → operator_at at.code.code task.place ≡ Ok (op, next)
    reading_is op next e = rw at.found at e

    entry : Entered at.code.code (listing at.code.code) task.place at.op
    entry = entered _ at.code.code origin (operator_at at.code.code origin) task.place at.op refl at.stands

    start_of : (place : Place) → StandsAt (listing at.code.code) place → IsStart constants task.segment level place
    start_of place stands =
        let s = sound_at (task.segment - 1) at.code at.found in
        let r = stands_sound (listed p s.0 at.code) s.1 place stands in
        record { from_one = at.from_one; code = at.code; found = at.found; of_level = at.of_level; op = r.0; stands = r.1 }

    -- what is read at the place is the entry there
    the_entry : (op : Op) (next : Place) → reading_of constants task ≡ Ok (op, next) → (at.op ≡ op) × (entry.next ≡ next)
    the_entry op next e =
        let both : Ok (at.op, entry.next) ≡ Ok (op, next) = sym entry.reads ∙ reading_is op next e in
        let pair : (at.op, entry.next) ≡ (op, next) = cc in
        (ap (λ (x : Op × Place). x.0) pair, ap (λ (x : Op × Place). x.1) pair)

    sound_here : (m : ℕ) × Sound (listed p m at.code)
    sound_here = sound_at (task.segment - 1) at.code at.found

    after_fits : (op : Op) (next : Place) → reading_of constants task ≡ Ok (op, next) → may_be_last op ≡ false → IsStart constants task.segment level next
    after_fits op next e goes =
        let is = the_entry op next e in
        let test = sound_here.1.rules (At task.place at.op) at.stands (5, is_last (listing at.code.code) task.place && not (may_be_last at.op)) (inr (inr (inl refl))) in
        let goes' : may_be_last at.op ≡ false = rw is.0 goes in
        let last : is_last (listing at.code.code) task.place ≡ false = last_by (is_last (listing at.code.code) task.place) (may_be_last at.op) goes' test in
        subst (IsStart constants task.segment level) is.1 (start_of entry.next (entry.goes_on last))
      where
        last_by : (a b : Bool) → b ≡ false → (a && not b) ≡ false → a ≡ false
        last_by false b none e = refl
        last_by true false none e = absurd (true≢false e)
        last_by true true none e = absurd (true≢false none)

    -- the target of a branch is a start
    target_fits : (op : Op) (target : Place) → at.op ≡ op → target_of op ≡ Some target → IsStart constants task.segment level target
    target_fits op target is of =
        let l = listed p sound_here.0 at.code in
        let stands : Has (listing at.code.code) (At task.place op) = subst (λ o. Has (listing at.code.code) (At task.place o)) is at.stands in
        let three = sound_here.1.rules (At task.place op) stands (3, holds_at (target_of op) (λ t. not (is_outside at.code t) && not (is_start (listing at.code.code) t))) (inl refl) in
        let four = sound_here.1.rules (At task.place op) stands (4, holds_at (target_of op) (is_outside at.code)) (inr (inl refl)) in
        let inside : is_outside at.code target ≡ false = rw of at four in
        let three' : (not (is_outside at.code target) && not (is_start (listing at.code.code) target)) ≡ false = rw of at three in
        let start : is_start (listing at.code.code) target ≡ true = and_false (not (is_outside at.code target)) (is_start (listing at.code.code) target) three' (rw inside refl) in
        start_of target (start_stands at.code.code target (listing at.code.code) (λ x h. h) start)

    -- a literal's Proc begins at the first place of its segment, or at an entry, which is a start
    literal_fits : (bits : ℕ) → at.op ≡ Mpcw bits → StartsAt (IsStart constants) (proc_of bits)
    literal_fits bits is =
        let l = listed p sound_here.0 at.code in
        let disp = bits % 2 ^ 14 in
        let level' = (bits / 2 ^ 14) % 2 ^ 5 in
        let stands : Has (listing at.code.code) (At task.place (Mpcw bits)) = subst (λ o. Has (listing at.code.code) (At task.place o)) is at.stands in
        let seven = sound_here.1.rules (At task.place (Mpcw bits)) stands (7, has_stray_bits p bits) (inr (inr (inr (inr (inl refl))))) in
        let eight = sound_here.1.rules (At task.place (Mpcw bits)) stands (8, breaks_rule_8 l bits) (inr (inr (inr (inr (inr (inl refl)))))) in
        let first = or_parts (not (holds_of (named_level p disp) (λ n. eqb n level')) || not (eqb level' (at.code.level + 1))) (not (may_begin_at (named_segment p disp) (bits / 2 ^ 20))) eight in
        let second = or_parts (not (holds_of (named_level p disp) (λ n. eqb n level'))) (not (eqb level' (at.code.level + 1))) first.0 in
        let named = named_by p disp level' (bits / 2 ^ 20) (not-false (holds_of (named_level p disp) (λ n. eqb n level')) second.0) (not-false (may_begin_at (named_segment p disp) (bits / 2 ^ 20)) first.1) in
        let small : bits < 2 ^ 36 = few_bits p bits seven in
        let here : place_of_bits (bits / 2 ^ 20) ≡ record { word = (bits / 2 ^ 20) % 2 ^ 13; syllable = (bits / 2 ^ 33) % 2 ^ 3 } = place_is bits small in
        let found : slice_get constants.segments (disp - 2) ≡ Some named.code = subst (λ ss. slice_get ss (disp - 2) ≡ Some named.code) (sym same) named.found in
        let index : disp - 2 ≡ disp - 1 - 1 = omega arith in
        let some = (all_in SegmentInOrder constants.segments named.code unchanging.segments (has_get constants.segments (disp - 2) named.code found)).length_low in
        let s = sound_at (disp - 2) named.code found in
        let r = stands_sound (listed p s.0 named.code) s.1 (place_of_bits (bits / 2 ^ 20)) (begins_with_something p s.0 named.code s.1 some (bits / 2 ^ 20) named.begins) in
        let low = named.low in
        let start : IsStart constants (disp - 1) level' (place_of_bits (bits / 2 ^ 20)) =
        record { from_one = omega (arith, low); code = named.code; found = subst (λ i. slice_get constants.segments i ≡ Some named.code) index found; of_level = named.of_level; op = r.0; stands = r.1 } in
        subst (IsStart constants (disp - 1) level') here start

    parameters_fit : (h : OperatorContext) → h.constants ≡ constants → (op : Op) → at.op ≡ op → OpBits op → ((target : Place) → IsStart constants task.segment level target → IsStart h.constants h.task.segment (level_of_frame (running h.task.frames)) target) → ParametersFit (IsStart constants) h op
    parameters_fit h eh (Valc couple) is bits to = bits
    parameters_fit h eh (Namc couple) is bits to = bits
    parameters_fit h eh (Lt8 n) is bits to = bits
    parameters_fit h eh (Lt16 n) is bits to = bits
    parameters_fit h eh (Lt48 n) is bits to = bits
    parameters_fit h eh (Mpcw n) is bits to = λ t. literal_fits n is
    parameters_fit h eh (Brun target) is bits to = subst (λ s. IsStart s h.task.segment (level_of_frame (running h.task.frames)) target) eh (to target (target_fits (Brun target) target is refl))
    parameters_fit h eh (Brtr target) is bits to = subst (λ s. IsStart s h.task.segment (level_of_frame (running h.task.frames)) target) eh (to target (target_fits (Brtr target) target is refl))
    parameters_fit h eh (Brfl target) is bits to = subst (λ s. IsStart s h.task.segment (level_of_frame (running h.task.frames)) target) eh (to target (target_fits (Brfl target) target is refl))
    parameters_fit h eh (Bset n) is bits to = tt
    parameters_fit h eh (Brst n) is bits to = tt
    parameters_fit h eh (Isol high width) is bits to = tt
    parameters_fit h eh (Insr high width) is bits to = tt
    parameters_fit h eh (Plain code) is bits to = tt

pub rows_keep_order : RowsKeepOrder
rows_keep_order p constants job task admitted same s =
    let own = all_in (TaskInOrder (IsStart constants) constants job) job.tasks task s.order.tasks (keyed_has (λ t. t.number) task.number job.tasks task s.live).0 in
    let level = level_of_frame (running task.frames) in
    step_good (IsStart constants) constants job task s (λ op next e.
    let read : ReadFits (Ok (op, next)) = subst ReadFits e (reading_fits constants task s.unchanging) in
    let is = the_entry p constants admitted same s.unchanging task level own.place op next e in
    record {
      after = λ goes. after_fits p constants admitted same s.unchanging task level own.place op next e goes;
      parameters = parameters_fit p constants admitted same s.unchanging task level own.place (here constants job task next) refl op is.0 read.0 (λ target start. start);
    })

pub places_have_operators : PlacesHaveOperators
places_have_operators p constants job task admitted same g live =
    let own = all_in (TaskInOrder (IsStart constants) constants job) job.tasks task g.tasks (keyed_has (λ t. t.number) task.number job.tasks task live).0 in
    let at = own.place in
    let r = entered _ at.code.code origin (operator_at at.code.code origin) task.place at.op refl at.stands in
    (at.op, r.next, rw at.found r.reads)
