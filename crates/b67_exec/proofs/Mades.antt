-- A far operator that was read and made behind a call, and where the reader then stands.
use Rattle.std.proofs.Common.{◌≡◌, ◌+◌, ◌%◌, ◌^◌, ◌<◌, Bool, true, false, Some, Ok, refl, sym, ◌∙◌, ap, subst, arith}
use Rattle.b67_word.specs.declared.couples.Place.{Place}
use Rattle.b67_ctl.specs.Layout.{IsPlace}
use Rattle.b67_model.specs.declared.operators.Op.{Op}
use Rattle.b67_model.specs.declared.operators.Op.TheVariants.{Plain}
use Rattle.b67_model.specs.declared.operators.Code.{Code}
use Rattle.b67_model.specs.Common.{Alone, form_of}
use Rattle.b67_stack.specs.declared.Cpu.{Cpu}
use Rattle.b67_stack.specs.declared.Step.{Step}
use Rattle.b67_stack.specs.declared.Step.TheVariants as answers
use Rattle.b67_word.specs.declared.faults.Fault.TheVariants.{InvalidOperator}
use Rattle.b67_exec_cells.specs.Tops.{StaysInSegment}
use Rattle.b67_layout.specs.Common.{RunsSome}
use Rattle.b67_layout.proofs.Fresh.{running_in_order}
use Rattle.b67_exec_cells.proofs.Codes.{present}
use Rattle.b67_exec_cells.proofs.Put.{room}
use Rattle.b67_layout_step.specs.Keeping.{is_leaving}
use Rattle.b67_exec.specs.Operators.{is_on_top, goes_behind, store_code, leaves_record}
use Rattle.b67_exec.specs.declared.reader.Reader.{Reader}
use Rattle.b67_exec.specs.declared.apart.Went.{Went}
use Rattle.b67_exec.specs.declared.apart.Went.TheVariants as wents
use Rattle.b67_exec.specs.declared.arms.Made.{Made}
use Rattle.b67_exec.specs.declared.arms.Made.TheVariants as outcome
use Rattle.b67_exec.specs.Near.{HoldsCode, ReaderBehind, reader_place, NearMade, MadeNear, FarMade, Makes, StopsHere, outcome_of}
use Rattle.b67_exec.specs.Far.{RowMade, RowRefused, MadeOn, MadeAway, MadeWent, MadeLeaving, LeavesBy, LeadsTo}
use Rattle.b67_exec.proofs.Readings.{read_fits, operator_read}
use Rattle.b67_exec.proofs.Through.{ReadsThrough, ReadsNone, far_made, far_on, lone_to, one_on, refused_stops, unread_stops}

-- ---- those that leave no activation record

pub top_stays : (code : Code) → is_on_top code ≡ true → is_leaving (Plain code) ≡ false
top_stays code top = grind arith

pub behind_stays : (code : Code) → goes_behind code ≡ true → is_leaving (Plain code) ≡ false
behind_stays code goes = grind arith

pub store_stays : (keeps : Bool) → is_leaving (Plain (store_code keeps)) ≡ false
store_stays keeps = grind arith

-- ---- what was read and made

-- the place behind an operator that was read
pub place_behind : (cpu : Cpu) (op : Op) (next : Reader) (q : Place) → RunsSome cpu → ReadsThrough cpu op next → q ≡ reader_place next → IsPlace q
place_behind cpu op next q r read at =
    subst IsPlace (sym at) (read_fits r.member.constants r.task op (reader_place next) (running_in_order r.plan r.session r.member r.task r.ordered r.running).0.unchanging (read.reads r.storage r.plan r.session r.member r.task r.ordered r.stands r.running)).1

module _ (old new : Cpu) (before next : Reader) (op : Op) (q : Place) (r : RunsSome old) (b : ReaderBehind old before 0) (read : ReadsThrough old op next) (at : q ≡ reader_place next) (stays : is_leaving op ≡ false) where
  -- it goes on behind itself
  pub on_made : (made : Bool) (why : Step) → made ≡ true → MadeOn op q old made new why → NearMade old new next
  on_made true why is m = far_on old new before next op q b.code read at m.0 stays r m.1
  on_made false why is m = absurd (let z : ⊥ = cc in z)

  -- or elsewhere
  pub away_made : (made : Bool) (why : Step) → made ≡ true → MadeAway op q old made new why → FarMade old new
  away_made true why is m = far_made old new before next op q b.code read at m stays
  away_made false why is m = absurd (let z : ⊥ = cc in z)

  -- by a short way
  pub short_made : RowMade op q old new × StaysInSegment old new q → NearMade old new next
  short_made m = far_on old new before next op q b.code read at m.0 stays r m.1

  -- it was refused
  pub refusing : (why : Step) → RowRefused op q old new why → StopsHere old why
  refusing why m = refused_stops old new before.code op (reader_place next) why b.code read.reads (subst (λ (z : Place). RowRefused op z old new why) at m)

  pub on_refused : (made : Bool) (why : Step) → made ≡ false → MadeOn op q old made new why → (new ≡ old) × StopsHere old why
  on_refused true why is m = absurd (let z : ⊥ = cc in z)
  on_refused false why is m = (m.same, refusing why m)

  pub away_refused : (made : Bool) (why : Step) → made ≡ false → MadeAway op q old made new why → (new ≡ old) × StopsHere old why
  away_refused true why is m = absurd (let z : ⊥ = cc in z)
  away_refused false why is m = (m.same, refusing why m)

  -- either
  pub went_made : (went : Went) (made : Made) (after : Reader) (why : Step) → MadeWent op q old went new why → LeadsTo went before next made after → Makes old before made new after why
  went_made wents.On made after why m g =
      subst (λ (z : Made). Makes old before z new after why) (sym g.0) (subst (λ (z : Reader). NearMade old new z) (sym g.1) (far_on old new before next op q b.code read at m.0 stays r m.1))
  went_made wents.Away made after why m g = subst (λ (z : Made). Makes old before z new after why) (sym g) (far_made old new before next op q b.code read at m stays)
  went_made wents.Not made after why m g = subst (λ (z : Made). Makes old before z new after why) (sym g.0) (m.same, g.1, refusing why m)

-- it leaves an activation record, whose words go up to the top of the stack
pub leaving_made : (op : Op) (old new : Cpu) (made : Bool) (why : Step) → made ≡ true → MadeLeaving op old made new why → LeavesBy op old (outcome.Left (old.regs.s + 1)) new why
leaving_made op old new true why is m = (m.0, m.1, refl)
leaving_made op old new false why is m = absurd (let z : ⊥ = cc in z)

pub leaving_refused : (op : Op) (old new : Cpu) (made : Bool) (why : Step) → made ≡ false → MadeLeaving op old made new why → LeavesBy op old outcome.Not new why
leaving_refused op old new made why is m = grind arith

pub top_fits : (old : Cpu) → RunsSome old → old.regs.s + 1 < 2 ^ 20
top_fits old r = let g = room r.storage old r.plan r.session r.member r.task r.ordered r.stands r.running in omega (arith, g.last, g.under, g.inside, g.bound)

pub left_made : (old new : Cpu) (before : Reader) (code : Code) (made : Made) → ReaderBehind old before 0 → form_of (before.bits % 2 ^ 8) ≡ Some (Alone code) → is_leaving (Plain code) ≡ true → (why : Step) → LeavesBy (Plain code) old made new why → Makes old before made new before why
left_made old new before code (outcome.Left upto) b begins leaving why m =
    let read = lone_to old before b code begins in
    record {
      row = λ x plan s m2 t ordered h runs.
          let given = b.code x plan s m2 t ordered h runs in
          operator_read x plan s m2 t answers.Done old new before.code.address (Ok (Plain code, one_on old)) (present x old plan s m2 t ordered h runs before.code given.0 given.1) (read x plan s m2 t ordered h runs) (m.0 (one_on old) x plan s m2 t ordered h runs);
      left = λ x plan s m2 t ordered h runs. ap leaves_record (sym (read x plan s m2 t ordered h runs)) ∙ leaving;
      cuts = m.1;
      upto = m.2;
    }
left_made old new before code outcome.On b begins leaving why m = absurd m
left_made old new before code outcome.Away b begins leaving why m = absurd m
left_made old new before code outcome.Not b begins leaving why m =
    let read = lone_to old before b code begins in
    let no = m (one_on old) in
    (no.same, refl, refused_stops old new before.code (Plain code) (one_on old) why b.code read no)

-- ---- as what a reader's operator answers

pub near_outcome : (old new : Cpu) (before after : Reader) (made : Bool) (answer : Made) (why : Step) → answer ≡ outcome_of made → MadeNear old before made new after why → Makes old before answer new after why
near_outcome old new before after true answer why is m = subst (λ (z : Made). Makes old before z new after why) (sym is) m
near_outcome old new before after false answer why is m = subst (λ (z : Made). Makes old before z new after why) (sym is) m

-- ---- no operator is read

pub none_near : (old : Cpu) (before : Reader) (made : Bool) (why : Step) → made ≡ false → why ≡ answers.Fault InvalidOperator → HoldsCode old before.code → ReadsNone old → MadeNear old before made old before why
none_near old before made why is fault code none = grind (arith, unread_stops)

pub none_made : (old : Cpu) (before : Reader) (made : Bool) (answer : Made) (why : Step) → made ≡ false → answer ≡ outcome_of made → why ≡ answers.Fault InvalidOperator → HoldsCode old before.code → ReadsNone old → Makes old before answer old before why
none_made old before made answer why is says fault code none = near_outcome old old before before made answer why says (none_near old before made why is fault code none)
