use Rattle.std.proofs.Common.{◌≡◌, ◌≢◌, ◌≤◌, ℕ, ◌+◌, ◌-◌, List, length, Option, Some, None, Ok, Err, refl, sym, ap, ◌∙◌, subst, arith}
use Rattle.b67_io.specs.Free.{tally_told, tally_faults}
use Rattle.b67_model.specs.Common.{Session, after}
use Rattle.b67_layout.specs.Machine.{Says, content_after}
use Rattle.b67_layout.proofs.Devices.{Served-none, Served-then}
use Rattle.b67_layout.proofs.Retold.{retold-same}
use Rattle.b67_task.proofs.Keeping.{keeps_then, countable_kept, halt_kept}
use Rattle.b67_session.specs.AttemptPassed.{CallCauses}
use Rattle.b67_session.specs.AttemptStops.{Stop}
use Rattle.b67_session.specs.AttemptStops as stops
use Rattle.b67_session.specs.declared.slices.Progress.{Progress}
use Rattle.b67_session.specs.Search.{IsSearched, FindsLeast, ComesTo, StopsUnfound}
use Rattle.b67_session.specs.Slices.{StandsAt, Keeps, Slices}
use Rattle.b67_session.proofs.Again.{open_again}
use Rattle.b67_session.proofs.Composed.{same_answer, same_count, same_stop}
use Rattle.b67_session.proofs.Completing.{goes_through, no_fault}
use Rattle.b67_session.proofs.Going.{Going, going-begins, going-lives, going-turn, stop_causes}
use Rattle.b67_session.proofs.Pausing.{says_retold}
use Rattle.b67_session.proofs.Onward.{went_on, stopped, turn_begun, none_made}
use Rattle.b67_session.proofs.Noted.{none_noted, none_counted, passes_none, passes_one, passes_then}
use Rattle.b67_session.proofs.FoundLeast.{found_least, found_none, found_end, comes_none, comes_end, comes_found, none_up_to, leaves_here}
use Rattle.b67_session.proofs.finding.find.Given.{Over}
use Rattle.b67_session.proofs.finding.find.Goals.{After-step}
use Rattle.b67_session.proofs.finding.find.Goals as goal

-- ---- a step more

module _ (g : Over) (c : After-step g) where
  keeps : Keeps c.args.machine.now c.step.new.machine
  keeps = keeps_then c.args.machine.now c.turn.machine c.step.new.machine c.turn.invariant.keeps c.step.ensures.leaves.kept

  module _ (due : c.turn.machine.tasks.halt ≢ Some c.turn.machine.tasks.made) (said : Option (List (List ℕ))) (s : Session) (says : Says said (g.B.Backing.holds c.args.backing.now)) (h : StandsAt said c.args.machine.now s) where
    one_more : c.step.result ≡ Ok tt → Going tally_told (said ≢ None) (content_after said (g.B.Backing.holds c.step.new.backing)) (c.turn.made + 1) s c.args.machine.now c.step.new.machine c.new-paper.result c.step.new.paper
    one_more =
        went_on g.B.Backing.holds g.B.Backing.size g.B.Backing.calls g.B.Backing.faults tally_told said c.turn.made c.args.most s c.args.machine.now c.turn.machine c.step.new.machine c.args.backing.now c.turn.backing c.step.new.backing
        c.new-paper.result c.turn.paper c.step.new.paper c.step.result says c.turn.invariant.device (c.turn.invariant.going said s says h) c.turn.invariant.keeps due c.step.ensures.row

    stops_so : (stop : Stop) → c.step.result ≡ Err stop → Slices tally_told (content_after said (g.B.Backing.holds c.step.new.backing)) (said ≢ None) (g.B.Backing.size c.args.backing.now) c.args.most s (Err stop) c.args.machine.now c.step.new.machine c.new-paper.result c.step.new.paper
    stops_so stop is =
        stopped g.B.Backing.holds g.B.Backing.size g.B.Backing.calls g.B.Backing.faults tally_told said c.turn.made c.args.most s c.args.machine.now c.turn.machine c.step.new.machine c.args.backing.now c.turn.backing c.step.new.backing
        c.new-paper.result c.turn.paper c.step.new.paper c.step.result says c.turn.invariant.device (c.turn.invariant.going said s says h) c.turn.invariant.keeps due c.step.ensures.row stop is (omega (arith, c.turn-test.true))

    some_turn : c.step.result ≡ Ok tt → said ≢ None → 1 ≤ (after (c.turn.made + 1) s).turn
    some_turn =
        turn_begun g.B.Backing.holds g.B.Backing.size g.B.Backing.calls g.B.Backing.faults tally_told said c.turn.made c.args.most s c.args.machine.now c.turn.machine c.step.new.machine c.args.backing.now c.turn.backing c.step.new.backing
        c.new-paper.result c.turn.paper c.step.new.paper c.step.result says c.turn.invariant.device (c.turn.invariant.going said s says h) c.turn.invariant.keeps due c.step.ensures.row

    same_made : (stop : Stop) → c.step.result ≡ Err stop → stop ≢ stops.PrintFault → c.step.new.machine.tasks.made ≡ c.turn.machine.tasks.made
    same_made =
        none_made g.B.Backing.holds g.B.Backing.size g.B.Backing.calls g.B.Backing.faults tally_told said c.turn.made c.args.most s c.args.machine.now c.turn.machine c.step.new.machine c.args.backing.now c.turn.backing c.step.new.backing
        c.new-paper.result c.turn.paper c.step.new.paper c.step.result says c.turn.invariant.device (c.turn.invariant.going said s says h) c.turn.invariant.keeps due c.step.ensures.row

  causes_so : (stop : Stop) → c.step.result ≡ Err stop → CallCauses {A = Progress} g.B.Backing.faults tally_faults c.args.backing.now c.step.new.backing c.new-paper.result c.step.new.paper (Err stop)
  causes_so stop is =
      stop_causes g.B.Backing.faults tally_faults stop c.step.result c.args.backing.now c.turn.backing c.step.new.backing c.new-paper.result c.turn.paper c.step.new.paper is
      c.turn.invariant.device.faults (omega arith) c.step.ensures.leaves.causes

  fine : (stop : Stop) → c.step.result ≡ Err stop → stop ≢ stops.PrintFault
  fine stop is printer = let rose = c.step.ensures.leaves.causes.printer.failed (is ∙ ap (λ (x : Stop). Err x) printer) in omega (arith, rose)

pub turn-init : goal.turn-init
turn-init g c = record {
  few = omega arith;
  why = λ e. absurd (e refl);
  device = Served-none g.B.Backing.holds g.B.Backing.size g.B.Backing.calls g.B.Backing.faults c.args.backing.now;
  keeps = record { core = refl; sectors = refl; given = refl };
  going = λ said s says h.
      let P : Option (List (List ℕ)) → Type 0 = λ d. Going tally_told (said ≢ None) d 0 s c.args.machine.now c.args.machine.now c.new-paper.result c.new-paper.result in
      subst P (sym (retold-same said (g.B.Backing.holds c.args.backing.now) says)) (going-begins tally_told (said ≢ None) said s c.args.machine.now c.new-paper.result h);
  passes = λ said s tells says h. passes_none c.args.what c.args.places.now c.args.from 0 s None;
}

pub is_found-requires : goal.is_found-requires
is_found-requires g c =
    let l = c.requires.begins.stands in
    let x = c.turn.invariant.going l.said l.session l.says l.stands in
    record { stands = record { said = content_after l.said (g.B.Backing.holds c.turn.backing); session = x.session; stands = x.stands } }

pub note_chosen-best-requires : goal.note_chosen-best-requires
note_chosen-best-requires g c =
    let l = c.requires.begins.stands in
    let x = c.turn.invariant.going l.said l.session l.says l.stands in
    record { stands = record { said = content_after l.said (g.B.Backing.holds c.turn.backing); session = x.session; stands = x.stands } }

pub step-requires-clause-due : goal.step-requires-clause-due
step-requires-clause-due g c =
    let l = c.requires.begins.stands in
    record {
      lives = going-lives tally_told (l.said ≢ None) (content_after l.said (g.B.Backing.holds c.turn.backing)) 0 c.args.most c.turn.made l.session c.args.machine.now c.turn.machine c.new-paper.result c.turn.paper
          (c.turn.invariant.going l.said l.session l.says l.stands) (g.B.Backing.holds c.turn.backing) (says_retold l.said (g.B.Backing.holds c.turn.backing)) c.in_default.ensures.0;
      before_halt = c.in_default.ensures.1;
      countable = countable_kept c.args.machine.now c.turn.machine c.turn.invariant.keeps c.requires.begins.countable;
    }

pub step-requires-clause-sized : goal.step-requires-clause-sized
step-requires-clause-sized g c = omega (arith, c.turn.invariant.device.size, c.turn.invariant.keeps.sectors, c.requires.sized)

pub go_on_past-made-requires-clause-stands : goal.go_on_past-made-requires-clause-stands
go_on_past-made-requires-clause-stands g c =
    let a = (goal.at.go_on_past-made-requires-clause-stands g c).After-step in
    let l = c.requires.begins.stands in
    let one = one_more g a c.in_default.ensures.1 l.said l.session l.says l.stands c.in-Ok.is in
    record { said = content_after l.said (g.B.Backing.holds c.step.new.backing); session = one.session; stands = one.stands }

pub go_on_past-made-requires-clause-unprinted : goal.go_on_past-made-requires-clause-unprinted
go_on_past-made-requires-clause-unprinted g c =
    let a = (goal.at.go_on_past-made-requires-clause-unprinted g c).After-step in
    let l = c.requires.begins.stands in
    (one_more g a c.in_default.ensures.1 l.said l.session l.says l.stands c.in-Ok.is).texts.some (omega arith)

pub turn-preserved : goal.turn-preserved
turn-preserved g c =
    let a = (goal.at.turn-preserved g c).After-step in
    let due = c.in_default.ensures.1 in
    let counts = c.go_on_past-made.ensures.few in
    let more = c.go_on_past-made.result - (c.turn.made + 1) in
    let total : c.go_on_past-made.result ≡ c.turn.made + 1 + more = omega (arith, counts.on) in
    record {
      few = counts.few (omega arith);
      why = c.go_on_past-made.ensures.stops;
      device = Served-then g.B.Backing.holds g.B.Backing.size g.B.Backing.calls g.B.Backing.faults c.args.backing.now c.turn.backing c.step.new.backing c.turn.invariant.device c.step.ensures.leaves.served;
      keeps = keeps_then c.args.machine.now c.step.new.machine c.go_on_past-made.new.machine (keeps g a) c.go_on_past-made.ensures.keeps;
      going = λ said s says h.
          let one = one_more g a due said s says h c.in-Ok.is in
          going-turn tally_told (said ≢ None) (content_after said (g.B.Backing.holds c.step.new.backing)) (c.turn.made + 1) more c.go_on_past-made.result s c.args.machine.now c.step.new.machine c.go_on_past-made.new.machine c.new-paper.result c.step.new.paper
          one (keeps g a) (omega arith) (c.go_on_past-made.ensures.row (content_after said (g.B.Backing.holds c.step.new.backing)) one.session one.stands) total;
      passes = λ said s tells says h.
          let x = c.turn.invariant.going said s says h in
          let one = one_more g a due said s says h c.in-Ok.is in
          let there = (one.came tells).session in
          let came = (x.came tells).session in
          passes_then c.args.what c.args.places.now c.args.from 0 (c.turn.made + 1) c.go_on_past-made.result s None c.note_chosen-best.result c.go_on_past-made.new.best
          (passes_then c.args.what c.args.places.now c.args.from 0 c.turn.made (c.turn.made + 1) s None c.turn.best c.note_chosen-best.result (c.turn.invariant.passes said s tells says h)
          (passes_one c.args.what c.args.places.now c.args.from c.turn.made s x.session c.turn.best c.note_chosen-best.result came
          (c.is_found.ensures.fails (content_after said (g.B.Backing.holds c.turn.backing)) x.session x.stands c.if-is_found.false)
          (c.note_chosen-best.ensures (content_after said (g.B.Backing.holds c.turn.backing)) s x.session x.stands came)))
          (c.go_on_past-made.ensures.passes (content_after said (g.B.Backing.holds c.step.new.backing)) s one.session one.stands
          (subst (λ (z : Session). 1 ≤ z.turn) there (some_turn g a due said s says h c.in-Ok.is tells)) there);
    }

pub returns-in-Some-clause-least : goal.returns-in-Some-clause-least
returns-in-Some-clause-least g c = λ said s tells says h.
    subst (FindsLeast c.args.what c.args.places.now (IsSearched c.args.from c.args.most c.args.machine.now.tasks) s) (sym c.count_of.ensures)
    (found_end tally_told (said ≢ None) (content_after said (g.B.Backing.holds c.turn.backing)) c.args.what c.args.places.now c.args.from c.args.most c.turn.made s c.args.machine.now c.turn.machine c.new-paper.result c.turn.paper
    (c.turn.invariant.going said s says h) tells h.ordered c.turn.invariant.keeps c.turn.best (c.turn.invariant.passes said s tells says h) c.turn.invariant.few c.in-Some._progress c.in-Some.ensures)

pub returns-in-Some-clause-comes : goal.returns-in-Some-clause-comes
returns-in-Some-clause-comes g c = λ said s tells says h.
    subst (ComesTo c.args.what (length c.args.machine.now.cpu.core) (IsSearched c.args.from c.args.most c.args.machine.now.tasks) s) (sym c.count_of.ensures)
    (comes_end tally_told (said ≢ None) (content_after said (g.B.Backing.holds c.turn.backing)) c.args.what c.args.places.now c.args.from c.args.most c.turn.made s c.args.machine.now c.turn.machine c.new-paper.result c.turn.paper
    (c.turn.invariant.going said s says h) tells h.ordered c.turn.invariant.keeps c.turn.best (c.turn.invariant.passes said s tells says h) c.in-Some._progress c.in-Some.ensures)

pub returns-in-Some-clause-stands : goal.returns-in-Some-clause-stands
returns-in-Some-clause-stands g c = λ said s n tells says h other e.
    let none : c.turn.best ≡ None = ((c.turn.invariant.passes said s tells says h).noted (none_noted c.args.what c.args.from s)).other other in
    absurd (none_counted c.turn.best c.count_of.result n none c.count_of.ensures (same_answer c.count_of.result (Some n) e))

pub returns-in-Some-clause-leaves : goal.returns-in-Some-clause-leaves
returns-in-Some-clause-leaves g c =
    let l = c.requires.begins.stands in
    leaves_here g.B.Backing.holds g.B.Backing.size g.B.Backing.calls g.B.Backing.faults tally_told (l.said ≢ None) (content_after l.said (g.B.Backing.holds c.turn.backing)) c.turn.made l.session c.count_of.result c.args.machine.now c.turn.machine
    c.args.backing.now c.turn.backing c.new-paper.result c.turn.paper (c.turn.invariant.going l.said l.session l.says l.stands) (says_retold l.said (g.B.Backing.holds c.turn.backing)) c.requires.begins.countable c.turn.invariant.keeps c.turn.invariant.device

pub returns-then-is_found-clause-least : goal.returns-then-is_found-clause-least
returns-then-is_found-clause-least g c = λ said s tells says h.
    let x = c.turn.invariant.going said s says h in
    found_least tally_told (said ≢ None) (content_after said (g.B.Backing.holds c.turn.backing)) c.args.what c.args.places.now c.args.from c.args.most c.turn.made s c.args.machine.now c.turn.machine c.new-paper.result c.turn.paper
    x tells h.ordered c.turn.invariant.keeps c.turn.best (c.turn.invariant.passes said s tells says h) (omega arith) (c.is_found.ensures.later c.if-is_found.true) c.in_default.ensures.1
    (c.is_found.ensures.holds (content_after said (g.B.Backing.holds c.turn.backing)) x.session x.stands c.if-is_found.true)

pub returns-then-is_found-clause-comes : goal.returns-then-is_found-clause-comes
returns-then-is_found-clause-comes g c = λ said s tells says h.
    let x = c.turn.invariant.going said s says h in
    comes_found tally_told (said ≢ None) (content_after said (g.B.Backing.holds c.turn.backing)) c.args.what c.args.places.now c.args.from c.args.most c.turn.made s c.args.machine.now c.turn.machine c.new-paper.result c.turn.paper
    x tells h.ordered c.turn.invariant.keeps c.turn.best (c.turn.invariant.passes said s tells says h)
    (c.is_found.ensures.holds (content_after said (g.B.Backing.holds c.turn.backing)) x.session x.stands c.if-is_found.true)

pub returns-then-is_found-clause-stands : goal.returns-then-is_found-clause-stands
returns-then-is_found-clause-stands g c = λ said s n tells says h other e.
    let x = c.turn.invariant.going said s says h in
    let same = same_count c.turn.made n e in
    subst (λ (z : Session). StandsAt (content_after said (g.B.Backing.holds c.turn.backing)) c.turn.machine z) (sym (x.came tells).session ∙ ap (λ (k : ℕ). after k s) same) x.stands

pub returns-then-is_found-clause-leaves : goal.returns-then-is_found-clause-leaves
returns-then-is_found-clause-leaves g c =
    let l = c.requires.begins.stands in
    leaves_here g.B.Backing.holds g.B.Backing.size g.B.Backing.calls g.B.Backing.faults tally_told (l.said ≢ None) (content_after l.said (g.B.Backing.holds c.turn.backing)) c.turn.made l.session (Some c.turn.made) c.args.machine.now c.turn.machine
    c.args.backing.now c.turn.backing c.new-paper.result c.turn.paper (c.turn.invariant.going l.said l.session l.says l.stands) (says_retold l.said (g.B.Backing.holds c.turn.backing)) c.requires.begins.countable c.turn.invariant.keeps c.turn.invariant.device

pub returns-clause-least : goal.returns-clause-least
returns-clause-least g c = λ said s tells says h.
    subst (FindsLeast c.args.what c.args.places.now (IsSearched c.args.from c.args.most c.args.machine.now.tasks) s) (sym c.count_of-2.ensures)
    (found_none tally_told (said ≢ None) (content_after said (g.B.Backing.holds c.turn.backing)) c.args.what c.args.places.now c.args.from c.args.most c.turn.made s c.args.machine.now c.turn.machine c.new-paper.result c.turn.paper
    (c.turn.invariant.going said s says h) tells h.ordered c.turn.invariant.keeps c.turn.best (c.turn.invariant.passes said s tells says h) c.turn.invariant.few (omega arith))

pub returns-clause-comes : goal.returns-clause-comes
returns-clause-comes g c = λ said s tells says h.
    subst (ComesTo c.args.what (length c.args.machine.now.cpu.core) (IsSearched c.args.from c.args.most c.args.machine.now.tasks) s) (sym c.count_of-2.ensures)
    (comes_none tally_told (said ≢ None) (content_after said (g.B.Backing.holds c.turn.backing)) c.args.what c.args.places.now c.args.from c.args.most c.turn.made s c.args.machine.now c.turn.machine c.new-paper.result c.turn.paper
    (c.turn.invariant.going said s says h) tells h.ordered c.turn.invariant.keeps c.turn.best (c.turn.invariant.passes said s tells says h) (omega arith))

pub returns-clause-stands : goal.returns-clause-stands
returns-clause-stands g c = λ said s n tells says h other e.
    let none : c.turn.best ≡ None = ((c.turn.invariant.passes said s tells says h).noted (none_noted c.args.what c.args.from s)).other other in
    absurd (none_counted c.turn.best c.count_of-2.result n none c.count_of-2.ensures (same_answer c.count_of-2.result (Some n) e))

pub returns-clause-leaves : goal.returns-clause-leaves
returns-clause-leaves g c =
    let l = c.requires.begins.stands in
    leaves_here g.B.Backing.holds g.B.Backing.size g.B.Backing.calls g.B.Backing.faults tally_told (l.said ≢ None) (content_after l.said (g.B.Backing.holds c.turn.backing)) c.turn.made l.session c.count_of-2.result c.args.machine.now c.turn.machine
    c.args.backing.now c.turn.backing c.new-paper.result c.turn.paper (c.turn.invariant.going l.said l.session l.says l.stands) (says_retold l.said (g.B.Backing.holds c.turn.backing)) c.requires.begins.countable c.turn.invariant.keeps c.turn.invariant.device

pub returns-in-Err-clause-stops : goal.returns-in-Err-clause-stops
returns-in-Err-clause-stops g c = λ said s stop tells says h e.
    let a = (goal.at.returns-in-Err-clause-stops g c).After-step in
    let due = c.in_default.ensures.1 in
    let now = content_after said (g.B.Backing.holds c.turn.backing) in
    let then = content_after said (g.B.Backing.holds c.step.new.backing) in
    let x = c.turn.invariant.going said s says h in
    let same = same_stop c.in-Err.stop stop e in
    let slices = stops_so g a due said s says h c.in-Err.stop c.in-Err.is in
    subst (λ (z : Stop). StopsUnfound then (said ≢ None) (g.B.Backing.size c.args.backing.now) c.args.what c.args.places.now c.args.from c.args.most s z c.args.machine.now c.step.new.machine) same (record {
      paper = c.new-paper.result;
      paper' = c.step.new.paper;
      slices = slices;
      none = none_up_to tally_told (said ≢ None) now c.args.what c.args.places.now c.args.from c.args.most c.turn.made s c.args.machine.now c.turn.machine c.new-paper.result c.turn.paper x tells h.ordered c.turn.invariant.keeps
          c.turn.best (c.turn.invariant.passes said s tells says h) then (g.B.Backing.size c.args.backing.now) c.in-Err.stop c.step.new.machine c.step.new.paper slices
          (same_made g a due said s says h c.in-Err.stop c.in-Err.is (fine g a c.in-Err.stop c.in-Err.is))
          (c.is_found.ensures.fails now x.session x.stands c.if-is_found.false);
    })

pub returns-in-Err-clause-complete : goal.returns-in-Err-clause-complete
returns-in-Err-clause-complete g c = λ said s tells says h ample calm.
    let a = (goal.at.returns-in-Err-clause-complete g c).After-step in
    let due = c.in_default.ensures.1 in
    goes_through tally_told (content_after said (g.B.Backing.holds c.step.new.backing)) (said ≢ None) (g.B.Backing.size c.args.backing.now) c.args.most s (Err c.in-Err.stop) c.args.machine.now c.step.new.machine c.new-paper.result c.step.new.paper
    (stops_so g a due said s says h c.in-Err.stop c.in-Err.is) tells (halt_kept c.args.machine.now c.step.new.machine (keeps g a)) ample
    (no_fault g.B.Backing.faults tally_faults c.args.backing.now c.step.new.backing c.new-paper.result c.step.new.paper (Err c.in-Err.stop) (causes_so g a c.in-Err.stop c.in-Err.is) calm (omega arith))

pub returns-in-Err-clause-leaves : goal.returns-in-Err-clause-leaves
returns-in-Err-clause-leaves g c =
    let a = (goal.at.returns-in-Err-clause-leaves g c).After-step in
    let due = c.in_default.ensures.1 in
    let l = c.requires.begins.stands in
    let told = g.B.Backing.holds c.step.new.backing in
    record {
      goes_on = open_again tally_told (content_after l.said told) told (l.said ≢ None) (g.B.Backing.size c.args.backing.now) c.args.most l.session (Err c.in-Err.stop) c.args.machine.now c.step.new.machine c.new-paper.result c.step.new.paper
          (says_retold l.said told) (countable_kept c.args.machine.now c.step.new.machine (keeps g a) c.requires.begins.countable) (stops_so g a due l.said l.session l.says l.stands c.in-Err.stop c.in-Err.is);
      keeps = keeps g a;
      served = Served-then g.B.Backing.holds g.B.Backing.size g.B.Backing.calls g.B.Backing.faults c.args.backing.now c.turn.backing c.step.new.backing c.turn.invariant.device c.step.ensures.leaves.served;
      device_failed = λ e.
          let same = same_stop c.in-Err.stop stops.BackingFault e in
          (causes_so g a c.in-Err.stop c.in-Err.is).device (ap (λ (x : Stop). Err x) same);
      unprinted = λ e.
          let same = same_stop c.in-Err.stop stops.PrintFault e in
          fine g a c.in-Err.stop c.in-Err.is same;
    }
