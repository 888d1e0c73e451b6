use Rattle.std.proofs.Common.{rules, ◌≡◌, ◌≢◌, ◌≤◌, ℕ, ◌+◌, List, Option, Some, None, Result, Ok, Err, length, refl, sym, ◌∙◌, ap, subst, arith}
use Rattle.b67_model.specs.Common.{Task, SessionJob, Session}
use Rattle.b67_layout.specs.Machine.{Says, content_after}
use Rattle.b67_layout.proofs.Devices.{Served-none, Served-then}
use Rattle.b67_layout.proofs.Retold.{retold-same}
use Rattle.b67_law.specs.Turns.{IsNext}
use Rattle.b67_session.specs.AttemptStops.{Stop, BackingFull}
use Rattle.b67_session.specs.Attempts.{IsNotFull}
use Rattle.b67_session.proofs.Composed.{not_full_ok, same_stop}
use Rattle.b67_session.specs.declared.slices.Progress.{Progress}
use Rattle.b67_session.specs.declared.slices.Progress.TheVariants as progress
use Rattle.b67_task.specs.declared.tables.Machine.{Machine}
use Rattle.b67_session.specs.Slices.{StandsAt, Keeps, StopsWithRoom, StepKeepsAreas, StepLeaves, IfPresent}
use Rattle.b67_session.specs.Steps.{Steps}
use Rattle.b67_task.proofs.Keeping.{keeps_then, countable_kept}
use Rattle.b67_session.proofs.Going.{Going, going-begins, going-lives, going-more, going-steps, going-stops, going-turn, begun_present, made_no_fewer, stop_rooms, stop_causes}
use Rattle.b67_session.proofs.Pausing.{says_retold, still_told, known_still, retold_twice, pause_slices}
use Rattle.b67_session.specs.Slices.{goes_well}
use Rattle.b67_session.proofs.Paging.{nothing_paged, paged_then, step_follows, turn_follows, step_stops, stop_pages, stop_lives}
use Rattle.b67_session.proofs.Rows.{stays_ended, went_on, none_made}
use Rattle.b67_session.proofs.slices.go_on.Given.{Over}
use Rattle.b67_session.proofs.slices.go_on.Goals.{After-step}
use Rattle.b67_session.proofs.slices.go_on.Goals as goal

-- ---- the step that was tried, from the session to which the slice came

module _ (g : Over) (c : After-step g) where
  keeps : Keeps c.args.machine.now c.step.new.machine
  keeps = keeps_then c.args.machine.now c.turn.machine c.step.new.machine c.turn.invariant.keeps c.step.ensures.leaves.kept

  module _ (said : Option (List (List ℕ))) (s : Session) (says : Says said (g.B.Backing.holds c.args.backing.now)) (h : StandsAt said c.args.machine.now s) where
    abbrev going : Going g.K.Sink.taken (said ≢ None) (content_after said (g.B.Backing.holds c.turn.backing)) c.turn.made s c.args.machine.now c.turn.machine c.args.paper.now c.turn.paper
    going = c.turn.invariant.going said s says h

    abbrev now : Option (List (List ℕ))
    now = content_after said (g.B.Backing.holds c.turn.backing)

    tells : said ≢ None → g.B.Backing.holds c.turn.backing ≢ None
    tells = still_told g.B.Backing.holds g.B.Backing.size g.B.Backing.calls g.B.Backing.faults c.args.backing.now c.turn.backing said says c.turn.invariant.device

    stepped : (answered : Result (Unit {0}) Stop) → c.step.result ≡ answered
        → Steps g.K.Sink.taken (content_after said (g.B.Backing.holds c.step.new.backing)) (now ≢ None) (g.B.Backing.size c.args.backing.now) going.session answered c.turn.machine c.step.new.machine c.turn.paper c.step.new.paper
    stepped answered is =
        let P : Option (List (List ℕ)) → ℕ → Result (Unit {0}) Stop → Type 0 = λ d n a. Steps g.K.Sink.taken d (now ≢ None) n going.session a c.turn.machine c.step.new.machine c.turn.paper c.step.new.paper in
        let told = g.B.Backing.holds c.step.new.backing in
        let row = c.step.ensures.row now going.session (says_retold said (g.B.Backing.holds c.turn.backing)) going.stands in
        subst (P (content_after said told) (g.B.Backing.size c.args.backing.now)) is
        (subst (λ (d : Option (List (List ℕ))). P d (g.B.Backing.size c.args.backing.now) c.step.result) (retold_twice said (g.B.Backing.holds c.turn.backing) told tells)
        (subst (λ (n : ℕ). P (content_after now told) n c.step.result) c.turn.invariant.device.size row))

    present : (m : SessionJob) (t : Task) → IsNext s m t → (answered : Result Progress Stop) → c.turn.machine.tasks.made ≤ c.step.new.machine.tasks.made → c.turn.made + 1 ≤ c.args.n
        → (StopsWithRoom (length c.args.machine.now.cpu.core) s m t c.step.result → StopsWithRoom (length c.args.machine.now.cpu.core) s m t answered)
        → (IsNotFull c.step.result → IsNotFull answered) → ((sum size : ℕ) → answered ≡ Err (BackingFull sum size) → c.step.result ≡ Err (BackingFull sum size))
        → IfPresent g.B.Backing.holds (said ≢ None) (length c.args.machine.now.cpu.core) c.args.n h.storage h.plan s m t answered c.args.machine.now c.step.new.machine c.args.backing.now c.step.new.backing
    present m t next answered later few same fine full =
        begun_present g.B.Backing.holds said (length c.turn.machine.cpu.core) (length c.args.machine.now.cpu.core) c.args.n c.turn.made c.args.machine.now c.turn.machine c.step.new.machine s m t
        c.args.backing.now c.turn.backing c.step.new.backing c.step.result answered c.turn.invariant.begun c.turn.invariant.keeps.core going.made later few same fine full
        (λ none l. c.step.ensures.present said s m t (subst (λ d. Says said (g.B.Backing.holds d)) (sym (c.turn.invariant.begun none).1) says) l next) h

    made_present : (m : SessionJob) (t : Task) → IsNext s m t → c.step.result ≡ Ok tt → c.turn.made + 1 ≤ c.args.n
        → IfPresent g.B.Backing.holds (said ≢ None) (length c.args.machine.now.cpu.core) c.args.n h.storage h.plan s m t (Ok progress.More) c.args.machine.now c.step.new.machine c.args.backing.now c.step.new.backing
    made_present m t next is few =
        present m t next (Ok progress.More) (made_no_fewer (stepped (Ok tt) is)) few (λ room. tt) (λ whole. not_full_ok progress.More) (λ sum size e. absurd (not_full_ok progress.More sum size e))

-- ---- the loop

pub turn-init : goal.turn-init
turn-init g c = record {
  why = λ e. absurd (e refl);
  few = omega arith;
  later = omega arith;
  device = Served-none g.B.Backing.holds g.B.Backing.size g.B.Backing.calls g.B.Backing.faults c.args.backing.now;
  keeps = record { core = refl; sectors = refl; given = refl };
  going = λ said s says h.
      let P : Option (List (List ℕ)) → Type 0 = λ d. Going g.K.Sink.taken (said ≢ None) d 0 s c.args.machine.now c.args.machine.now c.args.paper.now c.args.paper.now in
      subst P (sym (retold-same said (g.B.Backing.holds c.args.backing.now) says)) (going-begins g.K.Sink.taken (said ≢ None) said s c.args.machine.now c.args.paper.now h);
  begun = λ none. (refl, refl);
  none = λ none. refl;
  unprinted = λ none. refl;
  pages = nothing_paged g.B.Backing.holds c.args.machine.now c.args.backing.now;
  quiet = λ said s m t h says next few wants same. refl;
  written = λ said s m t h says next tells few fits none. record { told = λ all e. e };
  areas = λ said s m t h job says next few alone hand more. absurd (omega (arith, more));
  left = λ said s m t h says next few wants more. absurd (omega (arith, more));
}

pub step-requires-clause-due : goal.step-requires-clause-due
step-requires-clause-due g c =
    let l = c.requires.begins.stands in
    record {
      lives = going-lives g.K.Sink.taken (l.said ≢ None) (content_after l.said (g.B.Backing.holds c.turn.backing)) 0 c.args.n c.turn.made l.session c.args.machine.now c.turn.machine c.args.paper.now c.turn.paper
          (c.turn.invariant.going l.said l.session l.says l.stands) (g.B.Backing.holds c.turn.backing) (says_retold l.said (g.B.Backing.holds c.turn.backing)) c.in_default.ensures.0;
      before_halt = c.in_default.ensures.1;
      countable = countable_kept c.args.machine.now c.turn.machine c.turn.invariant.keeps c.requires.begins.countable;
    }

pub step-requires-clause-sized : goal.step-requires-clause-sized
step-requires-clause-sized g c = omega (arith, c.turn.invariant.device.size, c.turn.invariant.keeps.sectors, c.requires.sized)

-- the step was made
module _ (g : Over) (c : After-step g) (is : c.step.result ≡ Ok tt) (due : c.turn.machine.tasks.halt ≢ Some c.turn.machine.tasks.made) (told : Option (List (List ℕ))) (s : Session) (says : Says told (g.B.Backing.holds c.args.backing.now)) (h : StandsAt told c.args.machine.now s) where
  abbrev one_more : Going g.K.Sink.taken (told ≢ None) (content_after told (g.B.Backing.holds c.step.new.backing)) (c.turn.made + 1) s c.args.machine.now c.step.new.machine c.args.paper.now c.step.new.paper
  one_more =
      going-steps g.K.Sink.taken (told ≢ None) (now g c told s says h) (g.B.Backing.size c.args.backing.now) c.args.n c.turn.made s c.args.machine.now c.turn.machine c.args.paper.now c.turn.paper (going g c told s says h)
      (content_after told (g.B.Backing.holds c.step.new.backing)) (known_still told (g.B.Backing.holds c.turn.backing) (tells g c told s says h)) c.step.new.machine c.step.new.paper
      c.turn.invariant.keeps due (stepped g c told s says h (Ok tt) is)

pub go_on_with_turn-requires-clause-stands : goal.go_on_with_turn-requires-clause-stands
go_on_with_turn-requires-clause-stands g c =
    let a = (goal.at.go_on_with_turn-requires-clause-stands g c).After-step in
    let l = c.requires.begins.stands in
    let one = one_more g a c.in-Ok.is c.in_default.ensures.1 l.said l.session l.says l.stands in
    record { said = content_after l.said (g.B.Backing.holds c.step.new.backing); session = one.session; stands = one.stands }

pub go_on_with_turn-requires-clause-unprinted : goal.go_on_with_turn-requires-clause-unprinted
go_on_with_turn-requires-clause-unprinted g c =
    let a = (goal.at.go_on_with_turn-requires-clause-unprinted g c).After-step in
    let l = c.requires.begins.stands in
    (one_more g a c.in-Ok.is c.in_default.ensures.1 l.said l.session l.says l.stands).texts.some (omega arith)

pub turn-preserved : goal.turn-preserved
turn-preserved g c =
    let a = (goal.at.turn-preserved g c).After-step in
    let is : c.step.result ≡ Ok tt = c.in-Ok.is in
    let more = c.go_on_with_turn.result in
    let total : c.turn.made + (1 + more) ≡ c.turn.made + 1 + more = omega arith in
    record {
      few = omega (arith, c.go_on_with_turn.ensures.counts.few);
      why = c.go_on_with_turn.ensures.stops;
      later = omega (arith, c.turn.invariant.later, c.step.ensures.leaves.causes.printer.later);
      device = Served-then g.B.Backing.holds g.B.Backing.size g.B.Backing.calls g.B.Backing.faults c.args.backing.now c.turn.backing c.step.new.backing c.turn.invariant.device c.step.ensures.leaves.served;
      keeps = keeps_then c.args.machine.now c.step.new.machine c.go_on_with_turn.new.machine (keeps g a) c.go_on_with_turn.ensures.keeps;
      going = λ said s says h.
          let one = one_more g a is c.in_default.ensures.1 said s says h in
          going-turn g.K.Sink.taken (said ≢ None) (content_after said (g.B.Backing.holds c.step.new.backing)) (c.turn.made + 1) more (c.turn.made + (1 + more)) s c.args.machine.now c.step.new.machine c.go_on_with_turn.new.machine c.args.paper.now c.step.new.paper
          one (keeps g a) (omega arith) (c.go_on_with_turn.ensures.row (content_after said (g.B.Backing.holds c.step.new.backing)) one.session one.stands) total;
      begun = λ none. absurd (omega (arith, none));
      none = λ none. absurd (none_made c.args.machine.now c.turn.machine c.turn.made c.turn.invariant.none (λ zero. (c.turn.invariant.begun zero).0) c.in_default.ensures.0 none);
      unprinted = λ none. absurd (omega (arith, none));
      pages =
          let first = paged_then g.B.Backing.holds c.args.machine.now c.turn.machine c.step.new.machine c.args.backing.now c.turn.backing c.step.new.backing c.turn.invariant.pages
          (step_follows g.B.Backing.holds g.K.Sink.taken (g.B.Backing.size c.turn.backing) c.turn.machine c.step.new.machine c.turn.backing c.step.new.backing c.turn.paper c.step.new.paper c.step.result is
          c.step.ensures.leaves.kept
          (λ told says. still_told g.B.Backing.holds g.B.Backing.size g.B.Backing.calls g.B.Backing.faults c.turn.backing c.step.new.backing told says c.step.ensures.leaves.served)
          c.step.ensures.row c.step.ensures.present) in
          paged_then g.B.Backing.holds c.args.machine.now c.step.new.machine c.go_on_with_turn.new.machine c.args.backing.now c.step.new.backing c.step.new.backing first
          (turn_follows g.B.Backing.holds more c.step.new.machine c.go_on_with_turn.new.machine c.step.new.backing c.go_on_with_turn.ensures.keeps c.go_on_with_turn.ensures.counts.order c.go_on_with_turn.ensures.row);
      quiet = λ said s m t h says next few wants.
          (made_present g a said s says h m t next is (omega arith)).quiet few wants;
      written = λ said s m t h says next tells few fits none.
          ((made_present g a said s says h m t next is (omega arith)).hole tells few fits none).written;
      areas = λ said s m t h job says next few alone hand counted.
          let same : c.go_on_with_turn.new.machine ≡ c.step.new.machine = c.go_on_with_turn.ensures.counts.rests (omega (arith, few)) in
          let there = (made_present g a said s says h m t next is (omega arith)).areas job few alone hand
          (ap (λ (z : Machine). z.tasks.made) (sym same) ∙ counted) in
          subst (λ (z : Machine). StepKeepsAreas h.storage h.plan s m t job z) (sym same) there;
      left = λ said s m t h says next few wants counted.
          let same : c.go_on_with_turn.new.machine ≡ c.step.new.machine = c.go_on_with_turn.ensures.counts.rests (omega (arith, few)) in
          let there = (made_present g a said s says h m t next is (omega arith)).left few wants
          (ap (λ (z : Machine). z.tasks.made) (sym same) ∙ counted) in
          subst (λ (z : Machine). StepLeaves h.storage h.plan s m t z) (sym same) there;
    }

-- ---- the answers

pub returns-in-Some-clause-row : goal.returns-in-Some-clause-row
returns-in-Some-clause-row g c = λ said s says h.
    pause_slices g.K.Sink.taken (said ≢ None) (content_after said (g.B.Backing.holds c.turn.backing)) (g.B.Backing.size c.args.backing.now) c.args.n c.turn.made s c.args.machine.now c.turn.machine c.args.paper.now c.turn.paper
    (c.turn.invariant.going said s says h) (omega arith) c.in-Some.progress c.in-Some.ensures

pub returns-in-Some-clause-present : goal.returns-in-Some-clause-present
returns-in-Some-clause-present g c = λ said s m t says h next.
    record {
      quiet = λ few wants. c.turn.invariant.quiet said s m t h says next few wants;
      hole = λ tells few fits none. record { written = c.turn.invariant.written said s m t h says next tells few fits none; not_full = not_full_ok c.in-Some.progress };
      areas = λ job few alone hand more. c.turn.invariant.areas said s m t h job says next few alone hand more;
      left = λ few wants more. c.turn.invariant.left said s m t h says next few wants more;
      sum = λ few wants sum size e. absurd (not_full_ok c.in-Some.progress sum size e);
      room = λ tells code none. tt;
    }

pub returns-in-Some-pause-clause-row : goal.returns-in-Some-pause-clause-row
returns-in-Some-pause-clause-row g c = λ said s says h.
    pause_slices g.K.Sink.taken (said ≢ None) (content_after said (g.B.Backing.holds c.turn.backing)) (g.B.Backing.size c.args.backing.now) c.args.n c.turn.made s c.args.machine.now c.turn.machine c.args.paper.now c.turn.paper
    (c.turn.invariant.going said s says h) (omega arith) c.in-Some-pause.progress c.in-Some-pause.ensures

pub returns-in-Some-pause-clause-present : goal.returns-in-Some-pause-clause-present
returns-in-Some-pause-clause-present g c = λ said s m t says h next.
    record {
      quiet = λ few wants. c.turn.invariant.quiet said s m t h says next few wants;
      hole = λ tells few fits none. record { written = c.turn.invariant.written said s m t h says next tells few fits none; not_full = not_full_ok c.in-Some-pause.progress };
      areas = λ job few alone hand more. c.turn.invariant.areas said s m t h job says next few alone hand more;
      left = λ few wants more. c.turn.invariant.left said s m t h says next few wants more;
      sum = λ few wants sum size e. absurd (not_full_ok c.in-Some-pause.progress sum size e);
      room = λ tells code none. tt;
    }

pub returns-in-None-clause-row : goal.returns-in-None-clause-row
returns-in-None-clause-row g c = λ said s says h.
    going-more g.K.Sink.taken (said ≢ None) (content_after said (g.B.Backing.holds c.turn.backing)) (g.B.Backing.size c.args.backing.now) c.args.n c.turn.made s c.args.machine.now c.turn.machine c.args.paper.now c.turn.paper
    (c.turn.invariant.going said s says h) (omega arith) c.in-None.ensures.0 c.in-None.ensures.1

pub returns-in-None-clause-present : goal.returns-in-None-clause-present
returns-in-None-clause-present g c = λ said s m t says h next.
    record {
      quiet = λ few wants. c.turn.invariant.quiet said s m t h says next few wants;
      hole = λ tells few fits none. record { written = c.turn.invariant.written said s m t h says next tells few fits none; not_full = not_full_ok progress.More };
      areas = λ job few alone hand more. c.turn.invariant.areas said s m t h job says next few alone hand more;
      left = λ few wants more. c.turn.invariant.left said s m t h says next few wants more;
      sum = λ few wants sum size e. absurd (not_full_ok progress.More sum size e);
      room = λ tells code none. tt;
    }

pub returns-in-Err-clause-row : goal.returns-in-Err-clause-row
returns-in-Err-clause-row g c = λ said s says h.
    let a = (goal.at.returns-in-Err-clause-row g c).After-step in
    going-stops g.K.Sink.taken (said ≢ None) (now g a said s says h) (g.B.Backing.size c.args.backing.now) c.args.n c.turn.made s c.args.machine.now c.turn.machine c.args.paper.now c.turn.paper (going g a said s says h)
    (content_after said (g.B.Backing.holds c.step.new.backing)) (known_still said (g.B.Backing.holds c.turn.backing) (tells g a said s says h)) c.step.new.machine c.step.new.paper
    c.turn.invariant.keeps c.in_default.ensures.1 c.in-Err.stop (omega arith) (stepped g a said s says h (Err c.in-Err.stop) c.in-Err.is)

pub returns-in-Err-clause-present : goal.returns-in-Err-clause-present
returns-in-Err-clause-present g c = λ said s m t says h next.
    let a = (goal.at.returns-in-Err-clause-present g c).After-step in
    present g a said s says h m t next (Err c.in-Err.stop) (made_no_fewer (stepped g a said s says h c.step.result refl)) (omega arith)
    (stop_rooms (length c.args.machine.now.cpu.core) s m t c.in-Err.stop c.step.result c.in-Err.is)
    (λ whole sum size e. whole sum size (c.in-Err.is ∙ ap Err (same_stop c.in-Err.stop (BackingFull sum size) e)))
    (λ sum size e. c.in-Err.is ∙ ap Err (same_stop c.in-Err.stop (BackingFull sum size) e))

pub returns-in-Some-clause-leaves : goal.returns-in-Some-clause-leaves
returns-in-Some-clause-leaves g c = record { causes = search rules; kept = c.turn.invariant.keeps; served = c.turn.invariant.device }

pub returns-in-Some-pause-clause-leaves : goal.returns-in-Some-pause-clause-leaves
returns-in-Some-pause-clause-leaves g c = record { causes = search rules; kept = c.turn.invariant.keeps; served = c.turn.invariant.device }

pub returns-in-None-clause-leaves : goal.returns-in-None-clause-leaves
returns-in-None-clause-leaves g c = record { causes = search rules; kept = c.turn.invariant.keeps; served = c.turn.invariant.device }

pub returns-in-Err-clause-leaves : goal.returns-in-Err-clause-leaves
returns-in-Err-clause-leaves g c = record {
  causes =
      stop_causes g.B.Backing.faults g.K.Sink.faults c.in-Err.stop c.step.result c.args.backing.now c.turn.backing c.step.new.backing c.args.paper.now c.turn.paper c.step.new.paper c.in-Err.is
      c.turn.invariant.device.faults c.turn.invariant.later c.step.ensures.leaves.causes;
  kept = keeps g (goal.at.returns-in-Err-clause-leaves g c).After-step;
  served =
      Served-then g.B.Backing.holds g.B.Backing.size g.B.Backing.calls g.B.Backing.faults c.args.backing.now c.turn.backing c.step.new.backing c.turn.invariant.device c.step.ensures.leaves.served;
}

pub returns-in-Some-clause-paged : goal.returns-in-Some-clause-paged
returns-in-Some-clause-paged g c = goes_well refl c.turn.invariant.pages

pub returns-in-Some-pause-clause-paged : goal.returns-in-Some-pause-clause-paged
returns-in-Some-pause-clause-paged g c = goes_well refl c.turn.invariant.pages

pub returns-in-None-clause-paged : goal.returns-in-None-clause-paged
returns-in-None-clause-paged g c = goes_well refl c.turn.invariant.pages

pub returns-in-Err-clause-paged : goal.returns-in-Err-clause-paged
returns-in-Err-clause-paged g c =
    let l = c.requires.begins.stands in
    let row = returns-in-Err-clause-row g c l.said l.session l.says l.stands in
    stop_pages g.B.Backing.holds c.in-Err.stop c.args.machine.now c.turn.machine c.step.new.machine c.args.backing.now c.turn.backing c.step.new.backing c.step.result c.in-Err.is
    (stop_lives _ _ _ _ _ _ _ _ c.in-Err.stop c.step.new.machine row.meets) c.turn.invariant.pages
    (step_stops g.B.Backing.holds g.K.Sink.taken (g.B.Backing.size c.turn.backing) c.turn.machine c.step.new.machine c.turn.backing c.step.new.backing c.turn.paper c.step.new.paper c.step.result c.in-Err.stop c.in-Err.is
    c.step.ensures.leaves.kept
    (λ told says. still_told g.B.Backing.holds g.B.Backing.size g.B.Backing.calls g.B.Backing.faults c.turn.backing c.step.new.backing told says c.step.ensures.leaves.served)
    c.step.ensures.row)
    c.step.ensures.present

-- ---- no task from the beginning

pub returns-in-Some-clause-ended : goal.returns-in-Some-clause-ended
returns-in-Some-clause-ended g c = λ said s r. stays_ended said c.args.machine.now c.turn.machine s c.turn.made c.args.backing.now c.turn.backing c.args.paper.now c.turn.paper r c.turn.invariant.none c.turn.invariant.begun c.turn.invariant.unprinted c.in-Some.progress c.in-Some.ensures

pub returns-in-Some-pause-clause-ended : goal.returns-in-Some-pause-clause-ended
returns-in-Some-pause-clause-ended g c = λ said s r. stays_ended said c.args.machine.now c.turn.machine s c.turn.made c.args.backing.now c.turn.backing c.args.paper.now c.turn.paper r c.turn.invariant.none c.turn.invariant.begun c.turn.invariant.unprinted c.in-Some-pause.progress c.in-Some-pause.ensures

pub returns-in-None-clause-ended : goal.returns-in-None-clause-ended
returns-in-None-clause-ended g c = λ said s r. absurd (went_on said c.args.machine.now c.turn.machine s c.turn.made c.args.backing.now c.turn.backing c.args.paper.now c.turn.paper r c.turn.invariant.none c.turn.invariant.begun c.turn.invariant.unprinted c.in-None.ensures.0)

pub returns-in-Err-clause-ended : goal.returns-in-Err-clause-ended
returns-in-Err-clause-ended g c = λ said s r. absurd (went_on said c.args.machine.now c.turn.machine s c.turn.made c.args.backing.now c.turn.backing c.args.paper.now c.turn.paper r c.turn.invariant.none c.turn.invariant.begun c.turn.invariant.unprinted c.in_default.ensures.0)
