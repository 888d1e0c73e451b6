-- The steps of a session and the last line, as the run of its deck.
use Rattle.std.proofs.Common.{◌≡◌, ◌≢◌, ℕ, ◌*◌, ◌<◌, ◌≤◌, ◌⊎◌, ⊎_elim, inl, inr, List, [], ◌∷◌, ◌++◌, length, take, append-nil, refl, sym, ap, ◌∙◌, subst, arith, Option, Some, None, Result, Ok, Err}
use Rattle.std.specs.Prelude.{IfSome, sum_by}
use Rattle.std.proofs.lemmas.Bool.{cases_lt}
use Rattle.std.proofs.lemmas.Option.{none-some}
use Rattle.std.proofs.lemmas.List.Sums.{sum_by-cons}
use Rattle.b67_io.specs.Line.{ended}
use Rattle.b67_io.specs.Told.{Took}
use Rattle.b67_io.specs.Causes.{Rose}
use Rattle.b67_io.proofs.Joined.{Took-then}
use Rattle.b67_lemmas.specs.Lists.{Has}
use Rattle.b67_lemmas.proofs.Members.{all_in, keyed_has}
use Rattle.b67_model.specs.Common.{Task, SessionJob, need, run_text, Session, IsInOrderButPlaces, IsSegment, JobInOrder, RunLine, StepResult, lines, after, number_of}
use Rattle.b67_session.specs.Stops.{Stop}
use Rattle.b67_session.specs.Stops as stops
use Rattle.b67_law.specs.Turns.{IsNext}
use Rattle.b67_law.proofs.Limits.{no_last}
use Rattle.b67_law.proofs.TurnRuns.{Came}
use Rattle.b67_task.specs.declared.tables.Machine.{Machine}
use Rattle.b67_session.specs.declared.slices.Progress.{Progress}
use Rattle.b67_session.specs.declared.slices.Progress.TheVariants as progress
use Rattle.b67_law.proofs.FewMade.{made_few}
use Rattle.b67_session.specs.Slices.{StandsAt, IsLimited, StepsReach, Prints, SliceMeets, StopsBefore}
use Rattle.b67_session.proofs.Texts.{run_text-append}
use Rattle.b67_session.proofs.Tells.{tells_weaker}
use Rattle.b67_session_lines.specs.Moments.{last_part, due}
use Rattle.b67_session_lines.specs.Stops.{Run}
use Rattle.b67_session_lines.specs.Ends.{EndsPrinting, all_printed, cut_off}
use Rattle.b67_job.specs.Device.{Device, DeviceTells, Failed, known_now}
use Rattle.b67_job.specs.Lines.{no_core_line, backing_full_line, backing_fault_line, summary, halted_text}
use Rattle.b67_job.specs.declared.summaries.Closing.{Closing}
use Rattle.b67_job.specs.Texts.{Text, only, PrintsAndAnswers, all_taken, cut_short}
use Rattle.b67_job.proofs.Opened.{run_apart_to}
use Rattle.b67_job.specs.Runs.{text_to, StandsAfter, IsBeforeHalt, IsWithinHalt, StopsInRun, IsCutInStep, IsCutInLimit, all_end, halt_comes, step_wants_core, step_wants_sectors, step_fails, IsPrintingNext, StepsEnd, steps_stop, next_is_cut}
use Rattle.b67_job.specs.Finishing.{FinishesRun}
use Rattle.b67_job.proofs.Parts.{over_has_no_last}
use Rattle.b67_job.proofs.Reached.{came_whole, came_limited, begins_step, ends_step}
use Rattle.b67_model.specs.declared.limits.TheConstants.{MOST_JOBS, MOST_LIMIT, MOST_MADE}

-- ---- what is printed

-- one text is printed, and then the call ends that prints another behind it
pub closes_then : {K : Type 0} {taken : K → Option (List ℕ)} {faults : K → ℕ} {a b c : K} {x y : List ℕ} {status answer : ℕ} → Took taken a b x → faults a ≤ faults b
    → EndsPrinting taken faults b c status y answer → PrintsAndAnswers taken faults a c status (record { front = x; last = y }) answer
closes_then took later (all_printed e t) = all_taken e (Took-then took t)
closes_then took later (cut_off e rose part) = cut_short part.count e (omega (arith, later, rose)) (record { proper = part.proper; took = Took-then took part.first })

-- one text alone
pub closes_only : {K : Type 0} {taken : K → Option (List ℕ)} {faults : K → ℕ} {a b : K} {y : List ℕ} {status answer : ℕ} → EndsPrinting taken faults a b status y answer → PrintsAndAnswers taken faults a b status (only y) answer
closes_only (all_printed e t) = all_taken e t
closes_only (cut_off e rose part) = cut_short part.count e rose (record { proper = part.proper; took = part.first })

-- what a slice prints that had printed nothing of its first text
module _ {K : Type 0} {taken : K → Option (List ℕ)} {old between : K} {was is : List ℕ} {before now : ℕ} {printed : List RunLine} where
  front_took : Prints taken old between was before printed is now → before ≡ 0 → Took taken old between (run_text printed ++ take now is)
  front_took p e = subst (λ (x : List ℕ). Took taken old between x) (sym (ap (λ n. take n was ++ p.text) e) ∙ p.same) p.took

  pub lines_took : Prints taken old between was before printed is now → before ≡ 0 → now ≡ 0 → Took taken old between (run_text printed)
  lines_took p e f = subst (λ (x : List ℕ). Took taken old between x) (ap (λ n. run_text printed ++ take n is) f ∙ append-nil (run_text printed)) (front_took p e)

-- ---- the steps that a session may make

sum_upto : (jobs : List SessionJob) → ((y : SessionJob) → Has jobs y → y.progress.made ≤ MOST_LIMIT) → sum_by (λ (y : SessionJob). y.progress.made) jobs ≤ length jobs * MOST_LIMIT
sum_upto [] each = omega arith
sum_upto (x ∷ more) each = omega (arith, sum_by-cons (λ (y : SessionJob). y.progress.made) x more, each x (inl refl), sum_upto more (λ y k. each y (inr k)))

sum_below : (jobs : List SessionJob) (m : SessionJob) → Has jobs m → m.progress.made < MOST_LIMIT → ((y : SessionJob) → Has jobs y → y.progress.made ≤ MOST_LIMIT) → sum_by (λ (y : SessionJob). y.progress.made) jobs < length jobs * MOST_LIMIT
sum_below [] m has low each = absurd has
sum_below (x ∷ more) m (inl e) low each =
    let own : x.progress.made < MOST_LIMIT = subst (λ (y : SessionJob). y.progress.made < MOST_LIMIT) (sym e) low in
    omega (arith, sum_by-cons (λ (y : SessionJob). y.progress.made) x more, own, sum_upto more (λ y k. each y (inr k)))
sum_below (x ∷ more) m (inr has) low each =
    omega (arith, sum_by-cons (λ (y : SessionJob). y.progress.made) x more, each x (inl refl), sum_below more m has low (λ y k. each y (inr k)))

-- a session of which a task makes the next step has made fewer operators than eight jobs may make
pub fewer : (told : Option (List (List ℕ))) (k : Machine) (s : Session) (m : SessionJob) (t : Task) → StandsAt told k s → IsNext s m t → k.tasks.made < MOST_MADE
fewer told k s m t stands n =
    let inm : Has s.jobs m = (keyed_has number_of n.chosen.who.job s.jobs m n.member).0 in
    let int : Has m.progress.job.tasks t = (keyed_has (λ (u : Task). u.number) n.chosen.who.task m.progress.job.tasks t n.task).0 in
    let j = all_in (λ (y : SessionJob). JobInOrder (IsSegment y.constants) y.constants y.progress) s.jobs m stands.ordered.jobs inm in
    let some : m.progress.made < m.constants.limit = j.below_limit (λ none. subst (λ (ts : List Task). Has ts t) none int) in
    let most : m.constants.limit ≤ MOST_LIMIT = j.unchanging.limit in
    let sum = sum_below s.jobs m inm (omega (arith, some, most)) (made_few s stands.ordered) in
    let few : length s.jobs ≤ MOST_JOBS = stands.ordered.few in
    let counted : s.made ≡ sum_by (λ (y : SessionJob). y.progress.made) s.jobs = stands.ordered.counted in
    let shown : k.tasks.made ≡ s.made = stands.stands.tables.counts.made in
    omega (arith, counted, shown, sum, few)

-- as many steps as eight jobs may make are no slice of a run
most_is_no_end : (told : Option (List (List ℕ))) (k : Machine) (s : Session) (m : SessionJob) (t : Task) (steps : ℕ) → steps ≤ k.tasks.made → steps ≡ MOST_MADE → StandsAt told k s → IsNext s m t → ⊥
most_is_no_end told k s m t steps made all stands n =
    let less = fewer told k s m t stands n in
    omega (arith, less, made, all)

-- no step is made at the halt
within : (halt : Option ℕ) (steps : ℕ) → ((j : ℕ) → j < steps → halt ≢ Some j) → IfSome halt (λ count. steps ≤ count)
within None steps below = tt
within (Some count) steps below = ⊎_elim (λ (less : count < steps). absurd (below count less refl)) (λ (more : steps ≤ count). more) (cases_lt count steps)

-- and none stops there
before_halt : (halt : Option ℕ) (steps : ℕ) → ((j : ℕ) → j < steps → halt ≢ Some j) → halt ≢ Some steps → IfSome halt (λ count. steps < count)
before_halt None steps below other = tt
before_halt (Some count) steps below other =
    let low : steps ≤ count = within (Some count) steps below in
    ⊎_elim (λ (less : steps < count). less) (λ (more : count ≤ steps). let same : count ≡ steps = omega (arith, low, more) in absurd (other (ap Some same))) (cases_lt steps count)

-- ---- how a session's steps ended, as a run from it

module _ {K B : Type 0} (taken : K → Option (List ℕ)) (faults : K → ℕ) (d : Device B) (core : ℕ) (r : Run) (closing : Closing) (k : Machine)
    (E : Type 0) (exact : DeviceTells d → E) (steps : ℕ) (s : Session) (printed : List RunLine) (made : steps ≤ k.tasks.made) (ordered : IsInOrderButPlaces (after steps r.session))
    (below_halt : (j : ℕ) → j < steps → r.halt ≢ Some j) (halted : k.tasks.halt ≡ Some k.tasks.made → r.halt ≡ Some steps) (unhalted : r.halt ≡ Some steps → k.tasks.halt ≡ Some k.tasks.made)
    (leads : DeviceTells d → StepsReach r.session steps s printed) (was is : List ℕ) (due_is : DeviceTells d → is ≡ due s) (before : ℕ) (begun : before ≡ 0) where
  abbrev first : Session
  first = r.session

  abbrev said : Option (List (List ℕ))
  said = known_now d

  came : DeviceTells d → last_part s ≡ None → Came first steps s printed
  came tells none = came_whole first steps s printed (leads tells) none

  none_due : StandsAt said k s → last_part s ≡ None
  none_due stands = no_last s stands.ordered

  comes_to : last_part s ≡ None → StandsAfter d steps first s printed
  comes_to none = record {
    session = λ tells. sym (came tells none).session;
    lines_are = λ tells. sym (came tells none).lines_are;
    apart = λ tells. let c = came tells none in run_apart_to steps first s printed (sym c.session) (sym c.lines_are);
  }

  abbrev stops_at : (m : SessionJob) (t : Task) → StandsAt said k s → IsNext s m t → StopsInRun d steps first k
  stops_at m t stands n = record { session = s; printed = printed; comes = comes_to (none_due stands); stands = stands; member = m; task = t; next = n }

  within_halt : IsWithinHalt r steps
  within_halt = within r.halt steps below_halt

  is_due : k.tasks.halt ≢ Some k.tasks.made → IsBeforeHalt r steps
  is_due other = before_halt r.halt steps below_halt (λ e. other (unhalted e))

  abbrev ending : List ℕ → Text
  ending line = record { front = run_text printed; last = ended line }

  -- the printer failed in the text of a step
  in_step : k.tasks.printed < length is → (b : StopsBefore said MOST_MADE steps s k) → (E → need core s b.member b.task ≤ core) → IsCutInStep d core steps r k (record { front = run_text printed; last = is })
  in_step proper b room = record {
    stop = stops_at b.member b.task b.stands b.next;
    due = is_due b.halt;
    room = λ tells. room (exact tells);
    front = refl;
    last = due_is;
    begins = λ tells.
        let none = none_due b.stands in
        let c = came tells none in
        let long : length is ≡ length (due s) = ap length (due_is tells) in
        let begins = begins_step first steps s printed c none (omega (arith, proper, long)) in
        (begins.0, ap (λ (x : List ℕ). (run_text printed ++ x) ++ begins.0) (due_is tells) ∙ begins.1);
  }

  in_limit : (rest : StepResult) → IsLimited said k s rest → IsCutInLimit d steps r k (record { front = run_text printed; last = is })
  in_limit rest h = record {
    session = s;
    printed = printed;
    rest = rest;
    limited = h;
    within = within_halt;
    front = refl;
    exact = λ tells.
        let l = came_limited first steps s printed ordered (λ none. none-some rest (sym none ∙ h.is)) (leads tells) in
        let front : run_text printed ≡ run_text (lines l.before first) ++ run_text l.part.lines = ap run_text (sym l.lines_are) ∙ run_text-append (lines l.before first) l.part.lines in
        let last : is ≡ due l.part.session = due_is tells ∙ ap due (sym l.session) in
        record {
          before = l.before;
          counted = l.one_more;
          part = l.part;
          is_first = l.is_first;
          session = sym l.session;
          lines_are = sym l.lines_are;
          last = last;
          all = ap (λ (x : List ℕ). x ++ is) front
              ∙ ap (λ (x : List ℕ). (run_text (lines l.before first) ++ run_text l.part.lines) ++ x) last
              ∙ ends_step first l.before l.part l.is_first (subst (λ (z : Session). last_part z ≢ None) (sym l.session) l.some)
              ∙ ap (λ n. run_text (lines n first)) (sym l.one_more);
        };
  }

  -- by what the steps answered
  pub ran : (answered : Result Progress Stop) (old between new : K) (answer : ℕ)
      → SliceMeets said E core d.sectors MOST_MADE steps s is answered k
      → FinishesRun taken faults closing k answered between new answer
      → Prints taken old between was before printed is k.tasks.printed → (answered ≢ Err stops.PrintFault → k.tasks.printed ≡ 0)
      → (answered ≡ Err stops.BackingFault → Failed d) → (answered ≡ Err stops.PrintFault → Rose faults old between) → faults old ≤ faults between
      → StepsEnd taken faults d core steps r closing k old new answer
  ran (Ok progress.Ended) old between new answer meets end prints unprinted failed rose later =
      let none = unprinted (λ e. cc) in
      steps_stop 0 (record { front = run_text printed; last = summary closing k.tasks.made }) none
      (all_end refl (record { session = s; printed = printed; comes = comes_to (over_has_no_last s meets.0.none); within = within_halt; rests = meets.0; ordered = meets.1; text_is = refl }))
      (closes_then (lines_took prints begun none) later end)
  ran (Ok progress.More) old between new answer meets end prints unprinted failed rose later =
      absurd (most_is_no_end said k s meets.2.1.0 meets.2.1.1 steps made meets.0 meets.2.0 meets.2.1.2)
  ran (Ok progress.Halted) old between new answer meets end prints unprinted failed rose later =
      let lives = meets.1.1 in
      steps_stop 3 (record { front = run_text printed; last = halted_text closing k }) (unprinted (λ e. cc))
      (halt_comes refl (record { stop = stops_at lives.0 lives.1 meets.1.0 lives.2; halt = halted meets.0; text_is = refl }))
      (closes_then (lines_took prints begun (unprinted (λ e. cc))) later end)
  ran (Err (stops.NoCore words size)) old between new answer meets end prints unprinted failed rose later =
      let b = meets.0 in
      let line : no_core_line words size ≡ no_core_line (need core s b.member b.task) core = ap (λ n. no_core_line n size) meets.1 ∙ ap (λ n. no_core_line (need core s b.member b.task) n) meets.2 in
      steps_stop 4 (ending (no_core_line words size)) (unprinted (λ e. cc))
      (step_wants_core refl (record {
        stop = stops_at b.member b.task b.stands b.next;
        due = is_due b.halt;
        exceeds = subst (λ n. core < n) meets.1 meets.3;
        text_is = ap (λ (x : List ℕ). text_to printed x) line;
      }))
      (closes_then (lines_took prints begun (unprinted (λ e. cc))) later end)
  ran (Err (stops.BackingFull sum size)) old between new answer meets end prints unprinted failed rose later =
      let b = meets.0 in
      let line : backing_full_line sum size ≡ backing_full_line sum d.sectors = ap (λ n. backing_full_line sum n) meets.4 in
      steps_stop 5 (ending (backing_full_line sum size)) (unprinted (λ e. cc))
      (step_wants_sectors refl (record {
        stop = stops_at b.member b.task b.stands b.next;
        due = is_due b.halt;
        sum = sum;
        tells = tells_weaker E (DeviceTells d) exact b.stands.storage b.stands.plan s b.member b.task sum meets.3;
        exceeds = meets.5;
        absent = record { lacks = λ tells. meets.1.lacks (exact tells); room = λ tells. meets.1.room (exact tells); code = λ tells. meets.1.code (exact tells) };
        wants = meets.2.0;
        free = meets.2.1;
        short = meets.2.2;
        text_is = ap (λ (x : List ℕ). text_to printed x) line;
      }))
      (closes_then (lines_took prints begun (unprinted (λ e. cc))) later end)
  ran (Err stops.BackingFault) old between new answer meets end prints unprinted failed rose later =
      let b = meets.0 in
      steps_stop 6 (ending backing_fault_line) (unprinted (λ e. cc))
      (step_fails refl (failed refl) (record {
        stop = stops_at b.member b.task b.stands b.next;
        due = is_due b.halt;
        absent = record { lacks = λ tells. meets.1.lacks (exact tells); room = λ tells. meets.1.room (exact tells); code = λ tells. meets.1.code (exact tells) };
        text_is = refl;
      }))
      (closes_then (lines_took prints begun (unprinted (λ e. cc))) later end)
  ran (Err stops.PrintFault) old between new answer meets end prints unprinted failed rose later =
      next_is_cut (record { front = run_text printed; last = is }) (by_machine meets.1)
      end.0
      (subst (λ (z : K). Rose faults old z) (sym end.1) (rose refl))
      (record { proper = meets.0; took = subst (λ (z : K). Took taken old z (run_text printed ++ take k.tasks.printed is)) (sym end.1) (front_took prints begun) })
    where
      by_machine : ((b : StopsBefore said MOST_MADE steps s k) × (E → need core s b.member b.task ≤ core)) ⊎ ((rest : StepResult) × IsLimited said k s rest)
          → IsPrintingNext d core steps r k (record { front = run_text printed; last = is })
      by_machine (inl h) = inl (in_step meets.0 h.0 h.1)
      by_machine (inr h) = inr (in_limit h.0 h.1)
