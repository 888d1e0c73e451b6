-- A slice that has made so many steps, and how it ends.
use Rattle.std.proofs.Common.{◌≡◌, ◌≢◌, ℕ, ◌+◌, ◌-◌, ◌<◌, ◌≤◌, IsTrue, List, [], ◌∷◌, ◌++◌, length, map, Option, Some, None, Result, Ok, Err, inl, inr, refl, sym, ap, ◌∙◌, subst, arith, append-nil}
use Rattle.std.proofs.lemmas.Bool.{cases_lt}
use Rattle.std.proofs.lemmas.List.Sums.{sum_by-cons}
use Rattle.b67_lemmas.specs.Lists.{Has}
use Rattle.b67_lemmas.proofs.Members.{all_in, has_flat}
use Rattle.b67_model.specs.Common.{is_ready, IsSegment, JobInOrder, IsInOrderButPlaces, Task, SessionJob, RunLine, next, after, lines, live_tasks, Session, Choice, choice, ready_of, ready, Who}
use Rattle.b67_law.specs.Turns.{IsNext}
use Rattle.b67_law.proofs.Choices.{chosen_tasks_are_ready}
use Rattle.b67_task.proofs.Rooms.{none_ready}
use Rattle.b67_task.proofs.ReadyTasks.{of_tasks}
use Rattle.b67_session_lines.specs.Moments.{first_part, due}
use Rattle.b67_session_lines.proofs.Statuses.{after-add}
use Rattle.b67_layout.specs.Machine.{Says}
use Rattle.b67_law.proofs.TurnRuns.{Came, came-none, came-more}
use Rattle.b67_task.specs.declared.tables.TaskRow.{TaskRow}
use Rattle.b67_task.specs.declared.tables.Machine.{Machine}
use Rattle.b67_task.specs.Tables.{task_row}
use Rattle.b67_session.specs.AttemptPassed.{CallCauses}
use Rattle.b67_session.specs.AttemptStops.{Stop}
use Rattle.b67_session.specs.AttemptStops as stops
use Rattle.b67_session.specs.declared.slices.Progress.{Progress}
use Rattle.b67_session.specs.declared.slices.Progress.TheVariants as progress
use Rattle.b67_session.specs.Attempts.{IsNotFull}
use Rattle.b67_session.proofs.Tells.{tells_weaker}
use Rattle.b67_task.proofs.Keeping.{keeps_then, halt_kept}
use Rattle.b67_session.specs.Slices.{StandsAt, LivesOn, RepresentsWithoutTasks, Keeps, StepsReach, in_whole_steps, but_limit, Prints, PrintsWhole, NextFits, StepsFit, StopsWithRoom, IfPresent, StopsBefore, SliceMeets, Slices}
use Rattle.b67_session.specs.Steps.{StepGives, StepLeads, stays, makes, halves, Steps, GoesOnInTurn}
use Rattle.b67_session.proofs.Printing.{prints_none, prints_then, prints_before}
use Rattle.b67_session.proofs.Fitting.{fits_then, below_then, whole_then}

-- what was printed up to a session, of whose text so much is printed
pub record PrintsTo {K : Type 0} (taken : K → Option (List ℕ)) (exact : Type 0) (first : Session) (paper paper' : K) (before : ℕ) (printed : List RunLine) (is_due : List ℕ) (now : ℕ) : Type 0 where
  pub was_due : List ℕ
  pub was : exact → was_due ≡ due first
  pub prints : Prints taken paper paper' was_due before printed is_due now

pub record Going {K : Type 0} (taken : K → Option (List ℕ)) (exact : Type 0) (told : Option (List (List ℕ))) (steps : ℕ) (first : Session) (old now : Machine) (paper paper' : K) : Type 0 where
  pub session : Session
  pub printed : List RunLine
  pub came : exact → Came first steps session printed
  pub made : now.tasks.made ≡ old.tasks.made + steps
  pub stands : StandsAt told now session
  pub below : (j : ℕ) → j < steps → old.tasks.halt ≢ Some (old.tasks.made + j)
  pub fits : exact → StepsFit (length old.cpu.core) steps first
  pub texts : PrintsWhole steps old now paper paper'
  pub prints : (is_due : List ℕ) → (exact → is_due ≡ due session) → PrintsTo taken exact first paper paper' old.tasks.printed printed is_due now.tasks.printed

pub going-begins : {K : Type 0} (taken : K → Option (List ℕ)) (exact : Type 0) (told : Option (List (List ℕ))) (s : Session) (now : Machine) (paper : K) → StandsAt told now s → Going taken exact told 0 s now now paper paper
going-begins taken exact told s now paper stands = record {
  session = s;
  printed = [];
  came = λ tells. came-none s;
  made = omega arith;
  stands = stands;
  below = λ j low. absurd (omega (arith, low));
  fits = λ tells k low. absurd (omega (arith, low));
  texts = record { some = λ low. absurd (omega (arith, low)); none = λ none. (refl, refl) };
  prints = λ is_due same. record { was_due = is_due; was = same; prints = prints_none taken paper paper is_due now.tasks.printed now.tasks.printed refl refl };
}

-- where there is no row, no task lives
no_tasks : (jobs : List SessionJob) → ((m : SessionJob) (t : Task) → Has jobs m → Has m.progress.job.tasks t → ⊥) → live_tasks jobs ≡ 0
no_tasks [] none = refl
no_tasks (m ∷ jobs) none =
    let own : length m.progress.job.tasks ≡ 0 = by m.progress.job.tasks (λ t h. none m t (inl refl) h) in
    sum_by-cons (λ (y : SessionJob). length y.progress.job.tasks) m jobs ∙ omega (arith, own, no_tasks jobs (λ y t iny int. none y t (inr iny) int))
  where
    by : (ts : List Task) → ((t : Task) → Has ts t → ⊥) → length ts ≡ 0
    by [] out = refl
    by (t ∷ ts) out = absurd (out t (inl refl))

pub rests_now : (told : Option (List (List ℕ))) (now : Machine) (s : Session) → StandsAt told now s → now.tasks.rows.items ≡ [] → RepresentsWithoutTasks told now s
rests_now told now s h none = record {
  storage = h.storage;
  plan = h.plan;
  stands = h.stands;
  none = no_tasks s.jobs (λ m t inm int.
      let (row, among, shows) = h.stands.tables.each m t inm int in
      subst (λ (rs : List TaskRow). Has (map task_row rs) row) none among);
}

-- a ready task is among those that are ready
ready_some : (s : Session) (m : SessionJob) (u : Task) → Has s.jobs m → Has m.progress.job.tasks u → IsTrue (is_ready u) → ready s ≢ []
ready_some s m u inm inu r none =
    let w : Who = record { job = m.constants.number; task = u.number } in
    subst (λ (ws : List Who). Has ws w) none (has_flat ready_of s.jobs m w inm (of_tasks m.constants.number m.progress.job.tasks u inu r))

-- where there is one, a task makes the next step
next_by : (s : Session) (o : IsInOrderButPlaces s) (x : Option Choice) → choice s ≡ x → ready s ≢ [] → (m : SessionJob) × (t : Task) × IsNext s m t
next_by s o x e some = grind (arith, none_ready, chosen_tasks_are_ready)

pub next_now : (told : Option (List (List ℕ))) (now : Machine) (s : Session) → StandsAt told now s → now.tasks.rows.items ≢ [] → (m : SessionJob) × (t : Task) × IsNext s m t
next_now told now s h some = by now.tasks.rows.items refl
  where
    by : (rs : List TaskRow) → now.tasks.rows.items ≡ rs → (m : SessionJob) × (t : Task) × IsNext s m t
    by [] e = absurd (some e)
    by (r ∷ rs) e =
        let (m, t, inm, int, shows) = h.stands.tables.tasks (task_row r) (subst (λ (qs : List TaskRow). Has (map task_row qs) (task_row r)) (sym e) (inl refl)) in
        let j = all_in (λ (y : SessionJob). JobInOrder (IsSegment y.constants) y.constants y.progress) s.jobs m h.ordered.jobs inm in
        let (u, inu, ready_u) = j.counts.goes_on (λ none. subst (λ (ts : List Task). Has ts t) none int) in
        next_by s h.ordered (choice s) refl (ready_some s m u inm inu ready_u)

-- one step further
one_more : (first : Session) (steps : ℕ) (s was after : Session) (printed more : List RunLine) → Came first steps s printed → was ≡ s → StepGives was after more → Came first (steps + 1) after (printed ++ more)
one_more first steps s was after printed more came same m =
    let c = came-more first steps s printed m.moment came (ap next (sym same) ∙ m.is) in
    subst (λ (z : Session). Came first (steps + 1) z (printed ++ more)) m.session (subst (λ (ls : List RunLine). Came first (steps + 1) m.moment.session (printed ++ ls)) m.lines_are c)

-- a step, or its first part, after steps
leads_then : (first : Session) (steps n : ℕ) (s was now : Session) (printed more : List RunLine) → Came first steps s printed → was ≡ s → StepLeads was n now more → StepsReach first (steps + n) now (printed ++ more)
leads_then first steps n s was now printed more came same (stays none is nothing) = grind (arith, append-nil)
leads_then first steps n s was now printed more came same (makes one m) =
    let c = one_more first steps s was now printed more came same m in
    subst (λ (k : ℕ). StepsReach first (steps + k) now (printed ++ more)) (sym one) (in_whole_steps c.session c.lines_are)
leads_then first steps n s was now printed more came same (halves part one is session last lines_are) =
    let at : first_part (after steps first) ≡ Some part = ap first_part (came.session ∙ sym same) ∙ is in
    let all : lines steps first ++ part.lines ≡ printed ++ more = ap (λ (ls : List RunLine). ls ++ part.lines) came.lines_are ∙ ap (λ (ls : List RunLine). printed ++ ls) lines_are in
    subst (λ (k : ℕ). StepsReach first (steps + k) now (printed ++ more)) (sym one) (but_limit steps part refl at session last all)

-- the step that wasn't made, after steps that were
abbrev stops_later : (told : Option (List (List ℕ))) (n steps more : ℕ) (s : Session) (new : Machine) → steps + 1 ≤ n → StopsBefore told 1 more s new → StopsBefore told n (steps + more) s new
stops_later told n steps more s new few b = record { left = omega (arith, few, b.left); halt = b.halt; stands = b.stands; member = b.member; task = b.task; next = b.next }

stop_meets : (told : Option (List (List ℕ))) (exact sure : Type 0) (core count n steps more : ℕ) (s : Session) (is_due : List ℕ) (stop : Stop) (new : Machine) → (exact → sure) → steps + 1 ≤ n
    → SliceMeets told sure core count 1 more s is_due (Err stop) new → SliceMeets told exact core count n (steps + more) s is_due (Err stop) new
stop_meets told exact sure core count n steps more s is_due (stops.NoCore words size) new up few m = (stops_later told n steps more s new few m.0, m.1, m.2, m.3)
stop_meets told exact sure core count n steps more s is_due (stops.BackingFull sum size) new up few m =
    let lacks = m.1 in (
      stops_later told n steps more s new few m.0,
      record { lacks = λ e. lacks.lacks (up e); room = λ e. lacks.room (up e); code = λ e. lacks.code (up e) },
      m.2,
      tells_weaker sure exact up m.0.stands.storage m.0.stands.plan s m.0.member m.0.task sum m.3,
      m.4,
      m.5,
    )
stop_meets told exact sure core count n steps more s is_due stops.BackingFault new up few m =
    let lacks = m.1 in
    (stops_later told n steps more s new few m.0, record { lacks = λ e. lacks.lacks (up e); room = λ e. lacks.room (up e); code = λ e. lacks.code (up e) })
stop_meets told exact sure core count n steps more s is_due stops.PrintFault new up few (proper, inl (b, room)) = (proper, inl (stops_later told n steps more s new few b, λ e. room (up e)))
stop_meets told exact sure core count n steps more s is_due stops.PrintFault new up few (proper, inr limited) = (proper, inr limited)

module _ {K : Type 0} (taken : K → Option (List ℕ)) (exact : Type 0) (said : Option (List (List ℕ))) (count n steps : ℕ) (first : Session) (old now : Machine) (paper paper' : K) (g : Going taken exact said steps first old now paper paper') where
  pub going-lives : (told : Option (List (List ℕ))) → Says said told → now.tasks.rows.items ≢ [] → LivesOn told now
  going-lives told says some =
      let (m, t, next) = next_now said now g.session g.stands some in
      record { some = record { said = said; says = says; session = g.session; stands = g.stands }; member = m; task = t; next = next }

  -- it goes no further
  pub going-halted : steps ≤ n → now.tasks.rows.items ≢ [] → now.tasks.halt ≡ Some now.tasks.made → Slices taken said exact count n first (Ok progress.Halted) old now paper paper'
  going-halted few some halt =
      let p = g.prints (due g.session) (λ tells. refl) in
      record {
        steps = steps;
        few = few;
        session = g.session;
        printed = g.printed;
        below = g.below;
        its = λ tells. let c = g.came tells in record { leads = in_whole_steps c.session c.lines_are; ends = λ e. absurd cc; fits = g.fits tells; was = p.was tells; next = refl };
        texts = λ fine. g.texts;
        made = g.made;
        was_due = p.was_due;
        is_due = due g.session;
        prints = p.prints;
        meets = (halt, (g.stands, next_now said now g.session g.stands some));
      }

  pub going-more : steps ≡ n → now.tasks.rows.items ≢ [] → now.tasks.halt ≢ Some now.tasks.made → Slices taken said exact count n first (Ok progress.More) old now paper paper'
  going-more all some halt =
      let p = g.prints (due g.session) (λ tells. refl) in
      record {
        steps = steps;
        few = omega (arith, all);
        session = g.session;
        printed = g.printed;
        below = g.below;
        its = λ tells. let c = g.came tells in record { leads = in_whole_steps c.session c.lines_are; ends = λ e. absurd cc; fits = g.fits tells; was = p.was tells; next = refl };
        texts = λ fine. g.texts;
        made = g.made;
        was_due = p.was_due;
        is_due = due g.session;
        prints = p.prints;
        meets = (all, halt, (g.stands, next_now said now g.session g.stands some));
      }

  pub going-ended : steps ≤ n → now.tasks.rows.items ≡ [] → Slices taken said exact count n first (Ok progress.Ended) old now paper paper'
  going-ended few none =
      let p = g.prints (due g.session) (λ tells. refl) in
      record {
        steps = steps;
        few = few;
        session = g.session;
        printed = g.printed;
        below = g.below;
        its = λ tells. let c = g.came tells in record { leads = in_whole_steps c.session c.lines_are; ends = λ e. c.session; fits = g.fits tells; was = p.was tells; next = refl };
        texts = λ fine. g.texts;
        made = g.made;
        was_due = p.was_due;
        is_due = due g.session;
        prints = p.prints;
        meets = (rests_now said now g.session g.stands none, g.stands.ordered);
      }

  -- one step more was tried: the halt wasn't reached
  module _ (said' : Option (List (List ℕ))) (up : exact → said ≢ None) (new : Machine) (paper'' : K) (keeps : Keeps old now) (halt : now.tasks.halt ≢ Some now.tasks.made) where
    below_more : (more : ℕ) → more ≤ 1 → (j : ℕ) → j < steps + more → old.tasks.halt ≢ Some (old.tasks.made + j)
    below_more more few = below_then old.tasks.halt now.tasks.halt old.tasks.made now.tasks.made steps more (halt_kept old now keeps) g.made few halt g.below

    pub going-steps : Steps taken said' (said ≢ None) count g.session (Ok tt) now new paper' paper'' → Going taken exact said' (steps + 1) first old new paper paper''
    going-steps s =
        let (one, made, stands) = s.meets in
        let p = g.prints s.was_due (λ tells. s.was_is (up tells) ∙ ap due (s.same (up tells))) in
        let texts : PrintsWhole s.steps now new paper' paper'' = s.texts (λ e. absurd cc) in
        record {
          session = s.session;
          printed = g.printed ++ s.printed;
          came = λ tells. one_more first steps g.session s.was s.session g.printed s.printed (g.came tells) (s.same (up tells)) (made (up tells));
          made = omega (arith, s.made, g.made, one);
          stands = stands;
          below = below_more 1 (omega arith);
          fits = λ tells. fits_then (length old.cpu.core) (length now.cpu.core) steps 1 first g.session keeps.core (g.came tells).session (omega arith) (g.fits tells) (λ low. s.fits (up tells) (omega (arith, one)));
          texts = subst (λ (k : ℕ). PrintsWhole (steps + k) old new paper paper'') one (whole_then steps s.steps old now new paper paper' paper'' g.texts texts);
          prints = λ is_due same. record {
            was_due = p.was_due;
            was = p.was;
            prints = prints_before taken paper paper'' p.was_due s.is_due is_due old.tasks.printed new.tasks.printed (g.printed ++ s.printed) (texts.some (omega (arith, one)))
                (prints_then taken paper paper' paper'' p.was_due s.was_due s.is_due old.tasks.printed now.tasks.printed new.tasks.printed g.printed s.printed p.prints s.prints);
          };
        }

    pub going-stops : (stop : Stop) → steps + 1 ≤ n → Steps taken said' (said ≢ None) count g.session (Err stop) now new paper' paper'' → Slices taken said' exact count n first (Err stop) old new paper paper''
    going-stops stop few s =
        let p = g.prints s.was_due (λ tells. s.was_is (up tells) ∙ ap due (s.same (up tells))) in
        record {
          steps = steps + s.steps;
          few = omega (arith, few, s.few);
          below = below_more s.steps s.few;
          made = omega (arith, s.made, g.made);
          session = s.session;
          printed = g.printed ++ s.printed;
          its = λ tells. record {
            leads = leads_then first steps s.steps g.session s.was s.session g.printed s.printed (g.came tells) (s.same (up tells)) (s.leads (up tells));
            ends = λ e. absurd cc;
            fits = fits_then (length old.cpu.core) (length now.cpu.core) steps s.steps first g.session keeps.core (g.came tells).session s.few (g.fits tells) (s.fits (up tells));
            was = p.was tells;
            next = s.next_is (up tells);
          };
          was_due = p.was_due;
          is_due = s.is_due;
          prints = prints_then taken paper paper' paper'' p.was_due s.was_due s.is_due old.tasks.printed now.tasks.printed new.tasks.printed g.printed s.printed p.prints s.prints;
          texts = λ fine. whole_then steps s.steps old now new paper paper' paper'' g.texts (s.texts (λ e. let why : stop ≡ stops.PrintFault = cc in fine (ap (λ (x : Stop). Err x) why)));
          meets = stop_meets said' exact (said ≢ None) (length old.cpu.core) count n steps s.steps s.session s.is_due stop new up few
              (subst (λ (size : ℕ). SliceMeets said' (said ≢ None) size count 1 s.steps s.session s.is_due (Err stop) new) keeps.core s.meets);
        }

-- two parts keep what each does
pub keeps_on : (old mid new : Machine) → Keeps old mid → Keeps mid new → Keeps old new
keeps_on = keeps_then

-- so many steps of a turn follow, which print nothing
pub going-turn : {K : Type 0} (taken : K → Option (List ℕ)) (exact : Type 0) (told : Option (List (List ℕ))) (steps more total : ℕ) (first : Session) (old now new : Machine) (paper paper' : K) (g : Going taken exact told steps first old now paper paper')
    → Keeps old now → 1 ≤ steps → GoesOnInTurn told more g.session now new → total ≡ steps + more → Going taken exact told total first old new paper paper'
going-turn {K} taken exact told steps more total first old now new paper paper' g keeps some t total_is =
    subst (λ (k : ℕ). Going taken exact told k first old new paper paper') (sym total_is) (record {
      session = t.session;
      printed = g.printed;
      came = λ tells. came_on (g.came tells);
      made = omega (arith, t.made, g.made);
      stands = t.stands;
      below = λ j low. elim (cases_lt j steps) [
        | inl before ↦ g.below j before
        | inr up ↦ λ at.
            t.below (j - steps) (omega (arith, low, up)) (halt_kept old now keeps ∙ at ∙ ap (λ (n : ℕ). Some n) (omega (arith, g.made, up)))
      ];
      fits = λ tells k low. elim (cases_lt k steps) [
        | inl before ↦ g.fits tells k before
        | inr up ↦
            let there : after (k - steps) g.session ≡ after k first = sym (reached (g.came tells) k (omega (arith, up))) in
            subst (λ (s : Session). NextFits (length old.cpu.core) s) there (subst (λ (n : ℕ). NextFits n (after (k - steps) g.session)) keeps.core (t.fits (k - steps) (omega (arith, low, up))))
      ];
      texts = record { some = λ one. t.unprinted; none = λ none. absurd (omega (arith, none, some)) };
      prints = λ is_due same.
          let p = g.prints (due g.session) (λ tells. refl) in
          let none : now.tasks.printed ≡ 0 = g.texts.some some in
          record {
            was_due = p.was_due;
            was = p.was;
            prints = subst (λ (n : ℕ). Prints taken paper paper' p.was_due old.tasks.printed g.printed is_due n) (none ∙ sym t.unprinted)
                (prints_before taken paper paper' p.was_due (due g.session) is_due old.tasks.printed now.tasks.printed g.printed none p.prints);
          };
    })
  where
    reached : Came first steps g.session g.printed → (k : ℕ) → steps ≤ k → after k first ≡ after (k - steps) g.session
    reached c k up =
        let same : k ≡ steps + (k - steps) = omega (arith, up) in
        ap (λ (i : ℕ). after i first) same ∙ after-add steps (k - steps) first ∙ ap (after (k - steps)) c.session

    came_on : Came first steps g.session g.printed → Came first (steps + more) t.session g.printed
    came_on c = record { session = after-add steps more first ∙ ap (after more) c.session ∙ t.leads; lines_are = t.silent first steps c.session ∙ c.lines_are }

-- at the beginning of a slice nothing has changed: what a step says of the machine before it, a slice says
pub begun_present : {A B D : Type 0} (holds : D → Option (List (List ℕ))) (told : Option (List (List ℕ))) (core' core n made : ℕ) (k k' new : Machine) (s : Session) (m : SessionJob) (t : Task) (d d' e : D) (step : Result A Stop) (answered : Result B Stop) → (made ≡ 0 → (k' ≡ k) × (d' ≡ d)) → core' ≡ core
    → k'.tasks.made ≡ k.tasks.made + made → k'.tasks.made ≤ new.tasks.made → made + 1 ≤ n → (StopsWithRoom core s m t step → StopsWithRoom core s m t answered)
    → (IsNotFull step → IsNotFull answered) → ((sum size : ℕ) → answered ≡ Err (stops.BackingFull sum size) → step ≡ Err (stops.BackingFull sum size))
    → (made ≡ 0 → (h : StandsAt told k' s) → IfPresent holds (told ≢ None) core' 1 h.storage h.plan s m t step k' new d' e) → (h : StandsAt told k s) → IfPresent holds (told ≢ None) core n h.storage h.plan s m t answered k new d e
begun_present {A} {B} {D} holds told core' core n made k k' new s m t d d' e step answered begun len counted later few same fine full present h = record {
  quiet = λ one wants. (first (omega (arith, one, few)) h).quiet (omega arith) wants;
  hole = λ tells one fits none. (let used = (first (omega (arith, one, few)) h).hole tells (omega arith) fits none in record { written = used.written; not_full = fine used.not_full });
  areas = λ job one alone hand more. (first (omega (arith, one, few)) h).areas job (omega arith) alone hand more;
  left = λ one wants more. (first (omega (arith, one, few)) h).left (omega arith) wants more;
  sum = λ one wants sum size e. (first (omega (arith, one, few)) h).sum (omega arith) wants sum size (full sum size e);
  room = λ tells code none. same ((first (omega (arith, none, counted, later)) h).room tells code none);
} where
  first : made ≡ 0 → (h : StandsAt told k s) → IfPresent holds (told ≢ None) core 1 h.storage h.plan s m t step k new d e
  first none =
      let (is, device) = begun none in
      let P : Machine → D → ℕ → Type 0 = λ z x size. (h : StandsAt told z s) → IfPresent holds (told ≢ None) size 1 h.storage h.plan s m t step z new x e in
      subst (P k d) len (subst (λ (z : Machine). P z d core') is (subst (λ (x : D). P k' x core') device (present none)))

-- a step makes none or one
pub made_no_fewer : {K : Type 0} {taken : K → Option (List ℕ)} {said : Option (List (List ℕ))} {exact : Type 0} {count : ℕ} {s : Session} {answered : Result (Unit {0}) Stop} {old new : Machine} {paper paper' : K} → Steps taken said exact count s answered old new paper paper' → old.tasks.made ≤ new.tasks.made
made_no_fewer x = omega (arith, x.made)

-- a step's stop is the slice's
pub stop_rooms : (core : ℕ) (s : Session) (m : SessionJob) (t : Task) (stop : Stop) (step : Result (Unit {0}) Stop) → step ≡ Err stop → StopsWithRoom core s m t step → StopsWithRoom {A = Progress} core s m t (Err stop)
stop_rooms core s m t stop step is room = grind arith

-- and what it says of a failure
pub stop_causes : {D K : Type 0} (failed : D → ℕ) (refused : K → ℕ) (stop : Stop) (step : Result (Unit {0}) Stop) (a b c : D) (p q r : K) → step ≡ Err stop → failed a ≤ failed b → refused p ≤ refused q
    → CallCauses failed refused b c q r step → CallCauses {A = Progress} failed refused a c p r (Err stop)
stop_causes failed refused stop step a b c p q r is device printer h = grind arith
