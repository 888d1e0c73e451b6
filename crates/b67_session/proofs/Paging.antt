-- Steps that were made one by one.
use Rattle.std.proofs.Common.{◌≡◌, ◌≢◌, ◌≤◌, ◌⊎◌, ℕ, ◌+◌, List, [], ◌∷◌, length, Option, Some, None, Result, Ok, Err, inl, inr, refl, sym, ap, ◌∙◌, subst, arith}
use Rattle.std.proofs.lemmas.Option.{none-some}
use Rattle.b67_layout.specs.Machine.{Says, content_after}
use Rattle.b67_layout.proofs.Retold.{retold-same}
use Rattle.b67_model.specs.Common.{RunLine, Session, StepResult, IsInOrderButPlaces, after, need}
use Rattle.b67_session_lines.specs.Moments.{first_part, last_part}
use Rattle.b67_law.proofs.Limits.{no_last}
use Rattle.b67_law.proofs.TurnRuns.{Came, came-none, came-more}
use Rattle.b67_task.specs.declared.tables.Machine.{Machine}
use Rattle.b67_session.specs.AttemptStops.{Stop}
use Rattle.b67_session.specs.AttemptStops as stops
use Rattle.b67_session.proofs.Resuming.{next_row, limited_row}
use Rattle.b67_session.proofs.Pausing.{known_still}
use Rattle.b67_session.specs.Slices.{StandsAt, Keeps, Between, TakesOn, MovesItsWants, IsOnward, by_a_step, in_a_turn, HasPaged, StopsThere, before_it, in_limit, StopsInStep, PagesByStep, SliceMeets, StopsBefore, IsLimited, IsStepOf, in_whole, but_its_limit, goes_well, stops_in}
use Rattle.b67_session.specs.Steps.{StepGives, StepLeads, stays, makes, halves, Steps, MadeInOrder, GoesOnInTurn}

-- a whole step is the one after the session
one_after : (s was next : Session) (printed : List RunLine) → was ≡ s → StepGives was next printed → after 1 s ≡ next
one_after s was next printed same m =
    let c = came-more was 0 was [] m.moment (came-none was) m.is in
    ap (after 1) (sym same) ∙ c.session ∙ m.session

-- what a step that was stopped leaves
module _ {K : Type 0} (taken : K → Option (List ℕ)) (told : Option (List (List ℕ))) (exact : Type 0) (count : ℕ) (s : Session) (old new : Machine) (p q : K) where
  -- none was made
  none_led : (steps : ℕ) (was session : Session) (printed : List RunLine) → steps ≡ 0 → was ≡ s → StepLeads was steps session printed → s ≡ session
  none_led steps was session printed none same (stays zero there lines) = sym same ∙ sym there
  none_led steps was session printed none same (makes one gives) = absurd (omega (arith, none, one))
  none_led steps was session printed none same (halves part one first there more lines) = absurd (omega (arith, none, one))

  unmade : (stop : Stop) → (exact → told ≢ None) → length new.cpu.core ≡ length old.cpu.core → (x : Steps taken told exact count s (Err stop) old new p q) → StopsBefore told 1 x.steps x.session new → StopsThere told exact stop s old new
  unmade stop known core x b =
      let none : x.steps ≡ 0 = omega (arith, b.left) in
      before_it b.halt (record {
        session = x.session;
        is = λ tells. none_led x.steps x.was x.session x.printed none (x.same tells) (x.leads tells);
        known = known;
        stands = b.stands;
        made = omega (arith, x.made, none);
        core = core;
      })

  -- one was, but for the lines of LIMIT
  one_led : (steps : ℕ) (was session : Session) (printed : List RunLine) (rest : StepResult) → IsInOrderButPlaces s → last_part session ≡ Some rest → was ≡ s → StepLeads was steps session printed → (steps ≡ 1) × IsStepOf s session
  one_led steps was session printed rest order due same (stays zero there lines) =
      let is : session ≡ s = there ∙ same in
      absurd (none-some rest (sym (no_last s order) ∙ subst (λ (z : Session). last_part z ≡ Some rest) is due))
  one_led steps was session printed rest order due same (makes one gives) = (one, in_whole (one_after s was session printed same gives))
  one_led steps was session printed rest order due same (halves part one first there more lines) =
      let some : last_part part.session ≢ None = subst (λ (z : Session). last_part z ≢ None) (sym there) more in
      (one, but_its_limit part (subst (λ (z : Session). first_part z ≡ Some part) same first) some there)

  limit_cut : (stop : Stop) → stop ≡ stops.PrintFault → (exact → told ≢ None) → length new.cpu.core ≡ length old.cpu.core → IsInOrderButPlaces s → (x : Steps taken told exact count s (Err stop) old new p q) (rest : StepResult) → IsLimited told new x.session rest
      → StopsThere told exact stop s old new
  limit_cut stop is known core order x rest l = in_limit is (record {
    session = x.session;
    rest = rest;
    limited = l;
    steps = x.steps;
    few = x.few;
    made = x.made;
    is = λ tells. one_led x.steps x.was x.session x.printed rest order l.is (x.same tells) (x.leads tells);
    known = known;
    core = core;
  })

  stopped_there : (stop : Stop) → (exact → told ≢ None) → length new.cpu.core ≡ length old.cpu.core → IsInOrderButPlaces s → Steps taken told exact count s (Err stop) old new p q → StopsThere told exact stop s old new
  stopped_there (stops.NoCore words size) known core order x = unmade (stops.NoCore words size) known core x x.meets.0
  stopped_there (stops.BackingFull sum size) known core order x = unmade (stops.BackingFull sum size) known core x x.meets.0
  stopped_there stops.BackingFault known core order x = unmade stops.BackingFault known core x x.meets.0
  stopped_there stops.PrintFault known core order x = by x.meets.1
    where
      by : ((b : StopsBefore told 1 x.steps x.session new) × (exact → need (length old.cpu.core) x.session b.member b.task ≤ length old.cpu.core)) ⊎ ((part : StepResult) × IsLimited told new x.session part) → StopsThere told exact stops.PrintFault s old new
      by (inl (b, room)) = unmade stops.PrintFault known core x b
      by (inr (part, l)) = limit_cut stops.PrintFault refl known core order x part l

module _ {D : Type 0} (holds : D → Option (List (List ℕ))) where
  pub nothing_paged : (k : Machine) (d : D) → HasPaged holds k k d d
  nothing_paged k d = record { between = []; follow = (refl, refl) }

  pub paged_then : (old mid new : Machine) (d e f : D) → HasPaged holds old mid d e → IsOnward holds mid new e f → HasPaged holds old new d f
  paged_then old mid new d e f h link = record { between = record { machine = mid; device = e } ∷ h.between; follow = (link, h.follow) }

  -- a step that was made
  pub step_follows : {K : Type 0} (taken : K → Option (List ℕ)) (count : ℕ) (old new : Machine) (d e : D) (p q : K) (answered : Result (Unit {0}) Stop) → answered ≡ Ok tt → Keeps old new
      → ((told : Option (List (List ℕ))) → Says told (holds d) → told ≢ None → holds e ≢ None)
      → ((told : Option (List (List ℕ))) (s : Session) → Says told (holds d) → StandsAt told old s → Steps taken (content_after told (holds e)) (told ≢ None) count s answered old new p q)
      → MovesItsWants holds answered old new d e → IsOnward holds old new d e
  step_follows {K} taken count old new d e p q answered is keeps still row moves = by_a_step leads (subst (λ (a : Result (Unit {0}) Stop). MovesItsWants holds a old new d e) is moves)
    where
      leads : TakesOn holds 1 old new d e
      leads told s says stands =
          let x = subst (λ (a : Result (Unit {0}) Stop). Steps taken (content_after told (holds e)) (told ≢ None) count s a old new p q) is (row told s says stands) in
          let (one, gives, there) = x.meets in
          record {
            session = x.session;
            is = λ tells. one_after s x.was x.session x.printed (x.same tells) (gives tells);
            known = known_still told (holds e) (still told says);
            stands = there;
            made = x.made ∙ ap (λ (n : ℕ). old.tasks.made + n) one;
            core = keeps.core;
          }

  -- and more steps of its turn
  pub turn_follows : (steps : ℕ) (old new : Machine) (d : D) → Keeps old new → MadeInOrder steps old new → ((told : Option (List (List ℕ))) (s : Session) → StandsAt told old s → GoesOnInTurn told steps s old new) → IsOnward holds old new d d
  turn_follows steps old new d keeps made row = in_a_turn made.between made.last made.each made.counted (subst (λ (n : ℕ). TakesOn holds n old new d d) (sym made.count) leads) refl
    where
      leads : TakesOn holds steps old new d d
      leads told s says stands =
          let x = row told s stands in
          record {
            session = x.session;
            is = λ tells. x.leads;
            known = λ tells. subst (λ (t : Option (List (List ℕ))). t ≢ None) (sym (retold-same told (holds d) says)) tells;
            stands = subst (λ (t : Option (List (List ℕ))). StandsAt t new x.session) (sym (retold-same told (holds d) says)) x.stands;
            made = x.made;
            core = keeps.core;
          }

  -- a step that was stopped
  pub step_stops : {K : Type 0} (taken : K → Option (List ℕ)) (count : ℕ) (old new : Machine) (d e : D) (p q : K) (answered : Result (Unit {0}) Stop) (stop : Stop) → answered ≡ Err stop → Keeps old new
      → ((told : Option (List (List ℕ))) → Says told (holds d) → told ≢ None → holds e ≢ None)
      → ((told : Option (List (List ℕ))) (s : Session) → Says told (holds d) → StandsAt told old s → Steps taken (content_after told (holds e)) (told ≢ None) count s answered old new p q)
      → StopsInStep holds stop old new d e
  step_stops {K} taken count old new d e p q answered stop is keeps still row told s says stands =
      stopped_there taken (content_after told (holds e)) (told ≢ None) count s old new p q stop (known_still told (holds e) (still told says)) keeps.core stands.ordered
      (subst (λ (a : Result (Unit {0}) Stop). Steps taken (content_after told (holds e)) (told ≢ None) count s a old new p q) is (row told s says stands))

  pub stop_pages : {A : Type 0} (stop : Stop) (old mid new : Machine) (d e f : D) (answered : Result (Unit {0}) Stop) → answered ≡ Err stop → new.tasks.rows.items ≢ [] → HasPaged holds old mid d e → StopsInStep holds stop mid new e f
      → MovesItsWants holds answered mid new e f → PagesByStep {A = A} holds (Err stop) old new d f
  stop_pages {A} stop old mid new d e f answered is lives h there moves =
      stops_in stop refl lives (record { machine = mid; device = e }) h there (subst (λ (a : Result (Unit {0}) Stop). MovesItsWants holds a mid new e f) is moves)

-- where a step was stopped a task lives
pub stop_lives : (said : Option (List (List ℕ))) (exact : Type 0) (core count n steps : ℕ) (s : Session) (is_due : List ℕ) (stop : Stop) (new : Machine) → SliceMeets said exact core count n steps s is_due (Err stop) new → new.tasks.rows.items ≢ []
stop_lives said exact core count n steps s is_due (stops.NoCore words size) new m = next_row said new s m.0.member m.0.task m.0.stands m.0.next
stop_lives said exact core count n steps s is_due (stops.BackingFull sum size) new m = next_row said new s m.0.member m.0.task m.0.stands m.0.next
stop_lives said exact core count n steps s is_due stops.BackingFault new m = next_row said new s m.0.member m.0.task m.0.stands m.0.next
stop_lives said exact core count n steps s is_due stops.PrintFault new (proper, inl (b, room)) = next_row said new s b.member b.task b.stands b.next
stop_lives said exact core count n steps s is_due stops.PrintFault new (proper, inr (part, l)) = limited_row said new s part l
