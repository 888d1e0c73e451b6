-- One step more of a run, as the device then tells it.
use Rattle.std.proofs.Common.{◌≡◌, ◌≢◌, ◌≤◌, ℕ, ◌+◌, List, Option, Some, None, Result, Ok, Err, sym, ap, ◌∙◌, subst, arith}
use Rattle.b67_model.specs.Common.{Session, next, after}
use Rattle.b67_law.proofs.TurnRuns.{came-more}
use Rattle.b67_layout.specs.Machine.{Says, DeviceAfterCalls, content_after}
use Rattle.b67_task.specs.declared.tables.Machine.{Machine}
use Rattle.b67_session.specs.AttemptStops.{Stop}
use Rattle.b67_session.specs.AttemptStops as stops
use Rattle.b67_session.specs.Slices.{StandsAt, Keeps, Slices}
use Rattle.b67_session.specs.Steps.{Steps}
use Rattle.b67_session.proofs.Going.{Going, going-steps, going-stops}
use Rattle.b67_session.proofs.SameTask.{turn_some}
use Rattle.b67_session.proofs.FoundLeast.{none_stepped}
use Rattle.b67_session.proofs.Pausing.{says_retold, still_told, known_still, retold_twice}

module _ {D K : Type 0} (holds : D → Option (List (List ℕ))) (size calls faults : D → ℕ) (taken : K → Option (List ℕ)) (said : Option (List (List ℕ))) (made n : ℕ) (s : Session) (k mid new : Machine) (d e f : D) (p q r : K) (answered : Result (Unit {0}) Stop)
    (says : Says said (holds d)) (served : DeviceAfterCalls holds size calls faults d e) (g : Going taken (said ≢ None) (content_after said (holds e)) made s k mid p q) (keeps : Keeps k mid) (due : mid.tasks.halt ≢ Some mid.tasks.made)
    (row : (told : Option (List (List ℕ))) (z : Session) → Says told (holds e) → StandsAt told mid z → Steps taken (content_after told (holds f)) (told ≢ None) (size e) z answered mid new q r) where
  abbrev now : Option (List (List ℕ))
  now = content_after said (holds e)

  tells : said ≢ None → holds e ≢ None
  tells = still_told holds size calls faults d e said says served

  pub stepped : (other : Result (Unit {0}) Stop) → answered ≡ other → Steps taken (content_after said (holds f)) (now ≢ None) (size d) g.session other mid new q r
  stepped other is =
      let P : Option (List (List ℕ)) → ℕ → Result (Unit {0}) Stop → Type 0 = λ z count a. Steps taken z (now ≢ None) count g.session a mid new q r in
      subst (P (content_after said (holds f)) (size d)) is
      (subst (λ (z : Option (List (List ℕ))). P z (size d) answered) (retold_twice said (holds e) (holds f) tells)
      (subst (λ (count : ℕ). P (content_after now (holds f)) count answered) served.size (row now g.session (says_retold said (holds e)) g.stands)))

  pub went_on : answered ≡ Ok tt → Going taken (said ≢ None) (content_after said (holds f)) (made + 1) s k new p r
  went_on is =
      going-steps taken (said ≢ None) now (size d) n made s k mid p q g (content_after said (holds f)) (known_still said (holds e) tells) new r keeps due (stepped (Ok tt) is)

  pub stopped : (stop : Stop) → answered ≡ Err stop → made + 1 ≤ n → Slices taken (content_after said (holds f)) (said ≢ None) (size d) n s (Err stop) k new p r
  stopped stop is few =
      going-stops taken (said ≢ None) now (size d) n made s k mid p q g (content_after said (holds f)) (known_still said (holds e) tells) new r keeps due stop few (stepped (Err stop) is)

  -- a task has the turn then
  pub turn_begun : answered ≡ Ok tt → said ≢ None → 1 ≤ (after (made + 1) s).turn
  turn_begun is exact =
      let x = stepped (Ok tt) is in
      let up = known_still said (holds e) tells exact in
      let gives = x.meets.1 up in
      let one : next g.session ≡ Some gives.moment = ap next (sym (x.same up)) ∙ gives.is in
      let came = came-more s made g.session g.printed gives.moment (g.came exact) one in
      subst (λ (z : Session). 1 ≤ z.turn) (sym came.session) (turn_some g.session gives.moment one)

  -- a stop that isn't the printer's makes no part of its step
  pub none_made : (stop : Stop) → answered ≡ Err stop → stop ≢ stops.PrintFault → new.tasks.made ≡ mid.tasks.made
  none_made stop is fine =
      let x = stepped (Err stop) is in
      grind (arith, none_stepped)
