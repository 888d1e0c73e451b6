-- Steps from the machine of an image: those of a run to no halt, or all that were asked for.
use Rattle.std.proofs.Common.{◌≡◌, ◌≢◌, ◌⊎◌, inl, inr, ℕ, ◌+◌, ◌<◌, ◌≤◌, List, length, refl, sym, ap, ◌∙◌, subst, arith, Option, Some, None, Result, Ok, Err}
use Rattle.std.proofs.lemmas.Option.{none-some}
use Rattle.b67_io.specs.Causes.{Rose}
use Rattle.b67_model.specs.Common.{Session}
use Rattle.b67_task.specs.declared.tables.Machine.{Machine}
use Rattle.b67_task.proofs.Keeping.{halt_kept}
use Rattle.b67_layout.specs.Machine.{Says, DeviceAfterCalls, content_after}
use Rattle.b67_session_lines.specs.Moments.{last_part}
use Rattle.b67_law.proofs.Limits.{no_last}
use Rattle.b67_session.specs.Slices.{StandsAt, IsOpen, IsLimited, Keeps, Slices, SliceMeets, StopsBefore}
use Rattle.b67_session.specs.Stops.{Stop}
use Rattle.b67_session.specs.Stops as stops
use Rattle.b67_session.specs.declared.slices.Progress.{Progress}
use Rattle.b67_session.specs.declared.slices.Progress.TheVariants as progress
use Rattle.b67_session.proofs.FoundLeast.{stays_ordered}
use Rattle.b67_session.proofs.Shaping.{shaped}
use Rattle.b67_job.specs.Device.{Device, DeviceTells, device_of, knowing}
use Rattle.b67_job.specs.Finishing.{FinishesRun}
use Rattle.b67_job.specs.Going.{run_from, StepsFrom, PagedFrom, HasGoneOn}
use Rattle.b67_job.specs.Runs.{StepsEnd}
use Rattle.b67_job.specs.Stepping.{halted_there, PrintsImageThere, StepsTo, end_before, come_there}
use Rattle.b67_job.specs.declared.summaries.Closing.TheVariants as closings
use Rattle.b67_job.proofs.Closings.{none_printed}
use Rattle.b67_job.proofs.Opened.{states_follow, run_apart_to}
use Rattle.b67_job.proofs.Ran.{ran, fewer, lines_took, closes_then}
use Rattle.b67_job.proofs.Reached.{came_whole}
use Rattle.b67_model.specs.declared.limits.TheConstants.{MOST_MADE}

-- a slice that answers so hasn't failed in its printer
pub no_print_fault : (answered : Result Progress Stop) → halted_there answered ≡ Ok progress.Halted → answered ≢ Err stops.PrintFault
no_print_fault (Ok p) is e = cc
no_print_fault (Err s) is e = cc

-- a slice that stopped before one of so many steps has stopped before one of as many as eight jobs may make
abbrev stops_before : (told : Option (List (List ℕ))) (most steps : ℕ) (s : Session) (k : Machine) → steps ≤ k.tasks.made → (b : StopsBefore told most steps s k) → StopsBefore told MOST_MADE steps s k
stops_before told most steps s k made b = record { left = (let few = fewer told k s b.member b.task b.stands b.next in omega (arith, made, few)); halt = b.halt; stands = b.stands; member = b.member; task = b.task; next = b.next }

-- so of what it answers, unless it made all
meets_in_run : (said : Option (List (List ℕ))) (exact : Type 0) (core count most steps : ℕ) (s : Session) (is_due : List ℕ) (answered : Result Progress Stop) (k : Machine) → steps ≤ k.tasks.made → answered ≢ Ok progress.More
    → SliceMeets said exact core count most steps s is_due answered k → SliceMeets said exact core count MOST_MADE steps s is_due answered k
meets_in_run said exact core count most steps s is_due (Ok progress.Ended) k made other meets = meets
meets_in_run said exact core count most steps s is_due (Ok progress.Halted) k made other meets = meets
meets_in_run said exact core count most steps s is_due (Ok progress.More) k made other meets = absurd (other refl)
meets_in_run said exact core count most steps s is_due (Err (stops.NoCore words size)) k made other meets = (stops_before said most steps s k made meets.0, meets.1, meets.2, meets.3)
meets_in_run said exact core count most steps s is_due (Err (stops.BackingFull sum size)) k made other meets = (stops_before said most steps s k made meets.0, meets.1, meets.2, meets.3, meets.4, meets.5)
meets_in_run said exact core count most steps s is_due (Err stops.BackingFault) k made other meets = (stops_before said most steps s k made meets.0, meets.1)
meets_in_run said exact core count most steps s is_due (Err stops.PrintFault) k made other meets = (
  meets.0,
  elim meets.1 [
    | inl b ↦ inl (stops_before said most steps s k made b.0, b.1)
    | inr limited ↦ inr limited
  ],
)

-- so all were made, or not
is_more : (answered : Result Progress Stop) → (answered ≡ Ok progress.More) ⊎ (answered ≢ Ok progress.More)
is_more (Ok progress.More) = inl refl
is_more (Ok progress.Halted) = inr (λ e. cc)
is_more (Ok progress.Ended) = inr (λ e. cc)
is_more (Err stop) = inr (λ e. cc)

same_there : (answered : Result Progress Stop) → answered ≢ Ok progress.More → halted_there answered ≡ answered
same_there (Ok progress.More) other = absurd (other refl)
same_there (Ok progress.Halted) other = refl
same_there (Ok progress.Ended) other = refl
same_there (Err stop) other = refl

module _ {K B : Type 0} (taken : K → Option (List ℕ)) (failures : K → ℕ) (holds : B → Option (List (List ℕ))) (size calls broken : B → ℕ) (b b' : B) (image k : Machine)
    (halt : image.tasks.halt ≡ None) (none : image.tasks.printed ≡ 0) (keeps : Keeps image k) (old between new : K) (most answer : ℕ) (answered : Result Progress Stop)
    (finishes : FinishesRun taken failures closings.Image k (halted_there answered) between new answer)
    (device_failed : answered ≡ Err stops.BackingFault → Rose broken b b') (printer_failed : answered ≡ Err stops.PrintFault → Rose failures old between) (later : failures old ≤ failures between) where
  abbrev device : Device B
  device = device_of holds size broken b b'

  abbrev Sliced : Option (List (List ℕ)) → Session → Type 0
  Sliced told s = Slices taken (content_after told (holds b')) (told ≢ None) (size b) most s answered image k old between

  unhalted : k.tasks.halt ≡ None
  unhalted = halt_kept image k keeps ∙ halt

  -- they aren't all made
  ends : (told : Option (List (List ℕ))) (s : Session) → StandsAt told image s → (sl : Sliced told s) → answered ≢ Ok progress.More
      → StepsEnd taken failures (knowing told device) (length image.cpu.core) sl.steps (run_from s) closings.Image k old new answer
  ends told s stands sl other =
      let made : k.tasks.made ≡ image.tasks.made + sl.steps = sl.made in
      let enough : sl.steps ≤ k.tasks.made = omega (arith, made) in
      ran taken failures (knowing told device) (length image.cpu.core) (run_from s) closings.Image k (told ≢ None) (λ tells. tells) sl.steps sl.session sl.printed
      enough (stays_ordered sl.steps s stands.ordered)
      (λ j low e. none-some j e) (λ e. absurd (none-some k.tasks.made (sym unhalted ∙ e))) (λ e. absurd (none-some sl.steps e))
      (λ tells. (sl.its tells).leads) sl.was_due sl.is_due (λ tells. (sl.its tells).next) image.tasks.printed none
      answered old between new answer
      (meets_in_run (content_after told (holds b')) (told ≢ None) (length image.cpu.core) (size b) most sl.steps sl.session sl.is_due answered k enough other sl.meets)
      (subst (λ (x : Result Progress Stop). FinishesRun taken failures closings.Image k x between new answer) (same_there answered other) finishes)
      sl.prints (λ o. none_printed sl.steps image k old between none (sl.texts o)) device_failed printer_failed later

  -- they are
  there : (told : Option (List (List ℕ))) (s : Session) (sl : Sliced told s) → answered ≡ Ok progress.More
      → PrintsImageThere taken failures (knowing told device) most sl.steps (run_from s) k old new answer
  there told s sl is =
      let meets = subst (λ (x : Result Progress Stop). SliceMeets (content_after told (holds b')) (told ≢ None) (length image.cpu.core) (size b) most sl.steps sl.session sl.is_due x k) is sl.meets in
      let lives = meets.2 in
      let unprinted : k.tasks.printed ≡ 0 = none_printed sl.steps image k old between none (sl.texts (λ e. cc)) in
      let last : last_part sl.session ≡ None = no_last sl.session lives.0.ordered in
      record {
        all = meets.0;
        stop = record {
          session = sl.session;
          printed = sl.printed;
          comes = record {
            session = λ tells. sym (came_whole s sl.steps sl.session sl.printed (sl.its tells).leads last).session;
            lines_are = λ tells. sym (came_whole s sl.steps sl.session sl.printed (sl.its tells).leads last).lines_are;
            apart = λ tells.
                let c = came_whole s sl.steps sl.session sl.printed (sl.its tells).leads last in
                run_apart_to sl.steps s sl.session sl.printed (sym c.session) (sym c.lines_are);
          };
          stands = lives.0;
          member = lives.1.0;
          task = lives.1.1;
          next = lives.1.2;
        };
        unprinted = unprinted;
        prints = closes_then (lines_took sl.prints none unprinted) later (subst (λ (x : Result Progress Stop). FinishesRun taken failures closings.Image k (halted_there x) between new answer) is finishes);
      }

  from_session : (told : Option (List (List ℕ))) (s : Session) → StandsAt told image s → Sliced told s
      → (steps : ℕ) × StepsFrom (knowing told device) steps s image k × StepsTo most taken failures old new answer (knowing told device) (length image.cpu.core) steps (run_from s) k
  from_session told s stands sl = (
    sl.steps,
    record { made = sl.made; in_order = states_follow sl.steps s stands.ordered; fitted = λ tells. (sl.its tells).fits },
    elim (is_more answered) [
      | inl all ↦ come_there (there told s sl all)
      | inr other ↦ end_before sl.few (ends told s stands sl other)
    ],
  )

  pub has_stepped : DeviceAfterCalls holds size calls broken b b' → size b + 1 ≡ length image.sectors.links → IsOpen (holds b') k
      → ((told : Option (List (List ℕ))) (s : Session) → Says told (holds b) → StandsAt told image s → Sliced told s)
      → PagedFrom device image k → HasGoneOn device (StepsTo most taken failures old new answer) image k
  has_stepped served sized may_go_on sliced pages = record {
    keeps = keeps;
    halt = unhalted;
    shaped = shaped (holds b') k may_go_on;
    goes_on = may_go_on;
    sized = let same = served.size in let links = keeps.sectors in omega (arith, same, links, sized);
    paged = pages;
    each = λ told s says stands. from_session told s stands (sliced told s says stands);
  }
