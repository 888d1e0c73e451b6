-- The run of a deck.
use Rattle.std.proofs.Common.{◌≡◌, ◌≢◌, ℕ, ◌+◌, List, length, map, refl, sym, ap, ◌∙◌, subst, arith, Option, Some, None, Ok, Err}
use Rattle.std.specs.List.{AllByRecursion}
use Rattle.std.proofs.lemmas.Option.{none-some}
use Rattle.b67_io.specs.Line.{ended}
use Rattle.b67_io.specs.Causes.{Rose}
use Rattle.b67_backing.specs.Held.{Changes}
use Rattle.b67_codefile.specs.declared.file.Codefile.{Codefile}
use Rattle.b67_codefile.specs.Meaning.{program_of}
use Rattle.b67_model_text.specs.declared.deck.Deck.{Deck}
use Rattle.b67_model.specs.Program.{Program}
use Rattle.b67_model.specs.Schedule.{Session}
use Rattle.b67_task.specs.declared.tables.Machine.{Machine}
use Rattle.b67_job.specs.Admitting.{Prepared}
use Rattle.b67_session.specs.declared.open_fault.OpenFault.{OpenFault}
use Rattle.b67_session.specs.declared.open_fault.OpenFault.TheVariants as faults
use Rattle.b67_session.specs.Decks.{session_of, deck_given, given_of, DeckInRange, IsLoaded}
use Rattle.b67_task.specs.Tables.{Given}
use Rattle.b67_session.specs.Opens.{need_of, sectors_of_all, IsOpened}
use Rattle.b67_layout.specs.Machine.{Says, DeviceAfterCalls, content_after}
use Rattle.b67_session.proofs.Shaping.{shaped}
use Rattle.b67_session.specs.Slices.{StandsAt, IsOpen, Keeps, SliceMeets, StepsFit}
use Rattle.b67_session_lines.specs.Ends.{EndsPrinting}
use Rattle.b67_job.specs.Device.{Device, device_of}
use Rattle.b67_job.specs.Lines.{no_core_line, backing_full_line}
use Rattle.b67_job.specs.declared.summaries.Closing.{Closing}
use Rattle.b67_job.specs.Texts.{only}
use Rattle.b67_job.specs.Finishing.{refused_status, refused_line, RanByStep, SessionRan}
use Rattle.b67_job.specs.Runs.{run_of, memory_refused, opening_wants_core, opening_wants_sectors, opening_fails, WasOpened, unopened, opened, DeckRunEnds, run_stops, step_is_cut, StepsEnd, steps_stop, next_is_cut}
use Rattle.b67_session.proofs.FoundLeast.{stays_ordered}
use Rattle.b67_session.proofs.Openings.{stands_opened}
use Rattle.b67_session.proofs.Pausing.{says_retold}
use Rattle.b67_job.proofs.Opened.{states_in_order, known_after, known_later}
use Rattle.b67_job.proofs.Ran.{closes_only, ran}
use Rattle.b67_job.proofs.Closings.{none_printed}
use Rattle.b67_model.specs.declared.limits.TheConstants.{MOST_MADE}

-- ---- the run of a deck

module _ {K B : Type 0} (taken : K → Option (List ℕ)) (failures : K → ℕ) (holds : B → Option (List (List ℕ))) (size broken : B → ℕ) (d : Deck) (ps : List Program) (core : ℕ) (closing : Closing) where
  -- no session was opened
  pub refused : (b b' : B) (fault : OpenFault) (old new : K) (answer : ℕ) → IsOpened holds size broken d ps core b b' (Err fault)
      → EndsPrinting taken failures old new (refused_status fault) (ended (refused_line fault)) answer → DeckRunEnds taken failures (device_of holds size broken b b') core (d, ps) closing None old new answer
  refused b b' faults.Memory old new answer o ends = run_stops 9 _ (unopened refl (memory_refused o refl refl)) (closes_only ends)
  refused b b' (faults.NoCore need words) old new answer o ends =
      let line : no_core_line need words ≡ no_core_line (need_of d ps) core = ap (λ n. no_core_line n words) o.0 ∙ ap (λ n. no_core_line (need_of d ps) n) o.1 in
      run_stops 4 _ (unopened refl (opening_wants_core o.3 o.2 refl (ap (λ (x : List ℕ). only (ended x)) line))) (closes_only ends)
  refused b b' (faults.BackingFull sum count) old new answer o ends =
      let line : backing_full_line sum count ≡ backing_full_line (sectors_of_all d ps) (size b) = ap (λ n. backing_full_line n count) o.1 ∙ ap (λ n. backing_full_line (sectors_of_all d ps) n) o.2 in
      run_stops 5 _ (unopened refl (opening_wants_sectors o.4 o.0 o.3 refl (ap (λ (x : List ℕ). only (ended x)) line))) (closes_only ends)
  refused b b' faults.BackingFault old new answer o ends = run_stops 6 _ (unopened refl (opening_fails (o.0, o.1) o.2 refl refl)) (closes_only ends)

-- a session was opened, and its steps ended so
deck_ends : {K B : Type 0} {taken : K → Option (List ℕ)} {faults : K → ℕ} {d : Device B} {core : ℕ} {p : Prepared} {closing : Closing} {k : Machine} {old new : K} {answer : ℕ} → WasOpened d core p k
    → StepsEnd taken faults d core k.tasks.made (run_of p) closing k old new answer → DeckRunEnds taken faults d core p closing (Some k) old new answer
deck_ends {k = k} opens (steps_stop status text none stops ends) = run_stops status text (opened k refl opens none stops) ends
deck_ends {k = k} opens (next_is_cut text cut a rose part) = step_is_cut text k.tasks.printed (record { left = k; is = refl; opens = opens; counts = refl; cut = cut }) a rose part

pub still_told : {B : Type 0} (holds : B → Option (List (List ℕ))) (b b' : B) → Changes holds b b' (λ before after. length after ≡ length before) → holds b ≢ None → holds b' ≢ None
still_told holds b b' c some none = by_told (holds b) refl
  where
    by_told : (o : Option (List (List ℕ))) → holds b ≡ o → ⊥
    by_told None e = some e
    by_told (Some all) e = let h = c.told all e in none-some h.0 (sym none ∙ h.1)

from_none : (made before steps : ℕ) → before ≡ 0 → made ≡ before + steps → made ≡ steps
from_none made before steps e f = omega (arith, e, f)

-- calls of a device after calls of it
pub after_more : {B : Type 0} {holds : B → Option (List (List ℕ))} {size calls broken : B → ℕ} {b b' b'' : B} → DeviceAfterCalls holds size calls broken b b' → DeviceAfterCalls holds size calls broken b' b''
    → DeviceAfterCalls holds size calls broken b b''
after_more f g =
    record {
      size = g.size ∙ f.size;
      calls = let first = f.calls in let more = g.calls in omega (arith, first, more);
      faults = let first = f.faults in let more = g.faults in omega (arith, first, more);
      tells = record { told = λ x e. let h = f.tells.told x e in let i = g.tells.told h.0 h.1 in (i.0, i.1, i.2 ∙ h.2) };
    }

-- ---- the run of a deck, after its steps and the last line

module _ {K B : Type 0} (taken : K → Option (List ℕ)) (failures : K → ℕ) (holds : B → Option (List (List ℕ))) (size calls broken : B → ℕ) (d : Deck) (fs : List Codefile) (core : ℕ) (closing : Closing)
    (range : DeckInRange d) (loaded : AllByRecursion IsLoaded fs) (b b' b'' : B) (k0 k : Machine) (o : IsOpened holds size broken d (map program_of fs) core b b' (Ok k0)) where
  abbrev said : Option (List (List ℕ))
  said = content_after (holds b) (holds b')

  abbrev first : Session
  first = session_of d (map program_of fs)

  stands : StandsAt said k0 first
  stands = stands_opened d fs said core (size b) k0 range loaded o.2

  pub deck_run : (old new : K) (answer : ℕ) → DeviceAfterCalls holds size calls broken b b' → DeviceAfterCalls holds size calls broken b' b''
      → IsOpen (holds b'') k → Keeps k0 k
      → ((x : Option (List (List ℕ))) (s : Session) → Says x (holds b') → StandsAt x k0 s
      → SessionRan taken failures closing (content_after x (holds b'')) (x ≢ None) (Rose broken b' b'') (size b') MOST_MADE s k0 k old new answer)
      → ((x : Option (List (List ℕ))) (s : Session) → Says x (holds b') → StandsAt x k0 s → RanByStep holds k0 k b' b'')
      → DeckRunEnds taken failures (device_of holds size broken b b'') core (d, map program_of fs) closing (Some k) old new answer
  deck_run old new answer first_calls more_calls may_go_on keeps rans pages =
      let still = still_told holds b b' first_calls.tells in
      let r = subst (λ (x : Option (List (List ℕ))). SessionRan taken failures closing x (said ≢ None) (Rose broken b' b'') (size b') MOST_MADE first k0 k old new answer) (known_later (holds b) (holds b') (holds b'') still)
      (rans said first (says_retold (holds b) (holds b')) stands) in
      let now = content_after (holds b) (holds b'') in
      let begun : k0.tasks.made ≡ 0 = o.2.stands.tables.counts.made in
      let made : k.tasks.made ≡ r.slices.steps = from_none k.tasks.made k0.tasks.made r.slices.steps begun r.slices.made in
      let exact = λ (told : holds b ≢ None). known_after (holds b) (holds b') told (still told) in
      let begun_links = o.2.sized in
      let links = keeps.sectors in
      let same = first_calls.size in
      let again = more_calls.size in
      let later = first_calls.faults in
      let device = device_of holds size broken b b'' in
      let given : given_of k.tasks ≡ deck_given d = keeps.given ∙ o.2.given in
      let halt : k.tasks.halt ≡ d.halt = ap (λ (g : Given). g.halt) given in
      let first_halt : k0.tasks.halt ≡ d.halt = ap (λ (g : Given). g.halt) o.2.given in
      deck_ends
      (record {
        room = (o.0, o.1);
        in_order = states_in_order d fs k.tasks.made range loaded;
        fitted = λ told. subst (λ n. StepsFit n k.tasks.made first) o.2.core_size (subst (λ n. StepsFit (length k0.cpu.core) n first) (sym made) (r.slices.its (exact told)).fits);
        core_size = keeps.core ∙ o.2.core_size;
        given = given;
        shaped = shaped (holds b'') k may_go_on;
        goes_on = may_go_on;
        sized = omega (arith, begun_links, links, again, same);
        paged = record { opened = k0; device = b'; known = still; stands = stands; none_made = begun; core_size = o.2.core_size; steps = pages said first (says_retold (holds b) (holds b')) stands };
      })
      (subst (λ n. StepsEnd taken failures device core n (run_of (d, map program_of fs)) closing k old new answer) (sym made)
      (ran taken failures device core (run_of (d, map program_of fs)) closing k (said ≢ None) exact r.slices.steps r.slices.session r.slices.printed
      (omega (arith, made)) (stays_ordered r.slices.steps first stands.ordered)
      (λ i low e. r.slices.below i low (first_halt ∙ e ∙ ap Some (let z : i ≡ k0.tasks.made + i = omega (arith, begun) in z)))
      (λ e. sym halt ∙ e ∙ ap Some made) (λ e. halt ∙ e ∙ ap Some (sym made)) (λ told. (r.slices.its (exact told)).leads)
      r.slices.was_due r.slices.is_due (λ told. (r.slices.its (exact told)).next) k0.tasks.printed o.2.printed
      r.answered old r.between new answer
      (subst (λ n. SliceMeets now (said ≢ None) n (size b) MOST_MADE r.slices.steps r.slices.session r.slices.is_due r.answered k) o.2.core_size
      (subst (λ n. SliceMeets now (said ≢ None) (length k0.cpu.core) n MOST_MADE r.slices.steps r.slices.session r.slices.is_due r.answered k) same r.slices.meets))
      r.finishes r.slices.prints (λ other. none_printed r.slices.steps k0 k old r.between o.2.printed (r.slices.texts other))
      (λ e. let rose = r.device_failed e in omega (arith, later, rose))
      r.printer_failed r.later))
