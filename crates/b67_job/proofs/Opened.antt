-- The states of a run.
use Rattle.std.proofs.Common.{◌≡◌, ◌≢◌, ℕ, ◌≤◌, zero, suc, List, map, refl, sym, subst, Option, Some, None}
use Rattle.std.specs.List.{AllByRecursion}
use Rattle.b67_codefile.specs.declared.file.Codefile.{Codefile}
use Rattle.b67_codefile.specs.Meaning.{program_of}
use Rattle.b67_model_text.specs.declared.deck.Deck.{Deck}
use Rattle.b67_model.specs.Common.{Session, RunLine, StepResult, after, after_from, next, lines, IsInOrder, IsInOrderButPlaces}
use Rattle.b67_law.specs.Runs.{RunsAdmitted}
use Rattle.b67_law.proofs.RunSessions.{runs_stay_in_order, sessions_stay_in_order}
use Rattle.b67_law.proofs.Makers.{runs_make_their_words, sessions_keep_or_make_their_words}
use Rattle.b67_layout.specs.Machine.{content_after}
use Rattle.b67_task.specs.Tables.{switch_of}
use Rattle.b67_session.specs.Decks.{openings_of, session_of, DeckInRange, IsLoaded}
use Rattle.b67_session.proofs.Decks.{deck_within}
use Rattle.b67_session.proofs.FoundLeast.{stays_ordered}
use Rattle.b67_law.proofs.ApartLemmas.{jobs_apart, states_apart}
use Rattle.b67_job.specs.States.{StatesInOrder, StatesFollow, JobsRunApart}

-- every state of the run is in order, and its words were made by operators or by the loader
pub states_in_order : (d : Deck) (fs : List Codefile) (n : ℕ) → DeckInRange d → AllByRecursion IsLoaded fs → StatesInOrder n (session_of d (map program_of fs))
states_in_order d fs n range loaded = record {
  ordered = λ j low. runs_stay_in_order j d.stack d.quantum (map switch_of d.switches) (openings_of d.jobs (map program_of fs)) (deck_within d fs range loaded);
  made = λ j low m t f. runs_make_their_words j d.stack d.quantum (map switch_of d.switches) (openings_of d.jobs (map program_of fs)) m t f;
  each = λ j less m t f. sessions_keep_or_make_their_words 1 (after j (session_of d (map program_of fs))) m t f;
}

-- steps keep a session in order, if its jobs run admitted programs
stays_placed : (n : ℕ) (s : Session) → IsInOrder s → AllByRecursion RunsAdmitted s.jobs → IsInOrder (after n s)
stays_placed zero s o admitted = o
stays_placed (suc n) s o admitted = by_next (λ s' o' admitted'. stays_placed n s' o' admitted') (next s) refl
  where
    by_next : ((s' : Session) → IsInOrder s' → AllByRecursion RunsAdmitted s'.jobs → IsInOrder (after n s')) → (m : Option StepResult) → next s ≡ m → IsInOrder (after_from (suc n) s m)
    by_next rest None e = o
    by_next rest (Some m) e = let kept = sessions_stay_in_order s m o admitted e in rest m.session kept.0 kept.1

pub states_follow : (steps : ℕ) (first : Session) → IsInOrderButPlaces first → StatesFollow steps first
states_follow steps first o = record {
  in_order = λ j low. stays_ordered j first o;
  places = λ ordered admitted j low. stays_placed j first ordered admitted;
  made = λ j low m t f. sessions_keep_or_make_their_words j first m t f;
  each = λ j less m t f. sessions_keep_or_make_their_words 1 (after j first) m t f;
}

-- and each job has run apart
jobs_run_apart : (steps : ℕ) (first : Session) → JobsRunApart steps first (after steps first) (lines steps first)
jobs_run_apart steps first = record { prints = λ job m found. jobs_apart steps first job m found; stays = λ job m found. states_apart steps first job m found }

-- so it is with these lines and this session
pub run_apart_to : (steps : ℕ) (first s : Session) (printed : List RunLine) → s ≡ after steps first → printed ≡ lines steps first → JobsRunApart steps first s printed
run_apart_to steps first s printed e f =
    let at : JobsRunApart steps first (after steps first) printed = subst (λ (ls : List RunLine). JobsRunApart steps first (after steps first) ls) (sym f) (jobs_run_apart steps first) in
    subst (λ (z : Session). JobsRunApart steps first z printed) (sym e) at

-- where the device told its sectors, and still does, these are known, and then known again
pub known_after : (before now : Option (List (List ℕ))) → before ≢ None → now ≢ None → content_after before now ≢ None
known_after None now some other e = some refl
known_after (Some all) now some other e = other e

-- what was known of a device that still told it, is known as it is now
pub known_later : (before now later : Option (List (List ℕ))) → (before ≢ None → now ≢ None) → content_after (content_after before now) later ≡ content_after before later
known_later None now later still = refl
known_later (Some all) None later still = absurd (still (λ e. cc) refl)
known_later (Some all) (Some more) later still = refl
