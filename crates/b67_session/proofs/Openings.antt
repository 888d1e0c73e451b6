-- The machine that opens represents its deck's session, and a slice may be called on it.
use Rattle.std.proofs.Common.{◌≡◌, ◌≢◌, ◌⊎◌, inl, inr, ℕ, List, [], ◌∷◌, map, refl, sym, ◌∙◌, Option, arith}
use Rattle.std.specs.List.{AllByRecursion}
use Rattle.b67_codefile.specs.declared.file.Codefile.{Codefile}
use Rattle.b67_codefile.specs.Meaning.{program_of}
use Rattle.b67_model_text.specs.declared.deck.Deck.{Deck}
use Rattle.b67_model.specs.Common.{Session, IsInOrderButPlaces}
use Rattle.b67_law.proofs.Opens.{opens_in_order}
use Rattle.b67_law.proofs.Sessions.{starts_are_segments}
use Rattle.b67_layout.specs.Machine.{content_after, Says}
use Rattle.b67_task.specs.declared.tables.TaskRow.{TaskRow}
use Rattle.b67_task.specs.declared.tables.Machine.{Machine}
use Rattle.b67_task.specs.Tables.{switch_of, AreCountable}
use Rattle.b67_session.specs.Decks.{openings_of, session_of, DeckInRange, IsLoaded}
use Rattle.b67_session.specs.Opens.{OpensAs}
use Rattle.b67_session.proofs.Decks.{deck_within}
use Rattle.b67_session.specs.Slices.{StandsAt, IsOpen, LivesOn, StandsLimited, HasNoTasks}
use Rattle.b67_session.proofs.Going.{rests_now, next_now}
use Rattle.b67_session.proofs.Pausing.{says_retold}

pub ordered_opens : (d : Deck) (fs : List Codefile) → DeckInRange d → AllByRecursion IsLoaded fs → IsInOrderButPlaces (session_of d (map program_of fs))
ordered_opens d fs range loaded =
    starts_are_segments (session_of d (map program_of fs)) (opens_in_order d.stack d.quantum (map switch_of d.switches) (openings_of d.jobs (map program_of fs)) (deck_within d fs range loaded))

not_empty : (row : TaskRow) (rows : List TaskRow) → row ∷ rows ≢ []
not_empty row rows e = cc

-- the machine that opens represents the deck's session
pub stands_opened : (d : Deck) (fs : List Codefile) (told : Option (List (List ℕ))) (core sectors : ℕ) (k : Machine) → DeckInRange d → AllByRecursion IsLoaded fs → OpensAs told d (map program_of fs) core sectors k
    → StandsAt told k (session_of d (map program_of fs))
stands_opened d fs told core sectors k range loaded o = grind (arith, ordered_opens)

-- of a machine that represents a session: a step is due, or a part of one, or no task lives
pub stage_of : (said told : Option (List (List ℕ))) (k : Machine) (s : Session) → Says said told → StandsAt said k s → LivesOn told k ⊎ (StandsLimited told k ⊎ HasNoTasks told k)
stage_of said told k s says stands = by k.tasks.rows.items refl
  where
    by : (rows : List TaskRow) → k.tasks.rows.items ≡ rows → LivesOn told k ⊎ (StandsLimited told k ⊎ HasNoTasks told k)
    by [] e = inr (inr (record { said = said; says = says; session = s; ordered = stands.ordered; rests = rests_now said k s stands e }))
    by (row ∷ rows) e =
        let n = next_now said k s stands (λ none. not_empty row rows (sym e ∙ none)) in
        inl (record { some = record { said = said; says = says; session = s; stands = stands }; member = n.0; task = n.1; next = n.2 })

-- so a slice may be called on it
pub stands_open : (said told : Option (List (List ℕ))) (k : Machine) (s : Session) → Says said told → StandsAt said k s → AreCountable k.tasks.jobs → IsOpen told k
stands_open said told k s says stands countable = record { stage = stage_of said told k s says stands; countable = countable }

-- and on the machine that opens
pub opens_open : (d : Deck) (fs : List Codefile) (before now : Option (List (List ℕ))) (core sectors : ℕ) (k : Machine) → DeckInRange d → AllByRecursion IsLoaded fs
    → OpensAs (content_after before now) d (map program_of fs) core sectors k → IsOpen now k
opens_open d fs before now core sectors k range loaded o =
    stands_open (content_after before now) now k (session_of d (map program_of fs)) (says_retold before now) (stands_opened d fs (content_after before now) core sectors k range loaded o) o.countable
