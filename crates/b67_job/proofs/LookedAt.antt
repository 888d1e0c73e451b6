-- The counts that a search looks at, by the tables of a machine that opens and by its run.
use Rattle.std.proofs.Common.{◌≡◌, ◌≢◌, ◌≤◌, ◌<◌, ◌+◌, ℕ, List, length, Option, Some, None, Ok, map, inl, inr, refl, sym, ap, ◌∙◌, subst, arith}
use Rattle.std.specs.Prelude.{IfSome}
use Rattle.std.proofs.lemmas.Bool.{cases_lt}
use Rattle.std.proofs.lemmas.Option.{none-some, same_Some}
use Rattle.std.specs.List.{AllByRecursion}
use Rattle.b67_io.specs.Causes.{Rose}
use Rattle.b67_codefile.specs.declared.file.Codefile.{Codefile}
use Rattle.b67_codefile.specs.Meaning.{program_of}
use Rattle.b67_layout.specs.Machine.{Says, DeviceAfterCalls, content_after}
use Rattle.b67_task.specs.declared.tables.Machine.{Machine}
use Rattle.b67_task.specs.Tables.{Given}
use Rattle.b67_job.specs.declared.programs.Loaded.{Loaded}
use Rattle.b67_job.specs.Meets.{LoadsDeck, prepared_of}
use Rattle.b67_session.specs.Decks.{IsLoaded}
use Rattle.b67_session.specs.Opens.{OpensAs, IsOpened}
use Rattle.b67_session.specs.Slices.{StandsAt, SetsOutSome}
use Rattle.b67_session.specs.Stops.{Stop}
use Rattle.b67_session.specs.Stops as stops
use Rattle.b67_session.proofs.Noted.{holds_as}
use Rattle.b67_session.proofs.Openings.{stands_opened}
use Rattle.b67_session.proofs.Pausing.{says_retold}
use Rattle.b67_job.specs.Judgement.{judgement}
use Rattle.b67_job.specs.Runs.{run_of}
use Rattle.b67_job.proofs.Opened.{known_after}
use Rattle.b67_job.proofs.Decks.{still_told}
use Rattle.b67_job.proofs.Served.{loaded_in_range, prepared_is}
use Rattle.b67_model.specs.Common.{Session, Run}
use Rattle.b67_task.specs.declared.tables.Tasks.{Tasks}
use Rattle.b67_session.specs.Search.{IsSearched, FindsLeast, ComesTo, StopsUnfound}
use Rattle.b67_session.specs.declared.seeking.CodePlace.{CodePlace}
use Rattle.b67_session.specs.declared.seeking.Sought.{Sought}
use Rattle.b67_job.specs.Searches.{IsLookedAt, FindsInDeck, FindsInText, StopsInDeck}

-- the least of these counts is the least of those
pub least_as : (what : Sought) (places : List CodePlace) (A B : ℕ → Type 0) (s : Session) (found : Option ℕ) → ((n : ℕ) → A n → B n) → ((n : ℕ) → B n → A n) → FindsLeast what places A s found → FindsLeast what places B s found
least_as what places A B s (Some n) to back (a, is, least) = (to n a, holds_as what places A B s n back is, λ k b held. least k (back k b) (holds_as what places B A s k to held))
least_as what places A B s None to back none = λ k b held. none k (back k b) (holds_as what places B A s k to held)

-- core has the words of the same steps
pub comes_as : (what : Sought) (core : ℕ) (A B : ℕ → Type 0) (s : Session) (found : Option ℕ) → ((n : ℕ) → B n → A n) → ComesTo what core A s found → ComesTo what core B s found
comes_as what core A B s found back x = record { before = x.before; all = λ e k m t looked n. x.all e k m t (back k looked) n }

module _ (from most : ℕ) (tasks : Tasks) (r : Run) (begun : tasks.made ≡ 0) (halt : tasks.halt ≡ r.halt) where
  pub looked_at : (n : ℕ) → IsSearched from most tasks n → IsLookedAt from most r n
  looked_at n x = record { later = x.later; few = x.made.few; before_halt = by r.halt halt } where
    by : (o : Option ℕ) → tasks.halt ≡ o → IfSome o (λ count. n < count)
    by None is = tt
    by (Some count) is = elim (cases_lt n count) [
      | inl less ↦ less
      | inr up ↦ absurd (x.made.before_halt count up (is ∙ ap (λ (z : ℕ). Some z) (let same : count ≡ tasks.made + count = omega (arith, begun) in same)))
    ]

  pub searched : (n : ℕ) → IsLookedAt from most r n → IsSearched from most tasks n
  searched n x = record { later = x.later; made = record { few = x.few; before_halt = λ j low e. by r.halt refl j low e x.before_halt } } where
    by : (o : Option ℕ) → o ≡ r.halt → (j : ℕ) → j ≤ n → tasks.halt ≡ Some (tasks.made + j) → IfSome o (λ count. n < count) → ⊥
    by None is j low e before = none-some (tasks.made + j) (is ∙ sym halt ∙ e)
    by (Some count) is j low e before = (let same = same_Some count (tasks.made + j) (is ∙ sym halt ∙ e) in omega (arith, same, before, low, begun))

-- the text that was read is the one that the source told
pub in_text : {S : Type 0} (left : S → Option (List ℕ)) (deck deck' : S) (text : List ℕ) (core : ℕ) (what : Sought) (places : List CodePlace) (from most : ℕ) (found : Option ℕ) → left deck ≡ Some text → FindsInDeck left deck deck' core what places from most found → FindsInText text core what places from most found
in_text left deck deck' text core what places from most found tells x = record { prepared = x.prepared; runs = ap judgement (x.read.told text tells).0 ∙ x.runs; least = x.least; comes = x.comes }

-- a search over the machine that a deck opens
module _ {S B : Type 0} (left : S → Option (List ℕ)) (source_faults : S → ℕ) (deck deck' : S) (holds : B → Option (List (List ℕ))) (size calls broken : B → ℕ) (b b' : B) (core : ℕ) (loaded : Loaded) (fs : List Codefile) (k : Machine) (same : fs ≡ loaded.programs)
    (loads : LoadsDeck left source_faults deck deck' (Ok loaded)) (each : AllByRecursion IsLoaded fs) (o : IsOpened holds size broken loaded.deck (map program_of fs) core b b' (Ok k)) (served : DeviceAfterCalls holds size calls broken b b') where
  abbrev pub said : Option (List (List ℕ))
  said = content_after (holds b) (holds b')

  abbrev pub first : Session
  first = (run_of (prepared_of loaded)).session

  pub opens : OpensAs said loaded.deck (map program_of loaded.programs) core (size b) k
  opens = subst (λ (xs : List Codefile). OpensAs said loaded.deck (map program_of xs) core (size b) k) same o.2

  pub stands : StandsAt said k first
  stands = stands_opened loaded.deck loaded.programs said core (size b) k (loaded_in_range left source_faults deck deck' loaded loads).0 (subst (AllByRecursion IsLoaded) same each) opens

  pub begins : SetsOutSome (holds b') k
  begins = record { stands = record { said = said; says = says_retold (holds b) (holds b'); session = first; stands = stands }; countable = opens.countable }

  pub knows : holds b ≢ None → said ≢ None
  knows tells = known_after (holds b) (holds b') tells (still_told holds b b' served.tells tells)

  module _ (what : Sought) (places : List CodePlace) (from most : ℕ) where
    pub finds : (found : Option ℕ) → holds b ≢ None → (said ≢ None → Says said (holds b') → StandsAt said k first → FindsLeast what places (IsSearched from most k.tasks) first found)
        → (said ≢ None → Says said (holds b') → StandsAt said k first → ComesTo what (length k.cpu.core) (IsSearched from most k.tasks) first found) → FindsInDeck left deck deck' core what places from most found
    finds found tells least comes =
        let begun : k.tasks.made ≡ 0 = opens.stands.tables.counts.made in
        let halt : k.tasks.halt ≡ loaded.deck.halt = ap (λ (g : Given). g.halt) opens.given in
        record {
          text = loads.0;
          prepared = prepared_of loaded;
          read = loads.1;
          runs = prepared_is loads.0 (prepared_of loaded) loads.2;
          least = least_as what places (IsSearched from most k.tasks) (IsLookedAt from most (run_of (prepared_of loaded))) first found (looked_at from most k.tasks (run_of (prepared_of loaded)) begun halt)
              (searched from most k.tasks (run_of (prepared_of loaded)) begun halt) (least (knows tells) (says_retold (holds b) (holds b')) stands);
          comes = comes_as what core (IsSearched from most k.tasks) (IsLookedAt from most (run_of (prepared_of loaded))) first found (searched from most k.tasks (run_of (prepared_of loaded)) begun halt)
              (subst (λ (n : ℕ). ComesTo what n (IsSearched from most k.tasks) first found) opens.core_size (comes (knows tells) (says_retold (holds b) (holds b')) stands));
        }

    pub fails : (stop : Stop) (b'' : B) (new : Machine) → (stop ≡ stops.BackingFault → Rose broken b' b'') → stop ≢ stops.PrintFault
        → (said ≢ None → Says said (holds b') → StandsAt said k first → StopsUnfound (content_after said (holds b'')) (said ≢ None) (size b') what places from most first stop k new)
        → StopsInDeck holds size broken b b'' core (prepared_of loaded) what places from most stop
    fails stop b'' new failed unprinted stops_so = record {
      said = said;
      opened = k;
      left = new;
      opens = opens;
      unfound = λ tells.
          subst (λ (n : ℕ). StopsUnfound (content_after said (holds b'')) (said ≢ None) n what places from most first stop k new) served.size
          (stops_so tells (says_retold (holds b) (holds b')) stands);
      failed = λ e. (let rose = failed e in let later = served.faults in omega (arith, rose, later));
      known = knows;
      unprinted = unprinted;
    }
