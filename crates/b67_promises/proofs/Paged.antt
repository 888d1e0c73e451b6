-- At each step of a run core and the device hold the session of the model.
use Rattle.std.proofs.Common.{◌≡◌, ◌≢◌, inl, inr, ℕ, List, [], ◌∷◌, length, Option, Some, None, Ok, refl, sym, ap, ◌∙◌, subst, arith}
use Rattle.b67_lemmas.specs.Lists.{Has}
use Rattle.b67_model.specs.Common.{Session, after, live_after}
use Rattle.b67_layout.specs.Machine.{content_after}
use Rattle.b67_layout.proofs.Devices.{says_self}
use Rattle.b67_session_lines.proofs.Statuses.{after-add}
use denote.Ref.{Bor}
use Rattle.b67_job.specs.Admitting.{Prepared, deck_prepared}
use Rattle.b67_task.specs.declared.tables.Machine.{Machine}
use Rattle.b67_job.specs.Device.{Device, DeviceTells, known_now}
use Rattle.b67_job.specs.Runs.{run_of, StandsAt, Between, TakesOn, IsOnward, by_a_step, in_a_turn, FollowEach, HasPaged, StopsThere, before_it, in_limit, StopsInStep, PagesByStep, goes_well, stops_in, PagedFromOpening, Stop}
use Rattle.b67_task.specs.Tables.{Given}
use Rattle.b67_session.specs.Decks.{given_of, deck_given}
use Rattle.b67_session.proofs.Resuming.{limited_stands}
use Rattle.b67_promises.proofs.CallsDescribed.{AsksFor, runs_deck}
use Rattle.b67_promises.proofs.MoreCore.{EndsAt, at_the_end, at_the_halt, WholeAt}
use Rattle.b67_promises.specs.Paged.{HoldsSession, PagesAllTheWay}

told_then : (o told : Option (List (List ℕ))) → o ≢ None → content_after o told ≡ told
told_then None told some = absurd (some refl)
told_then (Some all) told some = refl

module _ {D : Type 0} (holds : D → Option (List (List ℕ))) (core : ℕ) (p : Prepared) where
  abbrev Holds : Machine → D → Type 0
  Holds k d = HoldsSession holds core p (record { machine = k; device = d })

  holds_then : (n : ℕ) (k k' : Machine) (d d' : D) → TakesOn holds n k k' d d' → Holds k d → Holds k' d'
  holds_then n k k' d d' leads h =
      let first = (run_of p).session in
      let c = leads (holds d) (after k.tasks.made first) (says_self (holds d)) h.stands in
      let now : content_after (holds d) (holds d') ≡ holds d' = told_then (holds d) (holds d') h.tells in
      let there : c.session ≡ after k'.tasks.made first = sym (c.is h.tells) ∙ sym (after-add k.tasks.made n first) ∙ ap (λ (i : ℕ). after i first) (sym c.made) in
      record {
        core_size = c.core ∙ h.core_size;
        tells = subst (λ (o : Option (List (List ℕ))). o ≢ None) now (c.known h.tells);
        stands = subst (λ (o : Option (List (List ℕ))). StandsAt o k' (after k'.tasks.made first)) now (subst (StandsAt (content_after (holds d) (holds d')) k') there c.stands);
      }

  follows_then : (k k' : Machine) (d d' : D) → IsOnward holds k k' d d' → Holds k d → Holds k' d'
  follows_then k k' d d' (by_a_step leads moves) h = holds_then 1 k k' d d' leads h
  follows_then k k' d d' (in_a_turn between made each counted leads same) h = holds_then (length between) k k' d d' leads h

  each_holds : (between : List (Between D)) (k k' : Machine) (d d' : D) → FollowEach holds between k k' d d' → Holds k d
      → (b : Between D) → Has (record { machine = k'; device = d' } ∷ between) b → HoldsSession holds core p b
  each_holds [] k k' d d' follow h b (inl is) =
      subst (HoldsSession holds core p) is (subst (λ (z : Machine). Holds z d') (sym follow.0) (subst (Holds k) (sym follow.1) h))
  each_holds [] k k' d d' follow h b (inr has) = absurd has
  each_holds (c ∷ before) k k' d d' follow h b (inl is) =
      subst (HoldsSession holds core p) is (follows_then c.machine k' c.device d' follow.0 (each_holds before k c.machine d c.device follow.1 h c (inl refl)))
  each_holds (c ∷ before) k k' d d' follow h b (inr has) = each_holds before k c.machine d c.device follow.1 h b has

-- a call that opened a session, and ended so, has paged all the way
pub all_the_way : {B : Type 0} (d : Device B) (core : ℕ) (p : Prepared) (k : Machine) (status : ℕ) → DeviceTells d → given_of k.tasks ≡ deck_given p.0 → EndsAt d p k status → PagedFromOpening d core p k → PagesAllTheWay d.holds core p status d.new
all_the_way {B} d core p k status tells given ends x = by_pages x.steps.1
  where
    now : content_after d.before (d.holds x.device) ≡ d.holds x.device
    now = told_then d.before (d.holds x.device) tells

    begins : HoldsSession d.holds core p (record { machine = x.opened; device = x.device })
    begins = record {
      core_size = x.core_size;
      tells = x.known tells;
      stands = subst (λ (o : Option (List (List ℕ))). StandsAt o x.opened (after x.opened.tasks.made (run_of p).session)) now
          (subst (λ (n : ℕ). StandsAt (content_after d.before (d.holds x.device)) x.opened (after n (run_of p).session)) (sym x.none_made) x.stands);
    }

    over : EndsAt d p k status → status ≡ 0 → live_after k.tasks.made (run_of p).session ≡ 0
    over (at_the_end s none rows) zero = none
    over (at_the_halt s halt session stands) zero = absurd (omega (arith, s, zero))

    halts : EndsAt d p k status → status ≡ 3 → (run_of p).halt ≡ Some k.tasks.made
    halts (at_the_end s none rows) three = absurd (omega (arith, s, three))
    halts (at_the_halt s halt session stands) three = halt

    -- no step was stopped at its end
    not_there : (told : Option (List (List ℕ))) (exact : Type 0) (stop : Stop) (first session : Session) (old : Machine) → (run_of p).halt ≡ Some k.tasks.made → StandsAt (known_now d) k session → StopsThere told exact stop first old k → ⊥
    not_there told exact stop first session old halt stands (before_it due arrives) = due (ap (λ (z : Given). z.halt) given ∙ halt)
    not_there told exact stop first session old halt stands (in_limit is a) = limited_stands (known_now d) told k session a.session a.rest stands a.limited

    not_stopped : (stop : Stop) (last : Between B) → EndsAt d p k status → k.tasks.rows.items ≢ [] → HasPaged d.holds x.opened last.machine x.device last.device → StopsInStep d.holds stop last.machine k last.device d.new → ⊥
    not_stopped stop last (at_the_end s none rows) lives h there = lives rows
    not_stopped stop last (at_the_halt s halt session stands) lives h there =
        let its = each_holds d.holds core p h.between x.opened last.machine x.device last.device h.follow begins last (inl refl) in
        let first = after last.machine.tasks.made (run_of p).session in
        not_there (content_after (d.holds last.device) (d.holds d.new)) (d.holds last.device ≢ None) stop first session last.machine halt stands
        (there (d.holds last.device) first (says_self (d.holds last.device)) its.stands)

    by_pages : PagesByStep d.holds x.steps.0 x.opened k x.device d.new → PagesAllTheWay d.holds core p status d.new
    by_pages (goes_well ok h) = record {
      opened = record { machine = x.opened; device = x.device };
      none_made = x.none_made;
      last = record { machine = k; device = d.new };
      paged = h;
      each = each_holds d.holds core p h.between x.opened k x.device d.new h.follow begins;
      ended = over ends;
      halted = halts ends;
      ends = refl;
    }
    by_pages (stops_in stop is lives last h there moves) = absurd (not_stopped stop last ends lives h there)

-- so has one that ended with 0 or 3, on the deck of these bytes
pub whole_pages : {S B : Type 0} (words : List (Bor (List ℕ))) (left : S → Option (List ℕ)) (deck deck' : S) (d : Device B) (core : ℕ) (bytes : List ℕ) (status : ℕ) → AsksFor words left deck deck' None core bytes → DeviceTells d
    → WholeAt words left deck deck' d status → (p : Prepared) × (deck_prepared bytes ≡ Ok p) × PagesAllTheWay d.holds core p status d.new
whole_pages words left deck deck' d core bytes status asks tells whole =
    let w = whole.run in (
      w.p,
      runs_deck bytes w.p (asks.asks.judged w.core w.p w.its_run),
      all_the_way d core w.p w.k status tells w.opens.given whole.ends (subst (λ (n : ℕ). PagedFromOpening d n w.p w.k) (asks.opens w.core w.p w.its_run) w.opens.paged),
    )
