-- A search that has made so many steps and found nothing before them, and how it ends.
use Rattle.std.proofs.lemmas.Option.{none-some, same_Some}
use Rattle.std.proofs.Common.{length, ◌≡◌, ◌≢◌, ◌≤◌, ◌<◌, ◌⊎◌, ℕ, ◌+◌, zero, suc, List, [], ◌∷◌, Option, Some, None, Ok, Err, inl, inr, refl, sym, ap, ◌∙◌, subst, arith}
use Rattle.std.specs.Prelude.{option_map}
use Rattle.std.proofs.lemmas.Bool.{cases_lt}
use Rattle.b67_model.specs.Common.{SessionJob, Task, Session, StepResult, next, after, after_from, live_tasks, live_after, height, IsInOrderButPlaces}
use Rattle.b67_law.proofs.RunSessions.{sessions_stay_in_order_but_places}
use Rattle.b67_law.specs.Turns.{IsNext}
use Rattle.b67_session_lines.proofs.Statuses.{over-stays}
use Rattle.b67_layout.specs.Machine.{Says, DeviceAfterCalls}
use Rattle.b67_task.specs.declared.tables.TaskRow.{TaskRow}
use Rattle.b67_task.specs.declared.tables.Machine.{Machine}
use Rattle.b67_task.proofs.Keeping.{halt_kept, countable_kept}
use Rattle.b67_session.specs.AttemptPassed.{AreCountable}
use Rattle.b67_session.specs.AttemptStops.{Stop}
use Rattle.b67_session.specs.AttemptStops as stops
use Rattle.b67_session.specs.declared.slices.Progress.{Progress}
use Rattle.b67_session.specs.declared.slices.Progress.TheVariants as progress
use Rattle.b67_session.specs.declared.seeking.CodePlace.{CodePlace}
use Rattle.b67_session.specs.declared.seeking.Sought.{Sought}
use Rattle.b67_session.specs.declared.seeking.Sought.TheVariants as sought
use Rattle.b67_session.specs.Slices.{IsOpen, Keeps, SliceMeets, Pauses, Slices, StepsFit}
use Rattle.b67_session.specs.declared.seeking.Depth.{Depth}
use Rattle.b67_session.specs.Search.{IsSought, IsSearched, FindsLeast, PassesAll, ComesTo, SearchLeaves, DeepestSoFar, PassesBy}
use Rattle.b67_session.proofs.Noted.{holds_sought, sought_held, sought_other, sought_next, none_noted}
use Rattle.b67_session.proofs.Next.{in_session, in_job}
use Rattle.b67_session.proofs.Rows.{none_of}
use Rattle.b67_session.proofs.Fitting.{below}
use Rattle.b67_session.proofs.Going.{Going, rests_now, going-lives, going-ended}
use Rattle.b67_session.proofs.Again.{open_again}

-- steps keep a session in order but for its places
pub stays_ordered : (n : ℕ) (s : Session) → IsInOrderButPlaces s → IsInOrderButPlaces (after n s)
stays_ordered zero s o = o
stays_ordered (suc n) s o = by_next (λ s' o'. stays_ordered n s' o') (next s) refl
  where
    by_next : ((s' : Session) → IsInOrderButPlaces s' → IsInOrderButPlaces (after n s')) → (m : Option StepResult) → next s ≡ m → IsInOrderButPlaces (after_from (suc n) s m)
    by_next rest None e = o
    by_next rest (Some m) e = rest m.session (sessions_stay_in_order_but_places s m o e)

-- no task makes the next operator of a session whose tasks have ended
no_next : (s : Session) (m : SessionJob) (t : Task) → IsNext s m t → live_tasks s.jobs ≡ 0 → ⊥
no_next s m t n none = none_of s.jobs m t (in_session s m t n) (in_job s m t n) none

abbrev pub count : Option Depth → Option ℕ
count best = option_map (λ (d : Depth). d.made) best

module _ {K : Type 0} (taken : K → Option (List ℕ)) (exact : Type 0) (told : Option (List (List ℕ))) (what : Sought) (places : List CodePlace) (from most made : ℕ) (s : Session) (old now : Machine) (paper paper' : K)
    (g : Going taken exact told made s old now paper paper') (tells : exact) (order : IsInOrderButPlaces s) (keeps : Keeps old now) (best : Option Depth) (passes : PassesBy what places from 0 made s None best) where
  none : (j : ℕ) → from ≤ j → j < made → IsSought what places (after j s) → ⊥
  none j up low = passes.none j up (omega arith) low

  before : (j : ℕ) → j < made → (i : ℕ) → i ≤ j → old.tasks.halt ≢ Some (old.tasks.made + i)
  before j low i up = g.below i (omega (arith, low, up))

  -- it is at such a count
  pub found_least : made < most → from ≤ made → now.tasks.halt ≢ Some now.tasks.made → IsSought what places g.session → FindsLeast what places (IsSearched from most old.tasks) s (Some made)
  found_least few later due is = (
    record { later = later; made = record { few = few; before_halt = here } },
    holds_sought what places (IsSearched from most old.tasks) s made there,
    λ k searched held. elim (cases_lt k made) [
      | inl less ↦ absurd (none k searched.later less (sought_held what places (IsSearched from most old.tasks) s k (sought_other what places (after made s) there) held))
      | inr up ↦ up
    ],
  ) where
    there : IsSought what places (after made s)
    there = subst (IsSought what places) (sym (g.came tells).session) is

    here : (j : ℕ) → j ≤ made → old.tasks.halt ≢ Some (old.tasks.made + j)
    here j low e = by (below j made (omega (arith, low))) where
      by : (j < made) ⊎ (j ≡ made) → ⊥
      by (inl less) = g.below j less e
      by (inr same) = due (halt_kept old now keeps ∙ e ∙ ap (λ (n : ℕ). Some n) (omega (arith, same, g.made)))

  -- no task makes an operator at a later count that is looked at
  abbrev AllPassed : Type 0
  AllPassed = (k : ℕ) (m : SessionJob) (t : Task) → IsSearched from most old.tasks k → IsNext (after k s) m t → k < made

  deepest_of : made ≤ most → AllPassed → (b : Option Depth) → DeepestSoFar from made s b → FindsLeast sought.Deepest places (IsSearched from most old.tasks) s (count b)
  deepest_of few all None x = λ k searched held. x k held.member held.task searched.later (all k held.member held.task searched held.next) held.next
  deepest_of few all (Some d) x =
      let searched : IsSearched from most old.tasks d.made = record { later = x.later; made = record { few = omega (arith, few, x.before); before_halt = before d.made x.before } } in (
        searched,
        record { member = x.member; task = x.task; next = x.next; highest = λ k m t looked n. subst (λ (i : ℕ). height t.frames ≤ i) x.high (x.highest k m t looked.later (all k m t looked n) n) },
        λ k looked held. elim (cases_lt k d.made) [
          | inl less ↦
              let low = x.first k held.member held.task looked.later less held.next in
              let up = held.highest d.made x.member x.task searched x.next in
              absurd (omega (arith, low, up, x.high))
          | inr up ↦ up
        ],
      )

  other_of : AllPassed → what ≢ sought.Deepest → FindsLeast what places (IsSearched from most old.tasks) s None
  other_of all other k searched held =
      let is = sought_held what places (IsSearched from most old.tasks) s k other held in
      let (m, t, n) = sought_next what places (after k s) (stays_ordered k s order) is in
      none k searched.later (all k m t searched n) is

  found_all : made ≤ most → AllPassed → FindsLeast what places (IsSearched from most old.tasks) s (count best)
  found_all few all = by what refl where
    apart : what ≢ sought.Deepest → FindsLeast what places (IsSearched from most old.tasks) s (count best)
    apart other = subst (λ (b : Option Depth). FindsLeast what places (IsSearched from most old.tasks) s (count b)) (sym ((passes.noted (none_noted what from s)).other other)) (other_of all other)

    by : (w : Sought) → what ≡ w → FindsLeast what places (IsSearched from most old.tasks) s (count best)
    by sought.Place is = apart (λ e. let z : sought.Place ≡ sought.Deepest = sym is ∙ e in let no : ⊥ = cc in no)
    by sought.Switch is = apart (λ e. let z : sought.Switch ≡ sought.Deepest = sym is ∙ e in let no : ⊥ = cc in no)
    by (sought.Within job number upto) is = apart (λ e. let z : sought.Within job number upto ≡ sought.Deepest = sym is ∙ e in let no : ⊥ = cc in no)
    by sought.Deepest is = subst (λ (w : Sought). FindsLeast w places (IsSearched from most old.tasks) s (count best)) (sym is) (deepest_of few all best ((passes.noted (none_noted what from s)).deepest is))

  -- what was noted came before
  noted_before : (d : Depth) → best ≡ Some d → d.made < made
  noted_before d is = by what refl where
    other : what ≢ sought.Deepest → d.made < made
    other o = absurd (none-some d (sym ((passes.noted (none_noted what from s)).other o) ∙ is))

    by : (w : Sought) → what ≡ w → d.made < made
    by sought.Place e = other (λ z. let a : sought.Place ≡ sought.Deepest = sym e ∙ z in let no : ⊥ = cc in no)
    by sought.Switch e = other (λ z. let a : sought.Switch ≡ sought.Deepest = sym e ∙ z in let no : ⊥ = cc in no)
    by (sought.Within job number upto) e = other (λ z. let a : sought.Within job number upto ≡ sought.Deepest = sym e ∙ z in let no : ⊥ = cc in no)
    by sought.Deepest e = (subst (DeepestSoFar from made s) is ((passes.noted (none_noted what from s)).deepest e)).before

  -- all counts were looked at
  all_none : most ≤ made → AllPassed
  all_none all k m t searched n = omega (arith, all, searched.made.few)

  pub found_none : made ≤ most → most ≤ made → FindsLeast what places (IsSearched from most old.tasks) s (count best)
  found_none few all = found_all few (all_none all)

  -- the run goes no further
  all_end : (p : Progress) → Pauses now.tasks now.tasks.halt (Some p) → AllPassed
  all_end p rows k m t searched n = elim (cases_lt k made) [ inl less ↦ less | inr up ↦ absurd (ends p rows up) ] where
    ends : (q : Progress) → Pauses now.tasks now.tasks.halt (Some q) → made ≤ k → ⊥
    ends progress.Ended rows up =
        let over : live_after made s ≡ 0 = subst (λ (z : Session). live_tasks z.jobs ≡ 0) (sym (g.came tells).session) (rests_now told now g.session g.stands rows).none in
        no_next (after k s) m t n (over-stays made k s over up)
    ends progress.Halted h up = searched.made.before_halt made up (sym (halt_kept old now keeps) ∙ h.1 ∙ ap (λ (n : ℕ). Some n) g.made)
    ends progress.More h up = h

  pub found_end : made ≤ most → (p : Progress) → Pauses now.tasks now.tasks.halt (Some p) → FindsLeast what places (IsSearched from most old.tasks) s (count best)
  found_end few p rows = found_all few (all_end p rows)

  -- core had the words of the steps
  abbrev Comes : Option ℕ → Type 0
  Comes found = ComesTo what (length old.cpu.core) (IsSearched from most old.tasks) s found

  fits_noted : (b : Option Depth) → best ≡ b → (n : ℕ) → count b ≡ Some n → StepsFit (length old.cpu.core) n s
  fits_noted None is n e = absurd (none-some n e)
  fits_noted (Some d) is n e = λ k low. g.fits tells k (let far = noted_before d is in let same = same_Some d.made n e in omega (arith, low, far, same))

  fits_all : AllPassed → PassesAll (length old.cpu.core) (IsSearched from most old.tasks) s
  fits_all all k m t searched n j low = g.fits tells j (let far = all k m t searched n in omega (arith, low, far))

  comes_all : AllPassed → Comes (count best)
  comes_all all = record { before = fits_noted best refl; all = λ e. fits_all all }

  pub comes_none : most ≤ made → Comes (count best)
  comes_none all = comes_all (all_none all)

  pub comes_end : (p : Progress) → Pauses now.tasks now.tasks.halt (Some p) → Comes (count best)
  comes_end p rows = comes_all (all_end p rows)

  pub comes_found : IsSought what places g.session → Comes (Some made)
  comes_found is = record { before = λ n e. subst (λ (i : ℕ). StepsFit (length old.cpu.core) i s) (same_Some made n e) (g.fits tells); all = by } where
    by : (what ≡ sought.Deepest) ⊎ (Some made ≡ None) → PassesAll (length old.cpu.core) (IsSearched from most old.tasks) s
    by (inl e) = absurd (subst (λ (w : Sought). IsSought w places g.session) e is)
    by (inr e) = absurd (none-some made (sym e))

  -- it stops before a step, at a count that was looked at
  module _ (said : Option (List (List ℕ))) (size : ℕ) (stop : Stop) (new : Machine) (paper'' : K) (x : Slices taken said exact size most s (Err stop) old new paper paper'') (same : new.tasks.made ≡ now.tasks.made) (other : from ≤ made → IsSought what places g.session → ⊥) where
    pub none_up_to : (k : ℕ) → k ≤ x.steps → IsSearched from most old.tasks k → IsSought what places (after k s) → ⊥
    none_up_to k low searched is = by (below k made (omega (arith, low, x.made, same, g.made))) where
      by : (k < made) ⊎ (k ≡ made) → ⊥
      by (inl less) = none k searched.later less is
      by (inr at) =
          let later : from ≤ made = omega (arith, at, searched.later) in
          other later (subst (IsSought what places) (ap (λ (i : ℕ). after i s) at ∙ (g.came tells).session) is)

-- a stop that isn't the printer's makes no part of its step
pub none_stepped : (said : Option (List (List ℕ))) (sure : Type 0) (core count steps : ℕ) (s : Session) (is_due : List ℕ) (new : Machine) (stop : Stop) → stop ≢ stops.PrintFault → SliceMeets said sure core count 1 steps s is_due (Err stop) new → steps ≡ 0
none_stepped said sure core h steps s is_due new stop fine m = grind arith

-- where the search stands another slice may begin
pub open_here : {K : Type 0} (taken : K → Option (List ℕ)) (exact : Type 0) (said told : Option (List (List ℕ))) (made : ℕ) (s : Session) (old now : Machine) (paper paper' : K) → Going taken exact said made s old now paper paper' → Says said told → AreCountable now.tasks.jobs → IsOpen told now
open_here taken exact said told made s old now paper paper' g says countable = by now.tasks.rows.items refl where
  by : (rows : List TaskRow) → now.tasks.rows.items ≡ rows → IsOpen told now
  by [] e = open_again taken said told exact 0 made s (Ok progress.Ended) old now paper paper' says countable (going-ended taken exact said 0 made made s old now paper paper' g (omega arith) e)
  by (row ∷ rows) e = record { stage = inl (going-lives taken exact said 0 made made s old now paper paper' g told says (λ none. absurd (let z : ⊥ = cc in z))); countable = countable }

pub leaves_here : {D K : Type 0} (holds : D → Option (List (List ℕ))) (size calls faults : D → ℕ) (taken : K → Option (List ℕ)) (exact : Type 0) (said : Option (List (List ℕ))) (made : ℕ) (s : Session) (found : Option ℕ) (old now : Machine) (d e : D) (paper paper' : K)
    → Going taken exact said made s old now paper paper' → Says said (holds e) → AreCountable old.tasks.jobs → Keeps old now → DeviceAfterCalls holds size calls faults d e → SearchLeaves holds size calls faults (Ok found) old now d e
leaves_here holds size calls faults taken exact said made s found old now d e paper paper' g says countable keeps served = record {
  goes_on = open_here taken exact said (holds e) made s old now paper paper' g says (countable_kept old now keeps countable);
  keeps = keeps;
  served = served;
  device_failed = λ failed. absurd (let z : ⊥ = cc in z);
  unprinted = λ failed. let z : ⊥ = cc in z;
}
