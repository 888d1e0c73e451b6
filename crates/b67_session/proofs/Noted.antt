-- What a search has noted of the stacks that it has passed, and what it passes by.
use Rattle.std.proofs.Common.{◌≡◌, ◌≢◌, ◌≤◌, ◌<◌, ◌⊎◌, ℕ, ◌+◌, ◌-◌, List, Option, Some, None, inl, inr, refl, sym, ap, ◌∙◌, subst, arith}
use Rattle.std.specs.Prelude.{option_map}
use Rattle.std.proofs.lemmas.Bool.{cases_lt}
use Rattle.std.proofs.lemmas.Option.{none-some}
use Rattle.b67_model.specs.Common.{SessionJob, Task, Session, choice, after, height, IsInOrderButPlaces}
use Rattle.b67_law.specs.Turns.{IsNext}
use Rattle.b67_law.proofs.Choices.{chosen_tasks_are_ready}
use Rattle.b67_task.specs.declared.tables.Machine.{Machine}
use Rattle.b67_layout.specs.Session.{IsRunning}
use Rattle.b67_task.specs.Lasting.{TurnLasts}
use Rattle.b67_session.specs.Slices.{StandsAt}
use Rattle.b67_session.specs.Steps.{GoesOnInTurn}
use Rattle.b67_session.specs.declared.seeking.CodePlace.{CodePlace}
use Rattle.b67_session.specs.declared.seeking.Depth.{Depth}
use Rattle.b67_session.specs.declared.seeking.Sought.{Sought}
use Rattle.b67_session.specs.declared.seeking.Sought.TheVariants as sought
use Rattle.b67_session.specs.Search.{IsSought, HoldsAmong, IsDeepestSoFar, DeepestSoFar, HasNoted, Deepens, PassesBy}
use Rattle.b67_session.proofs.Next.{as_next}
use Rattle.b67_session.proofs.Fitting.{below}
use Rattle.b67_session.proofs.Heights.{running_heights}
use Rattle.b67_session_lines.proofs.Statuses.{after-add}
use Rattle.b67_session.proofs.SameTask.{going_next, none_switches, turn_is}

-- ---- kinds

-- what is sought of a session by itself is another kind than the deepest
pub sought_other : (what : Sought) (places : List CodePlace) (s : Session) → IsSought what places s → what ≢ sought.Deepest
sought_other what places s is e = grind arith

-- of the other kinds it holds of the session after so many steps
pub holds_sought : (what : Sought) (places : List CodePlace) (looked : ℕ → Type 0) (s : Session) (n : ℕ) → IsSought what places (after n s) → HoldsAmong what places looked s n
holds_sought what places looked s n is = grind arith

pub sought_held : (what : Sought) (places : List CodePlace) (looked : ℕ → Type 0) (s : Session) (n : ℕ) → what ≢ sought.Deepest → HoldsAmong what places looked s n → IsSought what places (after n s)
sought_held what places looked s n other is = grind arith

-- it holds too where the same counts are looked at
pub holds_as : (what : Sought) (places : List CodePlace) (A B : ℕ → Type 0) (s : Session) (n : ℕ) → ((k : ℕ) → B k → A k) → HoldsAmong what places A s n → HoldsAmong what places B s n
holds_as sought.Place places A B s n back is = is
holds_as sought.Switch places A B s n back is = is
holds_as (sought.Within job number upto) places A B s n back is = is
holds_as sought.Deepest places A B s n back is = record { member = is.member; task = is.task; next = is.next; highest = λ k m t b. is.highest k m t (back k b) }

-- a task makes the next operator of a session of which something is sought
pub sought_next : (what : Sought) (places : List CodePlace) (s : Session) → IsInOrderButPlaces s → IsSought what places s → (m : SessionJob) × (t : Task) × IsNext s m t
sought_next sought.Place places s o (m, t, n, has) = (m, t, n)
sought_next sought.Switch places s o (c, is, other) = (let (m, t, n, same, ready) = chosen_tasks_are_ready s c o is in (m, t, n))
sought_next (sought.Within job number upto) places s o (m, t, n, a, b, low) = (m, t, n)
sought_next sought.Deepest places s o is = absurd is

-- ---- what is noted

pub none_noted : (what : Sought) (from : ℕ) (s : Session) → HasNoted what from 0 s None
none_noted what from s = record { deepest = λ e k m t up low n. omega (arith, low); other = λ e. refl }

-- a search for anything else isn't for the deepest
pub place_other : sought.Place ≢ sought.Deepest
place_other e = let z : ⊥ = cc in z

pub switch_other : sought.Switch ≢ sought.Deepest
switch_other e = let z : ⊥ = cc in z

pub within_other : (job number height : ℕ) → sought.Within job number height ≢ sought.Deepest
within_other job number height e = let z : ⊥ = cc in z

-- below the first count that is looked at nothing is
pub none_further : (what : Sought) (from at upto : ℕ) (s : Session) (best : Option Depth) → upto ≤ from → at ≤ upto → HasNoted what from at s best → HasNoted what from upto s best
none_further what from at upto s best low on h = grind arith

-- nor by a search for anything else
pub other_noted : (what : Sought) (from at upto : ℕ) (s : Session) (best : Option Depth) → what ≢ sought.Deepest → HasNoted what from at s best → HasNoted what from upto s best
other_noted what from at upto s best other h = record { deepest = λ e. absurd (other e); other = h.other }

-- a session of which no task makes the next operator
pub idle_noted : (what : Sought) (from made : ℕ) (s : Session) (best : Option Depth) → ((m : SessionJob) (t : Task) → IsNext (after made s) m t → ⊥) → HasNoted what from made s best → HasNoted what from (made + 1) s best
idle_noted what from made s best idle h = record { deepest = λ e. by best (h.deepest e); other = h.other } where
  past : (k : ℕ) → k < made + 1 → (m : SessionJob) (t : Task) → IsNext (after k s) m t → k < made
  past k low m t n = split (below k made low) where
    split : (k < made) ⊎ (k ≡ made) → k < made
    split (inl less) = less
    split (inr at) = absurd (idle m t (subst (λ (i : ℕ). IsNext (after i s) m t) at n))

  by : (b : Option Depth) → DeepestSoFar from made s b → DeepestSoFar from (made + 1) s b
  by None none = λ k m t up low n. none k m t up (past k low m t n) n
  by (Some d) x = record {
    later = x.later;
    before = omega (arith, x.before);
    member = x.member;
    task = x.task;
    next = x.next;
    high = x.high;
    highest = λ k m t up low n. x.highest k m t up (past k low m t n) n;
    first = x.first;
  }

pub none_next : (made : ℕ) (start s : Session) → after made start ≡ s → choice s ≡ None → (m : SessionJob) (t : Task) → IsNext (after made start) m t → ⊥
none_next made start s came none m t n = none-some n.chosen (sym (ap choice came ∙ none) ∙ n.is)

-- a stack more
module _ (from made top : ℕ) (s : Session) (m : SessionJob) (t : Task) (n : IsNext (after made s) m t) (high : top + 1 ≡ height t.frames) (up : from ≤ made) where
  -- the task that makes the next operator is that one
  same : (k : ℕ) (y : SessionJob) (u : Task) → k ≡ made → IsNext (after k s) y u → height u.frames ≡ top + 1
  same k y u at next = as_next (after made s) y m u t (λ (z : SessionJob) (v : Task). height v.frames ≡ top + 1) n (subst (λ (i : ℕ). IsNext (after i s) y u) at next) (sym high)

  -- it is the first one, or higher than those before
  pub is_new : ((k : ℕ) (y : SessionJob) (u : Task) → from ≤ k → k < made → IsNext (after k s) y u → height u.frames ≤ top) → IsDeepestSoFar from (made + 1) s (record { made = made; top = top })
  is_new lower = record {
    later = up;
    before = omega arith;
    member = m;
    task = t;
    next = n;
    high = high;
    highest = λ k y u on low next. by k y u on next (below k made low);
    first = lower;
  } where
    by : (k : ℕ) (y : SessionJob) (u : Task) → from ≤ k → IsNext (after k s) y u → (k < made) ⊎ (k ≡ made) → height u.frames ≤ top + 1
    by k y u on next (inl less) = omega (arith, lower k y u on less next)
    by k y u on next (inr at) = omega (arith, same k y u at next)

  pub is_old : (d : Depth) → top ≤ d.top → IsDeepestSoFar from made s d → IsDeepestSoFar from (made + 1) s d
  is_old d low x = record {
    later = x.later;
    before = omega (arith, x.before);
    member = x.member;
    task = x.task;
    next = x.next;
    high = x.high;
    highest = λ k y u on less next. by k y u on next (below k made less);
    first = x.first;
  } where
    by : (k : ℕ) (y : SessionJob) (u : Task) → from ≤ k → IsNext (after k s) y u → (k < made) ⊎ (k ≡ made) → height u.frames ≤ d.top + 1
    by k y u on next (inl less) = x.highest k y u on less next
    by k y u on next (inr at) = omega (arith, same k y u at next, low)

  pub deepens : (a b : Option Depth) → Deepens a (record { made = made; top = top }) b → DeepestSoFar from made s a → DeepestSoFar from (made + 1) s b
  deepens None b e none = subst (DeepestSoFar from (made + 1) s) (sym e) (is_new (λ k y u on less next. absurd (none k y u on less next)))
  deepens (Some d) b (inl (less, e)) x = subst (DeepestSoFar from (made + 1) s) (sym e) (is_new (λ k y u on low next. omega (arith, x.highest k y u on low next, less)))
  deepens (Some d) b (inr (up', e)) x = subst (DeepestSoFar from (made + 1) s) (sym e) (is_old d up' x)

  pub one_noted : (what : Sought) (a b : Option Depth) → (what ≡ sought.Deepest → Deepens a (record { made = made; top = top }) b) → (what ≢ sought.Deepest → b ≡ a) → HasNoted what from made s a → HasNoted what from (made + 1) s b
  one_noted what a b deep other h = record { deepest = λ e. deepens a b (deep e) (h.deepest e); other = λ e. other e ∙ h.other e }

-- ---- what is passed by

pub passes_then : (what : Sought) (places : List CodePlace) (from at mid upto : ℕ) (start : Session) (a b c : Option Depth) → PassesBy what places from at mid start a b → PassesBy what places from mid upto start b c → PassesBy what places from at upto start a c
passes_then what places from at mid upto start a b c x y = record {
  none = λ j up on low. elim (cases_lt j mid) [ inl less ↦ x.none j up on less | inr over ↦ y.none j up over low ];
  noted = λ h. y.noted (x.noted h);
}

-- one count more
pub passes_one : (what : Sought) (places : List CodePlace) (from made : ℕ) (start s : Session) (a b : Option Depth) → after made start ≡ s → (from ≤ made → IsSought what places s → ⊥) → (HasNoted what from made start a → HasNoted what from (made + 1) start b) → PassesBy what places from made (made + 1) start a b
passes_one what places from made start s a b came other noted = grind arith

-- the last task makes one operator more in its turn, of which nothing is sought
pub passes_operator : (told : Option (List (List ℕ))) (what : Sought) (places : List CodePlace) (from made : ℕ) (start s : Session) (mid new : Machine) (h : StandsAt told mid s) → after made start ≡ s → 1 ≤ s.turn → from ≤ made
    → {k : ℕ} → GoesOnInTurn told k s mid new → new.tasks.turn ≡ mid.tasks.turn + k → k ≡ 1 → TurnLasts h.plan s 1
    → ((said : Option (List (List ℕ))) (z : Session) (m : SessionJob) (t : Task) (n : IsNext z m t) (g : StandsAt said mid z) → n.chosen.who ≡ z.last → IsRunning g.plan z.jobs m t → IsSought what places z → ⊥)
    → (top : ℕ) (a b : Option Depth) → top ≡ mid.cpu.regs.s - mid.cpu.regs.bosr → (what ≡ sought.Deepest → Deepens a (record { made = made; top = top }) b) → (what ≢ sought.Deepest → b ≡ a)
    → PassesBy what places from made (made + 1) start a b
passes_operator told what places from made start s mid new h came some up {k} y more one lasts off top a b is deep other =
    let longer : (after 1 s).turn ≡ s.turn + 1 = subst (λ (i : ℕ). (after i s).turn ≡ s.turn + i) one (turn_is told k s mid new h y more) in
    let g = going_next h.plan s some longer lasts in
    let high = running_heights h.storage mid.cpu h.plan s g.member g.task h.stands.session g.running in
    let there : IsNext (after made start) g.member g.task = subst (λ (z : Session). IsNext z g.member g.task) (sym came) g.next in
    let tall : top + 1 ≡ height g.task.frames = omega (arith, is, high.0) in
    passes_one what places from made start s a b came (λ later. off told s g.member g.task g.next h g.last g.running)
    (one_noted from made top start g.member g.task there tall up what a b deep other)

-- no count
pub passes_none : (what : Sought) (places : List CodePlace) (from at : ℕ) (start : Session) (a : Option Depth) → PassesBy what places from at at start a a
passes_none what places from at start a = record { none = λ j up on low is. omega (arith, on, low); noted = λ h. h }

-- counts below the first one that is looked at
pub passes_unseen : (what : Sought) (places : List CodePlace) (from at upto : ℕ) (start : Session) (a : Option Depth) → at ≤ upto → upto ≤ from → PassesBy what places from at upto start a a
passes_unseen what places from at upto start a on low = record { none = λ j up later less is. omega (arith, up, less, low); noted = none_further what from at upto start a low on }

-- operators of one turn, if a switch is sought
pub passes_switch : (places : List CodePlace) (from at more : ℕ) (start s : Session) (a : Option Depth) → after at start ≡ s → 1 ≤ s.turn → (after more s).turn ≡ s.turn + more → PassesBy sought.Switch places from at (at + more) start a a
passes_switch places from at more start s a came some all = record {
  none = λ j up on low is.
      let split : j ≡ at + (j - at) = omega (arith, on) in
      let there : after j start ≡ after (j - at) s = ap (λ (i : ℕ). after i start) split ∙ after-add at (j - at) start ∙ ap (after (j - at)) came in
      none_switches more places s some all (j - at) (omega (arith, on, low)) (subst (IsSought sought.Switch places) there is);
  noted = other_noted sought.Switch from at (at + more) start a switch_other;
}

-- where nothing is noted no count is
pub none_counted : (best : Option Depth) (found : Option ℕ) (n : ℕ) → best ≡ None → found ≡ option_map (λ (d : Depth). d.made) best → found ≡ Some n → ⊥
none_counted best found n none counted is = none-some n (sym (ap (option_map (λ (d : Depth). d.made)) none) ∙ sym counted ∙ is)
