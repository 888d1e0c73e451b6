-- A slice that begins with the lines of LIMIT.
use Rattle.std.proofs.Common.{◌≡◌, ◌≢◌, ℕ, Bool, true, false, List, [], ◌∷◌, Option, Ok, Err, refl, ap, subst, inl, inr, ◌⊎◌, arith}
use Rattle.std.specs.Option.{option_or}
use Rattle.b67_word.specs.declared.faults.Failed.{Failed}
use Rattle.b67_lemmas.specs.Lists.{Has}
use Rattle.b67_lemmas.proofs.Members.{keyed_has}
use Rattle.b67_model.specs.Common.{Task, SessionJob, run_text, StepResult, number_of, Session, IsInOrderButPlaces}
use Rattle.b67_session_lines.specs.Moments.{first_part, text_of, due}
use Rattle.b67_law.specs.Turns.{IsNext, OrderAfter}
use Rattle.b67_law.proofs.Limits.{limit_of, no_last, last_parts_restore_order}
use Rattle.b67_layout.specs.Placement.{Placement}
use Rattle.b67_session.specs.AttemptStops as stops
use Rattle.b67_task.specs.declared.tables.Machine.{Machine}
use Rattle.b67_task.specs.Tables.{TasksShow}
use Rattle.b67_session.specs.Ends.{LimitEnds, HasLimited}
use Rattle.b67_session.specs.Slices.{StandsAt, StandsSome, IsLimited, IsOpen, LivesOn, StandsLimited, HasNoTasks, RepresentsWithoutTasks, Prints, IsCutAgain}
use Rattle.b67_session.proofs.AtLimits.{TellsLimit, tells_limit}
use Rattle.b67_session.proofs.Next.{in_session, in_job}
use Rattle.b67_session.proofs.Printing.{prints_rest}
use Rattle.b67_session.proofs.Rows.{no_row}

pub stands_not : (told : Option (List (List ℕ))) (k : Machine) (s : Session) {at : Bool} → StandsAt told k s → TellsLimit k.tasks at → at ≡ true → ⊥
stands_not told k s h tells is = grind (arith, no_last)

pub limited_not : (told : Option (List (List ℕ))) (k : Machine) (h : Session) (part : StepResult) {at : Bool} → IsLimited told k h part → TellsLimit k.tasks at → at ≡ false → ⊥
limited_not told k h part l tells is = grind arith

-- no machine is both before a step and between the parts of one
pub limited_stands : (told told' : Option (List (List ℕ))) (k : Machine) (s h : Session) (part : StepResult) → StandsAt told k s → IsLimited told' k h part → ⊥
limited_stands told told' k s h part stands l = let x = tells_limit k.tasks in by x.0 x.1
  where
    by : (due : Bool) → TellsLimit k.tasks due → ⊥
    by true tells = stands_not told k s stands tells refl
    by false tells = limited_not told' k h part l tells refl

pub rests_not : (told : Option (List (List ℕ))) (k : Machine) (s : Session) → RepresentsWithoutTasks told k s → k.tasks.rows.items ≢ [] → ⊥
rests_not told k s r some = some (no_row told k s r)

some_item : (ts : List Task) → ts ≢ [] → (t : Task) × Has ts t
some_item [] some = absurd (some refl)
some_item (t ∷ ts) some = (t, inl refl)

-- a live task has a row
has_row : (told : Option (List (List ℕ))) (k : Machine) (s : Session) (plan : Placement) (m : SessionJob) (t : Task) → TasksShow plan s k.tasks → Has s.jobs m → Has m.progress.job.tasks t → k.tasks.rows.items ≡ [] → ⊥
has_row told k s plan m t shows inm int none = grind arith

pub next_row : (told : Option (List (List ℕ))) (k : Machine) (s : Session) (m : SessionJob) (t : Task) → StandsAt told k s → IsNext s m t → k.tasks.rows.items ≡ [] → ⊥
next_row told k s m t h n none = has_row told k s h.plan m t h.stands.tables (in_session s m t n) (in_job s m t n) none

pub limited_row : (told : Option (List (List ℕ))) (k : Machine) (h : Session) (part : StepResult) → IsLimited told k h part → k.tasks.rows.items ≡ [] → ⊥
limited_row told k h part l none =
    let q = limit_of h part l.is in
    let inm = (keyed_has number_of h.last.job h.jobs q.member q.found).0 in
    let (u, int) = some_item q.member.progress.job.tasks q.lives in
    has_row told k h l.plan q.member u l.stands.tables inm int none

-- a slice begins with a step, if any
pub open_stands : (told : Option (List (List ℕ))) (k : Machine) {at : Bool} → IsOpen told k → k.tasks.rows.items ≢ [] → TellsLimit k.tasks at → at ≡ false → StandsSome told k
open_stands told k {at} o some tells is = by o.stage where
  by : LivesOn told k ⊎ (StandsLimited told k ⊎ HasNoTasks told k) → StandsSome told k
  by (inl l) = l.some
  by (inr (inl l)) = absurd (limited_not l.said k l.session l.part l.limited tells is)
  by (inr (inr r)) = absurd (rests_not r.said k r.session r.rests some)

-- or with the lines of LIMIT
pub open_limited : (told : Option (List (List ℕ))) (k : Machine) {at : Bool} → IsOpen told k → k.tasks.rows.items ≢ [] → TellsLimit k.tasks at → at ≡ true → StandsLimited told k
open_limited told k {at} o some tells is = by o.stage where
  by : LivesOn told k ⊎ (StandsLimited told k ⊎ HasNoTasks told k) → StandsLimited told k
  by (inl l) = absurd (stands_not l.some.said k l.some.session l.some.stands tells is)
  by (inr (inl l)) = l
  by (inr (inr r)) = absurd (rests_not r.said k r.session r.rests some)

pub has_limited : (told : Option (List (List ℕ))) (k : Machine) → StandsLimited told k → HasLimited k
has_limited told k l = record {
  between = record { storage = l.limited.storage; told = l.said; plan = l.limited.plan; session = l.session; ordered = l.limited.ordered; stands = l.limited.stands };
  part = l.part;
  is_due = l.limited.is;
}

module _ (told : Option (List (List ℕ))) (h : Session) (part : StepResult) (old : Machine) (l : IsLimited told old h part) where
  pub due_is : due h ≡ run_text part.lines
  due_is = ap (λ (o : Option StepResult). text_of (option_or o (first_part h))) l.is

  order : IsInOrderButPlaces part.session
  order = subst (OrderAfter h) l.is (last_parts_restore_order h l.ordered)

  module _ {K : Type 0} (taken : K → Option (List ℕ)) (new : Machine) (paper paper' : K) where
    pub over_stands : LimitEnds taken l.storage told l.plan h part (Ok tt) old new paper paper' → StandsAt told new part.session
    over_stands (text, none, stands) = let w = stands.whole in record { storage = w.storage; plan = w.plan; ordered = order; stands = w.stands }

    pub over_prints : LimitEnds taken l.storage told l.plan h part (Ok tt) old new paper paper' → Prints taken paper paper' (due h) old.tasks.printed part.lines [] 0
    over_prints (text, none, stands) = prints_rest taken paper paper' (run_text part.lines) (due h) [] old.tasks.printed 0 part.lines due_is refl refl text

    module _ (failed : Failed) where
      pub cut_again : {D : Type 0} (device : D) → LimitEnds taken l.storage told l.plan h part (Err failed) old new paper paper' → IsCutAgain taken h (Err stops.PrintFault) old new device device paper paper'
      cut_again device (text, only) = grind arith

      pub cut_limited : LimitEnds taken l.storage told l.plan h part (Err failed) old new paper paper' → IsLimited told new h part
      cut_limited (text, only) = grind arith
