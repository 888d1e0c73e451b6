-- The chosen task is a ready task of its job.
use Rattle.std.proofs.Common.{◌≡◌, ℕ, ◌+◌, ◌≤◌, Bool, true, false, not, eqb, List, [], ◌∷◌, ◌++◌, filter, reverse, Option, Some, None, refl, sym, ap, ◌∙◌, subst, inl, inr, ◌⊎◌, arith}
use Rattle.std.specs.List.{find, list_any}
use Rattle.std.proofs.lemmas.Bool.{cases_Bool, true≢false, eqb-true, and_parts}
use Rattle.std.proofs.lemmas.Bool.Decides.{eqb_tells}
use Rattle.b67_model.specs.Keyed.{keyed}
use Rattle.b67_lemmas.specs.Lists.{Has}
use Rattle.b67_lemmas.proofs.Members.{any_has, has_append_cases, has_filter, has_flat_back, has_map_back, has_reverse_back}
use Rattle.b67_model.specs.Common.{Ready, Task, SessionJob, is_ready, Who, Session, Choice, is_same, is_before, ready_of, ready, afresh, switched, first, next_after, choice_by, choice, number_of, NumberedFrom}
use Rattle.b67_model.specs.Schedule.{goes_on}

find_has : {A : Type 0} (test : A → Bool) (xs : List A) (x : A) → find test xs ≡ Some x → Has xs x
find_has test [] x e = cc
find_has test (y ∷ ys) x e = grind (arith, find_has test ys x)

first_has : (xs : List Who) (x : Who) → first xs ≡ Some x → Has xs x
first_has xs x e = grind arith

-- a ready task of a job, by their numbers
pub record IsReady (s : Session) (job number : ℕ) : Type 0 where
  pub member : SessionJob
  pub among : Has s.jobs member
  pub named : number_of member ≡ job
  pub task : Task
  pub lives : Has member.progress.job.tasks task
  pub numbered : task.number ≡ number
  pub ready : task.condition ≡ Ready

of_ready : (s : Session) (who : Who) → Has (ready s) who → IsReady s who.job who.task
of_ready s who h = grind (arith, has_flat_back, has_map_back, has_filter, has_reverse_back)

-- the chosen task, and how long its turn may have lasted
pub record IsChosen (s : Session) (c : Choice) : Type 0 where
  pub who : IsReady s c.who.job c.who.task
  pub turn : (c.turn ≡ 0) ⊎ (c.turn ≡ s.turn)

by_afresh : (s : Session) (o : Option Who) (c : Choice) → ((w : Who) → o ≡ Some w → Has (ready s) w) → afresh o ≡ Some c → IsChosen s c
by_afresh s o c each e = grind (arith, of_ready)

last_ready : (s : Session) → goes_on s ≡ true → IsReady s s.last.job s.last.task
last_ready s e = grind (arith, any_has, of_ready)

next_has : (s : Session) (w : Who) → next_after s ≡ Some w → Has (ready s) w
next_has s w e =
    let all = first_has (filter (is_before s.last) (ready s) ++ filter (λ who. not (is_before s.last who)) (ready s)) w e in
    elim (has_append_cases (filter (is_before s.last) (ready s)) (filter (λ who. not (is_before s.last who)) (ready s)) w all) [
      | inl a ↦ (has_filter (is_before s.last) (ready s) w a).0
      | inr b ↦ (has_filter (λ who. not (is_before s.last who)) (ready s) w b).0
    ]

by_rules : (s : Session) (c : Choice) (o : Option Who) (on : Bool) → switched s ≡ o → goes_on s ≡ on → choice_by s o on ≡ Some c → IsChosen s c
by_rules s c (Some w) on found goes e =
    by_afresh s (Some w) c (λ v f. let same : w ≡ v = cc in subst (λ x. Has (ready s) x) same (find_has _ (ready s) w found)) e
by_rules s c None true found goes e = grind (arith, last_ready)
by_rules s c None false found goes e = by_afresh s (next_after s) c (λ w f. next_has s w f) e

pub chosen : (s : Session) (c : Choice) → choice s ≡ Some c → IsChosen s c
chosen s c e = by_rules s c (switched s) (goes_on s) refl refl e

-- jobs are found by their numbers
numbered_low : (k : ℕ) (jobs : List SessionJob) (m : SessionJob) → NumberedFrom k jobs → Has jobs m → k ≤ number_of m
numbered_low k [] m n h = absurd h
numbered_low k (x ∷ jobs) m n h = grind (arith, numbered_low (k + 1) jobs m n.1)

pub keyed_numbered : (k : ℕ) (jobs : List SessionJob) (m : SessionJob) → NumberedFrom k jobs → Has jobs m → keyed number_of (number_of m) jobs ≡ Some m
keyed_numbered k [] m n h = absurd h
keyed_numbered k (x ∷ jobs) m n h = grind (arith, numbered_low, keyed_numbered (k + 1) jobs m n.1)
