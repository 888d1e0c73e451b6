-- A run that ends and prints lines of task 1 of job 1 alone never has two ready tasks.
use Rattle.std.proofs.Common.{◌≡◌, ◌≤◌, ◌<◌, ◌+◌, ◌-◌, ⊎_elim, inl, inr, ◌⊎◌, ℕ, List, ◌++◌, append-nil, length, sym, ap, subst, ◌∙◌, arith, Option, Some, None}
use Rattle.std.specs.Prelude.{IfSome}
use Rattle.std.specs.List.{AllByRecursion}
use Rattle.std.proofs.lemmas.Bool.{cases_lt}
use denote.Ref.{Bor}
use Rattle.b67_lemmas.specs.Lists.{Has}
use Rattle.b67_lemmas.proofs.Members.{has_append_right, all_in}
use Rattle.b67_model.specs.Common.{Line, RunLine, Session, lines, after, ready, live_tasks}
use Rattle.b67_session_lines.specs.Stops.{live_after}
use Rattle.b67_session_lines.proofs.Statuses.{after-add}
use Rattle.b67_job.specs.Device.{Device}
use Rattle.b67_job.specs.Runs.{run_of}
use Rattle.b67_promises.specs.Switches.{NeverTwoReady, AreOfOneTask}
use Rattle.b67_promises.proofs.Steps.{lines_add}
use Rattle.b67_promises.proofs.Calls.{Printed}
use Rattle.b67_promises.proofs.OneStack.{ready_live, none_later}
use Rattle.b67_promises.proofs.MoreCore.{WholeRun}
use Rattle.b67_promises.proofs.FirstLines.{IsFirst, all_first}
use Rattle.b67_promises.proofs.Lives.{Lives, Small, run_told, none_lives, one_lives}

-- after so many steps no task lives, and all their lines are of one task
record Over (s : Session) : Type 0 where
  steps : ℕ
  over : live_after steps s ≡ 0
  first : AllByRecursion IsFirst (lines steps s)

whole_first : (s : Session) (o : Over s) (j : ℕ) → j ≤ o.steps → (job n : ℕ) → Small job n → Lives (after j s) job n → (job ≡ 1) × (n ≡ 1)
whole_first s o j le job n small l =
    let left = o.steps - j in
    let sum : j + left ≡ o.steps = omega (arith, le) in
    let ends : after left (after j s) ≡ after o.steps s = sym (after-add j left s) ∙ ap (λ (k : ℕ). after k s) sum in
    let all : lines o.steps s ≡ lines j s ++ lines left (after j s) = ap (λ (k : ℕ). lines k s) (sym sum) ∙ lines_add j left s in
    by left ends all (run_told left (after j s) job n l)
  where
    by : (left : ℕ) → after left (after j s) ≡ after o.steps s → lines o.steps s ≡ lines j s ++ lines left (after j s)
        → Lives (after left (after j s)) job n ⊎ ((line : Line) × Has (lines left (after j s)) (job, n, line)) → (job ≡ 1) × (n ≡ 1)
    by left ends all (inl live) = absurd (none_lives (after left (after j s)) job n (ap (λ (t : Session). live_tasks t.jobs) ends ∙ o.over) live)
    by left ends all (inr told) =
        let among : Has (lines o.steps s) (job, n, told.0) = subst (λ (ls : List RunLine). Has ls (job, n, told.0)) (sym all) (has_append_right (lines j s) (lines left (after j s)) (job, n, told.0) told.1) in
        all_in IsFirst (lines o.steps s) (job, n, told.0) o.first among small.job_small small.task_small

module _ {S B : Type 0} {words : List (Bor (List ℕ))} {left : S → Option (List ℕ)} {deck deck' : S} {d : Device B} (w : WholeRun words left deck deck' d)
    (status : ℕ) (zero : status ≡ 0) (text : List ℕ) (printed : Printed (run_of w.p) None status text) (lone : AreOfOneTask text) where
  over_by : Printed (run_of w.p) None status text → Over (run_of w.p).session
  over_by h = grind (arith, append-nil, all_first)

  pub never_two : (steps : ℕ) → IfSome (run_of w.p).halt (λ count. steps ≤ count) → NeverTwoReady steps (run_of w.p).session
  never_two steps within j less = by_over (over_by printed)
    where
      upto : Over (run_of w.p).session → j < w.k.tasks.made → length (ready (after j (run_of w.p).session)) ≤ 1
      upto o before = ⊎_elim
          (λ (low : j < o.steps).
          let few = one_lives (after j (run_of w.p).session) (w.opens.in_order.ordered j (omega (arith, before))) (whole_first (run_of w.p).session o j (omega (arith, low))) in
          omega (arith, few, ready_live (after j (run_of w.p).session).jobs))
          (λ (past : o.steps ≤ j). none_later o.steps j (run_of w.p).session o.over past) (cases_lt j o.steps)

      by_last : (live_after w.k.tasks.made (run_of w.p).session ≡ 0) ⊎ ((run_of w.p).halt ≡ Some w.k.tasks.made) → w.k.tasks.made ≤ j → length (ready (after j (run_of w.p).session)) ≤ 1
      by_last (inl over) past = none_later w.k.tasks.made j (run_of w.p).session over past
      by_last (inr halt) past =
          let upto : steps ≤ w.k.tasks.made = subst (λ (o : Option ℕ). IfSome o (λ count. steps ≤ count)) halt within in
          absurd (omega (arith, upto, past, less))

      by_over : Over (run_of w.p).session → length (ready (after j (run_of w.p).session)) ≤ 1
      by_over o = ⊎_elim
          (λ (before : j < w.k.tasks.made). upto o before)
          (λ (past : w.k.tasks.made ≤ j). by_last w.last past) (cases_lt j w.k.tasks.made)
