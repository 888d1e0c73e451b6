-- A run that is whole in a core that holds one stack never has two ready tasks.
use Rattle.std.proofs.Common.{◌≡◌, ◌≤◌, ◌<◌, ◌*◌, ⊎_elim, inl, inr, ◌⊎◌, ℕ, List, [], ◌∷◌, length, reverse, filter, refl, subst, arith, cond, Option, Some, None}
use Rattle.std.specs.Prelude.{IfSome, nat_lt, flat_map, option_map}
use Rattle.std.proofs.lemmas.Bool.{cases_lt}
use Rattle.std.proofs.lemmas.List.{length-map, length-append, length-reverse}
use Rattle.std.proofs.lemmas.List.Sums.{sum_by-cons}
use Rattle.std.proofs.lemmas.Option.{same_Some, none-some}
use Rattle.b67_lemmas.specs.Lists.{Has}
use Rattle.b67_lemmas.proofs.Members.{all_in, keyed_has, length_filter}
use Rattle.b67_model.specs.Keyed.{keyed}
use Rattle.b67_model.specs.Common.{need, need_of_job, need_by, need_next, Task, SessionJob, Session, Who, Choice, choice, after, live_tasks, number_of, ready, ready_of, is_ready, IsInOrder}
use Rattle.b67_model.specs.Common.{NextFits}
use Rattle.b67_session_lines.specs.Stops.{live_after}
use Rattle.b67_job.specs.Device.{Device, DeviceTells}
use Rattle.b67_job.specs.Runs.{run_of}
use Rattle.b67_promises.specs.Switches.{NeverTwoReady, HoldsOneStack}
use Rattle.b67_promises.proofs.Steps.{over_after}
use Rattle.b67_promises.proofs.MoreCore.{WholeRun}
use denote.Ref.{Bor}
use Rattle.b67_model.specs.declared.limits.TheConstants.{LEAST_STACK}

-- ---- no more tasks are ready than live

few_ready : (m : SessionJob) → length (ready_of m) ≤ length m.progress.job.tasks
few_ready m = omega (arith, length-map {B = Who} (filter is_ready (reverse m.progress.job.tasks)) (λ (t : Task). record { job = m.constants.number; task = t.number }), length_filter is_ready (reverse m.progress.job.tasks), length-reverse m.progress.job.tasks)

pub ready_live : (jobs : List SessionJob) → length (flat_map ready_of jobs) ≤ live_tasks jobs
ready_live [] = omega arith
ready_live (m ∷ jobs) = omega (arith, length-append (ready_of m) (flat_map ready_of jobs), few_ready m, ready_live jobs, sum_by-cons (λ (n : SessionJob). length n.progress.job.tasks) m jobs)

-- ---- what the next step needs

-- the job and the task of the next step, with what it needs
record Next (core words : ℕ) (s : Session) : Type 0 where
  pub member : SessionJob
  pub task : Task
  pub among : Has s.jobs member
  pub needs : need core s member task ≡ words

next_of : (core words : ℕ) (s : Session) → need_next core s ≡ Some words → Next core words s
next_of core words s e = by_choice (choice s) e
  where
    by_found : (m : SessionJob) → Has s.jobs m → (o : Option Task) → option_map (need core s m) o ≡ Some words → Next core words s
    by_found m h None e = absurd (none-some words e)
    by_found m h (Some t) e = record { member = m; task = t; among = h; needs = same_Some (need core s m t) words e }

    by_member : (c : Choice) (o : Option SessionJob) → keyed number_of c.who.job s.jobs ≡ o → need_of_job core s c.who.task o ≡ Some words → Next core words s
    by_member c None k e = absurd (none-some words e)
    by_member c (Some m) k e = by_found m (keyed_has number_of c.who.job s.jobs m k).0 (keyed (λ (t : Task). t.number) c.who.task m.progress.job.tasks) e

    by_choice : (o : Option Choice) → need_by core s o ≡ Some words → Next core words s
    by_choice None e = absurd (none-some words e)
    by_choice (Some c) e = by_member c (keyed number_of c.who.job s.jobs) refl e

-- in either case the stacks that there have been have room
fits_base : (core base full : ℕ) → cond (nat_lt core base) base full ≤ core → base ≤ core
fits_base core base full fits = grind arith

one_of : (peak stack : ℕ) → LEAST_STACK ≤ stack → peak * stack < 2 * LEAST_STACK → peak ≤ 1
one_of peak stack low few = grind arith

-- a session whose next step fits such a core
one_task : (core : ℕ) (s : Session) → HoldsOneStack core → IsInOrder s → NextFits core s → length (ready s) ≤ 1
one_task core s small order fits =
    let n = next_of core fits.words s fits.needs in
    grind (arith, all_in, fits_base, one_of, ready_live)

-- ---- a whole run

pub none_later : (made j : ℕ) (first : Session) → live_after made first ≡ 0 → made ≤ j → length (ready (after j first)) ≤ 1
none_later made j first over le = grind (arith, over_after, ready_live)

module _ {S B : Type 0} {words : List (Bor (List ℕ))} {left : S → Option (List ℕ)} {deck deck' : S} {d : Device B} (tells : DeviceTells d) (w : WholeRun words left deck deck' d) (small : HoldsOneStack w.core) where
  pub never_two : (steps : ℕ) → IfSome (run_of w.p).halt (λ count. steps ≤ count) → NeverTwoReady steps (run_of w.p).session
  never_two steps within j less = ⊎_elim
      (λ (before : j < w.k.tasks.made). one_task w.core (after j (run_of w.p).session) small (w.opens.in_order.ordered j (omega (arith, before))) (w.opens.fitted tells j before))
      (λ (past : w.k.tasks.made ≤ j). by_last w.last past) (cases_lt j w.k.tasks.made)
    where
      by_last : (live_after w.k.tasks.made (run_of w.p).session ≡ 0) ⊎ ((run_of w.p).halt ≡ Some w.k.tasks.made) → w.k.tasks.made ≤ j → length (ready (after j (run_of w.p).session)) ≤ 1
      by_last (inl over) past = none_later w.k.tasks.made j (run_of w.p).session over past
      by_last (inr halt) past =
          let upto : steps ≤ w.k.tasks.made = subst (λ (o : Option ℕ). IfSome o (λ count. steps ≤ count)) halt within in
          absurd (omega (arith, upto, past, less))
