-- The order of a session after the last part of a step.
use Rattle.std.proofs.Common.{◌≡◌, ◌≢◌, ℕ, ◌+◌, ◌≤◌, Bool, true, false, List, [], ◌∷◌, ◌++◌, length, Option, Some, None, refl, sym, ap, ◌∙◌, subst, inl, inr, arith}
use Rattle.std.specs.Prelude.{◌==◌, ◌&&◌}
use Rattle.std.specs.List.{AllByRecursion}
use Rattle.std.proofs.lemmas.Bool.Decides.{eqb_tells}
use Rattle.std.proofs.lemmas.Bool.{and_parts, eqb-true}
use Rattle.b67_word.specs.declared.faults.Ending.TheVariants.{Limit}
use Rattle.b67_model.specs.Keyed.{keyed, change_keyed}
use Rattle.b67_lemmas.specs.Lists.{Has}
use Rattle.b67_lemmas.proofs.Members.{all_in, all_from, keyed_has, length_change, total_change}
use Rattle.b67_lemmas.proofs.Keyed.{all_change, change_is}
use Rattle.b67_lemmas.proofs.Sums.{sum_total}
use Rattle.b67_model.specs.Common.{Task, JobProgress, SessionJob, Settled, ends_each_if, unsettled, Session, StepResult, number_of, IsSegment, JobInOrder, BelowLimit, NumberedFrom, IsInOrderButPlaces}
use Rattle.b67_law.proofs.Numbered.{numbered_change, numbered_low, keyed_member, made_of, tasks_of}
use Rattle.b67_session_lines.specs.Moments.{has_tasks, is_at_limit, last_part, last_part_by, last_part_if}
use Rattle.b67_law.specs.Orders.{JobInOrderButLimit, IsInOrderButLimit}
use Rattle.b67_law.specs.Turns.{OrderAfter, LastPartsRestoreOrder}
use Rattle.b67_law.proofs.Settled.{each_good, all_gone}
use Rattle.std.proofs.lemmas.Option.{none-some}

abbrev Good : SessionJob → Type 0
Good m = JobInOrder (IsSegment m.constants) m.constants m.progress

-- one below its limit is in order
job_good : (last : ℕ) (m : SessionJob) → JobInOrderButLimit last m → BelowLimit m.constants m.progress → Good m
job_good last m o below = record { unchanging = o.unchanging; tasks = o.tasks; counts = o.counts; below_limit = below }

-- a job that isn't at its limit with live tasks is below it
not_at : (m : SessionJob) → m.progress.made ≤ m.constants.limit → is_at_limit m ≡ false → BelowLimit m.constants m.progress
not_at m within none some = grind arith

module _ (h : Session) (o : IsInOrderButLimit h) where
  order : (m : SessionJob) → Has h.jobs m → JobInOrderButLimit h.last.job m
  order m inm = all_in (JobInOrderButLimit h.last.job) h.jobs m o.jobs inm

  -- ---- no last part

  whole_order : ((m : SessionJob) → Has h.jobs m → BelowLimit m.constants m.progress) → IsInOrderButPlaces h
  whole_order below = record {
    few = o.few;
    numbered = o.numbered;
    one_size = o.one_size;
    jobs = all_from Good h.jobs (λ m inm. job_good h.last.job m (order m inm) (below m inm));
    switches = o.switches;
    peak_low = o.peak_low;
    peak_high = o.peak_high;
    counted = o.counted;
    turn = o.turn;
  }

  -- every job but the last one is below, and the last one if it isn't at its limit
  below_by : (m : SessionJob) → Has h.jobs m → (m.constants.number ≡ h.last.job → is_at_limit m ≡ false) → BelowLimit m.constants m.progress
  below_by m inm own = grind (arith, order)

  found_of : (m : SessionJob) → Has h.jobs m → m.constants.number ≡ h.last.job → keyed number_of h.last.job h.jobs ≡ Some m
  found_of m inm e = subst (λ (n : ℕ). keyed number_of n h.jobs ≡ Some m) e (keyed_member 1 h.jobs m o.numbered inm)

  -- ---- the last part of a job's step

  module _ (m : SessionJob) (found : keyed number_of h.last.job h.jobs ≡ Some m) where
    named : Has h.jobs m × (m.constants.number ≡ h.last.job)
    named = keyed_has number_of h.last.job h.jobs m found

    own : JobInOrderButLimit h.last.job m
    own = order m named.0

    abbrev ended : Settled
    ended = ends_each_if true Limit (unsettled m.progress.job)

    none : ended.job.tasks ≡ []
    none = all_gone (IsSegment m.constants) m.constants (unsettled m.progress.job) Limit own.tasks

    abbrev progress : JobProgress
    progress = record m.progress { job = ended.job; ended = m.progress.ended ++ ended.endings }

    abbrev new : SessionJob
    new = record m { progress = progress }

    new_good : Good new
    new_good = record {
      unchanging = own.unchanging;
      tasks = each_good (IsSegment m.constants) m.constants true Limit (unsettled m.progress.job) own.tasks;
      counts = record { next = own.counts.next; within = own.counts.within; goes_on = λ some. absurd (some none) };
      below_limit = λ some. absurd (some none);
    }

    -- the jobs with that one changed
    all_others : (k : ℕ) (jobs : List SessionJob) → NumberedFrom k jobs → ((y : SessionJob) → Has jobs y → y.constants.number ≢ h.last.job → Good y) → AllByRecursion Good (change_keyed number_of h.last.job (λ (y : SessionJob). new) jobs)
    all_others k [] numbered each = tt
    all_others k (y ∷ ys) numbered each = elim (eqb_tells (number_of y) h.last.job) [
      | inl e ↦ rw e.0 (new_good, all_from Good ys (λ z inz. each z (inr inz) (λ same. absurd (omega (arith, numbered_low (k + 1) ys z numbered.1 inz, numbered.0, e.1, same)))))
      | inr e ↦ rw e.0 (each y (inl refl) e.1, all_others (k + 1) ys numbered.1 (λ z inz. each z (inr inz)))
    ]

    abbrev with_jobs : List SessionJob → Session
    with_jobs jobs = record h { jobs = jobs }

    fewer : tasks_of new ≡ 0
    fewer = ap (λ (ts : List Task). length ts) none

    after_good : IsInOrderButPlaces (with_jobs (change_keyed number_of h.last.job (λ (y : SessionJob). new) h.jobs))
    after_good =
        let jobs = change_keyed number_of h.last.job (λ (y : SessionJob). new) h.jobs in
        let tasks = total_change number_of tasks_of h.last.job m new h.jobs found in
        let counts = total_change number_of made_of h.last.job m new h.jobs found in
        let x = sum_total tasks_of h.jobs in
        let y = sum_total tasks_of jobs in
        let before = sum_total made_of h.jobs in
        let behind = sum_total made_of jobs in
        record {
          few = omega (arith, length_change number_of h.last.job new h.jobs, o.few);
          numbered = numbered_change 1 h.last.job new h.jobs o.numbered named.1;
          one_size = (o.one_size.0, all_change (λ (k : SessionJob). k.constants.stack_size ≡ o.one_size.0) number_of h.last.job new h.jobs o.one_size.1 (all_in (λ (k : SessionJob). k.constants.stack_size ≡ o.one_size.0) h.jobs m o.one_size.1 named.0));
          jobs = all_others 1 h.jobs o.numbered (λ y iny other. job_good h.last.job y (order y iny) ((order y iny).below_limit other));
          switches = o.switches;
          peak_low = omega (arith, tasks, x, y, fewer, o.peak_low);
          peak_high = o.peak_high;
          counted = omega (arith, counts, before, behind, o.counted);
          turn = o.turn;
        }

    abbrev put : SessionJob → SessionJob
    put y = record y { progress = record y.progress { job = ended.job; ended = y.progress.ended ++ ended.endings } }

    part_good : IsInOrderButPlaces (with_jobs (change_keyed number_of m.constants.number put h.jobs))
    part_good =
        let P : List SessionJob → Type 0 = λ js. IsInOrderButPlaces (with_jobs js) in
        subst P (ap (λ (n : ℕ). change_keyed number_of n put h.jobs) (sym named.1)) (subst P (sym (change_is number_of h.last.job put m h.jobs found)) after_good)

    by_test : (b : Bool) → is_at_limit m ≡ b → OrderAfter h (last_part_if b h m)
    by_test true e = part_good
    by_test false e = whole_order (λ y iny. below_by y iny (λ same.
        let one : Some y ≡ Some m = sym (found_of y iny same) ∙ found in
        let is : y ≡ m = cc in
        subst (λ (z : SessionJob). is_at_limit z ≡ false) (sym is) e))

  by_member : (x : Option SessionJob) → keyed number_of h.last.job h.jobs ≡ x → OrderAfter h (last_part_by h x)
  by_member None e = whole_order (λ y iny. below_by y iny (λ same. let one : Some y ≡ None = sym (found_of y iny same) ∙ e in absurd cc))
  by_member (Some m) e = by_test m e (is_at_limit m) refl

  restored : OrderAfter h (last_part h)
  unfolding last_part
  restored = by_member (keyed number_of h.last.job h.jobs) refl

pub last_parts_restore_order : LastPartsRestoreOrder
last_parts_restore_order h o = restored h o

-- ---- who ends in the last part

-- the job whose tasks end in it
pub record LimitOf (h : Session) (part : StepResult) : Type 0 where
  pub member : SessionJob
  pub found : keyed number_of h.last.job h.jobs ≡ Some member
  pub lives : member.progress.job.tasks ≢ []
  pub full : is_at_limit member ≡ true
  pub is : last_part_if true h member ≡ Some part

lives_by : (a : Bool) (ts : List Task) → (a && has_tasks ts) ≡ true → ts ≢ []
lives_by a ts e = grind arith

module _ (h : Session) (part : StepResult) where
  limit_if : (m : SessionJob) → keyed number_of h.last.job h.jobs ≡ Some m → (b : Bool) → is_at_limit m ≡ b → last_part_if b h m ≡ Some part → LimitOf h part
  limit_if m found true at is = record { member = m; found = found; lives = lives_by (m.progress.made == m.constants.limit) m.progress.job.tasks at; full = at; is = is }
  limit_if m found false at is = absurd (none-some part is)

  limit_by : (o : Option SessionJob) → keyed number_of h.last.job h.jobs ≡ o → last_part_by h o ≡ Some part → LimitOf h part
  limit_by None e is = absurd (none-some part is)
  limit_by (Some m) e is = limit_if m e (is_at_limit m) refl is

  pub limit_of : last_part h ≡ Some part → LimitOf h part
  unfolding last_part
  limit_of is = limit_by (keyed number_of h.last.job h.jobs) refl is

-- a session in order has no last part
pub no_last : (s : Session) → IsInOrderButPlaces s → last_part s ≡ None
no_last s o = by (last_part s) refl
  where
    by : (x : Option StepResult) → last_part s ≡ x → last_part s ≡ None
    by None e = e
    by (Some part) e =
        let l = limit_of s part e in
        let j = all_in Good s.jobs l.member o.jobs (keyed_has number_of s.last.job s.jobs l.member l.found).0 in
        let made : l.member.progress.made ≡ l.member.constants.limit = eqb-true l.member.progress.made l.member.constants.limit (and_parts (l.member.progress.made == l.member.constants.limit) (has_tasks l.member.progress.job.tasks) l.full).0 in
        absurd (omega (arith, made, j.below_limit l.lives))
