-- The opening state is in order.
use Rattle.std.proofs.Common.{◌≡◌, ℕ, ◌+◌, ◌^◌, ◌<◌, ◌≤◌, eqb, List, [], ◌∷◌, length, None, refl, sym, subst, inl, inr, arith, lit<, lit≤}
use Rattle.std.specs.List.{AllByRecursion, sum_by}
use Rattle.std.proofs.lemmas.List.Sums.{sum_by-cons}
use Rattle.std.proofs.lemmas.Bool.{cases_Bool}
use Rattle.b67_model.specs.Common.{Entered, Array, Task, Ready, Segment, SessionJob, opened, IsAdmitted, origin, SegmentInOrder, SettingInOrder, IsStart, TaskInOrder, TasksInOrder, CountsInOrder, JobInOrder, NumberedFrom, originals_of, frames_in_job}
use Rattle.b67_law.specs.Opening.{Opening, OpeningWithin, opened_from, OpensInOrder}
use Rattle.b67_law.proofs.OpenedRows.{dictionary_words, entries_count, arrays_good, names_fall, one_original, each_once, entries_good}
use Rattle.b67_law.proofs.First.{first_stands}
use Rattle.b67_model.specs.declared.limits.TheConstants.{LEAST_STACK}

abbrev first_task : Task
first_task = record {
  number = 1;
  parents = [];
  critical = 0;
  frames = record { identity = 2; standing = Entered 2 1 None; cells = [] } ∷ [];
  segment = 1;
  place = origin;
  condition = Ready;
}

-- an opening of a job whose program has a first segment
setting_good : (number stack : ℕ) (o : Opening) → LEAST_STACK ≤ stack → stack < 2 ^ 14 → OpeningWithin o → SettingInOrder (opened number o.program stack o.limit o.numbers).constants
setting_good number stack o low high within = grind (arith, entries_count, dictionary_words)

-- the first operator of an admitted program
starts : (number stack : ℕ) (o : Opening) → OpeningWithin o → IsStart (opened number o.program stack o.limit o.numbers).constants 1 2 origin
starts number stack o within = by_segments o.program.segments refl
  where
    rows : List (List ℕ)
    rows = o.program.rows

    by_segments : (segments : List Segment) → o.program.segments ≡ segments → IsStart (opened number o.program stack o.limit o.numbers).constants 1 2 origin
    by_segments [] is =
        let none : IsAdmitted (record { segments = []; rows = rows }) = subst (λ segs. IsAdmitted (record { segments = segs; rows = rows })) is within.admitted in absurd cc
    by_segments (s ∷ more) is =
        let admitted : IsAdmitted (record { segments = s ∷ more; rows = rows }) = subst (λ segs. IsAdmitted (record { segments = segs; rows = rows })) is within.admitted in
        let good : AllByRecursion SegmentInOrder (s ∷ more) = subst (λ segs. AllByRecursion SegmentInOrder segs) is within.segments in
        let first = first_stands s more rows good.0.length_low admitted in
        record { from_one = lit< tt; code = s; found = rw is refl; of_level = first.level; op = first.op; stands = first.stands }

task_good : (number stack : ℕ) (o : Opening) → LEAST_STACK ≤ stack → OpeningWithin o →
    let m = opened number o.program stack o.limit o.numbers in TaskInOrder (IsStart m.constants) m.constants m.progress.job first_task
task_good number stack o low within = record {
  frames = ((tt, tt), record { low = lit≤ tt; high = lit≤ tt; standing = Entered 1 0 None; among = inl refl; entered = tt; level_below = refl }, tt);
  returns = (refl, tt);
  some = λ e. cc;
  falls = (lit< tt, (lit< tt, (lit< tt, tt)));
  not_higher = omega (arith, low);
  place = starts number stack o within;
  birth = (refl, refl);
  condition = tt;
}

one_frame : (identity : ℕ) → frames_in_job identity (record { arrays = []; tasks = first_task ∷ []; numbers = []; next_task = 2; next_frame = 3; next_array = 1 }) ≤ 1
one_frame identity = grind arith

once_good : (number stack : ℕ) (o : Opening) → let m = opened number o.program stack o.limit o.numbers in
    AllByRecursion (λ (a : Array). originals_of a.identity m.constants m.progress.job ≡ 1) m.progress.job.arrays
once_good number stack o =
    let m = opened number o.program stack o.limit o.numbers in
    each_once (λ (a : Array). originals_of a.identity m.constants m.progress.job ≡ 1) o.program.rows
    (λ a low high. omega (arith, one_original a.identity o.program.segments o.program.rows low high))

tasks_good : (number stack : ℕ) (o : Opening) → LEAST_STACK ≤ stack → OpeningWithin o →
    let m = opened number o.program stack o.limit o.numbers in TasksInOrder (IsStart m.constants) m.constants m.progress.job
tasks_good number stack o low within = record {
  tasks = (task_good number stack o low within, tt);
  apart = λ identity. one_frame identity;
  arrays = arrays_good o.program.rows within.rows;
  once = once_good number stack o;
  entries = entries_good o.program.segments o.program.rows;
  numbers = (lit< tt, tt);
  names = names_fall o.program.rows;
  few = lit≤ tt;
  reads = within.numbers;
}

counts_good : (number stack : ℕ) (o : Opening) → OpeningWithin o → let m = opened number o.program stack o.limit o.numbers in CountsInOrder m.constants m.progress
counts_good number stack o within = record {
  next = lit≤ tt;
  within = omega arith;
  goes_on = λ some. (first_task, inl refl, refl);
}

job_good : (number stack : ℕ) (o : Opening) → LEAST_STACK ≤ stack → stack < 2 ^ 14 → OpeningWithin o →
    let m = opened number o.program stack o.limit o.numbers in JobInOrder (IsStart m.constants) m.constants m.progress
job_good number stack o low high within = record {
  unchanging = setting_good number stack o low high within;
  tasks = tasks_good number stack o low within;
  counts = counts_good number stack o within;
  below_limit = λ some. within.limit_low;
}

jobs_good : (number stack : ℕ) (openings : List Opening) → LEAST_STACK ≤ stack → stack < 2 ^ 14 → AllByRecursion OpeningWithin openings →
    AllByRecursion (λ (m : SessionJob). JobInOrder (IsStart m.constants) m.constants m.progress) (opened_from number stack openings)
jobs_good number stack [] low high each = tt
jobs_good number stack (o ∷ more) low high each = (job_good number stack o low high each.0, jobs_good (number + 1) stack more low high each.1)

numbered : (number stack : ℕ) (openings : List Opening) → NumberedFrom number (opened_from number stack openings)
numbered number stack [] = tt
numbered number stack (o ∷ more) = (refl, numbered (number + 1) stack more)

of_one_size : (number stack : ℕ) (openings : List Opening) → AllByRecursion (λ (m : SessionJob). m.constants.stack_size ≡ stack) (opened_from number stack openings)
of_one_size number stack [] = tt
of_one_size number stack (o ∷ more) = (refl, of_one_size (number + 1) stack more)

pub jobs_count : (number stack : ℕ) (openings : List Opening) → length (opened_from number stack openings) ≡ length openings
jobs_count number stack [] = refl
jobs_count number stack (o ∷ more) = omega (arith, jobs_count (number + 1) stack more)

tasks_count : (number stack : ℕ) (openings : List Opening) → sum_by (λ (m : SessionJob). length m.progress.job.tasks) (opened_from number stack openings) ≡ length openings
tasks_count number stack [] = refl
tasks_count number stack (o ∷ more) =
    let split = sum_by-cons (λ (m : SessionJob). length m.progress.job.tasks) (opened number o.program stack o.limit o.numbers) (opened_from (number + 1) stack more) in
    omega (arith, split, tasks_count (number + 1) stack more)

made_none : (number stack : ℕ) (openings : List Opening) → sum_by (λ (m : SessionJob). m.progress.made) (opened_from number stack openings) ≡ 0
made_none number stack [] = refl
made_none number stack (o ∷ more) = omega (arith, made_none (number + 1) stack more)

pub opens_in_order : OpensInOrder
opens_in_order stack quantum switches openings within = record {
  few = omega (arith, jobs_count 1 stack openings, within.few);
  numbered = numbered 1 stack openings;
  one_size = (stack, of_one_size 1 stack openings);
  jobs = jobs_good 1 stack openings within.stack_low within.stack_high within.each;
  switches = within.rise;
  peak_low = omega (arith, tasks_count 1 stack openings, jobs_count 1 stack openings);
  peak_high = omega (arith, jobs_count 1 stack openings, within.few);
  counted = sym (made_none 1 stack openings);
  turn = lit≤ tt;
}
