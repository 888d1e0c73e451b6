-- The order of a session after the first part of a step.
use Rattle.std.proofs.Common.{◌≡◌, ◌≢◌, ℕ, ◌+◌, ◌-◌, ◌<◌, ◌≤◌, max, List, [], ◌∷◌, length, sym, subst, ◌⊎◌, arith}
use Rattle.std.specs.List.{AllByRecursion, sum_by}
use Rattle.b67_model.specs.Keyed.{change_keyed}
use Rattle.b67_lemmas.specs.Lists.{Has}
use Rattle.b67_lemmas.proofs.Members.{all_in, keyed_has, length_change, total_change, total_has}
use Rattle.b67_lemmas.proofs.Keyed.{all_change, change_is}
use Rattle.b67_lemmas.proofs.Sums.{sum_total}
use Rattle.b67_model.specs.Common.{Task, SessionJob, JobMoment, moment_with, Session, Choice, number_of, IsSegment, JobInOrder}
use Rattle.b67_law.proofs.Chosen.{chosen}
use Rattle.b67_law.proofs.Totals.{others_fifteen, peak_low_of, peak_high_of}
use Rattle.b67_law.proofs.Numbered.{numbered_change, made_of, tasks_of}
use Rattle.b67_law.specs.Orders.{JobInOrderButLimit, IsInOrderButLimit}
use Rattle.b67_law.specs.Turns.{FirstPartsKeepOrder}

abbrev Good : SessionJob → Type 0
Good m = JobInOrder (IsSegment m.constants) m.constants m.progress

-- a job in order has this order
pub job_but_limit : (last : ℕ) (m : SessionJob) → Good m → JobInOrderButLimit last m
job_but_limit last m o = record { unchanging = o.unchanging; tasks = o.tasks; counts = o.counts; below_limit = λ other. o.below_limit }

pub jobs_but_limit : (last : ℕ) (jobs : List SessionJob) → AllByRecursion Good jobs → AllByRecursion (JobInOrderButLimit last) jobs
jobs_but_limit last [] all = tt
jobs_but_limit last (m ∷ jobs) all = (job_but_limit last m all.0, jobs_but_limit last jobs all.1)

few_tasks : (jobs : List SessionJob) → AllByRecursion Good jobs → AllByRecursion (λ m. tasks_of m ≤ 15) jobs
few_tasks [] all = tt
few_tasks (m ∷ jobs) all = (all.0.tasks.few, few_tasks jobs all.1)

turn_low : (s : Session) (turn : ℕ) → s.turn ≤ s.made → (turn ≡ 0) ⊎ (turn ≡ s.turn) → turn + 1 ≤ s.made + 1
turn_low s turn le h = grind arith

some_task : (tasks : List Task) (t : Task) → Has tasks t → tasks ≢ []
some_task tasks t h = grind arith

-- the session with these jobs
abbrev with_jobs : Session → Choice → SessionJob → JobMoment → List SessionJob → Session
with_jobs s c m made jobs = record s {
  jobs = jobs;
  made = s.made + 1;
  last = c.who;
  turn = c.turn + 1;
  peak = max s.peak (sum_by tasks_of s.jobs - tasks_of m + made.alive);
}

pub first_parts_keep_order : FirstPartsKeepOrder
first_parts_keep_order s m t n made o z =
    let c = n.chosen in
    let moment : JobMoment = moment_with m.progress t made made.settled in
    let new : SessionJob = record m { progress = moment.progress } in
    let jobs = change_keyed number_of c.who.job (λ (y : SessionJob). new) s.jobs in
    let named = keyed_has number_of c.who.job s.jobs m n.member in
    let lives = keyed_has (λ (u : Task). u.number) c.who.task m.progress.job.tasks t n.task in
    let j = all_in Good s.jobs m o.jobs named.0 in
    let low : m.progress.made < m.constants.limit = j.below_limit (some_task m.progress.job.tasks t lives.0) in
    let good : JobInOrderButLimit c.who.job new = record {
      unchanging = j.unchanging;
      tasks = z.tasks;
      counts = record { next = omega (arith, z.next, j.counts.next); within = omega (arith, low); goes_on = z.ready };
      below_limit = λ other. absurd (other named.1);
    } in
    let same = change_is number_of c.who.job (λ (k : SessionJob). record k { progress = moment.progress }) m s.jobs n.member in
    let tasks = total_change number_of tasks_of c.who.job m new s.jobs n.member in
    let counts = total_change number_of made_of c.who.job m new s.jobs n.member in
    let own = total_has tasks_of s.jobs m named.0 in
    let others = others_fifteen tasks_of s.jobs m (few_tasks s.jobs o.jobs) named.0 in
    let lengths = length_change number_of c.who.job new s.jobs in
    let x = sum_total tasks_of s.jobs in
    let y = sum_total tasks_of jobs in
    let before = sum_total made_of s.jobs in
    let behind = sum_total made_of jobs in
    subst (λ (js : List SessionJob). IsInOrderButLimit (with_jobs s c m moment js)) (sym same) (record {
      few = omega (arith, lengths, o.few);
      numbered = numbered_change 1 c.who.job new s.jobs o.numbered named.1;
      one_size = (o.one_size.0, all_change (λ (k : SessionJob). k.constants.stack_size ≡ o.one_size.0) number_of c.who.job new s.jobs o.one_size.1 (all_in (λ (k : SessionJob). k.constants.stack_size ≡ o.one_size.0) s.jobs m o.one_size.1 named.0));
      jobs = all_change (JobInOrderButLimit c.who.job) number_of c.who.job new s.jobs (jobs_but_limit c.who.job s.jobs o.jobs) good;
      switches = o.switches;
      peak_low = peak_low_of s.peak (sum_by tasks_of s.jobs) (sum_by tasks_of jobs) (tasks_of m) (tasks_of new) made.alive (omega (arith, tasks, x, y)) (omega (arith, own, x)) z.fewer;
      peak_high = peak_high_of s.peak (sum_by tasks_of s.jobs) (tasks_of m) made.alive (length s.jobs) o.peak_high (omega (arith, others, x)) (omega (arith, own, x)) z.few o.few;
      counted = omega (arith, counts, before, behind, o.counted);
      turn = turn_low s c.turn o.turn (chosen s c n.is).turn;
    })
