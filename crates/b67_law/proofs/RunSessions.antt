-- A step of a session keeps it in order, and so does a run.
use Rattle.std.proofs.Common.{◌≡◌, ℕ, zero, suc, ◌+◌, ◌-◌, ◌≤◌, max, List, [], ◌∷◌, length, Option, Some, None, refl, sym, subst, inl, inr, ◌⊎◌, arith}
use Rattle.std.specs.List.{AllByRecursion, sum_by}
use Rattle.std.proofs.lemmas.Bool.Decides.{eqb_tells}
use Rattle.b67_model.specs.Keyed.{keyed, change_keyed}
use Rattle.b67_lemmas.specs.Lists.{Has}
use Rattle.b67_lemmas.proofs.Members.{all_in, keyed_falls, keyed_has, length_change, total_change, total_has}
use Rattle.b67_lemmas.proofs.Keyed.{all_change, change_is}
use Rattle.b67_lemmas.proofs.Sums.{sum_total}
use Rattle.b67_model.specs.Common.{Task, JobConstants, JobProgress, SessionJob, JobMoment, step_of, Session, Choice, choice, StepResult, number_of, of_job, with_moment, moment_by, moment_for, next, after_from, after, Starts, IsSegment, IsStart, JobInOrder, SessionInOrder, IsInOrder}
use Rattle.b67_law.specs.Opening.{Opening, OpeningWithin, opened_from, opening}
use Rattle.b67_law.proofs.Opens.{opens_in_order}
use Rattle.b67_law.proofs.Settles.{steps_keep_order, steps_keep_order_but_places}
use Rattle.b67_law.proofs.Segments.{rows_keep_order_but_places}
use Rattle.b67_law.proofs.Places.{rows_keep_order}
use Rattle.b67_law.specs.Runs.{RunsAdmitted, SessionsStayInOrder, SessionsStayInOrderButPlaces, RunsStayInOrder}
use Rattle.b67_law.proofs.Chosen.{chosen, keyed_numbered}
use Rattle.b67_law.proofs.Totals.{others_fifteen, peak_low_of, peak_high_of}
use Rattle.b67_law.proofs.Moments.{Made, Keeping, step_made}
use Rattle.b67_law.proofs.Numbered.{numbered_change, made_of, tasks_of}

-- the session after a step, with these jobs
abbrev session_with : Session → Choice → SessionJob → JobMoment → List SessionJob → Session
session_with s c m made jobs = record s {
  jobs = jobs;
  made = s.made + 1;
  last = c.who;
  turn = c.turn + 1;
  peak = max s.peak (sum_by tasks_of s.jobs - tasks_of m + made.alive);
}

few_tasks : (P : JobConstants → Starts) (jobs : List SessionJob) → AllByRecursion (λ (m : SessionJob). JobInOrder (P m.constants) m.constants m.progress) jobs → AllByRecursion (λ m. tasks_of m ≤ 15) jobs
few_tasks P [] a = tt
few_tasks P (m ∷ jobs) a = (a.0.tasks.few, few_tasks P jobs a.1)

session_good : (P : JobConstants → Starts) (s : Session) (c : Choice) (m : SessionJob) (made : JobMoment) → SessionInOrder P s → keyed number_of c.who.job s.jobs ≡ Some m →
    (c.turn ≡ 0) ⊎ (c.turn ≡ s.turn) → Made (P m.constants) m.constants m.progress made → SessionInOrder P (with_moment s c m made)
session_good P s c m made o found turn good =
    let new : SessionJob = record m { progress = made.progress } in
    let jobs = change_keyed number_of c.who.job (λ (y : SessionJob). new) s.jobs in
    let named = keyed_has number_of c.who.job s.jobs m found in
    let same = change_is number_of c.who.job (λ (k : SessionJob). record k { progress = made.progress }) m s.jobs found in
    let tasks = total_change number_of tasks_of c.who.job m new s.jobs found in
    let counts = total_change number_of made_of c.who.job m new s.jobs found in
    grind (arith, others_fifteen, few_tasks, length_change, sum_total, numbered_change, all_change, all_in)

-- a step, where it is known what steps keep in each job
next_good : (P : JobConstants → Starts) (s : Session) (after : StepResult) → SessionInOrder P s → ((m : SessionJob) → Has s.jobs m → Keeping P m.constants m.progress) → next s ≡ Some after → SessionInOrder P after.session
unfolding next
next_good P s after o keeps e = by_choice (choice s) refl e
  where
    by_choice : (chose : Option Choice) → choice s ≡ chose → moment_for s chose ≡ Some after → SessionInOrder P after.session
    by_choice None is e' = absurd cc
    by_choice (Some c) is e' =
        let k = chosen s c is in
        let m = k.who.member in
        let found : keyed number_of c.who.job s.jobs ≡ Some m = subst (λ n. keyed number_of n s.jobs ≡ Some m) k.who.named (keyed_numbered 1 s.jobs m o.numbered k.who.among) in
        let j = all_in (λ (x : SessionJob). JobInOrder (P x.constants) x.constants x.progress) s.jobs m o.jobs k.who.among in
        let task : keyed (λ t. t.number) c.who.task m.progress.job.tasks ≡ Some k.who.task =
        subst (λ n. keyed (λ t. t.number) n m.progress.job.tasks ≡ Some k.who.task) k.who.numbered
        (keyed_falls (λ (t : Task). t.number) m.progress.job.next_task m.progress.job.tasks k.who.task j.tasks.numbers k.who.lives) in
        let made = step_of m.constants m.progress c.who.task in
        let good = step_made P m.constants m.progress c.who.task k.who.task (keeps m k.who.among) j task k.who.numbered k.who.ready in
        let moment : StepResult = record { session = with_moment s c m made; lines = of_job c.who.job made.lines } in
        let some : Some moment ≡ Some after = subst (λ o'. moment_by s c o' ≡ Some after) found e' in
        let same : moment ≡ after = cc in
        subst (λ (x : StepResult). SessionInOrder P x.session) same (session_good P s c m made o found k.turn good)

pub sessions_stay_in_order_but_places : SessionsStayInOrderButPlaces
sessions_stay_in_order_but_places s after o e =
    next_good IsSegment s after o
    (λ m among. record { rows = λ task from. rows_keep_order_but_places m.constants m.progress.job task from; steps = λ task. steps_keep_order_but_places m.constants m.progress task }) e

-- jobs keep their settings
admitted_change : (n : ℕ) (c : JobProgress) (jobs : List SessionJob) → AllByRecursion RunsAdmitted jobs → AllByRecursion RunsAdmitted (change_keyed number_of n (λ (k : SessionJob). record k { progress = c }) jobs)
admitted_change n c [] a = tt
admitted_change n c (m ∷ jobs) a = grind (arith, admitted_change n c jobs a.1)

admitted_by : (s : Session) (after : StepResult) (c : Choice) (o : Option SessionJob) → AllByRecursion RunsAdmitted s.jobs → moment_by s c o ≡ Some after → AllByRecursion RunsAdmitted after.session.jobs
admitted_by s after c None a e = absurd cc
admitted_by s after c (Some m) a e =
    let made = step_of m.constants m.progress c.who.task in
    let moment : StepResult = record { session = with_moment s c m made; lines = of_job c.who.job made.lines } in
    let some : Some moment ≡ Some after = e in
    let same : moment ≡ after = cc in
    subst (λ (x : StepResult). AllByRecursion RunsAdmitted x.session.jobs) same (admitted_change c.who.job made.progress s.jobs a)

admitted_for : (s : Session) (after : StepResult) (o : Option Choice) → AllByRecursion RunsAdmitted s.jobs → moment_for s o ≡ Some after → AllByRecursion RunsAdmitted after.session.jobs
admitted_for s h o a e = grind (arith, admitted_by)

admitted_next : (s : Session) (after : StepResult) → AllByRecursion RunsAdmitted s.jobs → next s ≡ Some after → AllByRecursion RunsAdmitted after.session.jobs
unfolding next
admitted_next s after a e = admitted_for s after (choice s) a e

keeps_admitted : (m : SessionJob) → RunsAdmitted m → Keeping IsStart m.constants m.progress
keeps_admitted m a = grind (arith, rows_keep_order, steps_keep_order)

pub sessions_stay_in_order : SessionsStayInOrder
sessions_stay_in_order s after o admitted e = (
  next_good IsStart s after o (λ m among. keeps_admitted m (all_in RunsAdmitted s.jobs m admitted among)) e,
  admitted_next s after admitted e,
)

-- so is each state that follows
follows : (n : ℕ) (s : Session) → IsInOrder s → AllByRecursion RunsAdmitted s.jobs → IsInOrder (after n s)
follows zero s o a = o
follows (suc n) s o a = go (λ s' o' a'. follows n s' o' a') (next s) refl
  where
    go : ((s' : Session) → IsInOrder s' → AllByRecursion RunsAdmitted s'.jobs → IsInOrder (after n s')) → (m : Option StepResult) → next s ≡ m → IsInOrder (after_from (suc n) s m)
    go rest None e = o
    go rest (Some m) e = let both = sessions_stay_in_order s m o a e in rest m.session both.0 both.1

pub opened_admitted : (number stack : ℕ) (openings : List Opening) → AllByRecursion OpeningWithin openings → AllByRecursion RunsAdmitted (opened_from number stack openings)
opened_admitted number stack [] each = tt
opened_admitted number stack (o ∷ more) each = (record { program = o.program; admitted = each.0.admitted; segments = refl }, opened_admitted (number + 1) stack more each.1)

pub runs_stay_in_order : RunsStayInOrder
runs_stay_in_order n stack quantum switches openings within =
    follows n (opening stack quantum switches openings) (opens_in_order stack quantum switches openings within) (opened_admitted 1 stack openings within.each)
