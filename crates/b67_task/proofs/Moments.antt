-- The count of an operator, with what the operator makes of its job, is the session's step.
use Rattle.std.proofs.Common.{◌≡◌, ℕ, ◌+◌, List, [], ◌∷◌, Some, refl, sym, ◌∙◌, ap, inl, inr, subst, arith}
use Rattle.b67_lemmas.specs.Lists.{Has}
use Rattle.b67_lemmas.proofs.Members.{keyed_has}
use Rattle.b67_model.specs.Keyed.{keyed, change_keyed}
use Rattle.b67_model.specs.Common.{Task, JobConstants, Job, JobProgress, SessionJob, JobMoment, number_of, with_moment, Session, Choice, NumberedFrom}
use Rattle.b67_layout.specs.Common.{Placement, TaskRow, JobRow, JobCounts, TaskShows, JobShows, JobsShow, TablesShow, with_job}
use Rattle.b67_task.specs.Counted.{counted_member, counted}

-- members of which tables show the same
pub record SameShown (a b : SessionJob) : Type 0 where
  pub constants : b.constants ≡ a.constants
  pub job : b.progress.job ≡ a.progress.job
  pub made : b.progress.made ≡ a.progress.made

abbrev pub SameMembers : List SessionJob → List SessionJob → Type 0
SameMembers [] [] = Unit {0}
SameMembers (a ∷ xs) (b ∷ ys) = SameShown a b × SameMembers xs ys
SameMembers _ _ = ⊥

same_self : (xs : List SessionJob) → SameMembers xs xs
same_self [] = tt
same_self (x ∷ xs) = (record { constants = refl; job = refl; made = refl }, same_self xs)

same_there : (xs ys : List SessionJob) (x : SessionJob) → SameMembers xs ys → Has xs x → (y : SessionJob) × Has ys y × SameShown x y
same_there [] ys x h k = absurd k
same_there (a ∷ xs) [] x h k = absurd h
same_there (a ∷ xs) (b ∷ ys) x h (inl e) = (b, inl refl, subst (λ (z : SessionJob). SameShown z b) e h.0)
same_there (a ∷ xs) (b ∷ ys) x h (inr k) = let (y, l, w) = same_there xs ys x h.1 k in (y, inr l, w)

same_back : (xs ys : List SessionJob) (y : SessionJob) → SameMembers xs ys → Has ys y → (x : SessionJob) × Has xs x × SameShown x y
same_back [] [] y h k = absurd k
same_back [] (b ∷ ys) y h k = absurd h
same_back (a ∷ xs) [] y h k = absurd k
same_back (a ∷ xs) (b ∷ ys) y h (inl e) = (a, inl refl, subst (λ (z : SessionJob). SameShown a z) e h.0)
same_back (a ∷ xs) (b ∷ ys) y h (inr k) = let (x, l, w) = same_back xs ys y h.1 k in (x, inr l, w)

module _ (plan : Placement) (a b : SessionJob) (w : SameShown a b) where
  number : a.constants.number ≡ b.constants.number
  number = ap (λ (z : JobConstants). z.number) (sym w.constants)

  job : a.progress.job ≡ b.progress.job
  job = sym w.job

  task_same : (t : Task) (row : TaskRow) → TaskShows plan a t row → TaskShows plan b t row
  task_same t row h = grind arith

  job_same : (row : JobRow) → JobShows plan a row → JobShows plan b row
  job_same row h = grind arith

jobs_same : (plan : Placement) (xs ys : List SessionJob) (job_rows : List JobRow) → SameMembers xs ys → JobsShow plan xs job_rows → JobsShow plan ys job_rows
jobs_same plan [] [] job_rows w h = h
jobs_same plan [] (b ∷ ys) job_rows w h = absurd w
jobs_same plan (a ∷ xs) [] job_rows w h = absurd w
jobs_same plan (a ∷ xs) (b ∷ ys) [] w h = absurd h
jobs_same plan (a ∷ xs) (b ∷ ys) (row ∷ job_rows) w h = (job_same plan a b w.0 row h.0, jobs_same plan xs ys job_rows w.1 h.1)

-- tables show a session's settings, jobs and counts of operators, and no more of its members
pub tables_same : (plan : Placement) (s : Session) (jobs : List SessionJob) (peak : ℕ) (rows : List TaskRow) (job_rows : List JobRow) (c : JobCounts) → SameMembers s.jobs jobs → TablesShow plan s rows job_rows c
    → TablesShow plan (record s { jobs = jobs; peak = peak }) rows job_rows c
tables_same plan s jobs peak rows job_rows c w shows = record {
  tasks = λ row h.
      let (m, t, inm, int, sh) = shows.tasks row h in
      let (b, inb, same) = same_there s.jobs jobs m w inm in
      (b, t, inb, subst (λ (j : Job). Has j.tasks t) (sym same.job) int, task_same plan m b same t row sh);
  each = λ b t inb int.
      let (m, inm, same) = same_back s.jobs jobs b w inb in
      let (row, k, sh) = shows.each m t inm (subst (λ (j : Job). Has j.tasks t) same.job int) in
      (row, k, task_same plan m b same t row sh);
  once = shows.once;
  jobs = jobs_same plan s.jobs jobs job_rows w shows.jobs;
  counts = record {
    quantum = shows.counts.quantum;
    made = shows.counts.made;
    turn = shows.counts.turn;
    last_job = shows.counts.last_job;
    last_number = shows.counts.last_number;
    switches = shows.counts.switches;
    next = shows.counts.next;
    past = shows.counts.past;
    running = shows.counts.running;
  };
}

pub numbered_change : (k n : ℕ) (progress : JobProgress) (jobs : List SessionJob) → NumberedFrom k jobs → NumberedFrom k (change_keyed number_of n (λ (y : SessionJob). record y { progress = progress }) jobs)
numbered_change k n progress [] d = d
numbered_change k n progress (y ∷ more) d = grind (arith, numbered_change (k + 1) n progress more d.1)

-- the course before the count, and the one after the step
changed_same : (n : ℕ) (before after : JobProgress) (jobs : List SessionJob) → after.job ≡ before.job → after.made ≡ before.made + 1
    → SameMembers (change_keyed number_of n counted_member (change_keyed number_of n (λ (y : SessionJob). record y { progress = before }) jobs)) (change_keyed number_of n (λ (y : SessionJob). record y { progress = after }) jobs)
changed_same n before after [] e f = tt
changed_same n before after (y ∷ more) e f = grind (arith, same_self, changed_same n before after more e f)

module _ (s : Session) (m : SessionJob) (job : Job) where
  pub numbered_with_job : NumberedFrom 1 s.jobs → NumberedFrom 1 (with_job s m job).jobs
  numbered_with_job d = numbered_change 1 m.constants.number (record m.progress { job = job }) s.jobs d

pub moment_shows : (plan : Placement) (s : Session) (m : SessionJob) (made : JobMoment) (choice : Choice) (rows : List TaskRow) (job_rows : List JobRow) (c : JobCounts) → keyed number_of choice.who.job s.jobs ≡ Some m
    → made.progress.made ≡ m.progress.made + 1 → TablesShow plan (counted (with_job s m made.progress.job) choice) rows job_rows c → TablesShow plan (with_moment s choice m made) rows job_rows c
moment_shows plan s m made choice rows job_rows c found count shows =
    let (inm, number) = keyed_has number_of choice.who.job s.jobs m found in
    let before : JobProgress = record m.progress { job = made.progress.job } in
    let w : SameMembers (change_keyed number_of choice.who.job counted_member (change_keyed number_of m.constants.number (λ (y : SessionJob). record y { progress = before }) s.jobs)) (change_keyed number_of choice.who.job (λ (y : SessionJob). record y { progress = made.progress }) s.jobs) =
    subst
    (λ (n : ℕ). SameMembers (change_keyed number_of choice.who.job counted_member (change_keyed number_of n (λ (y : SessionJob). record y { progress = before }) s.jobs)) (change_keyed number_of choice.who.job (λ (y : SessionJob). record y { progress = made.progress }) s.jobs))
    (sym number)
    (changed_same choice.who.job before made.progress s.jobs refl count) in
    tables_same plan (counted (with_job s m made.progress.job) choice) (with_moment s choice m made).jobs (with_moment s choice m made).peak rows job_rows c w shows
