-- A job's part of a run is its own run.
use Rattle.std.proofs.Common.{◌≡◌, ◌≢◌, ℕ, zero, suc, true, false, eqb, List, [], ◌∷◌, ◌++◌, Option, Some, None, refl, sym, ap, ap₂, ◌∙◌, subst, inl, inr, arith}
use Rattle.std.proofs.lemmas.Bool.Decides.{eqb_tells}
use Rattle.std.proofs.lemmas.List.Elements.{filter-append}
use Rattle.std.proofs.lemmas.List.{map-append}
use Rattle.b67_model.specs.Keyed.{keyed}
use Rattle.b67_model.specs.Common.{Line, SessionJob, Session, Choice, choice, RunLine, StepResult, of_job, number_of, with_moment, moment_by, moment_for, lines_from, after_from, next, step_of, alone_lines, lines_of_job, makers_from, tasks_of_job, JobsApart}
use Rattle.b67_law.specs.JobsApart.{alone_after, JobStatesApart}
use Rattle.b67_lemmas.proofs.Keyed.{keyed-change_other, keyed-change_same}

lines_of_job-append : (job : ℕ) (xs ys : List RunLine) → lines_of_job job (xs ++ ys) ≡ lines_of_job job xs ++ lines_of_job job ys
lines_of_job-append job xs ys = grind (arith, filter-append, map-append)

own_lines : (i job : ℕ) → eqb i job ≡ true → (ls : List (ℕ × Line)) → lines_of_job job (of_job i ls) ≡ ls
own_lines i job e [] = refl
own_lines i job e (l ∷ ls) = rw e (ap (λ more. l ∷ more) (own_lines i job e ls))

others_lines : (i job : ℕ) → eqb i job ≡ false → (ls : List (ℕ × Line)) → lines_of_job job (of_job i ls) ≡ []
others_lines i job e [] = refl
others_lines i job e (l ∷ ls) = rw e (others_lines i job e ls)

-- the job's lines among those of n steps, the first one given
abbrev Apart : ℕ → ℕ → SessionJob → Option StepResult → Type 0
Apart n job m first = lines_of_job job (lines_from n first) ≡ alone_lines m.constants (tasks_of_job job (makers_from n first)) m.progress

abbrev ApartFrom : ℕ → Type 0
ApartFrom n = (s : Session) (job : ℕ) (m : SessionJob) → keyed number_of job s.jobs ≡ Some m → Apart n job m (next s)

one_step : (n : ℕ) → ApartFrom n → (s : Session) (job : ℕ) (m : SessionJob) → keyed number_of job s.jobs ≡ Some m → (c : Choice) (m' : SessionJob) → keyed number_of c.who.job s.jobs ≡ Some m' → Apart (suc n) job m (moment_by s c (Some m'))
one_step n rest s job m here c m' chosen =
    let made = step_of m'.constants m'.progress c.who.task in
    let change : SessionJob → SessionJob = λ (k : SessionJob). record k { progress = made.progress } in
    let s' = with_moment s c m' made in
    let split = lines_of_job-append job (of_job c.who.job made.lines) (lines_from n (next s')) in
    elim (eqb_tells c.who.job job) [
      | inl t ↦
          let same_some : Some m' ≡ Some m = sym chosen ∙ rw t.1 here in
          let same : m' ≡ m = cc in
          let found : keyed number_of c.who.job s'.jobs ≡ Some (change m') = keyed-change_same number_of c.who.job change (λ k. refl) s.jobs m' chosen in
          let found' : keyed number_of job s'.jobs ≡ Some (change m') = subst (λ k. keyed number_of k s'.jobs ≡ Some (change m')) t.1 found in
          let ih = rest s' job (change m') found' in
          let left = split ∙ ap₂ (λ (a b : List (ℕ × Line)). a ++ b) (own_lines c.who.job job t.0 made.lines) ih in
          subst (λ (k : SessionJob). Apart (suc n) job k (moment_by s c (Some m'))) same (left ∙ rw t.0 refl)
      | inr t ↦
          let ne : job ≢ c.who.job = λ e. t.1 (sym e) in
          let found : keyed number_of job s'.jobs ≡ Some m = keyed-change_other number_of job c.who.job change (λ k. refl) ne s.jobs ∙ here in
          let ih = rest s' job m found in
          let left = split ∙ ap₂ (λ (a b : List (ℕ × Line)). a ++ b) (others_lines c.who.job job t.0 made.lines) ih in
          left ∙ rw t.0 refl
    ]

pub jobs_apart : JobsApart
unfolding next
jobs_apart zero s job m here = refl
jobs_apart (suc n) s job m here = by_choice (λ s' job' m' here'. jobs_apart n s' job' m' here') (choice s)
  where
    by_member : ApartFrom n → (c : Choice) (o : Option SessionJob) → keyed number_of c.who.job s.jobs ≡ o → Apart (suc n) job m (moment_by s c o)
    by_member rest c None e = refl
    by_member rest c (Some m') e = one_step n rest s job m here c m' e

    by_choice : ApartFrom n → (o : Option Choice) → Apart (suc n) job m (moment_for s o)
    by_choice rest None = refl
    by_choice rest (Some c) = by_member rest c (keyed number_of c.who.job s.jobs) refl

-- the same of the job's state
abbrev Stays : ℕ → ℕ → SessionJob → Session → Option StepResult → Type 0
Stays n job m s first =
    keyed number_of job (after_from n s first).jobs ≡ Some (record m { progress = alone_after m.constants (tasks_of_job job (makers_from n first)) m.progress })

abbrev StaysFrom : ℕ → Type 0
StaysFrom n = (s : Session) (job : ℕ) (m : SessionJob) → keyed number_of job s.jobs ≡ Some m → Stays n job m s (next s)

one_stay : (n : ℕ) → StaysFrom n → (s : Session) (job : ℕ) (m : SessionJob) → keyed number_of job s.jobs ≡ Some m → (c : Choice) (m' : SessionJob) → keyed number_of c.who.job s.jobs ≡ Some m' → Stays (suc n) job m s (moment_by s c (Some m'))
one_stay n rest s job m here c m' chosen =
    let made = step_of m'.constants m'.progress c.who.task in
    let change : SessionJob → SessionJob = λ (k : SessionJob). record k { progress = made.progress } in
    let s' = with_moment s c m' made in
    elim (eqb_tells c.who.job job) [
      | inl t ↦
          let same_some : Some m' ≡ Some m = sym chosen ∙ rw t.1 here in
          let same : m' ≡ m = cc in
          let found : keyed number_of c.who.job s'.jobs ≡ Some (change m') = keyed-change_same number_of c.who.job change (λ k. refl) s.jobs m' chosen in
          let found' : keyed number_of job s'.jobs ≡ Some (change m') = subst (λ k. keyed number_of k s'.jobs ≡ Some (change m')) t.1 found in
          let ih = rest s' job (change m') found' in
          subst (λ (k : SessionJob). Stays (suc n) job k s (moment_by s c (Some m'))) same (ih ∙ rw t.0 refl)
      | inr t ↦
          let ne : job ≢ c.who.job = λ e. t.1 (sym e) in
          let found : keyed number_of job s'.jobs ≡ Some m = keyed-change_other number_of job c.who.job change (λ k. refl) ne s.jobs ∙ here in
          let ih = rest s' job m found in
          ih ∙ rw t.0 refl
    ]

pub states_apart : JobStatesApart
unfolding next
states_apart zero s job m here = here
states_apart (suc n) s job m here = by_choice (λ s' job' m' here'. states_apart n s' job' m' here') (choice s)
  where
    by_member : StaysFrom n → (c : Choice) (o : Option SessionJob) → keyed number_of c.who.job s.jobs ≡ o → Stays (suc n) job m s (moment_by s c o)
    by_member rest c None e = here
    by_member rest c (Some m') e = one_stay n rest s job m here c m' e

    by_choice : StaysFrom n → (o : Option Choice) → Stays (suc n) job m s (moment_for s o)
    by_choice rest None = here
    by_choice rest (Some c) = by_member rest c (keyed number_of c.who.job s.jobs) refl
