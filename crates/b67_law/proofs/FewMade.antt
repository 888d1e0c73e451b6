-- One operator more of a job fits the counts.
use Rattle.std.proofs.Common.{ℕ, ◌*◌, ◌≤◌, List, [], ◌∷◌, length, refl, arith, inl, inr}
use Rattle.std.specs.Prelude.{sum_by}
use Rattle.std.proofs.lemmas.List.Sums.{sum_by-cons}
use Rattle.b67_lemmas.specs.Lists.{Has}
use Rattle.b67_lemmas.proofs.Members.{all_in}
use Rattle.b67_model.specs.Common.{SessionJob, JobInOrder, IsSegment, IsInOrderButPlaces, Session}
use Rattle.b67_model.specs.declared.limits.TheConstants.{MOST_JOBS, MOST_LIMIT, MOST_MADE}

-- the operators of a session are few
sum_few : (bound : ℕ) (jobs : List SessionJob) → ((m : SessionJob) → Has jobs m → m.progress.made ≤ bound) → length jobs ≤ MOST_JOBS → sum_by (λ (m : SessionJob). m.progress.made) jobs ≤ length jobs * bound
sum_few bound [] few short = omega arith
sum_few bound (m ∷ more) few short = omega (arith, sum_by-cons (λ (y : SessionJob). y.progress.made) m more, few m (inl refl), sum_few bound more (λ y k. few y (inr k)) (omega (arith, short)))

module _ (s : Session) (o : IsInOrderButPlaces s) where
  pub made_few : (m : SessionJob) → Has s.jobs m → m.progress.made ≤ MOST_LIMIT
  made_few m inm = grind (arith, all_in)

  pub all_few : s.made ≤ MOST_MADE
  all_few = omega (arith, o.counted, sum_few MOST_LIMIT s.jobs made_few o.few, o.few)
