-- A live task is found by its number, and a job by its place among the rows.
use Rattle.std.proofs.Common.{◌≡◌, ℕ, zero, suc, ◌+◌, ◌-◌, List, [], ◌∷◌, Some, ◌∙◌, ap, arith, inl, inr, subst}
use Rattle.std.specs.List.{slice_get}
use Rattle.b67_lemmas.specs.Lists.{Has}
use Rattle.b67_lemmas.proofs.Members.{all_in, keyed_falls}
use Rattle.b67_model.specs.Common.{Task, SessionJob, Session, IsSegment, NumberedFrom}
use Rattle.b67_model.specs.Keyed.{keyed}
use Rattle.b67_layout.specs.Common.{JobInOrderButCounts, IsInOrderButCounts, Placement, JobRow, JobShows, JobsShow}
use Rattle.b67_law.proofs.Numbered.{numbered_low}

pub live_in_order : (s : Session) (m : SessionJob) (t : Task) → IsInOrderButCounts s → Has s.jobs m → Has m.progress.job.tasks t → keyed (λ (u : Task). u.number) t.number m.progress.job.tasks ≡ Some t
live_in_order s m t o inm int = grind (arith, all_in, keyed_falls)

-- a job's row
pub record JobAt (plan : Placement) (rows : List JobRow) (i : ℕ) (m : SessionJob) : Type 0 where
  pub row : JobRow
  pub at : slice_get rows i ≡ Some row
  pub shows : JobShows plan m row

pub job_at : (plan : Placement) (n : ℕ) (jobs : List SessionJob) (rows : List JobRow) (m : SessionJob) → NumberedFrom n jobs → JobsShow plan jobs rows → Has jobs m → JobAt plan rows (m.constants.number - n) m
job_at plan n [] rows m d h inm = absurd inm
job_at plan n (y ∷ more) [] m d h inm = absurd h
job_at plan n (y ∷ more) (r ∷ rows) m d h (inl e) = grind arith
job_at plan n (y ∷ more) (r ∷ rows) m d h (inr k) =
    let b = job_at plan (n + 1) more rows m d.1 h.1 k in
    let low = numbered_low (n + 1) more m d.1 k in
    grind arith
