-- A session in order of which one member has another job in order, with the same number of tasks.
use Rattle.std.proofs.Common.{◌≡◌, List, length, Some, sym, subst, arith}
use Rattle.b67_model.specs.Keyed.{keyed, change_keyed}
use Rattle.b67_lemmas.proofs.Members.{all_in, keyed_has, length_change, total_change}
use Rattle.b67_lemmas.proofs.Keyed.{all_change, change_is}
use Rattle.b67_lemmas.proofs.Sums.{sum_total}
use Rattle.b67_model.specs.Common.{Job, SessionJob, number_of, Session, IsSegment}
use Rattle.b67_layout.specs.Common.{JobInOrderButCounts, IsInOrderButCounts, with_job}
use Rattle.b67_law.proofs.Numbered.{numbered_change, tasks_of}

-- with another job of the member
pub member_kept : (s : Session) (m : SessionJob) (job : Job) → IsInOrderButCounts s → keyed number_of m.constants.number s.jobs ≡ Some m
    → JobInOrderButCounts (IsSegment m.constants) m.constants (record m.progress { job = job }) → length job.tasks ≡ length m.progress.job.tasks → IsInOrderButCounts (with_job s m job)
member_kept s m job o found good few =
    let new : SessionJob = record m { progress = record m.progress { job = job } } in
    let named = keyed_has number_of m.constants.number s.jobs m found in
    let same = change_is number_of m.constants.number (λ (k : SessionJob). record k { progress = record m.progress { job = job } }) m s.jobs found in
    let jobs = change_keyed number_of m.constants.number (λ (y : SessionJob). new) s.jobs in
    let tasks = total_change number_of tasks_of m.constants.number m new s.jobs found in
    grind (arith, length_change, sum_total, numbered_change, all_change, all_in)
