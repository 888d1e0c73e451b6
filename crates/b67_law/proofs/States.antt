-- Every state of a run faults INVALID OPERATOR exactly at NVLD.
use Rattle.std.proofs.Common.{◌≡◌, ℕ, zero, suc, Some, subst, arith}
use Rattle.std.specs.List.{AllByRecursion}
use Rattle.b67_model.specs.Keyed.{keyed}
use Rattle.b67_lemmas.specs.Lists.{Has}
use Rattle.b67_lemmas.proofs.Members.{all_in, keyed_falls}
use Rattle.b67_model.specs.Common.{Task, SessionJob, Session, number_of, after, IsStart, JobInOrder, IsInOrder}
use Rattle.b67_law.specs.Opening.{opening}
use Rattle.b67_law.proofs.Opens.{opens_in_order}
use Rattle.b67_law.specs.Runs.{RunsAdmitted}
use Rattle.b67_law.proofs.Chosen.{chosen, keyed_numbered}
use Rattle.b67_law.proofs.RunSessions.{sessions_stay_in_order, opened_admitted}
use Rattle.b67_law.specs.RunFaults.{FaultsAtNvld, StateFaultsAtNvld, SessionsFaultExactlyAtNvld, RunsFaultExactlyAtNvld}
use Rattle.b67_law.proofs.Nvld.{task_faults}

pub sessions_fault_exactly_at_nvld : SessionsFaultExactlyAtNvld
sessions_fault_exactly_at_nvld s order admitted = record {
  each = each;
  chosen = λ c is.
      let k = chosen s c is in
      let m = k.who.member in
      record {
        member = m;
        job = subst (λ n. keyed number_of n s.jobs ≡ Some m) k.who.named (keyed_numbered 1 s.jobs m order.numbered k.who.among);
        task = k.who.task;
        live =
            subst (λ n. keyed (λ t. t.number) n m.progress.job.tasks ≡ Some k.who.task) k.who.numbered
            (keyed_falls (λ (t : Task). t.number) m.progress.job.next_task m.progress.job.tasks k.who.task (job_good m k.who.among).tasks.numbers k.who.lives);
        ready = k.who.ready;
        at_nvld = each m k.who.task k.who.among k.who.lives;
      };
}
  where
    job_good : (m : SessionJob) → Has s.jobs m → JobInOrder (IsStart m.constants) m.constants m.progress
    job_good m among = all_in (λ (x : SessionJob). JobInOrder (IsStart x.constants) x.constants x.progress) s.jobs m order.jobs among

    each : (m : SessionJob) (task : Task) → Has s.jobs m → Has m.progress.job.tasks task → FaultsAtNvld m.constants m.progress.job task
    each m task among live =
        let a = all_in RunsAdmitted s.jobs m admitted among in
        task_faults a.program m.constants m.progress.job task a.admitted a.segments (job_good m among).tasks live

-- what holds of each session in order over admitted programs holds of each state that follows one
follows : (P : Session → Type 0) → ((s : Session) → IsInOrder s → AllByRecursion RunsAdmitted s.jobs → P s) → (n : ℕ) (s : Session) → IsInOrder s → AllByRecursion RunsAdmitted s.jobs → P (after n s)
follows P holds zero s o a = holds s o a
follows P holds (suc n) s o a = grind (arith, sessions_stay_in_order, follows P holds n)

pub runs_fault_exactly_at_nvld : RunsFaultExactlyAtNvld
runs_fault_exactly_at_nvld n stack quantum switches openings within =
    follows StateFaultsAtNvld sessions_fault_exactly_at_nvld n (opening stack quantum switches openings) (opens_in_order stack quantum switches openings within) (opened_admitted 1 stack openings within.each)
