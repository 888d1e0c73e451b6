-- The session in which the running task is ready: it is in order, and the machine represents it.
use Rattle.std.proofs.Common.{◌≡◌, List, [], map, Some, refl, sym, ap, arith, inl, subst}
use Rattle.b67_model.specs.Keyed.{keyed}
use Rattle.b67_lemmas.proofs.Members.{all_in, length_change, change_found}
use Rattle.b67_lemmas.proofs.Keyed.{change_same}
use Rattle.b67_model.specs.Common.{Array, Ready, Task, Job, SessionJob, with_task, Session, IsSegment, known_of, from_frame, originals_of}
use Rattle.b67_layout.specs.Common.{JobInOrderButCounts, IsInOrderButCounts, Placement, IsRunning, RepresentsSession, with_job}
use Rattle.b67_law.proofs.Reaches.{alike_same}
use Rattle.b67_law.proofs.Replaced.{Replaced, replaced}
use Rattle.b67_layout.proofs.Common.{member_kept, running_in_order, fresh, member-same, IsFree, RepresentsSession-condition}
use Rattle.b67_stack.specs.declared.Cpu.{Cpu}
use Rattle.b67_stack.specs.Represents.{Storage}

module _ (plan : Placement) (s : Session) (m : SessionJob) (t : Task) (o : IsInOrderButCounts s) (runs : IsRunning plan s.jobs m t) where
  abbrev pub task : Task
  task = record t { condition = Ready }

  abbrev pub job : Job
  job = with_task m.progress.job task

  abbrev pub member : SessionJob
  member = record m { progress = record m.progress { job = job } }

  abbrev pub session : Session
  session = with_job s m job

  there : keyed (λ (u : Task). u.number) t.number job.tasks ≡ Some task
  there = change_found (λ (u : Task). u.number) t.number t task m.progress.job.tasks refl runs.task

  replaces : Replaced (IsSegment m.constants) m.constants m.progress.job t job task
  replaces =
      let (j, own) = running_in_order plan s m t o runs in
      record {
        number = refl;
        line = refl;
        critical = refl;
        tasks = refl;
        next_task = refl;
        next_frame = omega arith;
        frames = own.frames;
        returns = own.returns;
        some = own.some;
        falls = own.falls;
        not_higher = own.not_higher;
        place = own.place;
        condition = tt;
        alike = λ u k. alike_same (map known_of (from_frame u.critical t.frames));
        stays = λ u k c. c;
        fewer = λ n low. omega arith;
        kept = λ a k. record { case = inl (record { item = a; live = k; named = refl; owned = refl }) };
        arrays = j.tasks.arrays;
        once = λ a k. omega (arith, all_in (λ (x : Array). originals_of x.identity m.constants m.progress.job ≡ 1) m.progress.job.arrays a j.tasks.once k);
        names = j.tasks.names;
        reads = j.tasks.reads;
      }

  job_ordered : JobInOrderButCounts (IsSegment m.constants) m.constants (record m.progress { job = job })
  job_ordered =
      let j = (running_in_order plan s m t o runs).0 in
      record {
        unchanging = j.unchanging;
        tasks = replaced (IsSegment m.constants) m.constants m.progress.job t job task j.tasks runs.task replaces;
        few_born = j.few_born;
      }

  pub ordered : IsInOrderButCounts session
  ordered = member_kept s m job o runs.member job_ordered (length_change (λ (u : Task). u.number) t.number task m.progress.job.tasks)

  pub running : IsRunning plan session.jobs member task
  running = record {
    member = member-same s.jobs m.constants.number (record m.progress { job = job }) m runs.member;
    task = there;
    slot = runs.slot;
  }

  -- the job with its task as it is
  same_job : with_task m.progress.job t ≡ m.progress.job
  same_job = ap (λ (ts : List Task). record m.progress.job { tasks = ts }) (change_same (λ (u : Task). u.number) t.number (λ (u : Task). t) m.progress.job.tasks t runs.task refl)

  same_session : with_job s m (with_task m.progress.job t) ≡ s
  same_session = grind (arith, same_job, change_same)

  pub stands : (x : Storage) (cpu : Cpu) → RepresentsSession x cpu plan s → RepresentsSession x cpu plan session
  stands x cpu h =
      let own : SessionJob = record m { progress = record m.progress { job = with_task m.progress.job t } } in
      let there_is : RepresentsSession x cpu plan (with_job s m (with_task m.progress.job t)) = subst (RepresentsSession x cpu plan) (sym same_session) h in
      let run : IsRunning plan (with_job s m (with_task m.progress.job t)).jobs own t = record {
        member = member-same s.jobs m.constants.number (record m.progress { job = with_task m.progress.job t }) m runs.member;
        task = change_found (λ (u : Task). u.number) t.number t t m.progress.job.tasks refl runs.task;
        slot = runs.slot;
      } in
      let free : IsFree (with_task m.progress.job t) m.progress.job.next_frame = subst (λ (k : Job). IsFree k m.progress.job.next_frame) (sym same_job) (fresh plan s m t o runs) in
      RepresentsSession-condition [] x cpu plan s m m.progress.job t t.condition Ready m.progress.job.next_frame there_is run free
