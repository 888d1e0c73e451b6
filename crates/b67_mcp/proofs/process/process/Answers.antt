use Rattle.std.proofs.Common.{◌≤◌, length, refl, arith}
use Rattle.b67_layout.proofs.Devices.{Served-none}
use Rattle.b67_task.proofs.Keeping.{keeps_same}
use Rattle.b67_mcp.proofs.Moved.{content_same}
use Rattle.b67_mcp.proofs.Starts.{starts_none, answered_none}
use Rattle.b67_mcp.proofs.process.process.Goals as goal

pub task_asked-requires : goal.task_asked-requires
task_asked-requires g c =
    let q = c.requires.calls.runs in
    record {
      runs = record { storage = q.storage; plan = q.plan; session = q.session; member = q.member; task = q.task; ordered = q.ordered; stands = q.stands.session; running = q.running };
      reference = c.requires.calls.reference;
      arguments = c.requires.calls.arguments;
      call = c.requires.calls.call;
    }

pub returns-in-Err-clause-row : goal.returns-in-Err-clause-row
returns-in-Err-clause-row g c = λ x told plan s m t o h runs r arguments call. (record { meets = λ says. (c.in-Err.ensures x plan s m t o h.session runs r arguments call c.args.next, refl); quiet = λ never. refl }, tt)

pub returns-in-Err-clause-kept : goal.returns-in-Err-clause-kept
returns-in-Err-clause-kept g c = keeps_same c.args.machine.now

pub returns-in-Err-clause-device : goal.returns-in-Err-clause-device
returns-in-Err-clause-device g c = record { calls = Served-none g.B.Backing.holds g.B.Backing.size g.B.Backing.calls g.B.Backing.faults c.args.backing.now; cause = λ e. absurd (let b : ⊥ = cc in b) }

pub tasks_of_job-live-requires : goal.tasks_of_job-live-requires
tasks_of_job-live-requires g c = c.requires.calls.runs

pub answer-requires-clause-call : goal.answer-requires-clause-call
answer-requires-clause-call g c =
    let k = c.requires.calls in
    let q = k.runs in
    record { runs = q; may = (c.in-Ok.ensures q.storage q.plan q.session q.member q.task q.ordered q.stands.session q.running k.reference k.arguments k.call).may }

pub returns-then-live-ge-MOST_TASKS-clause-row : goal.returns-then-live-ge-MOST_TASKS-clause-row
returns-then-live-ge-MOST_TASKS-clause-row g c = λ x told plan s m t o h runs r arguments call.
    (let a = c.in-Ok.ensures x plan s m t o h.session runs r arguments call in
    let many : 15 ≤ length m.progress.job.tasks = omega (arith, c.if-live-ge-MOST_TASKS.true, c.tasks_of_job-live.ensures x told plan s m t o h runs) in (
      record {
        meets = λ says.
            answered_none plan m t arguments c.in-Ok.asked.cell c.in-Ok.asked.count a many c.args.next x told _ s o c.answer.new.machine (content_same told (g.B.Backing.holds c.args.backing.now) says)
            (c.answer.ensures.stands x told plan s m t o h runs a.may);
        quiet = λ never. refl;
      },
      λ w. absurd (starts_none plan m t arguments c.in-Ok.asked.cell c.in-Ok.asked.count a many c.args.next w),
    ))

pub returns-then-live-ge-MOST_TASKS-clause-device : goal.returns-then-live-ge-MOST_TASKS-clause-device
returns-then-live-ge-MOST_TASKS-clause-device g c = record { calls = Served-none g.B.Backing.holds g.B.Backing.size g.B.Backing.calls g.B.Backing.faults c.args.backing.now; cause = λ e. absurd (let b : ⊥ = cc in b) }

pub start_asked-requires-clause-call : goal.start_asked-requires-clause-call
start_asked-requires-clause-call g c =
    let k = c.requires.calls in
    let q = k.runs in
    record {
      runs = q;
      arguments = k.arguments;
      asks = c.in-Ok.ensures q.storage q.plan q.session q.member q.task q.ordered q.stands.session q.running k.reference k.arguments k.call;
      few = omega (arith, c.if-live-ge-MOST_TASKS.false, c.tasks_of_job-live.ensures q.storage q.told q.plan q.session q.member q.task q.ordered q.stands q.running);
      place = c.requires.place;
    }

pub returns-clause-row : goal.returns-clause-row
returns-clause-row g c = λ x told plan s m t o h runs r arguments call. (
  c.start_asked.ensures.row x told plan s m t o h runs arguments (c.in-Ok.ensures x plan s m t o h.session runs r arguments call)
      (omega (arith, c.if-live-ge-MOST_TASKS.false, c.tasks_of_job-live.ensures x told plan s m t o h runs)),
  c.start_asked.ensures.fits x told plan s m t o h runs arguments,
)
