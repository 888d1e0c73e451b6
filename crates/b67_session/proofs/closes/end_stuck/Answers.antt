use Rattle.std.proofs.Common.{◌∙◌, ap}
use Rattle.std.specs.Prelude.{◌==◌}
use Rattle.std.specs.List.{list_any}
use Rattle.b67_task.specs.declared.tables.TaskRow.{TaskRow}
use Rattle.b67_session.proofs.Deadlocks.{goes_same, none_same, lives_still, all_gone}
use Rattle.b67_session.proofs.closes.end_stuck.Goals as goal

pub end_job-requires : goal.end_job-requires
end_job-requires c =
    let r = c.requires.job in
    record {
      storage = r.storage;
      told = r.told;
      plan = r.plan;
      session = r.session;
      member = r.member;
      ordered = r.ordered;
      stands = r.stands;
      among = r.among;
      number = r.number;
      lives = lives_still r.storage r.told c.args.machine.now r.plan r.session r.member r.ordered r.stands r.among c.args.job r.number c.if-not-has_row.false (c.has_row.ensures ∙ ap (list_any (λ (q : TaskRow). q.job == c.args.job)) c.as_slice.ensures.value);
    }

pub returns-then-goes-clause-stands : goal.returns-then-goes-clause-stands
returns-then-goes-clause-stands c = λ x told plan s m o h among number. goes_same x told c.args.machine.now plan s m o h among c.args.job number c.if-goes.true c.requires.seen

pub returns-then-not-has_row-clause-stands : goal.returns-then-not-has_row-clause-stands
returns-then-not-has_row-clause-stands c = λ x told plan s m o h among number.
    none_same x told c.args.machine.now plan s m o h among c.args.job number c.if-not-has_row.true (c.has_row.ensures ∙ ap (list_any (λ (q : TaskRow). q.job == c.args.job)) c.as_slice.ensures.value)

pub returns-clause-stands : goal.returns-clause-stands
returns-clause-stands c = λ x told plan s m o h among number.
    (let lives = lives_still x told c.args.machine.now plan s m o h among c.args.job number c.if-not-has_row.false (c.has_row.ensures ∙ ap (list_any (λ (q : TaskRow). q.job == c.args.job)) c.as_slice.ensures.value) in
    all_gone x told c.args.machine.now plan s m o h among c.args.job number c.if-goes.false c.requires.seen c.end_job.new.machine (c.end_job.ensures.stands x told plan s m o h among number lives))
