use Rattle.std.proofs.Common.{sym, subst, arith}
use Rattle.b67_task.specs.declared.tables.Machine.{Machine}
use Rattle.b67_task.specs.declared.tables.Tasks.{Tasks}
use Rattle.b67_session.specs.Makes.{ForEachReady}
use Rattle.b67_session.specs.Tries.{ReadyRuns, TryRow}
use Rattle.b67_mcp.specs.Running.{JobsHaveRoom}
use Rattle.b67_session.proofs.DoneTries.{done_tries}
use Rattle.b67_session.proofs.tries.try_once.Goals as goal

pub returns-in-Done-clause-tried : goal.returns-in-Done-clause-tried
returns-in-Done-clause-tried g c = λ x told plan s m t o h runs ready.
    done_tries g.B.Backing.holds g.K.Sink.taken (g.B.Backing.size c.args.backing.now) c.args.backing.now c.args.paper.now x told plan s m t c.args.machine.now c.make.new.machine o h runs c.make.ensures.tasks
    (c.in-Done.ensures.row x told plan s m t o h runs ready)

pub carry_out-requires-clause-runs : goal.carry_out-requires-clause-runs
carry_out-requires-clause-runs g c = subst ReadyRuns (sym (c.make.ensures.rest c.in_default.not-Done)) c.requires.runs

pub carry_out-requires-clause-jobs : goal.carry_out-requires-clause-jobs
carry_out-requires-clause-jobs g c = subst (λ (z : Tasks). JobsHaveRoom z.jobs) (sym c.make.ensures.tasks) c.requires.jobs

pub carry_out-requires-clause-same : goal.carry_out-requires-clause-same
carry_out-requires-clause-same g c = omega (arith, c.make.ensures.keeps.sectors, c.requires.same)

pub carry_out-requires-clause-why : goal.carry_out-requires-clause-why
carry_out-requires-clause-why g c = c.make.ensures.stops c.in_default.not-Done

pub returns-in_default-clause-tried : goal.returns-in_default-clause-tried
returns-in_default-clause-tried g c =
    let B = g.B.Backing in
    subst (λ (k : Machine). ForEachReady k (λ x told plan s m t.
    TryRow B.holds g.K.Sink.taken (B.size c.args.backing.now) x told plan s m t c.carry_out.result k c.carry_out.new.machine c.args.backing.now c.carry_out.new.backing c.args.paper.now c.carry_out.new.paper))
    (c.make.ensures.rest c.in_default.not-Done) c.carry_out.ensures.tried
