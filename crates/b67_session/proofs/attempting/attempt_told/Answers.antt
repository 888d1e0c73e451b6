use Rattle.std.proofs.Common.{sym, subst, arith, length}
use Rattle.b67_layout.specs.Machine.{content_after}
use Rattle.b67_layout.proofs.Devices.{Served-none}
use Rattle.b67_task.specs.declared.tables.Machine.{Machine}
use Rattle.b67_task.specs.declared.tables.Tasks.{Tasks}
use Rattle.b67_mcp.specs.Running.{JobsHaveRoom}
use Rattle.b67_session.specs.Attempts.{RunsOver, ForEachOver, AttemptRow, TablesStay}
use Rattle.b67_session.specs.declared.tries.Tried.TheVariants.{Made}
use Rattle.b67_session.proofs.AttemptRows.{made_row}
use Rattle.b67_session.proofs.DoneTries.{done_tries}
use Rattle.b67_session.proofs.Runs.{ready_over, caused_none, keeps_then}
use Rattle.b67_session.proofs.attempting.attempt_told.Goals as goal

pub make_told-requires-clause-runs : goal.make_told-requires-clause-runs
make_told-requires-clause-runs g c = ((ready_over c.args.machine.now (g.B.Backing.holds c.args.backing.now) c.requires.runs).runs)

-- ---- the operator was made by a reader

pub returns-then-make_told-clause-row : goal.returns-then-make_told-clause-row
returns-then-make_told-clause-row g c = λ x plan s m t o h runs ready.
    let B = g.B.Backing in
    let device = c.args.backing.now in
    let paper = c.args.paper.now in
    let old = c.args.machine.now in
    let new = c.make_told.new.machine in
    made_row B.holds B.size g.K.Sink.taken device device x plan s m t o runs old new h paper paper
    (done_tries B.holds g.K.Sink.taken (B.size device) device paper x x.device plan s m t old new o h.stands runs c.make_told.ensures.tasks
    (c.make_told.ensures.row c.if-make_told.true x x.device plan s m t o h.stands runs ready))

pub returns-then-make_told-clause-leaves : goal.returns-then-make_told-clause-leaves
returns-then-make_told-clause-leaves g c = record {
  causes = caused_none g.B.Backing.faults g.K.Sink.faults c.args.backing.now c.args.backing.now c.args.paper.now c.args.paper.now Made (omega arith);
  kept = c.make_told.ensures.keeps;
  served = Served-none g.B.Backing.holds g.B.Backing.size g.B.Backing.calls g.B.Backing.faults c.args.backing.now;
}

-- ---- it wasn't, and the machine is as it was

pub attempt_seen-requires-clause-runs : goal.attempt_seen-requires-clause-runs
attempt_seen-requires-clause-runs g c = subst (λ (k : Machine). RunsOver k (g.B.Backing.holds c.args.backing.now)) (sym (c.make_told.ensures.rest c.if-make_told.false)) c.requires.runs

pub attempt_seen-requires-clause-jobs : goal.attempt_seen-requires-clause-jobs
attempt_seen-requires-clause-jobs g c = subst (λ (z : Tasks). JobsHaveRoom z.jobs) (sym c.make_told.ensures.tasks) c.requires.jobs

pub attempt_seen-requires-clause-same : goal.attempt_seen-requires-clause-same
attempt_seen-requires-clause-same g c = omega (arith, c.make_told.ensures.keeps.sectors, c.requires.same)

pub returns-clause-row : goal.returns-clause-row
returns-clause-row g c =
    let B = g.B.Backing in
    let device = c.args.backing.now in
    let after = c.attempt_seen.new.backing in
    subst (λ (k : Machine). ForEachOver k (B.holds device) (λ x plan s m t.
    AttemptRow B.holds g.K.Sink.taken x (content_after x.device (B.holds after)) (length k.cpu.core) (B.size device) k.tasks.printed plan s m t c.attempt_seen.result c.attempt_seen.new.machine
    device after c.args.paper.now c.attempt_seen.new.paper)) (c.make_told.ensures.rest c.if-make_told.false) c.attempt_seen.ensures.row

pub returns-clause-leaves : goal.returns-clause-leaves
returns-clause-leaves g c = record {
  causes = c.attempt_seen.ensures.leaves.causes;
  kept = keeps_then c.args.machine.now c.make_told.new.machine c.attempt_seen.new.machine c.make_told.ensures.keeps c.attempt_seen.ensures.leaves.kept;
  served = c.attempt_seen.ensures.leaves.served;
}

pub returns-clause-tables : goal.returns-clause-tables
returns-clause-tables g c = subst (λ (z : Tasks). TablesStay c.attempt_seen.result z c.attempt_seen.new.machine.tasks) c.make_told.ensures.tasks c.attempt_seen.ensures.tables
