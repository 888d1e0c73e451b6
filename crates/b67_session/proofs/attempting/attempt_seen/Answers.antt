use Rattle.std.proofs.Common.{◌≡◌, ◌∙◌, Ok, Err, sym, ap, arith, subst}
use Rattle.b67_layout.proofs.Devices.{still_tells, Served-then}
use Rattle.b67_task.specs.declared.tables.Tasks.{Tasks}
use Rattle.b67_mcp.specs.Running.{JobsHaveRoom}
use Rattle.b67_session.specs.declared.tries.Tried.{Tried}
use Rattle.b67_session.specs.declared.tries.Tried.TheVariants.{Made, Absent, Ends, Waits}
use Rattle.b67_session.proofs.Composed.{tables_stay, tables_from}
use Rattle.b67_session.proofs.AttemptRows.{TriedSo, tried_as, BroughtSo, brought_as, made_each, ends_each, waits_each, stops_each, refused_each, attempt_each, tables_each, wants_some, runs_on}
use Rattle.b67_session.proofs.Runs.{ready_over, caused_none, caused_stop, caused_want, caused_later, keeps_then}
use Rattle.b67_session.proofs.attempting.attempt_seen.Given.{Over}
use Rattle.b67_session.proofs.attempting.attempt_seen.Goals.{After-carry_out, After-bring_wanted}
use Rattle.b67_session.proofs.attempting.attempt_seen.Goals as goal

-- the operator was tried
context : (g : Over) (c : After-carry_out g) → TriedSo g.B.Backing.holds g.B.Backing.size g.K.Sink.taken c.carry_out.result c.args.machine.now c.carry_out.new.machine c.args.backing.now c.carry_out.new.backing c.args.paper.now c.carry_out.new.paper
context g c = record { each = c.carry_out.ensures.tried }

-- what it wants was asked for
module _ (g : Over) (c : After-bring_wanted g) where
  absent : TriedSo g.B.Backing.holds g.B.Backing.size g.K.Sink.taken (Ok (Absent c.in-Ok-Absent.wanted)) c.args.machine.now c.carry_out.new.machine c.args.backing.now c.carry_out.new.backing c.args.paper.now c.carry_out.new.paper
  absent = tried_as (record { each = c.carry_out.ensures.tried }) (c.in-Ok-Absent.is ∙ ap (λ (z : Tried). Ok z) c.in-Ok-Absent.field-0-is)

  brought : BroughtSo g.B.Backing.holds g.B.Backing.size c.in-Ok-Absent.wanted c.bring_wanted.result c.carry_out.new.machine c.bring_wanted.new.machine c.carry_out.new.backing c.bring_wanted.new.backing
  brought = record {
    row = c.bring_wanted.ensures.row;
    tells = still_tells g.B.Backing.holds g.B.Backing.size g.B.Backing.calls g.B.Backing.faults c.carry_out.new.backing c.bring_wanted.new.backing c.bring_wanted.ensures.device;
    many = c.bring_wanted.ensures.device.size;
    core = c.bring_wanted.ensures.keeps.core;
    tasks = c.bring_wanted.ensures.tasks;
    silent = c.bring_wanted.ensures.silent;
  }

  tables : c.bring_wanted.new.machine.tasks ≡ c.args.machine.now.tasks
  tables = c.bring_wanted.ensures.tasks ∙ tables_each (Ok (Absent c.in-Ok-Absent.wanted)) c.requires.runs absent

pub carry_out-requires-clause-runs : goal.carry_out-requires-clause-runs
carry_out-requires-clause-runs g c = ready_over c.args.machine.now (g.B.Backing.holds c.args.backing.now) c.requires.runs

pub bring_wanted-requires-clause-wants : goal.bring_wanted-requires-clause-wants
bring_wanted-requires-clause-wants g c =
    wants_some (tried_as (context g (goal.at.bring_wanted-requires-clause-wants g c).After-carry_out) (c.in-Ok-Absent.is ∙ ap (λ (z : Tried). Ok z) c.in-Ok-Absent.field-0-is)) c.requires.runs

pub with_code-requires-clause-runs : goal.with_code-requires-clause-runs
with_code-requires-clause-runs g c =
    let a = (goal.at.with_code-requires-clause-runs g c).After-bring_wanted in
    runs_on (absent g a) (brought_as (brought g a) c.in-Ok.is) c.requires.runs

pub with_code-requires-clause-jobs : goal.with_code-requires-clause-jobs
with_code-requires-clause-jobs g c = subst (λ (z : Tasks). JobsHaveRoom z.jobs) (sym (tables g (goal.at.with_code-requires-clause-jobs g c).After-bring_wanted)) c.requires.jobs

pub returns-in-Ok-Made-clause-row : goal.returns-in-Ok-Made-clause-row
returns-in-Ok-Made-clause-row g c = made_each (tried_as (context g (goal.at.returns-in-Ok-Made-clause-row g c).After-carry_out) (c.in-Ok-Made.is ∙ ap (λ (z : Tried). Ok z) c.in-Ok-Made.field-0-is))

pub returns-in-Ok-Ends-clause-row : goal.returns-in-Ok-Ends-clause-row
returns-in-Ok-Ends-clause-row g c = ends_each c.in-Ok-Ends.ending (tried_as (context g (goal.at.returns-in-Ok-Ends-clause-row g c).After-carry_out) (c.in-Ok-Ends.is ∙ ap (λ (z : Tried). Ok z) c.in-Ok-Ends.field-0-is))

pub returns-in-Ok-Waits-clause-row : goal.returns-in-Ok-Waits-clause-row
returns-in-Ok-Waits-clause-row g c = waits_each c.in-Ok-Waits.state (tried_as (context g (goal.at.returns-in-Ok-Waits-clause-row g c).After-carry_out) (c.in-Ok-Waits.is ∙ ap (λ (z : Tried). Ok z) c.in-Ok-Waits.field-0-is))

pub returns-in-Err-clause-row : goal.returns-in-Err-clause-row
returns-in-Err-clause-row g c = stops_each c.in-Err.stop (tried_as (context g (goal.at.returns-in-Err-clause-row g c).After-carry_out) c.in-Err.is)

pub returns-in-Err-bring_wanted-clause-row : goal.returns-in-Err-bring_wanted-clause-row
returns-in-Err-bring_wanted-clause-row g c =
    let a = (goal.at.returns-in-Err-bring_wanted-clause-row g c).After-bring_wanted in
    refused_each c.in-Err-bring_wanted.stop (absent g a) (brought_as (brought g a) c.in-Err-bring_wanted.is)

pub returns-in-Ok-clause-row : goal.returns-in-Ok-clause-row
returns-in-Ok-clause-row g c =
    let a = (goal.at.returns-in-Ok-clause-row g c).After-bring_wanted in
    attempt_each (absent g a) (brought_as (brought g a) c.in-Ok.is) c.with_code.new.machine c.with_code.new.backing c.with_code.new.paper c.with_code.result c.with_code.ensures.row

pub returns-in-Ok-Made-clause-leaves : goal.returns-in-Ok-Made-clause-leaves
returns-in-Ok-Made-clause-leaves g c = record {
  causes = caused_none g.B.Backing.faults g.K.Sink.faults c.args.backing.now c.carry_out.new.backing c.args.paper.now c.carry_out.new.paper Made c.carry_out.ensures.causes.printer.later;
  kept = c.carry_out.ensures.keeps;
  served = c.carry_out.ensures.device;
}

pub returns-in-Ok-Ends-clause-leaves : goal.returns-in-Ok-Ends-clause-leaves
returns-in-Ok-Ends-clause-leaves g c = record {
  causes = caused_none g.B.Backing.faults g.K.Sink.faults c.args.backing.now c.carry_out.new.backing c.args.paper.now c.carry_out.new.paper (Ends c.in-Ok-Ends.ending) c.carry_out.ensures.causes.printer.later;
  kept = c.carry_out.ensures.keeps;
  served = c.carry_out.ensures.device;
}

pub returns-in-Ok-Waits-clause-leaves : goal.returns-in-Ok-Waits-clause-leaves
returns-in-Ok-Waits-clause-leaves g c = record {
  causes = caused_none g.B.Backing.faults g.K.Sink.faults c.args.backing.now c.carry_out.new.backing c.args.paper.now c.carry_out.new.paper (Waits c.in-Ok-Waits.state) c.carry_out.ensures.causes.printer.later;
  kept = c.carry_out.ensures.keeps;
  served = c.carry_out.ensures.device;
}

pub returns-in-Err-clause-leaves : goal.returns-in-Err-clause-leaves
returns-in-Err-clause-leaves g c = record {
  causes = caused_stop g.B.Backing.faults g.K.Sink.faults c.args.backing.now c.carry_out.new.backing c.args.paper.now c.carry_out.new.paper c.in-Err.stop c.in-Err.ensures.causes;
  kept = c.carry_out.ensures.keeps;
  served = c.carry_out.ensures.device;
}

pub returns-in-Err-bring_wanted-clause-leaves : goal.returns-in-Err-bring_wanted-clause-leaves
returns-in-Err-bring_wanted-clause-leaves g c = record {
  causes =
      caused_want g.B.Backing.faults g.K.Sink.faults c.args.backing.now c.carry_out.new.backing c.bring_wanted.new.backing c.args.paper.now c.carry_out.new.paper c.bring_wanted.result c.in-Err-bring_wanted.stop c.in-Err-bring_wanted.is
      c.carry_out.ensures.device.faults c.carry_out.ensures.causes.printer.later c.bring_wanted.ensures.cause c.bring_wanted.ensures.silent;
  kept = keeps_then c.args.machine.now c.carry_out.new.machine c.bring_wanted.new.machine c.carry_out.ensures.keeps c.bring_wanted.ensures.keeps;
  served =
      let B = g.B.Backing in
      Served-then B.holds B.size B.calls B.faults c.args.backing.now c.carry_out.new.backing c.bring_wanted.new.backing c.carry_out.ensures.device c.bring_wanted.ensures.device;
}

pub returns-in-Ok-clause-leaves : goal.returns-in-Ok-clause-leaves
returns-in-Ok-clause-leaves g c = record {
  causes =
      let d = c.carry_out.ensures.device.faults in
      let e = c.bring_wanted.ensures.device.faults in
      caused_later g.B.Backing.faults g.K.Sink.faults c.args.backing.now c.bring_wanted.new.backing c.with_code.new.backing c.args.paper.now c.carry_out.new.paper c.with_code.new.paper c.with_code.result (omega (arith, d, e)) c.carry_out.ensures.causes.printer.later c.with_code.ensures.causes;
  kept =
      keeps_then c.args.machine.now c.carry_out.new.machine c.with_code.new.machine c.carry_out.ensures.keeps
      (keeps_then c.carry_out.new.machine c.bring_wanted.new.machine c.with_code.new.machine c.bring_wanted.ensures.keeps c.with_code.ensures.kept);
  served =
      let B = g.B.Backing in
      Served-then B.holds B.size B.calls B.faults c.args.backing.now c.carry_out.new.backing c.with_code.new.backing c.carry_out.ensures.device
      (Served-then B.holds B.size B.calls B.faults c.carry_out.new.backing c.bring_wanted.new.backing c.with_code.new.backing c.bring_wanted.ensures.device c.with_code.ensures.device);
}

pub returns-in-Ok-Ends-clause-tables : goal.returns-in-Ok-Ends-clause-tables
returns-in-Ok-Ends-clause-tables g c = tables_each (Ok (Ends c.in-Ok-Ends.ending)) c.requires.runs (tried_as (context g (goal.at.returns-in-Ok-Ends-clause-tables g c).After-carry_out) (c.in-Ok-Ends.is ∙ ap (λ (z : Tried). Ok z) c.in-Ok-Ends.field-0-is))

pub returns-in-Ok-Waits-clause-tables : goal.returns-in-Ok-Waits-clause-tables
returns-in-Ok-Waits-clause-tables g c = tables_each (Ok (Waits c.in-Ok-Waits.state)) c.requires.runs (tried_as (context g (goal.at.returns-in-Ok-Waits-clause-tables g c).After-carry_out) (c.in-Ok-Waits.is ∙ ap (λ (z : Tried). Ok z) c.in-Ok-Waits.field-0-is))

pub returns-in-Err-clause-tables : goal.returns-in-Err-clause-tables
returns-in-Err-clause-tables g c = tables_each (Err c.in-Err.stop) c.requires.runs (tried_as (context g (goal.at.returns-in-Err-clause-tables g c).After-carry_out) c.in-Err.is)

pub returns-in-Err-bring_wanted-clause-tables : goal.returns-in-Err-bring_wanted-clause-tables
returns-in-Err-bring_wanted-clause-tables g c =
    tables_stay c.in-Err-bring_wanted.stop c.args.machine.now.tasks c.bring_wanted.new.machine.tasks (λ e. c.in-Err-bring_wanted.ensures.silent (ap Err e)) (tables g (goal.at.returns-in-Err-bring_wanted-clause-tables g c).After-bring_wanted)

pub returns-in-Ok-clause-tables : goal.returns-in-Ok-clause-tables
returns-in-Ok-clause-tables g c =
    tables_from c.with_code.result c.args.machine.now.tasks c.bring_wanted.new.machine.tasks c.with_code.new.machine.tasks (tables g (goal.at.returns-in-Ok-clause-tables g c).After-bring_wanted) c.with_code.ensures.tables
