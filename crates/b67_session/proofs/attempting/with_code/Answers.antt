use Rattle.std.proofs.Common.{◌≡◌, ◌∙◌, Ok, Err, sym, ap, arith, subst}
use Rattle.b67_layout.proofs.Devices.{still_tells, Served-then}
use Rattle.b67_task.specs.declared.tables.Tasks.{Tasks}
use Rattle.b67_mcp.specs.Running.{JobsHaveRoom}
use Rattle.b67_session.specs.declared.tries.Tried.{Tried}
use Rattle.b67_session.specs.declared.tries.Tried.TheVariants.{Made, Absent, Ends, Waits}
use Rattle.b67_session.proofs.Composed.{tables_stay, tables_from}
use Rattle.b67_session.proofs.AttemptRows.{TriedSo, tried_as, BroughtSo, brought_as, made_each, ends_each, waits_each, stops_each, refused_each, coded, coded_each, tables_each, wants_some, runs_on}
use Rattle.b67_session.proofs.Runs.{ready_over, caused_none, caused_stop, caused_want, caused_later, keeps_then}
use Rattle.b67_session.proofs.attempting.with_code.Given.{Over}
use Rattle.b67_session.proofs.attempting.with_code.Goals.{After-try_once, After-bring_wanted}
use Rattle.b67_session.proofs.attempting.with_code.Goals as goal

-- the operator was tried
context : (g : Over) (c : After-try_once g) → TriedSo g.B.Backing.holds g.B.Backing.size g.K.Sink.taken c.try_once.result c.args.machine.now c.try_once.new.machine c.args.backing.now c.try_once.new.backing c.args.paper.now c.try_once.new.paper
context g c = record { each = c.try_once.ensures.tried }

-- what it wants was asked for
module _ (g : Over) (c : After-bring_wanted g) where
  absent : TriedSo g.B.Backing.holds g.B.Backing.size g.K.Sink.taken (Ok (Absent c.in-Ok-Absent.wanted)) c.args.machine.now c.try_once.new.machine c.args.backing.now c.try_once.new.backing c.args.paper.now c.try_once.new.paper
  absent = tried_as (record { each = c.try_once.ensures.tried }) (c.in-Ok-Absent.is ∙ ap (λ (z : Tried). Ok z) c.in-Ok-Absent.field-0-is)

  brought : BroughtSo g.B.Backing.holds g.B.Backing.size c.in-Ok-Absent.wanted c.bring_wanted.result c.try_once.new.machine c.bring_wanted.new.machine c.try_once.new.backing c.bring_wanted.new.backing
  brought = record {
    row = c.bring_wanted.ensures.row;
    tells = still_tells g.B.Backing.holds g.B.Backing.size g.B.Backing.calls g.B.Backing.faults c.try_once.new.backing c.bring_wanted.new.backing c.bring_wanted.ensures.device;
    many = c.bring_wanted.ensures.device.size;
    core = c.bring_wanted.ensures.keeps.core;
    tasks = c.bring_wanted.ensures.tasks;
    silent = c.bring_wanted.ensures.silent;
  }

  tables : c.bring_wanted.new.machine.tasks ≡ c.args.machine.now.tasks
  tables = c.bring_wanted.ensures.tasks ∙ tables_each (Ok (Absent c.in-Ok-Absent.wanted)) c.requires.runs absent

pub try_once-requires-clause-runs : goal.try_once-requires-clause-runs
try_once-requires-clause-runs g c = ready_over c.args.machine.now (g.B.Backing.holds c.args.backing.now) c.requires.runs

pub bring_wanted-requires-clause-wants : goal.bring_wanted-requires-clause-wants
bring_wanted-requires-clause-wants g c =
    wants_some (tried_as (context g (goal.at.bring_wanted-requires-clause-wants g c).After-try_once) (c.in-Ok-Absent.is ∙ ap (λ (z : Tried). Ok z) c.in-Ok-Absent.field-0-is)) c.requires.runs

pub last_try-requires-clause-runs : goal.last_try-requires-clause-runs
last_try-requires-clause-runs g c =
    let a = (goal.at.last_try-requires-clause-runs g c).After-bring_wanted in
    runs_on (absent g a) (brought_as (brought g a) c.in-Ok.is) c.requires.runs

pub last_try-requires-clause-jobs : goal.last_try-requires-clause-jobs
last_try-requires-clause-jobs g c = subst (λ (z : Tasks). JobsHaveRoom z.jobs) (sym (tables g (goal.at.last_try-requires-clause-jobs g c).After-bring_wanted)) c.requires.jobs

pub returns-in-Ok-Made-clause-row : goal.returns-in-Ok-Made-clause-row
returns-in-Ok-Made-clause-row g c = λ x plan s m t o h runs ready. coded (made_each (tried_as (context g (goal.at.returns-in-Ok-Made-clause-row g c).After-try_once) (c.in-Ok-Made.is ∙ ap (λ (z : Tried). Ok z) c.in-Ok-Made.field-0-is)) x plan s m t o h runs ready)

pub returns-in-Ok-Ends-clause-row : goal.returns-in-Ok-Ends-clause-row
returns-in-Ok-Ends-clause-row g c = λ x plan s m t o h runs ready. coded (ends_each c.in-Ok-Ends.ending (tried_as (context g (goal.at.returns-in-Ok-Ends-clause-row g c).After-try_once) (c.in-Ok-Ends.is ∙ ap (λ (z : Tried). Ok z) c.in-Ok-Ends.field-0-is)) x plan s m t o h runs ready)

pub returns-in-Ok-Waits-clause-row : goal.returns-in-Ok-Waits-clause-row
returns-in-Ok-Waits-clause-row g c = λ x plan s m t o h runs ready. coded (waits_each c.in-Ok-Waits.state (tried_as (context g (goal.at.returns-in-Ok-Waits-clause-row g c).After-try_once) (c.in-Ok-Waits.is ∙ ap (λ (z : Tried). Ok z) c.in-Ok-Waits.field-0-is)) x plan s m t o h runs ready)

pub returns-in-Err-clause-row : goal.returns-in-Err-clause-row
returns-in-Err-clause-row g c = λ x plan s m t o h runs ready. coded (stops_each c.in-Err.stop (tried_as (context g (goal.at.returns-in-Err-clause-row g c).After-try_once) c.in-Err.is) x plan s m t o h runs ready)

pub returns-in-Err-bring_wanted-clause-row : goal.returns-in-Err-bring_wanted-clause-row
returns-in-Err-bring_wanted-clause-row g c =
    let a = (goal.at.returns-in-Err-bring_wanted-clause-row g c).After-bring_wanted in
    λ x plan s m t o h runs ready. coded (refused_each c.in-Err-bring_wanted.stop (absent g a) (brought_as (brought g a) c.in-Err-bring_wanted.is) x plan s m t o h runs ready)

pub returns-in-Ok-clause-row : goal.returns-in-Ok-clause-row
returns-in-Ok-clause-row g c =
    let a = (goal.at.returns-in-Ok-clause-row g c).After-bring_wanted in
    coded_each (absent g a) (brought_as (brought g a) c.in-Ok.is) c.last_try.new.machine c.last_try.new.backing c.last_try.new.paper c.last_try.result c.last_try.ensures.row

pub returns-in-Ok-Ends-clause-tables : goal.returns-in-Ok-Ends-clause-tables
returns-in-Ok-Ends-clause-tables g c = tables_each (Ok (Ends c.in-Ok-Ends.ending)) c.requires.runs (tried_as (context g (goal.at.returns-in-Ok-Ends-clause-tables g c).After-try_once) (c.in-Ok-Ends.is ∙ ap (λ (z : Tried). Ok z) c.in-Ok-Ends.field-0-is))

pub returns-in-Ok-Waits-clause-tables : goal.returns-in-Ok-Waits-clause-tables
returns-in-Ok-Waits-clause-tables g c = tables_each (Ok (Waits c.in-Ok-Waits.state)) c.requires.runs (tried_as (context g (goal.at.returns-in-Ok-Waits-clause-tables g c).After-try_once) (c.in-Ok-Waits.is ∙ ap (λ (z : Tried). Ok z) c.in-Ok-Waits.field-0-is))

pub returns-in-Err-clause-tables : goal.returns-in-Err-clause-tables
returns-in-Err-clause-tables g c = tables_each (Err c.in-Err.stop) c.requires.runs (tried_as (context g (goal.at.returns-in-Err-clause-tables g c).After-try_once) c.in-Err.is)

pub returns-in-Err-bring_wanted-clause-tables : goal.returns-in-Err-bring_wanted-clause-tables
returns-in-Err-bring_wanted-clause-tables g c =
    tables_stay c.in-Err-bring_wanted.stop c.args.machine.now.tasks c.bring_wanted.new.machine.tasks (λ e. c.in-Err-bring_wanted.ensures.silent (ap Err e)) (tables g (goal.at.returns-in-Err-bring_wanted-clause-tables g c).After-bring_wanted)

pub returns-in-Ok-clause-tables : goal.returns-in-Ok-clause-tables
returns-in-Ok-clause-tables g c =
    tables_from c.last_try.result c.args.machine.now.tasks c.bring_wanted.new.machine.tasks c.last_try.new.machine.tasks (tables g (goal.at.returns-in-Ok-clause-tables g c).After-bring_wanted) c.last_try.ensures.tables

pub returns-in-Ok-Made-clause-causes : goal.returns-in-Ok-Made-clause-causes
returns-in-Ok-Made-clause-causes g c = caused_none g.B.Backing.faults g.K.Sink.faults c.args.backing.now c.try_once.new.backing c.args.paper.now c.try_once.new.paper Made c.try_once.ensures.causes.printer.later

pub returns-in-Ok-Ends-clause-causes : goal.returns-in-Ok-Ends-clause-causes
returns-in-Ok-Ends-clause-causes g c = caused_none g.B.Backing.faults g.K.Sink.faults c.args.backing.now c.try_once.new.backing c.args.paper.now c.try_once.new.paper (Ends c.in-Ok-Ends.ending) c.try_once.ensures.causes.printer.later

pub returns-in-Ok-Waits-clause-causes : goal.returns-in-Ok-Waits-clause-causes
returns-in-Ok-Waits-clause-causes g c = caused_none g.B.Backing.faults g.K.Sink.faults c.args.backing.now c.try_once.new.backing c.args.paper.now c.try_once.new.paper (Waits c.in-Ok-Waits.state) c.try_once.ensures.causes.printer.later

pub returns-in-Err-clause-causes : goal.returns-in-Err-clause-causes
returns-in-Err-clause-causes g c = caused_stop g.B.Backing.faults g.K.Sink.faults c.args.backing.now c.try_once.new.backing c.args.paper.now c.try_once.new.paper c.in-Err.stop c.in-Err.ensures.causes

pub returns-in-Err-bring_wanted-clause-causes : goal.returns-in-Err-bring_wanted-clause-causes
returns-in-Err-bring_wanted-clause-causes g c =
    caused_want g.B.Backing.faults g.K.Sink.faults c.args.backing.now c.try_once.new.backing c.bring_wanted.new.backing c.args.paper.now c.try_once.new.paper c.bring_wanted.result c.in-Err-bring_wanted.stop c.in-Err-bring_wanted.is
    c.try_once.ensures.device.faults c.try_once.ensures.causes.printer.later c.bring_wanted.ensures.cause c.bring_wanted.ensures.silent

pub returns-in-Ok-clause-causes : goal.returns-in-Ok-clause-causes
returns-in-Ok-clause-causes g c =
    let d = c.try_once.ensures.device.faults in
    let e = c.bring_wanted.ensures.device.faults in
    caused_later g.B.Backing.faults g.K.Sink.faults c.args.backing.now c.bring_wanted.new.backing c.last_try.new.backing c.args.paper.now c.try_once.new.paper c.last_try.new.paper c.last_try.result (omega (arith, d, e)) c.try_once.ensures.causes.printer.later c.last_try.ensures.causes

pub returns-in-Err-bring_wanted-clause-kept : goal.returns-in-Err-bring_wanted-clause-kept
returns-in-Err-bring_wanted-clause-kept g c = keeps_then c.args.machine.now c.try_once.new.machine c.bring_wanted.new.machine c.try_once.ensures.keeps c.bring_wanted.ensures.keeps

pub returns-in-Ok-clause-kept : goal.returns-in-Ok-clause-kept
returns-in-Ok-clause-kept g c =
    keeps_then c.args.machine.now c.try_once.new.machine c.last_try.new.machine c.try_once.ensures.keeps
    (keeps_then c.try_once.new.machine c.bring_wanted.new.machine c.last_try.new.machine c.bring_wanted.ensures.keeps c.last_try.ensures.kept)

pub returns-in-Err-bring_wanted-clause-device : goal.returns-in-Err-bring_wanted-clause-device
returns-in-Err-bring_wanted-clause-device g c =
    let B = g.B.Backing in
    Served-then B.holds B.size B.calls B.faults c.args.backing.now c.try_once.new.backing c.bring_wanted.new.backing c.try_once.ensures.device c.bring_wanted.ensures.device

pub returns-in-Ok-clause-device : goal.returns-in-Ok-clause-device
returns-in-Ok-clause-device g c =
    let B = g.B.Backing in
    Served-then B.holds B.size B.calls B.faults c.args.backing.now c.try_once.new.backing c.last_try.new.backing c.try_once.ensures.device
    (Served-then B.holds B.size B.calls B.faults c.try_once.new.backing c.bring_wanted.new.backing c.last_try.new.backing c.bring_wanted.ensures.device c.last_try.ensures.device)
