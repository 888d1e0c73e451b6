use Rattle.std.proofs.Common.{◌∙◌, Ok, Err, ap, length}
use Rattle.b67_word.specs.declared.faults.Fault.TheVariants.{InvalidOperator}
use Rattle.b67_word.specs.declared.faults.Ending.TheVariants.{Faulted}
use Rattle.b67_layout.specs.Machine.{content_after}
use Rattle.b67_session.specs.declared.tries.Tried.{Tried}
use Rattle.b67_session.specs.declared.tries.Tried.TheVariants.{Made, Absent, Ends, Waits}
use Rattle.b67_session.proofs.Composed.{made_once, ends_once, waits_once, stops_once, gives_up_once, never, room_after_stop, may_call, stop_calls, not_full_ok, not_full_once}
use Rattle.b67_session.proofs.AttemptRows.{TriedSo, tried_as, tables_each}
use Rattle.b67_session.proofs.Runs.{ready_over, caused_none, caused_stop}
use Rattle.b67_session.proofs.attempting.last_try.Given.{Over}
use Rattle.b67_session.proofs.attempting.last_try.Goals.{After-try_once}
use Rattle.b67_session.proofs.attempting.last_try.Goals as goal

-- the operator was tried
context : (g : Over) (c : After-try_once g) → TriedSo g.B.Backing.holds g.B.Backing.size g.K.Sink.taken c.try_once.result c.args.machine.now c.try_once.new.machine c.args.backing.now c.try_once.new.backing c.args.paper.now c.try_once.new.paper
context g c = record { each = c.try_once.ensures.tried }

pub try_once-requires-clause-runs : goal.try_once-requires-clause-runs
try_once-requires-clause-runs g c = ready_over c.args.machine.now (g.B.Backing.holds c.args.backing.now) c.requires.runs

pub returns-in-Ok-Made-clause-row : goal.returns-in-Ok-Made-clause-row
returns-in-Ok-Made-clause-row g c = λ x plan s m t o h runs ready.
    let B = g.B.Backing in
    let tried = (rw c.in-Ok-Made.field-0-is at c.in-Ok-Made.ensures.tried) x x.device plan s m t o h.stands runs ready in
    record {
      meets = λ none.
          made_once B.holds g.K.Sink.taken c.args.backing.now c.try_once.new.backing x (B.size c.args.backing.now) plan s m t o runs c.args.machine.now c.try_once.new.machine h c.args.paper.now c.try_once.new.paper
          (tried.row h.says);
      fits = λ none. tried.fits;
      calm = λ none. record { same = tried.quiet (λ w. none (may_call x plan m t w)); not_full = not_full_ok Made };
    }

pub returns-in-Ok-Ends-clause-row : goal.returns-in-Ok-Ends-clause-row
returns-in-Ok-Ends-clause-row g c = λ x plan s m t o h runs ready.
    let B = g.B.Backing in
    let tried = (rw c.in-Ok-Ends.field-0-is at c.in-Ok-Ends.ensures.tried) x x.device plan s m t o h.stands runs ready in
    let quiet = tried.quiet (λ w. w) in
    record {
      meets = λ none.
          ends_once B.holds g.K.Sink.taken c.args.backing.now c.try_once.new.backing x (B.size c.args.backing.now) plan s m t o runs c.args.machine.now c.try_once.new.machine h c.args.paper.now c.try_once.new.paper c.in-Ok-Ends.ending
          quiet (tried.row h.says);
      fits = λ none. tried.fits;
      calm = λ none. record { same = quiet; not_full = not_full_ok (Ends c.in-Ok-Ends.ending) };
    }

pub returns-in-Ok-Waits-clause-row : goal.returns-in-Ok-Waits-clause-row
returns-in-Ok-Waits-clause-row g c = λ x plan s m t o h runs ready.
    let B = g.B.Backing in
    let tried = (rw c.in-Ok-Waits.field-0-is at c.in-Ok-Waits.ensures.tried) x x.device plan s m t o h.stands runs ready in
    let quiet = tried.quiet (λ w. w) in
    record {
      meets = λ none.
          waits_once B.holds g.K.Sink.taken c.args.backing.now c.try_once.new.backing x (B.size c.args.backing.now) plan s m t o runs c.args.machine.now c.try_once.new.machine h c.args.paper.now c.try_once.new.paper c.in-Ok-Waits.state
          quiet (tried.row h.says);
      fits = λ none. tried.fits;
      calm = λ none. record { same = quiet; not_full = not_full_ok (Waits c.in-Ok-Waits.state) };
    }

pub returns-in-Ok-Absent-clause-row : goal.returns-in-Ok-Absent-clause-row
returns-in-Ok-Absent-clause-row g c = λ x plan s m t o h runs ready.
    let B = g.B.Backing in
    let tried = (rw c.in-Ok-Absent.field-0-is at c.in-Ok-Absent.ensures.tried) x x.device plan s m t o h.stands runs ready in
    let quiet = tried.quiet (λ w. w) in
    record {
      meets = λ none.
          gives_up_once B.holds g.K.Sink.taken c.args.backing.now c.try_once.new.backing x (B.size c.args.backing.now) plan s m t o runs c.args.machine.now c.try_once.new.machine h c.args.paper.now c.try_once.new.paper c.in-Ok-Absent.field-0-0
          quiet none (tried.row h.says);
      fits = λ none.
          absurd (never g.K.Sink.taken (content_after x.device (B.holds c.try_once.new.backing)) (B.size c.args.backing.now) x plan s m t c.args.machine.now c.try_once.new.machine c.args.paper.now c.try_once.new.paper c.in-Ok-Absent.field-0-0 none
          (tried.row h.says));
      calm = λ none. record { same = quiet; not_full = not_full_ok (Ends (Faulted InvalidOperator)) };
    }

pub returns-in-Err-clause-row : goal.returns-in-Err-clause-row
returns-in-Err-clause-row g c = λ x plan s m t o h runs ready.
    let B = g.B.Backing in
    let tried = c.in-Err.ensures.tried x x.device plan s m t o h.stands runs ready in
    let after = content_after x.device (B.holds c.try_once.new.backing) in
    record {
      meets = λ none.
          stops_once B.holds g.K.Sink.taken c.args.backing.now c.try_once.new.backing x (B.size c.args.backing.now) plan s m t o runs c.args.machine.now c.try_once.new.machine h c.args.paper.now c.try_once.new.paper c.in-Err.stop
          tried.quiet tried.fits (tried.row h.says);
      fits = λ none. room_after_stop (length c.args.machine.now.cpu.core) x plan s m t c.in-Err.stop tried.fits;
      calm = λ none. record {
        same = tried.quiet (λ w. none (stop_calls x plan m t c.in-Err.stop w));
        not_full = not_full_once g.K.Sink.taken after (B.size c.args.backing.now) x plan s m t c.args.machine.now c.try_once.new.machine c.args.paper.now c.try_once.new.paper c.in-Err.stop (tried.row h.says) none;
      };
    }

pub returns-in-Ok-Made-clause-causes : goal.returns-in-Ok-Made-clause-causes
returns-in-Ok-Made-clause-causes g c = caused_none g.B.Backing.faults g.K.Sink.faults c.args.backing.now c.try_once.new.backing c.args.paper.now c.try_once.new.paper Made c.try_once.ensures.causes.printer.later

pub returns-in-Ok-Ends-clause-causes : goal.returns-in-Ok-Ends-clause-causes
returns-in-Ok-Ends-clause-causes g c = caused_none g.B.Backing.faults g.K.Sink.faults c.args.backing.now c.try_once.new.backing c.args.paper.now c.try_once.new.paper (Ends c.in-Ok-Ends.ending) c.try_once.ensures.causes.printer.later

pub returns-in-Ok-Waits-clause-causes : goal.returns-in-Ok-Waits-clause-causes
returns-in-Ok-Waits-clause-causes g c = caused_none g.B.Backing.faults g.K.Sink.faults c.args.backing.now c.try_once.new.backing c.args.paper.now c.try_once.new.paper (Waits c.in-Ok-Waits.state) c.try_once.ensures.causes.printer.later

pub returns-in-Ok-Absent-clause-causes : goal.returns-in-Ok-Absent-clause-causes
returns-in-Ok-Absent-clause-causes g c = caused_none g.B.Backing.faults g.K.Sink.faults c.args.backing.now c.try_once.new.backing c.args.paper.now c.try_once.new.paper (Ends (Faulted InvalidOperator)) c.try_once.ensures.causes.printer.later

pub returns-in-Err-clause-causes : goal.returns-in-Err-clause-causes
returns-in-Err-clause-causes g c = caused_stop g.B.Backing.faults g.K.Sink.faults c.args.backing.now c.try_once.new.backing c.args.paper.now c.try_once.new.paper c.in-Err.stop c.in-Err.ensures.causes

pub returns-in-Ok-Ends-clause-tables : goal.returns-in-Ok-Ends-clause-tables
returns-in-Ok-Ends-clause-tables g c = tables_each (Ok (Ends c.in-Ok-Ends.ending)) c.requires.runs (tried_as (context g (goal.at.returns-in-Ok-Ends-clause-tables g c).After-try_once) (c.in-Ok-Ends.is ∙ ap (λ (z : Tried). Ok z) c.in-Ok-Ends.field-0-is))

pub returns-in-Ok-Waits-clause-tables : goal.returns-in-Ok-Waits-clause-tables
returns-in-Ok-Waits-clause-tables g c = tables_each (Ok (Waits c.in-Ok-Waits.state)) c.requires.runs (tried_as (context g (goal.at.returns-in-Ok-Waits-clause-tables g c).After-try_once) (c.in-Ok-Waits.is ∙ ap (λ (z : Tried). Ok z) c.in-Ok-Waits.field-0-is))

pub returns-in-Ok-Absent-clause-tables : goal.returns-in-Ok-Absent-clause-tables
returns-in-Ok-Absent-clause-tables g c = tables_each (Ok (Absent c.in-Ok-Absent.field-0-0)) c.requires.runs (tried_as (context g (goal.at.returns-in-Ok-Absent-clause-tables g c).After-try_once) (c.in-Ok-Absent.is ∙ ap (λ (z : Tried). Ok z) c.in-Ok-Absent.field-0-is))

pub returns-in-Err-clause-tables : goal.returns-in-Err-clause-tables
returns-in-Err-clause-tables g c = tables_each (Err c.in-Err.stop) c.requires.runs (tried_as (context g (goal.at.returns-in-Err-clause-tables g c).After-try_once) c.in-Err.is)
