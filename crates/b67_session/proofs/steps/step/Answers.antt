use Rattle.std.proofs.Common.{◌≡◌, Ok, Err, sym, ap, ◌∙◌, subst, arith}
use Rattle.b67_task.specs.declared.tables.Machine.{Machine}
use Rattle.b67_task.specs.declared.tables.Tasks.{Tasks}
use Rattle.b67_task.specs.Runs.{Keeps}
use Rattle.b67_session.specs.AttemptPassed.{JobsHaveRoom}
use Rattle.b67_session.specs.declared.tries.Tried.{Tried}
use Rattle.b67_session.specs.declared.tries.Tried.TheVariants as tries
use Rattle.b67_session.proofs.Runs.{caused_stop}
use Rattle.b67_task.proofs.Keeping.{keeps_then, halt_kept}
use Rattle.b67_session.proofs.Caused.{step_causes, printer_alone, turn_keeps}
use Rattle.b67_session.proofs.Rooms.{can_number}
use Rattle.b67_session.proofs.Turned.{Tries, who, has_row, turned, runs_over}
use Rattle.b67_session.proofs.TriedSteps.{ends_not_made, waits_not_made, tries_as, made_counts, made_between, made_row, made_present, absent_never, close_counts, closed_between, closed_row, closed_present, cut_row, cut_present, ending_made, ending_so, ending_chose, ending_closes, waiting_made, waiting_so, waiting_some, waiting_closes, stop_row, stop_present, ending_leaves, waiting_leaves}
use Rattle.b67_session.proofs.steps.step.Given.{Over}
use Rattle.b67_session.proofs.steps.step.Goals.{After-attempt_told}
use Rattle.b67_session.proofs.steps.step.Goals as goal

-- a task has the turn, and its operator was tried
context : (g : Over) (c : After-attempt_told g) → Tries g.B.Backing.holds g.K.Sink.taken (g.B.Backing.holds c.args.backing.now) (g.B.Backing.holds c.attempt_told.new.backing) (g.B.Backing.size c.args.backing.now) c.args.machine.now c.in-Some.chosen c.give_turn.new.machine c.attempt_told.result c.attempt_told.new.machine c.args.backing.now c.attempt_told.new.backing c.args.paper.now c.attempt_told.new.paper
context g c = record {
  chooses = c.in-Some.ensures.choice;
  counts = c.in-Some.ensures.room;
  gives = c.give_turn.ensures.stands;
  tables = c.give_turn.ensures.tables;
  core = c.give_turn.ensures.len;
  row = c.attempt_told.ensures.row;
  stay = c.attempt_told.ensures.tables;
  halt = halt_kept c.give_turn.new.machine c.attempt_told.new.machine c.attempt_told.ensures.leaves.kept;
}

halted : (g : Over) (c : After-attempt_told g) → c.attempt_told.new.machine.tasks.halt ≡ c.args.machine.now.tasks.halt
halted g c = halt_kept c.give_turn.new.machine c.attempt_told.new.machine c.attempt_told.ensures.leaves.kept ∙ ap (λ (z : Tasks). z.halt) c.give_turn.ensures.tables

kept : (g : Over) (c : After-attempt_told g) → Keeps c.args.machine.now c.attempt_told.new.machine
kept g c = turn_keeps c.args.machine.now c.give_turn.new.machine c.attempt_told.new.machine c.in-Some.chosen.row c.give_turn.ensures.tables c.give_turn.ensures.len c.give_turn.ensures.sectors c.attempt_told.ensures.leaves.kept

pub give_turn-requires-clause-row : goal.give_turn-requires-clause-row
give_turn-requires-clause-row g c =
    let l = c.requires.due.lives.some in
    has_row l.said c.args.machine.now l.session l.stands c.in-Some.chosen (c.in-Some.ensures.choice l.stands.plan l.session l.stands.ordered l.stands.stands.tables)

pub attempt_told-requires-clause-runs : goal.attempt_told-requires-clause-runs
attempt_told-requires-clause-runs g c =
    let l = c.requires.due.lives.some in
    let chooses = c.in-Some.ensures.choice l.stands.plan l.session l.stands.ordered l.stands.stands.tables in
    let w = who l.said c.args.machine.now l.session l.stands c.in-Some.chosen chooses in
    runs_over l.said (g.B.Backing.holds c.args.backing.now) l.says c.give_turn.new.machine l.session w.member w.task c.in-Some.chosen
    (turned l.said c.args.machine.now l.session l.stands c.in-Some.chosen chooses c.give_turn.new.machine c.give_turn.ensures.stands (c.in-Some.ensures.room l.stands.plan l.session l.stands.ordered l.stands.stands.tables))

pub attempt_told-requires-clause-jobs : goal.attempt_told-requires-clause-jobs
attempt_told-requires-clause-jobs g c =
    let l = c.requires.due.lives.some in
    subst (λ (z : Tasks). JobsHaveRoom z.jobs) (sym c.give_turn.ensures.tables) (record { countable = c.requires.due.countable; number = can_number l.stands.plan l.session c.args.machine.now.tasks l.stands.ordered l.stands.stands.tables })

pub count_one-requires : goal.count_one-requires
count_one-requires g c =
    let l = c.requires.due.lives.some in
    made_counts (tries_as c.attempt_told.result (Ok tries.Made) (c.in-Ok-Made.is ∙ ap (λ (z : Tried). Ok z) c.in-Ok-Made.field-0-is) (context g (goal.at.count_one-requires g c).After-attempt_told)) l.said l.session l.says l.stands

pub end_step-requires : goal.end_step-requires
end_step-requires g c =
    let l = c.requires.due.lives.some in
    made_between (tries_as c.attempt_told.result (Ok tries.Made) (c.in-Ok-Made.is ∙ ap (λ (z : Tried). Ok z) c.in-Ok-Made.field-0-is) (context g (goal.at.end_step-requires g c).After-attempt_told)) l.said l.session l.says l.stands c.count_one.new.tasks c.count_one.ensures

pub returns-in-Ok-Made-clause-row : goal.returns-in-Ok-Made-clause-row
returns-in-Ok-Made-clause-row g c = λ said s says h.
    made_row (tries_as c.attempt_told.result (Ok tries.Made) (c.in-Ok-Made.is ∙ ap (λ (z : Tried). Ok z) c.in-Ok-Made.field-0-is) (context g (goal.at.returns-in-Ok-Made-clause-row g c).After-attempt_told)) said s says h c.count_one.new.tasks c.count_one.ensures c.end_step.result c.end_step.new.machine c.end_step.new.paper c.end_step.ensures.finishes c.end_step.ensures.tasks

pub returns-in-Ok-Made-clause-present : goal.returns-in-Ok-Made-clause-present
returns-in-Ok-Made-clause-present g c = λ said s m t says h next.
    made_present (tries_as c.attempt_told.result (Ok tries.Made) (c.in-Ok-Made.is ∙ ap (λ (z : Tried). Ok z) c.in-Ok-Made.field-0-is) (context g (goal.at.returns-in-Ok-Made-clause-present g c).After-attempt_told)) said s says h c.count_one.new.tasks c.count_one.ensures c.end_step.result c.end_step.new.machine c.end_step.new.paper c.end_step.ensures.finishes m t next

pub returns-in-Ok-Made-clause-leaves : goal.returns-in-Ok-Made-clause-leaves
returns-in-Ok-Made-clause-leaves g c = record {
  causes = step_causes g.B.Backing.faults g.K.Sink.faults c.args.backing.now c.attempt_told.new.backing c.args.paper.now c.attempt_told.new.paper c.end_step.new.paper c.end_step.result c.attempt_told.ensures.leaves.causes.printer.later c.end_step.ensures.later c.end_step.ensures.cause c.end_step.ensures.other;
  kept =
      let a = (goal.at.returns-in-Ok-Made-clause-leaves g c).After-attempt_told in
      let k = kept g a in let mid = record c.attempt_told.new.machine { tasks = c.count_one.new.tasks } in keeps_then c.args.machine.now mid c.end_step.new.machine (record { core = k.core; sectors = k.sectors; given = c.count_one.ensures.given ∙ k.given }) c.end_step.ensures.keeps;
  served = c.attempt_told.ensures.leaves.served;
}

pub ends-requires-clause-row : goal.ends-requires-clause-row
ends-requires-clause-row g c =
    let l = c.requires.due.lives.some in
    ending_chose c.in-Ok-Ends.ending (tries_as c.attempt_told.result (Ok (tries.Ends c.in-Ok-Ends.ending)) (c.in-Ok-Ends.is ∙ ap (λ (z : Tried). Ok z) c.in-Ok-Ends.field-0-is) (context g (goal.at.ends-requires-clause-row g c).After-attempt_told)) l.said l.session l.says l.stands

pub ends-requires-clause-room : goal.ends-requires-clause-room
ends-requires-clause-room g c =
    let l = c.requires.due.lives.some in
    let x = (tries_as c.attempt_told.result (Ok (tries.Ends c.in-Ok-Ends.ending)) (c.in-Ok-Ends.is ∙ ap (λ (z : Tried). Ok z) c.in-Ok-Ends.field-0-is) (context g (goal.at.ends-requires-clause-room g c).After-attempt_told)) in
    close_counts (tries.Ends c.in-Ok-Ends.ending) x x.stay l.said l.session l.says l.stands (ending_made c.in-Ok-Ends.ending x l.said l.session l.says l.stands) (ending_so c.in-Ok-Ends.ending x l.said l.session l.says l.stands)

pub end_step-requires-in-Ok : goal.end_step-requires-in-Ok
end_step-requires-in-Ok g c =
    let l = c.requires.due.lives.some in
    let x = (tries_as c.attempt_told.result (Ok (tries.Ends c.in-Ok-Ends.ending)) (c.in-Ok-Ends.is ∙ ap (λ (z : Tried). Ok z) c.in-Ok-Ends.field-0-is) (context g (goal.at.end_step-requires-in-Ok g c).After-attempt_told)) in
    closed_between (tries.Ends c.in-Ok-Ends.ending) x x.stay l.said l.session l.says l.stands (ending_made c.in-Ok-Ends.ending x l.said l.session l.says l.stands) (ending_so c.in-Ok-Ends.ending x l.said l.session l.says l.stands) c.ends.new.machine c.ends.new.paper (ending_closes c.in-Ok-Ends.ending x l.said l.session l.says l.stands (Ok tt) c.ends.new.machine c.ends.new.paper c.in-Ok.ensures.closes)

pub returns-in-Ok-clause-row : goal.returns-in-Ok-clause-row
returns-in-Ok-clause-row g c = λ said s says h.
    (let x = (tries_as c.attempt_told.result (Ok (tries.Ends c.in-Ok-Ends.ending)) (c.in-Ok-Ends.is ∙ ap (λ (z : Tried). Ok z) c.in-Ok-Ends.field-0-is) (context g (goal.at.returns-in-Ok-clause-row g c).After-attempt_told)) in
    closed_row (tries.Ends c.in-Ok-Ends.ending) x x.stay said s says h (ending_made c.in-Ok-Ends.ending x said s says h) (ending_so c.in-Ok-Ends.ending x said s says h) c.ends.new.machine c.ends.new.paper (ending_closes c.in-Ok-Ends.ending x said s says h (Ok tt) c.ends.new.machine c.ends.new.paper c.in-Ok.ensures.closes) c.end_step-in-Ok.result c.end_step-in-Ok.new.machine c.end_step-in-Ok.new.paper c.end_step-in-Ok.ensures.finishes c.end_step-in-Ok.ensures.tasks)

pub returns-in-Ok-clause-present : goal.returns-in-Ok-clause-present
returns-in-Ok-clause-present g c = λ said s m t says h next.
    (let x = (tries_as c.attempt_told.result (Ok (tries.Ends c.in-Ok-Ends.ending)) (c.in-Ok-Ends.is ∙ ap (λ (z : Tried). Ok z) c.in-Ok-Ends.field-0-is) (context g (goal.at.returns-in-Ok-clause-present g c).After-attempt_told)) in
    closed_present (tries.Ends c.in-Ok-Ends.ending) x x.stay said s says h (ending_made c.in-Ok-Ends.ending x said s says h) (ending_so c.in-Ok-Ends.ending x said s says h) c.ends.new.machine c.ends.new.paper (ending_closes c.in-Ok-Ends.ending x said s says h (Ok tt) c.ends.new.machine c.ends.new.paper c.in-Ok.ensures.closes) c.end_step-in-Ok.result c.end_step-in-Ok.new.machine c.end_step-in-Ok.new.paper c.end_step-in-Ok.ensures.finishes (ends_not_made c.in-Ok-Ends.ending)
    (λ wants. ending_leaves c.in-Ok-Ends.ending x said s says h wants c.ends.new.machine c.ends.new.paper c.in-Ok.ensures.closes c.end_step-in-Ok.result c.end_step-in-Ok.new.machine c.end_step-in-Ok.new.paper c.end_step-in-Ok.ensures.finishes) m t next)

pub returns-in-Ok-clause-leaves : goal.returns-in-Ok-clause-leaves
returns-in-Ok-clause-leaves g c = record {
  causes = step_causes g.B.Backing.faults g.K.Sink.faults c.args.backing.now c.attempt_told.new.backing c.args.paper.now c.ends.new.paper c.end_step-in-Ok.new.paper c.end_step-in-Ok.result (omega (arith, c.attempt_told.ensures.leaves.causes.printer.later, c.ends.ensures.cause.later)) c.end_step-in-Ok.ensures.later c.end_step-in-Ok.ensures.cause c.end_step-in-Ok.ensures.other;
  kept =
      let a = (goal.at.returns-in-Ok-clause-leaves g c).After-attempt_told in
      keeps_then c.args.machine.now c.ends.new.machine c.end_step-in-Ok.new.machine (keeps_then c.args.machine.now c.attempt_told.new.machine c.ends.new.machine (kept g a) c.ends.ensures.keeps) c.end_step-in-Ok.ensures.keeps;
  served = c.attempt_told.ensures.leaves.served;
}

pub returns-in-Err-ends-clause-row : goal.returns-in-Err-ends-clause-row
returns-in-Err-ends-clause-row g c = λ said s says h.
    (let x = (tries_as c.attempt_told.result (Ok (tries.Ends c.in-Ok-Ends.ending)) (c.in-Ok-Ends.is ∙ ap (λ (z : Tried). Ok z) c.in-Ok-Ends.field-0-is) (context g (goal.at.returns-in-Err-ends-clause-row g c).After-attempt_told)) in
    cut_row (tries.Ends c.in-Ok-Ends.ending) x x.stay said s says h (ending_made c.in-Ok-Ends.ending x said s says h) (ending_so c.in-Ok-Ends.ending x said s says h) c.in-Err-ends._failed c.ends.new.machine c.ends.new.paper c.requires.due.before_halt (halted g (goal.at.returns-in-Err-ends-clause-row g c).After-attempt_told) (ending_closes c.in-Ok-Ends.ending x said s says h (Err c.in-Err-ends._failed) c.ends.new.machine c.ends.new.paper c.in-Err-ends.ensures.closes))

pub returns-in-Err-ends-clause-present : goal.returns-in-Err-ends-clause-present
returns-in-Err-ends-clause-present g c = λ said s m t says h next.
    (let x = (tries_as c.attempt_told.result (Ok (tries.Ends c.in-Ok-Ends.ending)) (c.in-Ok-Ends.is ∙ ap (λ (z : Tried). Ok z) c.in-Ok-Ends.field-0-is) (context g (goal.at.returns-in-Err-ends-clause-present g c).After-attempt_told)) in
    cut_present (tries.Ends c.in-Ok-Ends.ending) x x.stay said s says h (ending_made c.in-Ok-Ends.ending x said s says h) (ending_so c.in-Ok-Ends.ending x said s says h) c.in-Err-ends._failed c.ends.new.machine c.ends.new.paper (ends_not_made c.in-Ok-Ends.ending)
    (ap (λ (k : Machine). k.tasks.made) (ending_closes c.in-Ok-Ends.ending x said s says h (Err c.in-Err-ends._failed) c.ends.new.machine c.ends.new.paper c.in-Err-ends.ensures.closes).1) m t next)

pub returns-in-Err-ends-clause-leaves : goal.returns-in-Err-ends-clause-leaves
returns-in-Err-ends-clause-leaves g c = record {
  causes = step_causes g.B.Backing.faults g.K.Sink.faults c.args.backing.now c.attempt_told.new.backing c.args.paper.now c.attempt_told.new.paper c.ends.new.paper _ c.attempt_told.ensures.leaves.causes.printer.later c.ends.ensures.cause.later (λ e. c.in-Err-ends.ensures.cause.failed) printer_alone;
  kept =
      let a = (goal.at.returns-in-Err-ends-clause-leaves g c).After-attempt_told in
      keeps_then c.args.machine.now c.attempt_told.new.machine c.ends.new.machine (kept g a) c.ends.ensures.keeps;
  served = c.attempt_told.ensures.leaves.served;
}

pub waits-requires-clause-row : goal.waits-requires-clause-row
waits-requires-clause-row g c =
    let l = c.requires.due.lives.some in
    waiting_some c.in-Ok-Waits.state (tries_as c.attempt_told.result (Ok (tries.Waits c.in-Ok-Waits.state)) (c.in-Ok-Waits.is ∙ ap (λ (z : Tried). Ok z) c.in-Ok-Waits.field-0-is) (context g (goal.at.waits-requires-clause-row g c).After-attempt_told)) l.said l.session l.says l.stands

pub waits-requires-clause-room : goal.waits-requires-clause-room
waits-requires-clause-room g c =
    let l = c.requires.due.lives.some in
    let x = (tries_as c.attempt_told.result (Ok (tries.Waits c.in-Ok-Waits.state)) (c.in-Ok-Waits.is ∙ ap (λ (z : Tried). Ok z) c.in-Ok-Waits.field-0-is) (context g (goal.at.waits-requires-clause-room g c).After-attempt_told)) in
    close_counts (tries.Waits c.in-Ok-Waits.state) x x.stay l.said l.session l.says l.stands (waiting_made c.in-Ok-Waits.state x l.said l.session l.says l.stands) (waiting_so c.in-Ok-Waits.state x l.said l.session l.says l.stands)

pub end_step-requires-in-Ok-waits : goal.end_step-requires-in-Ok-waits
end_step-requires-in-Ok-waits g c =
    let l = c.requires.due.lives.some in
    let x = (tries_as c.attempt_told.result (Ok (tries.Waits c.in-Ok-Waits.state)) (c.in-Ok-Waits.is ∙ ap (λ (z : Tried). Ok z) c.in-Ok-Waits.field-0-is) (context g (goal.at.end_step-requires-in-Ok-waits g c).After-attempt_told)) in
    closed_between (tries.Waits c.in-Ok-Waits.state) x x.stay l.said l.session l.says l.stands (waiting_made c.in-Ok-Waits.state x l.said l.session l.says l.stands) (waiting_so c.in-Ok-Waits.state x l.said l.session l.says l.stands) c.waits.new.machine c.waits.new.paper (waiting_closes c.in-Ok-Waits.state x l.said l.session l.says l.stands (Ok tt) c.waits.new.machine c.waits.new.paper c.in-Ok-waits.ensures.holds)

pub returns-in-Ok-waits-clause-row : goal.returns-in-Ok-waits-clause-row
returns-in-Ok-waits-clause-row g c = λ said s says h.
    (let x = (tries_as c.attempt_told.result (Ok (tries.Waits c.in-Ok-Waits.state)) (c.in-Ok-Waits.is ∙ ap (λ (z : Tried). Ok z) c.in-Ok-Waits.field-0-is) (context g (goal.at.returns-in-Ok-waits-clause-row g c).After-attempt_told)) in
    closed_row (tries.Waits c.in-Ok-Waits.state) x x.stay said s says h (waiting_made c.in-Ok-Waits.state x said s says h) (waiting_so c.in-Ok-Waits.state x said s says h) c.waits.new.machine c.waits.new.paper (waiting_closes c.in-Ok-Waits.state x said s says h (Ok tt) c.waits.new.machine c.waits.new.paper c.in-Ok-waits.ensures.holds) c.end_step-in-Ok-waits.result c.end_step-in-Ok-waits.new.machine c.end_step-in-Ok-waits.new.paper c.end_step-in-Ok-waits.ensures.finishes c.end_step-in-Ok-waits.ensures.tasks)

pub returns-in-Ok-waits-clause-present : goal.returns-in-Ok-waits-clause-present
returns-in-Ok-waits-clause-present g c = λ said s m t says h next.
    (let x = (tries_as c.attempt_told.result (Ok (tries.Waits c.in-Ok-Waits.state)) (c.in-Ok-Waits.is ∙ ap (λ (z : Tried). Ok z) c.in-Ok-Waits.field-0-is) (context g (goal.at.returns-in-Ok-waits-clause-present g c).After-attempt_told)) in
    closed_present (tries.Waits c.in-Ok-Waits.state) x x.stay said s says h (waiting_made c.in-Ok-Waits.state x said s says h) (waiting_so c.in-Ok-Waits.state x said s says h) c.waits.new.machine c.waits.new.paper (waiting_closes c.in-Ok-Waits.state x said s says h (Ok tt) c.waits.new.machine c.waits.new.paper c.in-Ok-waits.ensures.holds) c.end_step-in-Ok-waits.result c.end_step-in-Ok-waits.new.machine c.end_step-in-Ok-waits.new.paper c.end_step-in-Ok-waits.ensures.finishes (waits_not_made c.in-Ok-Waits.state)
    (λ wants. waiting_leaves c.in-Ok-Waits.state x said s says h wants c.waits.new.machine c.waits.new.paper c.in-Ok-waits.ensures.holds c.end_step-in-Ok-waits.result c.end_step-in-Ok-waits.new.machine c.end_step-in-Ok-waits.new.paper c.end_step-in-Ok-waits.ensures.finishes) m t next)

pub returns-in-Ok-waits-clause-leaves : goal.returns-in-Ok-waits-clause-leaves
returns-in-Ok-waits-clause-leaves g c = record {
  causes = step_causes g.B.Backing.faults g.K.Sink.faults c.args.backing.now c.attempt_told.new.backing c.args.paper.now c.waits.new.paper c.end_step-in-Ok-waits.new.paper c.end_step-in-Ok-waits.result (omega (arith, c.attempt_told.ensures.leaves.causes.printer.later, c.waits.ensures.cause.later)) c.end_step-in-Ok-waits.ensures.later c.end_step-in-Ok-waits.ensures.cause c.end_step-in-Ok-waits.ensures.other;
  kept =
      let a = (goal.at.returns-in-Ok-waits-clause-leaves g c).After-attempt_told in
      keeps_then c.args.machine.now c.waits.new.machine c.end_step-in-Ok-waits.new.machine (keeps_then c.args.machine.now c.attempt_told.new.machine c.waits.new.machine (kept g a) c.waits.ensures.keeps) c.end_step-in-Ok-waits.ensures.keeps;
  served = c.attempt_told.ensures.leaves.served;
}

pub returns-in-Err-waits-clause-row : goal.returns-in-Err-waits-clause-row
returns-in-Err-waits-clause-row g c = λ said s says h.
    (let x = (tries_as c.attempt_told.result (Ok (tries.Waits c.in-Ok-Waits.state)) (c.in-Ok-Waits.is ∙ ap (λ (z : Tried). Ok z) c.in-Ok-Waits.field-0-is) (context g (goal.at.returns-in-Err-waits-clause-row g c).After-attempt_told)) in
    cut_row (tries.Waits c.in-Ok-Waits.state) x x.stay said s says h (waiting_made c.in-Ok-Waits.state x said s says h) (waiting_so c.in-Ok-Waits.state x said s says h) c.in-Err-waits._failed c.waits.new.machine c.waits.new.paper c.requires.due.before_halt (halted g (goal.at.returns-in-Err-waits-clause-row g c).After-attempt_told) (waiting_closes c.in-Ok-Waits.state x said s says h (Err c.in-Err-waits._failed) c.waits.new.machine c.waits.new.paper c.in-Err-waits.ensures.holds))

pub returns-in-Err-waits-clause-present : goal.returns-in-Err-waits-clause-present
returns-in-Err-waits-clause-present g c = λ said s m t says h next.
    (let x = (tries_as c.attempt_told.result (Ok (tries.Waits c.in-Ok-Waits.state)) (c.in-Ok-Waits.is ∙ ap (λ (z : Tried). Ok z) c.in-Ok-Waits.field-0-is) (context g (goal.at.returns-in-Err-waits-clause-present g c).After-attempt_told)) in
    cut_present (tries.Waits c.in-Ok-Waits.state) x x.stay said s says h (waiting_made c.in-Ok-Waits.state x said s says h) (waiting_so c.in-Ok-Waits.state x said s says h) c.in-Err-waits._failed c.waits.new.machine c.waits.new.paper (waits_not_made c.in-Ok-Waits.state)
    (ap (λ (k : Machine). k.tasks.made) (waiting_closes c.in-Ok-Waits.state x said s says h (Err c.in-Err-waits._failed) c.waits.new.machine c.waits.new.paper c.in-Err-waits.ensures.holds).1) m t next)

pub returns-in-Err-waits-clause-leaves : goal.returns-in-Err-waits-clause-leaves
returns-in-Err-waits-clause-leaves g c = record {
  causes = step_causes g.B.Backing.faults g.K.Sink.faults c.args.backing.now c.attempt_told.new.backing c.args.paper.now c.attempt_told.new.paper c.waits.new.paper _ c.attempt_told.ensures.leaves.causes.printer.later c.waits.ensures.cause.later (λ e. c.in-Err-waits.ensures.cause.failed) printer_alone;
  kept =
      let a = (goal.at.returns-in-Err-waits-clause-leaves g c).After-attempt_told in
      keeps_then c.args.machine.now c.attempt_told.new.machine c.waits.new.machine (kept g a) c.waits.ensures.keeps;
  served = c.attempt_told.ensures.leaves.served;
}

pub unreachable-requires-in-Ok-Absent : goal.unreachable-requires-in-Ok-Absent
unreachable-requires-in-Ok-Absent g c =
    let l = c.requires.due.lives.some in
    absent_never c.in-Ok-Absent.field-0-0 (tries_as c.attempt_told.result (Ok (tries.Absent c.in-Ok-Absent.field-0-0)) (c.in-Ok-Absent.is ∙ ap (λ (z : Tried). Ok z) c.in-Ok-Absent.field-0-is) (context g (goal.at.unreachable-requires-in-Ok-Absent g c).After-attempt_told)) l.said l.session l.says l.stands

pub returns-in-Err-clause-row : goal.returns-in-Err-clause-row
returns-in-Err-clause-row g c = λ said s says h.
    stop_row c.in-Err.stop (tries_as c.attempt_told.result (Err c.in-Err.stop) c.in-Err.is (context g (goal.at.returns-in-Err-clause-row g c).After-attempt_told)) said s says h c.requires.due.before_halt (halted g (goal.at.returns-in-Err-clause-row g c).After-attempt_told)

pub returns-in-Err-clause-present : goal.returns-in-Err-clause-present
returns-in-Err-clause-present g c = λ said s m t says h next.
    stop_present c.in-Err.stop (tries_as c.attempt_told.result (Err c.in-Err.stop) c.in-Err.is (context g (goal.at.returns-in-Err-clause-present g c).After-attempt_told)) said s says h m t next

pub returns-in-Err-clause-leaves : goal.returns-in-Err-clause-leaves
returns-in-Err-clause-leaves g c = record {
  causes = caused_stop g.B.Backing.faults g.K.Sink.faults c.args.backing.now c.attempt_told.new.backing c.args.paper.now c.attempt_told.new.paper c.in-Err.stop c.in-Err.ensures.leaves.causes;
  kept =
      let a = (goal.at.returns-in-Err-clause-leaves g c).After-attempt_told in
      kept g a;
  served = c.attempt_told.ensures.leaves.served;
}
