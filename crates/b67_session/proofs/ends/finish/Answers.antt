use Rattle.std.proofs.Common.{Option, sym, ◌∙◌, subst}
use Rattle.b67_model.specs.Run.{StepResult}
use Rattle.b67_session_lines.specs.Moments.{last_part}
use Rattle.b67_task.proofs.Keeping.{keeps_same}
use Rattle.b67_session.specs.Ends.{Finishes}
use Rattle.b67_session.proofs.ByLimit.{some_part, finishes_none}
use Rattle.b67_session.proofs.ends.finish.Goals as goal

pub end_by_limit-requires : goal.end_by_limit-requires
end_by_limit-requires g c =
    let r = c.requires in
    let (part, is) = some_part (last_part r.session) (sym c.if-not-is_at_limit.false ∙ c.is_at_limit.ensures r.plan r.session r.ordered.numbered r.stands.tables) in
    record { between = r; part = part; is_due = is }

pub returns-then-not-is_at_limit-clause-finishes : goal.returns-then-not-is_at_limit-clause-finishes
returns-then-not-is_at_limit-clause-finishes g c = λ x told plan h o stands.
    finishes_none g.K.Sink.taken x told plan h (last_part h) c.args.machine.now c.args.paper.now (sym c.if-not-is_at_limit.true ∙ c.is_at_limit.ensures plan h o.numbered stands.tables)

pub returns-clause-finishes : goal.returns-clause-finishes
returns-clause-finishes g c = λ x told plan h o stands.
    (let (part, is) = some_part (last_part h) (sym c.if-not-is_at_limit.false ∙ c.is_at_limit.ensures plan h o.numbered stands.tables) in
    subst (λ (q : Option StepResult). Finishes g.K.Sink.taken x told plan h q c.end_by_limit.result c.args.machine.now c.end_by_limit.new.machine c.args.paper.now c.end_by_limit.new.paper) (sym is)
    (c.end_by_limit.ensures.ends x told plan h part o is stands))

pub returns-then-not-is_at_limit-clause-keeps : goal.returns-then-not-is_at_limit-clause-keeps
returns-then-not-is_at_limit-clause-keeps g c = keeps_same c.args.machine.now
