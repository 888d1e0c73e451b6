use Rattle.std.proofs.Common.{◌≡◌, sym, subst, ◌∙◌, refl}
use Rattle.b67_model.specs.Common.{Reading}
use Rattle.b67_layout.proofs.Fresh.{running_in_order}
use Rattle.b67_exec.specs.Operators.{ReadsWhole}
use Rattle.b67_exec.proofs.Readings.{read_fits}
use Rattle.b67_exec.proofs.Fars.{away_by}
use Rattle.b67_exec.proofs.Through.{unread_stops}
use Rattle.b67_exec.proofs.Wholes.{whole_made, whole_stays}
use Rattle.b67_exec.proofs.operators.makes_whole.Goals as goal

pub read_in-requires-clause-segment : goal.read_in-requires-clause-segment
read_in-requires-clause-segment c = c.in-Some.ensures

pub whole-step-requires-clause-whole : goal.whole-step-requires-clause-whole
whole-step-requires-clause-whole c =
    let q = c.requires.runs in
    let r = c.read_in.ensures q.storage q.plan q.session q.member q.task q.ordered q.stands q.running in
    let read : ◌≡◌ {A = Reading} _ _ = sym c.in-Ok.is ∙ r.2 in
    subst ReadsWhole (sym read) (c.requires.whole q.storage q.plan q.session q.member q.task q.ordered q.stands q.running)

pub whole-step-requires-clause-parameters : goal.whole-step-requires-clause-parameters
whole-step-requires-clause-parameters c =
    let q = c.requires.runs in
    let r = c.read_in.ensures q.storage q.plan q.session q.member q.task q.ordered q.stands q.running in
    (read_fits q.member.constants q.task c.in-Ok.op c.in-Ok.next (running_in_order q.plan q.session q.member q.task q.ordered q.running).0.unchanging (sym c.in-Ok.is ∙ r.2)).0

pub returns-in-Ok : goal.returns-in-Ok
returns-in-Ok c =
    let q = c.requires.runs in
    let r = c.read_in.ensures q.storage q.plan q.session q.member q.task q.ordered q.stands q.running in
    let read : ◌≡◌ {A = Reading} _ _ = sym c.in-Ok.is ∙ r.2 in
    let is = subst ReadsWhole (sym read) (c.requires.whole q.storage q.plan q.session q.member q.task q.ordered q.stands q.running) in
    whole_made c.in-Ok.op c.in-Ok.next c.args.cpu.now c.whole-step.new.cpu c.in-Some.code c.in-Some.ensures
    (λ x plan s m t ordered h runs. let k = c.read_in.ensures x plan s m t ordered h runs in (k.0, k.1, sym c.in-Ok.is ∙ k.2)) (whole_stays c.in-Ok.op is) c.is_done.result c.is_done.new.why
    (away_by c.in-Ok.op c.in-Ok.next c.args.cpu.now c.whole-step.new.cpu c.requires.runs c.whole-step.result c.is_done.result c.is_done.new.why c.is_done.ensures c.whole-step.ensures.row)

pub returns-in-Err : goal.returns-in-Err
returns-in-Err c =
    (refl, unread_stops c.args.cpu.now c.in-Some.code c.in-Some.ensures (λ x plan s m t ordered h runs. let k = c.read_in.ensures x plan s m t ordered h runs in (c.in-Err.field-0, sym c.in-Err.is ∙ k.2)))
