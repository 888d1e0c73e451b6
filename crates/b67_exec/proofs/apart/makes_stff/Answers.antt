use Rattle.b67_model.specs.declared.operators.Op.TheVariants.{Plain}
use Rattle.b67_model.specs.declared.operators.Code.TheVariants as codes
use Rattle.b67_fetch.proofs.Values.{here_scene, here_shown}
use Rattle.b67_exec.proofs.Fars.{on_shortly}
use Rattle.b67_exec.proofs.apart.makes_stff.Goals as goal

pub near_place-requires : goal.near_place-requires
near_place-requires c =
    let q = c.requires in (
      here_scene q.storage c.args.cpu.now q.plan q.session q.member q.task q.ordered q.stands q.running,
      here_shown q.storage c.args.cpu.now q.plan q.session q.member q.task q.ordered q.stands q.running,
    )

pub stff_named-step-requires-clause-top : goal.stff_named-step-requires-clause-top
stff_named-step-requires-clause-top c = c.in-Ok.ensures.cell

pub stff_named-step-requires-clause-above : goal.stff_named-step-requires-clause-above
stff_named-step-requires-clause-above c = c.in-Ok.ensures.above

pub stff_named-step-requires-clause-reference : goal.stff_named-step-requires-clause-reference
stff_named-step-requires-clause-reference c = c.near_place.ensures.couple c.if-near_place-eq0.false

pub stff_named-step-requires-clause-named : goal.stff_named-step-requires-clause-named
stff_named-step-requires-clause-named c = (c.near_place.result, c.near_place.ensures.names c.if-near_place-eq0.false)

pub returns : goal.returns
returns c = on_shortly (Plain codes.Stff) c.args.next c.args.cpu.now c.stff_named-step.new.cpu c.requires c.stff_named-step.result c.is_made.result c.is_made.ensures c.stff_named-step.ensures.row c.stff_named-step.ensures.stays
