use Rattle.std.proofs.Common.{◌∙◌, sym}
use Rattle.b67_model.specs.declared.operators.Op.TheVariants.{Plain}
use Rattle.b67_model.specs.declared.operators.Code.TheVariants as codes
use Rattle.b67_fetch.proofs.Values.{here_scene, here_shown}
use Rattle.b67_refer.proofs.Owns.{named_operand}
use Rattle.b67_exec.proofs.Fars.{on_shortly}
use Rattle.b67_exec.proofs.Owns.{loads_end, own_loads}
use Rattle.b67_exec.proofs.short_ways.loads_own.Goals as goal

pub near_place-at-requires : goal.near_place-at-requires
near_place-at-requires c =
    let q = c.requires in (
      here_scene q.storage c.args.cpu.now q.plan q.session q.member q.task q.ordered q.stands q.running,
      here_shown q.storage c.args.cpu.now q.plan q.session q.member q.task q.ordered q.stands q.running,
    )

pub get-requires : goal.get-requires
get-requires c = c.near_place-at.ensures.inside c.if-at-eq0.false

pub value-requires-clause-end : goal.value-requires-clause-end
value-requires-clause-end c =
    let q = c.requires in
    let cpu = c.args.cpu.now in
    let leads = named_operand cpu.core cpu.regs cpu.display c.in-Ok.word c.near_place-at.result (c.near_place-at.ensures.names c.if-at-eq0.false) c.get.result c.get.ensures (sym c.tag.ensures.value ∙ c.if-tag-ne0.false) in
    loads_end cpu c.args.next c.in-Ok.word c.near_place-at.result leads q (c.in-Ok.ensures.cell q.storage q.plan q.session q.member q.task q.ordered q.stands q.running)

pub returns : goal.returns
returns c =
    let cpu = c.args.cpu.now in
    let leads = named_operand cpu.core cpu.regs cpu.display c.in-Ok.word c.near_place-at.result (c.near_place-at.ensures.names c.if-at-eq0.false) c.get.result c.get.ensures (sym c.tag.ensures.value ∙ c.if-tag-ne0.false) in
    on_shortly (Plain codes.Load) c.args.next cpu c.value.new.cpu c.requires c.value.result c.is_made.result c.is_made.ensures
    (own_loads cpu c.args.next c.in-Ok.word c.near_place-at.result leads c.in-Ok.ensures.cell c.value.result c.value.new.cpu c.value.ensures.row) c.value.ensures.stays
