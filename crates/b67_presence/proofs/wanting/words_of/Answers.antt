use Rattle.std.proofs.Common.{sym, ◌∙◌, ap, arith}
use Rattle.b67_layout.specs.Layout.{array_object, machine_view}
use Rattle.b67_presence.specs.declared.paging.AbsentObject.{AbsentObject}
use Rattle.b67_presence.proofs.Descriptors.{rest_here}
use Rattle.b67_presence.proofs.Again.{view_stands}
use Rattle.b67_presence.proofs.Wants.{array_absent, wanted_code, wanted_array}
use Rattle.b67_presence.proofs.wanting.words_of.Goals as goal

pub returns-in-Code-clause-words : goal.returns-in-Code-clause-words
returns-in-Code-clause-words c = λ x told plan s m t words o h runs wanted. sym (wanted_code x plan m t c.args.absent words c.in-Code.field-0 c.in-Code.is wanted).2

pub at-requires : goal.at-requires
at-requires c =
    let (told, q) = c.requires in
    let w = wanted_array q.storage q.plan q.member q.task c.args.absent q.words c.in-Array.original c.in-Array.is q.wanted in
    let k = c.args.machine.now in (
      q.storage,
      k.cpu.regs,
      machine_view q.plan q.session.jobs,
      array_object q.plan q.member.constants.number w.array,
      (view_stands q.storage told k q.plan q.session q.ordered q.stands).stands,
      array_absent q.storage told k q.plan q.session q.member q.task q.ordered q.stands q.running c.in-Array.original q.words w,
    )

pub returns-in-Array-clause-small : goal.returns-in-Array-clause-small
returns-in-Array-clause-small c =
    let (told, q) = c.requires in
    let k = c.args.machine.now in
    let home = c.in-Array.original in
    let w = wanted_array q.storage q.plan q.member q.task c.args.absent q.words home c.in-Array.is q.wanted in
    let p = machine_view q.plan q.session.jobs in
    let object = array_object q.plan q.member.constants.number w.array in
    let mx = (view_stands q.storage told k q.plan q.session q.ordered q.stands).stands in
    let a = array_absent q.storage told k q.plan q.session q.member q.task q.ordered q.stands q.running home q.words w in
    let few = (rest_here q.storage k.cpu.core k.cpu.regs p home object mx a).few in
    omega (arith, ap (λ (z : AbsentObject). z.words) (c.at.ensures q.storage k.cpu.regs p object mx a), few)

pub returns-in-Array-clause-words : goal.returns-in-Array-clause-words
returns-in-Array-clause-words c = λ x told plan s m t words o h runs wanted.
    let k = c.args.machine.now in
    let home = c.in-Array.original in
    let w = wanted_array x plan m t c.args.absent words home c.in-Array.is wanted in
    let mx = (view_stands x told k plan s o h).stands in
    let a = array_absent x told k plan s m t o h runs home words w in
    ap (λ (z : AbsentObject). z.words) (c.at.ensures x k.cpu.regs (machine_view plan s.jobs) (array_object plan m.constants.number w.array) mx a) ∙ sym w.words_are
