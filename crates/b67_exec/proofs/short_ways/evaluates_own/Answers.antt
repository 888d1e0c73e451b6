use Rattle.std.proofs.Common.{◌∙◌, sym, subst, arith, refl, Ok}
use Rattle.b67_word.specs.Tagged.{Tagged}
use Rattle.b67_model.specs.declared.operators.Op.TheVariants.{Valc}
use Rattle.b67_refer.specs.declared.ends.End.TheVariants as end
use Rattle.b67_refer.specs.Own.{NamesCell, LeadsTo}
use Rattle.b67_refer.proofs.Owns.{own_ends}
use Rattle.b67_exec_cells.proofs.Put.{room}
use Rattle.b67_fetch.proofs.Values.{here_scene, here_shown}
use Rattle.b67_exec.proofs.Valcs.{couple_ends, couple_pushes}
use Rattle.b67_exec.proofs.Fars.{stayed_shortly}
use Rattle.b67_exec.proofs.short_ways.evaluates_own.Goals as goal

pub near_place-at-requires : goal.near_place-at-requires
near_place-at-requires c =
    let q = c.requires.runs in (
      here_scene q.storage c.args.cpu.now q.plan q.session q.member q.task q.ordered q.stands q.running,
      here_shown q.storage c.args.cpu.now q.plan q.session q.member q.task q.ordered q.stands q.running,
    )

pub get-requires : goal.get-requires
get-requires c = c.near_place-at.ensures.inside c.if-at-eq0.false

pub makes_valc_from-requires-clause-named : goal.makes_valc_from-requires-clause-named
makes_valc_from-requires-clause-named c =
    let cpu = c.args.cpu.now in
    (c.args.couple, c.requires.couple, subst (λ (w : Tagged). NamesCell cpu.core cpu.regs cpu.display w c.near_place-at.result) c.word.ensures (c.near_place-at.ensures.names c.if-at-eq0.false))

pub returns-then-tag-ne0 : goal.returns-then-tag-ne0
returns-then-tag-ne0 c =
    let cpu = c.args.cpu.now in
    c.makes_valc_from.ensures c.args.couple c.requires.couple (subst (λ (w : Tagged). NamesCell cpu.core cpu.regs cpu.display w c.near_place-at.result) c.word.ensures (c.near_place-at.ensures.names c.if-at-eq0.false))

pub value-requires-clause-end : goal.value-requires-clause-end
value-requires-clause-end c =
    let cpu = c.args.cpu.now in
    let at = c.near_place-at.result in
    let leads : LeadsTo cpu.core cpu.regs cpu.display c.word.result (end.Cell at) = λ a q shown spot owner v stands.
    (let n = c.near_place-at.ensures.names c.if-at-eq0.false a q shown spot owner v stands in
    own_ends cpu.core cpu.regs a q at v n.0 n.1 (c.get.result, c.get.ensures, sym c.tag.ensures.value ∙ c.if-tag-ne0.false)) in
    couple_ends cpu c.args.couple c.args.next c.word.result c.requires.couple c.word.ensures (Ok (end.Cell at)) leads c.requires.runs (end.Cell at) refl

pub value-requires-clause-cells : goal.value-requires-clause-cells
value-requires-clause-cells c = let q = c.requires.runs in let r = (room q.storage c.args.cpu.now q.plan q.session q.member q.task q.ordered q.stands q.running).top in omega (arith, r)

pub returns : goal.returns
returns c =
    let cpu = c.args.cpu.now in
    let at = c.near_place-at.result in
    let leads : LeadsTo cpu.core cpu.regs cpu.display c.word.result (end.Cell at) = λ a q shown spot owner v stands.
    (let n = c.near_place-at.ensures.names c.if-at-eq0.false a q shown spot owner v stands in
    own_ends cpu.core cpu.regs a q at v n.0 n.1 (c.get.result, c.get.ensures, sym c.tag.ensures.value ∙ c.if-tag-ne0.false)) in
    stayed_shortly (Valc c.args.couple) c.args.next cpu c.value.new.cpu c.requires.runs c.value.result c.has_stayed.result c.has_stayed.ensures
    (couple_pushes cpu c.args.couple c.args.next c.word.result c.requires.couple c.word.ensures (Ok (end.Cell at)) leads (end.Cell at) refl
    (λ cell e. let z : ⊥ = cc in z) c.value.result c.value.new.cpu c.value.ensures.row) c.value.ensures.stays
