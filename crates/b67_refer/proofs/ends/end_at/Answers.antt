use Rattle.std.proofs.Common.{◌∙◌, sym, subst, arith, refl, Ok, Err, Result}
use Rattle.std.proofs.lemmas.Bool.{not-false, not-true}
use Rattle.std.proofs.lemmas.Option.{none-some, same_Some}
use Rattle.b67_word.specs.Tagged.{Tagged}
use Rattle.b67_word.specs.declared.faults.Fault.{Fault}
use Rattle.b67_model.specs.Chase.{follow}
use Rattle.b67_layout.specs.Meets.{here}
use Rattle.b67_refer.specs.declared.ends.End.{End}
use Rattle.b67_refer.specs.LiveCells.{StandsFor}
use Rattle.b67_refer.specs.LiveEnds.{EndMeets}
use Rattle.b67_refer.proofs.Links.{read_described, copied, end_own, end_row, end_item}
use Rattle.b67_refer.proofs.Procs.{intrinsic_is, intrinsic_end, proc_end}
use Rattle.b67_refer.proofs.ends.end_at.Goals as goal

pub returns-then-not-d : goal.returns-then-not-d
returns-then-not-d c = λ a q f offset w cell.
    let five = sym c.tag-3.ensures.value ∙ c.if-tag-eq5.true in
    let d = read_described c.args.core.now c.args.regs.now a q c.args.at f offset w c.get-w.result c.read-d.result cell (c.get-w.result, c.get-w.ensures, five) c.get-w.ensures c.read-d.ensures in
    end_own c.args.core.now c.args.regs.now a q c.args.at f offset w c.read-d.result cell.names d (not-true _ c.if-not-d.true)

pub owner-requires : goal.owner-requires
owner-requires c =
    let (a, q, f, offset, w, cell) = c.requires in
    let five = sym c.tag-3.ensures.value ∙ c.if-tag-eq5.true in
    let d = read_described c.args.core.now c.args.regs.now a q c.args.at f offset w c.get-w.result c.read-d.result cell (c.get-w.result, c.get-w.ensures, five) c.get-w.ensures c.read-d.ensures in
    copied c.args.core.now c.args.regs.now a c.args.at f w c.read-d.result d (not-false _ c.if-not-d.false)

pub returns-then-not-d-2 : goal.returns-then-not-d-2
returns-then-not-d-2 c = λ a q f offset w cell.
    let five = sym c.tag-3.ensures.value ∙ c.if-tag-eq5.true in
    let d = read_described c.args.core.now c.args.regs.now a q c.args.at f offset w c.get-w.result c.read-d.result cell (c.get-w.result, c.get-w.ensures, five) c.get-w.ensures c.read-d.ensures in
    end_row c.args.core.now c.args.regs.now a q c.args.at f offset w c.read-d.result c.owner.result d (not-false _ c.if-not-d.false) (not-true _ c.if-not-d-2.true) c.owner.ensures

pub element_of-requires : goal.element_of-requires
element_of-requires c =
    let (a, q, f, offset, w, cell) = c.requires in
    let is = same_Some _ _ (sym cell.there ∙ c.get-w.ensures) in
    let stands = subst (λ (x : Tagged). StandsFor a c.args.at f x w) is cell.stands in
    (a, c.args.at, f, w, stands)

pub returns-in-Ok : goal.returns-in-Ok
returns-in-Ok c = λ a q f offset w cell.
    let five = sym c.tag-3.ensures.value ∙ c.if-tag-eq5.true in
    let d = read_described c.args.core.now c.args.regs.now a q c.args.at f offset w c.get-w.result c.read-d.result cell (c.get-w.result, c.get-w.ensures, five) c.get-w.ensures c.read-d.ensures in
    let is = same_Some _ _ (sym cell.there ∙ c.get-w.ensures) in
    let stands = subst (λ (x : Tagged). StandsFor a c.args.at f x w) is cell.stands in
    let m = c.element_of.ensures.leads a q c.args.at f w stands (λ one. omega (arith, one, five)) in
    end_item c.args.core.now c.args.regs.now a q c.args.at f offset w c.read-d.result (Ok c.in-Ok.end) d (not-false _ c.if-not-d.false) (not-false _ c.if-not-d-2.false)
    (subst (λ (y : Result End Fault). EndMeets a q y (follow (here a.member a.runner q) w)) c.in-Ok.is m)

pub returns-in-Err : goal.returns-in-Err
returns-in-Err c = λ a q f offset w cell.
    let five = sym c.tag-3.ensures.value ∙ c.if-tag-eq5.true in
    let d = read_described c.args.core.now c.args.regs.now a q c.args.at f offset w c.get-w.result c.read-d.result cell (c.get-w.result, c.get-w.ensures, five) c.get-w.ensures c.read-d.ensures in
    let is = same_Some _ _ (sym cell.there ∙ c.get-w.ensures) in
    let stands = subst (λ (x : Tagged). StandsFor a c.args.at f x w) is cell.stands in
    let m = c.element_of.ensures.leads a q c.args.at f w stands (λ one. omega (arith, one, five)) in
    end_item c.args.core.now c.args.regs.now a q c.args.at f offset w c.read-d.result (Err c.in-Err.fault) d (not-false _ c.if-not-d.false) (not-false _ c.if-not-d-2.false)
    (subst (λ (y : Result End Fault). EndMeets a q y (follow (here a.member a.runner q) w)) c.in-Err.is m)

pub overflow_cast-number : goal.overflow_cast-number
overflow_cast-number c =
    let (a, q, f, offset, w, cell) = c.requires in
    let is = same_Some _ _ (sym cell.there ∙ c.get-w.ensures) in
    let k = intrinsic_is c.args.core.now c.args.regs.now a q c.args.at f cell.word w c.in-Some.p cell.stands c.in-Some.ensures.some.0 (is ∙ c.in-Some.ensures.some.1) in
    omega (arith, k.1)

pub returns-in-Some : goal.returns-in-Some
returns-in-Some c = λ a q f offset w cell.
    let is = same_Some _ _ (sym cell.there ∙ c.get-w.ensures) in
    intrinsic_end c.args.core.now c.args.regs.now a q c.args.at f offset w c.in-Some.p _ cell c.in-Some.ensures.some.0 (is ∙ c.in-Some.ensures.some.1) refl

pub returns-in-None : goal.returns-in-None
returns-in-None c = λ a q f offset w cell.
    let is = same_Some _ _ (sym cell.there ∙ c.get-w.ensures) in
    let stands = subst (λ (x : Tagged). StandsFor a c.args.at f x w) is cell.stands in
    proc_end c.args.core.now c.args.regs.now a q c.args.at f offset w c.get-w.result cell stands (sym c.tag-4.ensures.value ∙ c.if-tag-ne7.false) (λ p fits e. none-some p (sym c.in-None.is ∙ c.from_word.ensures.known p fits e))
