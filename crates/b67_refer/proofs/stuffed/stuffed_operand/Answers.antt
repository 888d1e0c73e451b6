use Rattle.std.proofs.Common.{◌∙◌, refl, sym, ap, arith, subst, Ok}
use Rattle.std.proofs.lemmas.Option.{none-some}
use Rattle.b67_stack.specs.Stacks.{StackPlace}
use Rattle.b67_layout.specs.Placement.{address_of}
use Rattle.b67_refer.specs.RunningContext.{IsStackOf}
use Rattle.b67_refer.proofs.Marks.{stack_known}
use Rattle.b67_refer.proofs.Alone.{FindsStuffed, asks, inside, ends}
use Rattle.b67_refer.proofs.stuffed.stuffed_operand.Goals as goal

pub returns-then-tag-ne1 : goal.returns-then-tag-ne1
returns-then-tag-ne1 c = λ some. absurd (some refl)

pub returns-in-Some : goal.returns-in-Some
returns-in-Some c = λ some. absurd (some refl)

pub returns-then-r-from : goal.returns-then-r-from
returns-then-r-from c = λ some. absurd (some refl)

pub address_of-base-requires : goal.address_of-base-requires
address_of-base-requires c =
    let (a, at, owner, v, stands) = c.requires in
    let (b, f, n, e) = asks c.args.core.now c.args.regs.now c.args.w (sym c.tag.ensures.value ∙ c.if-tag-ne1.false) (λ i fits e. none-some i (sym c.in-None.is ∙ c.from_word.ensures.known i fits e)) c.read-r.result c.read-r.ensures a at owner v stands in
    (b, subst (λ (z : StackPlace). IsStackOf b z.stack) e (stack_known c.args.core.now c.args.regs.now b f n.standing n.among))

pub near_cell-at-requires : goal.near_cell-at-requires
near_cell-at-requires c =
    let (a, at, owner, v, stands) = c.requires in
    let (b, f, n, e) = asks c.args.core.now c.args.regs.now c.args.w (sym c.tag.ensures.value ∙ c.if-tag-ne1.false) (λ i fits e. none-some i (sym c.in-None.is ∙ c.from_word.ensures.known i fits e)) c.read-r.result c.read-r.ensures a at owner v stands in
    let k = subst (λ (z : StackPlace). IsStackOf b z.stack) e (stack_known c.args.core.now c.args.regs.now b f n.standing n.among) in
    (b, f, n, c.address_of-base.ensures b k ∙ ap (address_of b.plan) (sym e), omega (arith, c.if-r-lt2.false))

pub returns-then-at-eq0 : goal.returns-then-at-eq0
returns-then-at-eq0 c = λ some. absurd (some refl)

pub get-requires : goal.get-requires
get-requires c =
    let (a, at, owner, v, stands) = c.requires in
    let finds : FindsStuffed c.args.core.now c.args.regs.now c.read-r.result (Ok c.near_cell-at.result) = λ b p f n e.
    (let k = subst (λ (z : StackPlace). IsStackOf b z.stack) e (stack_known c.args.core.now c.args.regs.now b f n.standing n.among) in
    c.near_cell-at.ensures c.if-at-eq0.false b p f n (c.address_of-base.ensures b k ∙ ap (address_of b.plan) (sym e)) (omega (arith, c.if-r-lt2.false))) in
    inside c.args.core.now c.args.regs.now c.args.w (sym c.tag.ensures.value ∙ c.if-tag-ne1.false) (λ i fits e. none-some i (sym c.in-None.is ∙ c.from_word.ensures.known i fits e)) c.read-r.result c.read-r.ensures a at owner v stands c.near_cell-at.result
    finds a.task.place

pub returns-then-tag-ne0 : goal.returns-then-tag-ne0
returns-then-tag-ne0 c = λ some. absurd (some refl)

pub returns : goal.returns
returns c = λ some a q at owner v stands.
    let finds : FindsStuffed c.args.core.now c.args.regs.now c.read-r.result (Ok c.near_cell-at.result) = λ b p f n e.
    (let k = subst (λ (z : StackPlace). IsStackOf b z.stack) e (stack_known c.args.core.now c.args.regs.now b f n.standing n.among) in
    c.near_cell-at.ensures c.if-at-eq0.false b p f n (c.address_of-base.ensures b k ∙ ap (address_of b.plan) (sym e)) (omega (arith, c.if-r-lt2.false))) in
    ends c.args.core.now c.args.regs.now c.args.w (sym c.tag.ensures.value ∙ c.if-tag-ne1.false) (λ i fits e. none-some i (sym c.in-None.is ∙ c.from_word.ensures.known i fits e)) c.read-r.result c.read-r.ensures a at owner v stands c.near_cell-at.result
    finds q
    (c.get.result, c.get.ensures, sym c.tag-2.ensures.value ∙ c.if-tag-ne0.false)
