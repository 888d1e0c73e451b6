use Rattle.std.proofs.Common.{◌≡◌, ℕ, List, ◌∙◌, sym, ap, arith, subst}
use Rattle.std.specs.Prelude.{nat_lt}
use Rattle.b67_word.specs.Tagged.{Tagged}
use Rattle.b67_ctl.specs.declared.registers.Regs.{Regs}
use Rattle.b67_model.specs.Common.{NamesEntered}
use Rattle.b67_stack.specs.Stacks.{StackPlace}
use Rattle.b67_layout.specs.Placement.{address_of}
use Rattle.b67_refer.specs.RunningContext.{LiveContext, IsStackOf}
use Rattle.b67_refer.specs.LiveCells.{reach, view, IsOfSlot}
use Rattle.b67_refer.proofs.Unders.{kind_by}
use Rattle.b67_refer.proofs.Marks.{stack_known, own_stack, base_stack}
use Rattle.b67_refer.proofs.stuffed.cell_at.Goals as goal

pub address_of-base-requires : goal.address_of-base-requires
address_of-base-requires c =
    let (a, f, n, e) = c.requires in
    (a, subst (λ (z : StackPlace). IsStackOf a z.stack) e (stack_known c.args.core.now c.args.regs.now a f n.standing n.among))

-- a stack whose number is that of a slot holds records of tasks, and the others hold the MCP and the dictionaries
kind : (core : List Tagged) (r : Regs) (a : LiveContext core r) (f stack disp slots : ℕ) → NamesEntered (reach a) f → view a f ≡ record { stack = stack; disp = disp } → slots ≡ 120 → IsOfSlot (nat_lt stack slots) f
kind core r a f stack disp slots n e few =
    let is : (view a f).stack ≡ stack = ap (λ (z : StackPlace). z.stack) e in
    kind_by stack slots f (λ low. own_stack core r a f (omega (arith, is, low, few))) (λ high. base_stack core r a f n.standing n.among (omega (arith, is, high, few)))

pub record_cell-requires : goal.record_cell-requires
record_cell-requires c =
    let (a, f, n, e) = c.requires in
    let k = subst (λ (z : StackPlace). IsStackOf a z.stack) e (stack_known c.args.core.now c.args.regs.now a f n.standing n.among) in
    (a, f, n, c.address_of-base.ensures a k ∙ ap (address_of a.plan) (sym e), kind c.args.core.now c.args.regs.now a f c.args.r.stack c.args.r.disp c.from.result n e c.from.ensures)

pub returns : goal.returns
returns c = λ a q f n e.
    let k = subst (λ (z : StackPlace). IsStackOf a z.stack) e (stack_known c.args.core.now c.args.regs.now a f n.standing n.among) in
    c.record_cell.ensures a q f n (c.address_of-base.ensures a k ∙ ap (address_of a.plan) (sym e)) (kind c.args.core.now c.args.regs.now a f c.args.r.stack c.args.r.disp c.from.result n e c.from.ensures)
