use Rattle.std.proofs.Common.{◌≡◌, ℕ, ◌-◌, ◌∙◌, ap, arith}
use Rattle.b67_stack.specs.Stacks.{top_mark}
use Rattle.b67_stack.specs.Changes.{activations_below}
use Rattle.b67_ctl.specs.declared.marks.Mscw.{Mscw}
use Rattle.b67_stack.proofs.Tops.{mark_before, topped_by}
use Rattle.b67_stack.proofs.Pushes.{Represents-below}
use Rattle.b67_stack.proofs.Cpu.cut.Goals as goal

pub overflow_sub-self-2 : goal.overflow_sub-self-2
overflow_sub-self-2 c =
    let (x, p, stack, s, u, n) = c.requires in
    let r = c.args.self.now.regs in
    let b = mark_before x c.args.self.now.core r p r.slot stack s u n in
    let e : c.from.result ≡ (top_mark r.slot stack).back = c.from.ensures ∙ ap (λ (m : Mscw). m.back) (c.top_mark-m.ensures x p stack s u) in
    omega (arith, e, b.2)

pub returns-clause-row : goal.returns-clause-row
returns-clause-row c = λ x p stack s u n.
    let r = c.args.self.now.regs in
    let b = mark_before x c.args.self.now.core r p r.slot stack s u n in
    let e : c.from.result ≡ (top_mark r.slot stack).back = c.from.ensures ∙ ap (λ (m : Mscw). m.back) (c.top_mark-m.ensures x p stack s u) in
    topped_by c.args.self.now (activations_below stack) (r.f - 1) (r.f - c.from.result) c.level_below-self.result b.0 (ap (λ (i : ℕ). r.f - i) e ∙ b.1) (c.level_below-self.ensures x p stack s u)

pub returns-clause-stands : goal.returns-clause-stands
returns-clause-stands c = λ x p stack s u n.
    let r = c.args.self.now.regs in
    let b = mark_before x c.args.self.now.core r p r.slot stack s u n in
    let e : c.from.result ≡ (top_mark r.slot stack).back = c.from.ensures ∙ ap (λ (m : Mscw). m.back) (c.top_mark-m.ensures x p stack s u) in
    Represents-below x c.args.self.now.core r p r.slot stack (r.f - 1) (r.f - c.from.result) c.level_below-self.result r.segment r.place n s u b.0 (ap (λ (i : ℕ). r.f - i) e ∙ b.1) (c.level_below-self.ensures x p stack s u)
