use Rattle.std.proofs.Common.{◌≡◌, refl, rules}
use Rattle.b67_ctl.specs.Layout.{flag_bit}
use Rattle.b67_stack.proofs.Tops.{empty_at}
use Rattle.b67_stack.proofs.Pushes.{Represents-popped}
use Rattle.b67_stack.proofs.Cpu.pop.Goals as goal

pub returns-then-self-from-clause-empty : goal.returns-then-self-from-clause-empty
returns-then-self-from-clause-empty c = λ x p stack s u.
    let r = c.args.self.now.regs in
    let e = empty_at x c.args.self.now.core r p r.slot stack c.top_mark-m.result c.from.result s u (c.top_mark-m.ensures x p stack s u) (let h : c.from.result ≡ flag_bit c.top_mark-m.result.entered = search (rules, c.from.ensures) in h) in
    (λ z. e.0 c.if-self-from.true, λ z. refl)

pub returns-clause-empty : goal.returns-clause-empty
returns-clause-empty c = λ x p stack s u.
    let r = c.args.self.now.regs in
    let e = empty_at x c.args.self.now.core r p r.slot stack c.top_mark-m.result c.from.result s u (c.top_mark-m.ensures x p stack s u) (let h : c.from.result ≡ flag_bit c.top_mark-m.result.entered = search (rules, c.from.ensures) in h) in
    (λ z. absurd (let b : ⊥ = cc in b), λ z. absurd (c.if-self-from.false (e.1 z)))

pub returns-clause-stands : goal.returns-clause-stands
returns-clause-stands c = λ x p stack s u.
    let r = c.args.self.now.regs in
    let e = empty_at x c.args.self.now.core r p r.slot stack c.top_mark-m.result c.from.result s u (c.top_mark-m.ensures x p stack s u) (let h : c.from.result ≡ flag_bit c.top_mark-m.result.entered = search (rules, c.from.ensures) in h) in
    Represents-popped x c.args.self.now.core r p r.slot stack r.place (λ z. c.if-self-from.false (e.1 z)) s u
