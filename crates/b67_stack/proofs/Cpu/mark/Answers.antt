use Rattle.std.proofs.Common.{◌∷◌, sym, subst}
use Rattle.std.proofs.lemmas.Bool.{false≢true}
use Rattle.b67_stack.specs.declared.Cpu.{Cpu}
use Rattle.b67_stack.specs.Common.{Represents, new_mark, with_stack}
use Rattle.b67_stack.proofs.Pushes.{Represents-marked}
use Rattle.b67_stack.proofs.Cpu.mark.Goals as goal

pub returns-in-Ok-clause-stands : goal.returns-in-Ok-clause-stands
returns-in-Ok-clause-stands c = λ x p stack s u settled.
    let r = c.args.self.now.regs in
    let P : Cpu → Type 0 = λ z. Represents x z.core (record z.regs { f = z.regs.s }) (with_stack p r.slot (new_mark ∷ stack)) in
    subst P (sym c.in-Ok.ensures.ok) (Represents-marked x c.args.self.now.core r p r.slot stack c.word.result r.place c.word.ensures s u settled (λ e. false≢true (c.in-Ok.ensures.full.1 e)))
