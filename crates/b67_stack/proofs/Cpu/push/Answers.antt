use Rattle.b67_stack.proofs.Pushes.{Represents-push}
use Rattle.b67_stack.proofs.Cpu.push.Goals as goal

pub returns-clause-stands : goal.returns-clause-stands
returns-clause-stands c = λ x p stack d s u settled may fit.
    let r = c.args.self.now.regs in
    rw c.set.ensures.value (Represents-push x c.args.self.now.core r p r.slot stack d c.args.w r.place s u settled may fit c.if-self.false)
