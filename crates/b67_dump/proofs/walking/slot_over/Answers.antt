use Rattle.std.proofs.Common.{◌≡◌, ◌/◌, sym, ◌∙◌, ap}
use Rattle.std.proofs.Math.Nat.{div-zero}
use Rattle.b67_dump.proofs.walking.slot_over.Goals as goal

pub returns-then-size-eq0 : goal.returns-then-size-eq0
returns-then-size-eq0 c =
    let z : c.args.machine.now.cpu.regs.stack_size ≡ 0 = sym c.from-size.ensures ∙ c.if-size-eq0.true in
    sym (ap (λ n. c.args.above / n) z ∙ div-zero c.args.above)
