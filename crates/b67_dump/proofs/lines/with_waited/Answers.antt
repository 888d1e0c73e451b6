use Rattle.std.proofs.Common.{◌≡◌, true, false, rules, arith}
use Rattle.std.specs.Prelude.{nat_lt, ◌==◌}
use Rattle.std.proofs.lemmas.Bool.{lt-ltb, le-ltb, eq-eqb, ne_eqb}
use Rattle.b67_dump.proofs.lines.with_waited.Goals as goal

pub returns-then-mark-stacks-clause-text : goal.returns-then-mark-stacks-clause-text
returns-then-mark-stacks-clause-text c =
    let a : nat_lt c.args.mark c.args.machine.now.cpu.regs.stacks ≡ false = le-ltb c.args.mark c.args.machine.now.cpu.regs.stacks c.if-mark-stacks.true in
    rw a (search rules)

pub returns-then-mark-row-clause-text : goal.returns-then-mark-row-clause-text
returns-then-mark-row-clause-text c =
    let a : nat_lt c.args.mark c.args.machine.now.cpu.regs.stacks ≡ true = lt-ltb c.args.mark c.args.machine.now.cpu.regs.stacks (omega (arith, c.if-mark-stacks.false)) in
    let b : (c.args.mark == c.args.row.now.dict) ≡ true = eq-eqb c.args.mark c.args.row.now.dict c.if-mark-row.true in
    rw (a, b) (search rules)

pub returns-clause-text : goal.returns-clause-text
returns-clause-text c =
    let a : nat_lt c.args.mark c.args.machine.now.cpu.regs.stacks ≡ true = lt-ltb c.args.mark c.args.machine.now.cpu.regs.stacks (omega (arith, c.if-mark-stacks.false)) in
    let b : (c.args.mark == c.args.row.now.dict) ≡ false = ne_eqb c.args.mark c.args.row.now.dict c.if-mark-row.false in
    rw (a, b) (search rules)
