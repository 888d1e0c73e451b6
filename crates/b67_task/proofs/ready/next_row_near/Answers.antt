use Rattle.std.proofs.Common.{ℕ, ◌+◌, sym, subst}
use Rattle.b67_task.specs.Chosen.{who_is, NextRow}
use Rattle.b67_task.proofs.Orders.{none_sooner}
use Rattle.b67_task.proofs.ready.next_row_near.Goals as goal

pub returns-then-rows-eq1 : goal.returns-then-rows-eq1
returns-then-rows-eq1 c =
    let rows = c.args.rows.now in
    subst (λ (n : ℕ). NextRow n rows (who_is c.args.last) c.only_row.result) (sym c.if-rows-eq1.true) (c.only_row.ensures (who_is c.args.last))

pub returns-in-Some : goal.returns-in-Some
returns-in-Some c = record {
  who = record { job = c.args.last.job; task = c.args.last.task + 1 };
  at = c.in-Some.ensures;
  first = λ k w low ready. none_sooner (who_is c.args.last) w;
}
