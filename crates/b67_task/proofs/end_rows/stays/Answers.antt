use Rattle.std.proofs.Common.{ℕ, ◌==◌, ◌∙◌}
use Rattle.b67_word.specs.declared.faults.Ending.{Ending}
use Rattle.b67_task.specs.Deaths.{ending_numbers}
use Rattle.b67_task.proofs.FreedRows.{stays_own, stays_other}
use Rattle.b67_task.proofs.Kept.{any_map}
use Rattle.b67_task.proofs.end_rows.stays.Goals as goal

pub returns-then-row-job : goal.returns-then-row-job
returns-then-row-job c =
    stays_own c.args.job (ending_numbers c.args.list.now) c.args.row c.is_among.result c.if-row-job.true (c.is_among.ensures ∙ any_map (λ (e : ℕ × Ending). e.0) (λ (n : ℕ). n == c.args.row.number) c.args.list.now)

pub returns : goal.returns
returns c = stays_other c.args.job (ending_numbers c.args.list.now) c.args.row c.if-row-job.false
