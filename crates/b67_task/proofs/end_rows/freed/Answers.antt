use Rattle.std.proofs.Common.{ℕ, ◌==◌, sym, ◌∙◌, refl}
use Rattle.b67_word.specs.declared.faults.Ending.{Ending}
use Rattle.b67_task.specs.declared.tables.TaskState.TheVariants.{Ready, WaitsAt}
use Rattle.b67_task.specs.Deaths.{ending_numbers}
use Rattle.b67_task.proofs.FreedRows.{freed_awaits, freed_awaiting, freed_same}
use Rattle.b67_task.proofs.Kept.{any_map}
use Rattle.b67_task.proofs.Remains.{freed_other}
use Rattle.b67_task.proofs.end_rows.freed.Goals as goal

pub returns-then-row-job : goal.returns-then-row-job
returns-then-row-job c = sym (freed_other c.args.job (ending_numbers c.args.list.now) c.args.row c.if-row-job.true)

pub returns-then-is_among : goal.returns-then-is_among
returns-then-is_among c =
    freed_awaits c.args.job (ending_numbers c.args.list.now) c.args.row c.in-Awaits.number c.if-row-job.false (sym c.in-Awaits.is) (sym (c.is_among.ensures ∙ any_map (λ (e : ℕ × Ending). e.0) (λ (n : ℕ). n == c.in-Awaits.number) c.args.list.now) ∙ c.if-is_among.true)

pub returns-else-is_among : goal.returns-else-is_among
returns-else-is_among c =
    freed_awaiting c.args.job (ending_numbers c.args.list.now) c.args.row c.in-Awaits.number c.if-row-job.false (sym c.in-Awaits.is) (sym (c.is_among.ensures ∙ any_map (λ (e : ℕ × Ending). e.0) (λ (n : ℕ). n == c.in-Awaits.number) c.args.list.now) ∙ c.if-is_among.false)

pub returns-in-Ready : goal.returns-in-Ready
returns-in-Ready c = freed_same c.args.job (ending_numbers c.args.list.now) c.args.row Ready c.if-row-job.false (sym c.in-Ready.is) refl

pub returns-in-WaitsAt : goal.returns-in-WaitsAt
returns-in-WaitsAt c = freed_same c.args.job (ending_numbers c.args.list.now) c.args.row (WaitsAt c.in-WaitsAt.mark c.in-WaitsAt.offset) c.if-row-job.false (sym c.in-WaitsAt.is) refl
