use Rattle.std.proofs.Common.{◌≡◌, ◌+◌, ◌++◌, List, length, map, true, false, codes, decimal, ◌∙◌, ap, arith}
use Rattle.std.specs.Prelude.{nat_lt, ◌==◌}
use Rattle.std.proofs.lemmas.Bool.{lt-ltb, le-ltb, eq-eqb, ne_eqb}
use Rattle.b67_model.specs.Lines.{task_name}
use Rattle.b67_task.specs.declared.tables.TaskRow.{TaskRow}
use Rattle.b67_task.specs.Tables.{task_row}
use Rattle.b67_layout_shown.specs.Shown.{number_seen}
use Rattle.b67_dump.specs.Dump.{beside}
use Rattle.b67_dump.specs.Walk.{marks_in}
use Rattle.b67_dump.proofs.Lined.{two, three}
use Rattle.b67_dump.proofs.lines.with_record.Goals as goal

pub returns-then-stack-clause-text : goal.returns-then-stack-clause-text
returns-then-stack-clause-text c =
    let k = c.args.machine.now in
    let b : nat_lt c.args.stack 120 ≡ true = lt-ltb c.args.stack 120 c.if-stack.true in
    let number = c.number_in_slot-number.ensures ∙ ap (λ (xs : List TaskRow). number_seen (map task_row xs) c.args.stack) c.as_slice.ensures.value in
    let count = c.from.ensures ∙ c.number_at-marks.ensures ∙ ap (λ m. length (marks_in k.cpu.core k.cpu.regs.stack_size (m + c.args.disp))) c.slot_start.ensures.at in
    rw b (three c.args.line (task_name c.args.job c.number_in_slot-number.result) (codes " ") (decimal c.from.result) c.with_number.ensures.text c.with_text.ensures.text c.with_task.ensures.text
    ∙ ap (λ n. c.args.line ++ beside (task_name c.args.job n) (decimal c.from.result)) number
    ∙ ap (λ n. c.args.line ++ beside (task_name c.args.job (number_seen (map task_row k.tasks.rows.items) c.args.stack)) (decimal n)) count)

pub returns-then-stack-job-clause-text : goal.returns-then-stack-job-clause-text
returns-then-stack-job-clause-text c =
    let a : nat_lt c.args.stack 120 ≡ false = le-ltb c.args.stack 120 (omega (arith, c.if-stack.false)) in
    let b : (c.args.stack == 127 + c.args.job) ≡ true = eq-eqb c.args.stack (127 + c.args.job) c.if-stack-job.true in
    rw (a, b) (two c.args.line (codes "DICT ") (decimal c.args.job) c.with_number-then-stack-job.ensures.text c.with_text-then-stack-job.ensures.text)

pub returns-else-stack-job-clause-text : goal.returns-else-stack-job-clause-text
returns-else-stack-job-clause-text c =
    let a : nat_lt c.args.stack 120 ≡ false = le-ltb c.args.stack 120 (omega (arith, c.if-stack.false)) in
    let b : (c.args.stack == 127 + c.args.job) ≡ false = ne_eqb c.args.stack (127 + c.args.job) c.if-stack-job.false in
    rw (a, b) c.with_text-else-stack-job.ensures.text
