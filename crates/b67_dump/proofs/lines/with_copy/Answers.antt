use Rattle.std.proofs.Common.{ℕ, ◌++◌, codes, decimal, ◌∙◌, ap}
use Rattle.b67_task.specs.Tables.{job_row}
use Rattle.b67_layout_shown.specs.Machines.{sight_of}
use Rattle.b67_layout_shown.specs.Reading.{home_by, is_set}
use Rattle.b67_word.specs.Tagged.{bits_at}
use Rattle.b67_dump.specs.Dump.{beside}
use Rattle.b67_dump.specs.Walk.{array_at_home}
use Rattle.b67_dump.proofs.Lined.{bit_set, bit_clear, two, four}
use Rattle.b67_dump.proofs.lines.with_copy.Goals as goal

pub returns-then-part-eq1 : goal.returns-then-part-eq1
returns-then-part-eq1 c =
    let b = bit_set c.args.w 45 c.part.result c.part.ensures.value c.if-part-eq1.true in
    let array = λ (home : ℕ). array_at_home (sight_of c.args.machine.now) (job_row c.args.row.now) c.args.job home in
    rw b (four c.args.line (codes "ELEMENT ") (array c.home_named-home.result) (codes " ") (decimal c.part-then-part-eq1.result) c.with_number.ensures.text c.with_text-then-part-eq1.ensures.text c.with_array-line.ensures.text c.with_text.ensures.text
    ∙ ap (λ home. c.args.line ++ beside (codes "ELEMENT") (beside (array home) (decimal c.part-then-part-eq1.result))) c.home_named-home.ensures
    ∙ ap (λ n. c.args.line ++ beside (codes "ELEMENT") (beside (array (home_by c.args.machine.now.cpu.core (bits_at c.args.w 0 20) (is_set c.args.w 47))) (decimal n))) c.part-then-part-eq1.ensures.value)

pub returns-else-part-eq1 : goal.returns-else-part-eq1
returns-else-part-eq1 c =
    let b = bit_clear c.args.w 45 c.part.result c.part.ensures.value c.if-part-eq1.false in
    let array = λ (home : ℕ). array_at_home (sight_of c.args.machine.now) (job_row c.args.row.now) c.args.job home in
    rw b (two c.args.line (codes "ROW ") (array c.home_named-home.result) c.with_array.ensures.text c.with_text-else-part-eq1.ensures.text
    ∙ ap (λ home. c.args.line ++ beside (codes "ROW") (array home)) c.home_named-home.ensures)
