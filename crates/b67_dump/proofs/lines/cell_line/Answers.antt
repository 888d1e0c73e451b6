use Rattle.std.proofs.Common.{◌++◌, codes, decimal}
use Rattle.b67_task.specs.Tables.{job_row}
use Rattle.b67_layout_shown.specs.Reading.{word_seen_at, shape_in}
use Rattle.b67_layout_shown.specs.Machines.{sight_of}
use Rattle.b67_dump.specs.Walk.{shape_text}
use Rattle.b67_dump.proofs.Lined.{three, opened}
use Rattle.b67_dump.proofs.lines.cell_line.Goals as goal

pub returns : goal.returns
returns c =
    let core = c.args.machine.now.cpu.core in
    let held = shape_text (sight_of c.args.machine.now) (job_row c.args.row.now) c.args.job (shape_in core c.args.at (word_seen_at core c.args.at)) in
    opened (decimal c.args.offset ++ (codes " " ++ held)) (three c.line_of.result (decimal c.args.offset) (codes " ") held c.with_cell.ensures c.with_text-line.ensures.text c.with_number.ensures.text) c.line_of.ensures
