use Rattle.std.proofs.Common.{ℕ, ◌+◌, ◌-◌, ◌++◌, List, refl, codes, decimal, ◌∙◌, sym, ap}
use Rattle.b67_word.specs.Tagged.{bits_at}
use Rattle.b67_io.specs.Line.{ended}
use Rattle.b67_stack.specs.Shapes.{Shape}
use Rattle.b67_task.specs.Tables.{job_row}
use Rattle.b67_layout_shown.specs.Reading.{cells_in}
use Rattle.b67_layout_shown.specs.Machines.{sight_of}
use Rattle.b67_dump.specs.Dump.{beside}
use Rattle.b67_dump.specs.Walk.{head_text, shapes_text}
use Rattle.b67_dump.specs.Records.{activation_in, record_text}
use Rattle.b67_dump.proofs.Putting.{puts_then, puts_stop, puts_as, puts_passed}
use Rattle.b67_dump.proofs.Printed.{cells_are}
use Rattle.b67_dump.proofs.printing.put_record.Goals as goal

pub returns-in_err-put : goal.returns-in_err-put
returns-in_err-put g c =
    let k = sight_of c.args.machine.now in
    let cells = shapes_text k (job_row c.args.row.now) c.args.job (activation_in k.core c.args.mark c.args.top).cells in
    puts_passed g.K.Sink.taken g.K.Sink.faults c.args.sink.now c.put.new.sink c.from_residual.result c.in_err-put.field-0.0 _ c.from_residual.ensures.0
    (puts_stop g.K.Sink.taken g.K.Sink.faults c.args.sink.now c.put.new.sink c.in_err-put.field-0.0 (ended c.frame_line.result) (record_text k (job_row c.args.row.now) c.args.job c.args.number c.args.mark c.args.top)
    (cells, ap (λ (l : List ℕ). ended l ++ cells) (sym (c.frame_line.ensures c.args.top))) c.in_err-put.ensures)

pub returns : goal.returns
returns g c =
    let k = sight_of c.args.machine.now in
    let text = λ (cs : List Shape). shapes_text k (job_row c.args.row.now) c.args.job cs in
    let cells = cells_are k.core c.args.mark c.args.top c.part-head.result (c.args.mark + (1 + c.part-head.result)) (c.args.top + 1 - (c.args.mark + (1 + c.part-head.result)))
    (sym (c.part-head.ensures.value ∙ ap (λ w. bits_at w 46 1) c.word_seen_at.ensures)) c.part-head.ensures.small refl refl in
    puts_as g.K.Sink.taken g.K.Sink.faults c.args.sink.now c.put_cells.new.sink c.put_cells.result _ _
    (ap (λ (l : List ℕ). ended l ++ text (cells_in k.core (c.args.mark + (1 + c.part-head.result)) c.saturating_sub.result)) (c.frame_line.ensures c.args.top) ∙ ap (λ cs. ended (beside (codes "FRAME") (beside (decimal c.args.number) (head_text k c.args.job (activation_in k.core c.args.mark c.args.top).head))) ++ text cs) (ap (cells_in k.core (c.args.mark + (1 + c.part-head.result))) c.saturating_sub.ensures ∙ sym cells))
    (puts_then g.K.Sink.taken g.K.Sink.faults c.args.sink.now c.put.new.sink c.put_cells.new.sink c.put_cells.result (ended c.frame_line.result) _ c.in_ok-put.ensures c.put_cells.ensures)
