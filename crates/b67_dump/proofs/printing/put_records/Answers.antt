use Rattle.std.proofs.Common.{◌≡◌, ◌-◌, ◌^◌, ◌<◌, length, Ok, Err, Some, refl, sym, ◌∙◌, ap, subst, arith}
use Rattle.std.proofs.lemmas.Option.{slice_get-get_or}
use Rattle.b67_task.specs.Tables.{job_row}
use Rattle.b67_layout_shown.specs.Machines.{sight_of}
use Rattle.b67_dump.specs.Walk.{marks_in}
use Rattle.b67_dump.specs.Landmarks.{AreStops}
use Rattle.b67_dump.proofs.Stopped.{mark_near}
use Rattle.b67_dump.proofs.Putting.{puts_passed}
use Rattle.b67_dump.proofs.Printed.{no_record, mark_turn, mark_stop, all_records, top_near}
use Rattle.b67_dump.proofs.printing.put_records.Goals as goal

pub records-init : goal.records-init
records-init g c =
    let k = sight_of c.args.machine.now in
    let marks = marks_in k.core k.regs.stack_size c.args.top.f in
    let many : c.count_marks-count.result ≡ length marks = c.count_marks-count.ensures ∙ ap (λ n. length (marks_in k.core n c.args.top.f)) c.from.ensures in
    (omega (arith, many), no_record g.K.Sink.taken g.K.Sink.faults k (job_row c.args.row.now) c.args.job c.args.sink.now c.args.top.s marks _ many)

pub top_at-last-requires : goal.top_at-last-requires
top_at-last-requires g c = subst (AreStops c.args.machine.now.cpu.core c.args.top.f) (sym c.as_slice-stops.ensures.value) c.stops_of-found.ensures

pub mark_at-mark-requires : goal.mark_at-mark-requires
mark_at-mark-requires g c = subst (AreStops c.args.machine.now.cpu.core c.args.top.f) (sym c.as_slice-stops.ensures.value) c.stops_of-found.ensures

pub put_record-requires-clause-inside : goal.put_record-requires-clause-inside
put_record-requires-clause-inside g c =
    let k = sight_of c.args.machine.now in
    let i = c.records.left - 1 in
    let inside = c.records.invariant.0 in
    let is = c.mark_at-mark.ensures k.regs.stack_size (omega (arith, inside, c.records-test.true)) in
    let near = mark_near k.core k.regs.stack_size c.args.top.f i in
    omega (arith, is, near, c.requires.inside)

pub put_record-requires-clause-below : goal.put_record-requires-clause-below
put_record-requires-clause-below g c =
    let k = sight_of c.args.machine.now in
    let marks = marks_in k.core k.regs.stack_size c.args.top.f in
    let inside = c.records.invariant.0 in
    let is = c.top_at-last.ensures k.regs.stack_size (omega (arith, inside)) in
    let below = top_near (2 ^ 50) c.args.top.s marks (c.records.left - 1) c.requires.below
    (λ n. let near = mark_near k.core k.regs.stack_size c.args.top.f n in omega (arith, near, c.requires.inside)) in
    omega (arith, below, is)

pub records-preserved : goal.records-preserved
records-preserved g c =
    let k = sight_of c.args.machine.now in
    let marks = marks_in k.core k.regs.stack_size c.args.top.f in
    let inside = c.records.invariant.0 in
    let many : c.count_marks-count.result ≡ length marks = c.count_marks-count.ensures ∙ ap (λ n. length (marks_in k.core n c.args.top.f)) c.from.ensures in
    let low : c.records.left - 1 < length marks = omega (arith, inside, c.records-test.true) in (
      omega (arith, inside),
      mark_turn g.K.Sink.taken g.K.Sink.faults k (job_row c.args.row.now) c.args.job c.args.sink.now c.records.sink c.put_record.new.sink (Ok tt) c.args.top.s marks c.records.left c.from-number.result c.mark_at-mark.result c.top_at-last.result c.records-test.true inside c.records.invariant.1
          (omega (arith, c.from-number.ensures, many)) (slice_get-get_or marks (c.records.left - 1) 0 low ∙ ap Some (sym (c.mark_at-mark.ensures k.regs.stack_size low))) (c.top_at-last.ensures k.regs.stack_size (omega (arith, inside))) c.in_ok-put_record.ensures,
    )

pub returns-in_err-put_record : goal.returns-in_err-put_record
returns-in_err-put_record g c =
    let k = sight_of c.args.machine.now in
    let marks = marks_in k.core k.regs.stack_size c.args.top.f in
    let inside = c.records.invariant.0 in
    let many : c.count_marks-count.result ≡ length marks = c.count_marks-count.ensures ∙ ap (λ n. length (marks_in k.core n c.args.top.f)) c.from.ensures in
    let low : c.records.left - 1 < length marks = omega (arith, inside, c.records-test.true) in
    puts_passed g.K.Sink.taken g.K.Sink.faults c.args.sink.now c.put_record.new.sink c.from_residual.result c.in_err-put_record.field-0.0 _ c.from_residual.ensures.0
    (all_records g.K.Sink.taken g.K.Sink.faults k (job_row c.args.row.now) c.args.job c.args.sink.now c.put_record.new.sink (Err c.in_err-put_record.field-0.0) k.regs.stack_size c.args.top.f c.args.top.s 0 marks refl refl
    (mark_stop g.K.Sink.taken g.K.Sink.faults k (job_row c.args.row.now) c.args.job c.args.sink.now c.records.sink c.put_record.new.sink c.in_err-put_record.field-0.0 c.args.top.s marks c.records.left c.from-number.result c.mark_at-mark.result c.top_at-last.result c.records-test.true inside c.records.invariant.1
    (omega (arith, c.from-number.ensures, many)) (slice_get-get_or marks (c.records.left - 1) 0 low ∙ ap Some (sym (c.mark_at-mark.ensures k.regs.stack_size low))) (c.top_at-last.ensures k.regs.stack_size (omega (arith, inside))) c.in_err-put_record.ensures))

pub returns : goal.returns
returns g c =
    let k = sight_of c.args.machine.now in
    all_records g.K.Sink.taken g.K.Sink.faults k (job_row c.args.row.now) c.args.job c.args.sink.now c.records.sink (Ok tt) k.regs.stack_size c.args.top.f c.args.top.s c.records.left (marks_in k.core k.regs.stack_size c.args.top.f) refl (omega (arith, c.records-test.false)) c.records.invariant.1
