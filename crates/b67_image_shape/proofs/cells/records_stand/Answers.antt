use Rattle.std.proofs.Common.{◌≡◌, sym, ◌∙◌, ap, arith, ◌-◌}
use Rattle.b67_layout_shown.specs.Machines.{sight_of}
use Rattle.b67_task.specs.Tables.{task_row, job_row}
use Rattle.b67_image_shape.specs.CellWalk.{records_stand}
use Rattle.b67_image_shape.proofs.CellTurns.{record_falls, record_last, record_next, records_end}
use Rattle.b67_image_shape.proofs.cells.records_stand.Goals as goal

pub down-init : goal.down-init
down-init c =
    let all : c.args.turns ≡ c.args.turns - 0 = omega arith in (
      c.requires.mark,
      (c.requires.high, ap (λ n. records_stand (sight_of c.args.task.now.machine.now) c.args.task.now.records.now c.args.task.now.kinds.now (job_row c.args.task.now.job.now) (task_row c.args.task.now.row) c.args.base n c.args.mark c.args.high) all),
    )

pub returns-then-not-record_stands : goal.returns-then-not-record_stands
returns-then-not-record_stands c =
    record_falls (sight_of c.args.task.now.machine.now) c.args.task.now.records.now c.args.task.now.kinds.now (job_row c.args.task.now.job.now) (task_row c.args.task.now.row) c.args.base c.args.turns c.down._turn c.down.f c.down.s
    (records_stand (sight_of c.args.task.now.machine.now) c.args.task.now.records.now c.args.task.now.kinds.now (job_row c.args.task.now.job.now) (task_row c.args.task.now.row) c.args.base c.args.turns c.args.mark c.args.high) c.down.invariant.1.1 c.down-test.true (sym c.record_stands.ensures ∙ c.if-not-record_stands.true)

pub returns-then-back-eq0 : goal.returns-then-back-eq0
returns-then-back-eq0 c =
    record_last (sight_of c.args.task.now.machine.now) c.args.task.now.records.now c.args.task.now.kinds.now (job_row c.args.task.now.job.now) (task_row c.args.task.now.row) c.args.base c.args.turns c.down._turn c.down.f c.down.s
    (records_stand (sight_of c.args.task.now.machine.now) c.args.task.now.records.now c.args.task.now.kinds.now (job_row c.args.task.now.job.now) (task_row c.args.task.now.row) c.args.base c.args.turns c.args.mark c.args.high) c.down.invariant.1.1 c.down-test.true (sym c.record_stands.ensures ∙ c.if-not-record_stands.false)
    c.word_seen_at.result c.part-back.result c.word_seen_at.ensures c.part-back.ensures.value c.if-back-eq0.true

pub down-preserved : goal.down-preserved
down-preserved c = (
  (let low = c.down.invariant.0 in omega (arith, low, c.saturating_sub-f.ensures)),
  (
    (let low = c.down.invariant.0 in omega (arith, low, c.saturating_sub-s.ensures)),
    record_next (sight_of c.args.task.now.machine.now) c.args.task.now.records.now c.args.task.now.kinds.now (job_row c.args.task.now.job.now) (task_row c.args.task.now.row) c.args.base c.args.turns c.down._turn c.down.f c.down.s
        (records_stand (sight_of c.args.task.now.machine.now) c.args.task.now.records.now c.args.task.now.kinds.now (job_row c.args.task.now.job.now) (task_row c.args.task.now.row) c.args.base c.args.turns c.args.mark c.args.high) c.down.invariant.1.1 c.down-test.true (sym c.record_stands.ensures ∙ c.if-not-record_stands.false)
        c.word_seen_at.result c.part-back.result c.word_seen_at.ensures c.part-back.ensures.value c.if-back-eq0.false c.saturating_sub-f.result c.saturating_sub-s.result c.saturating_sub-f.ensures c.saturating_sub-s.ensures,
  ),
)

pub returns : goal.returns
returns c =
    records_end (sight_of c.args.task.now.machine.now) c.args.task.now.records.now c.args.task.now.kinds.now (job_row c.args.task.now.job.now) (task_row c.args.task.now.row) c.args.base c.args.turns c.down._turn c.down.f c.down.s
    (records_stand (sight_of c.args.task.now.machine.now) c.args.task.now.records.now c.args.task.now.kinds.now (job_row c.args.task.now.job.now) (task_row c.args.task.now.row) c.args.base c.args.turns c.args.mark c.args.high) c.down.invariant.1.1 (omega (arith, c.down-test.false))
