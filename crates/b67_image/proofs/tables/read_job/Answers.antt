use Rattle.std.proofs.Common.{◌≡◌, ◌+◌, None, refl, arith}
use Rattle.std.proofs.lemmas.Result.{err_from_is_err_and}
use Rattle.b67_model.specs.declared.limits.TheConstants.{MOST_PARTS, MOST_LIMIT}
use Rattle.b67_image.specs.Reading.{number_within, read_job}
use Rattle.b67_image.proofs.Steps.{fails, then_fails, then_gives, then_none, within, below, above, few, many}
use Rattle.b67_image.proofs.tables.read_job.Goals as goal
use Rattle.b67_image.proofs.tables.read_job.Goals.{then-limit-lt1-via-then-limit-lt1, then-limit-lt1-via-else-limit-lt1+then-limit-gt-MOST_LIMIT}

pub returns-in-Err : goal.returns-in-Err
unfolding read_job
returns-in-Err c = fails c.in-Err.e _ _ c.in-Err.ensures

pub returns-in_err-dict : goal.returns-in_err-dict
unfolding read_job
returns-in_err-dict c = let p = err_from_is_err_and c.from_residual.result c.from_residual.ensures.1 in rw (p.1, p.2) (then_fails c.in_err-dict.field-0.0 _ _ _ c.in-Ok.ensures (fails c.in_err-dict.field-0.0 _ _ c.in_err-dict.ensures))

pub returns-in_err-segments : goal.returns-in_err-segments
unfolding read_job
returns-in_err-segments c = let p = err_from_is_err_and c.from_residual-in_err-segments.result c.from_residual-in_err-segments.ensures.1 in rw (p.1, p.2) (then_fails c.in_err-segments.field-0.0 _ _ _ c.in-Ok.ensures (then_fails c.in_err-segments.field-0.0 _ _ _ c.in_ok-dict.ensures (fails c.in_err-segments.field-0.0 _ _ c.in_err-segments.ensures)))

pub returns-in_err-rows : goal.returns-in_err-rows
unfolding read_job
returns-in_err-rows c = let p = err_from_is_err_and c.from_residual-in_err-rows.result c.from_residual-in_err-rows.ensures.1 in rw (p.1, p.2) (then_fails c.in_err-rows.field-0.0 _ _ _ c.in-Ok.ensures (then_fails c.in_err-rows.field-0.0 _ _ _ c.in_ok-dict.ensures (then_fails c.in_err-rows.field-0.0 _ _ _ c.in_ok-segments.ensures (fails c.in_err-rows.field-0.0 _ _ c.in_err-rows.ensures))))

pub returns-then-from : goal.returns-then-from
unfolding read_job
returns-then-from c = then_gives _ _ _ _ c.in-Ok.ensures (then_gives _ _ _ _ c.in_ok-dict.ensures (then_gives _ _ _ _ c.in_ok-segments.ensures (then_gives _ _ _ _ c.in_ok-rows.ensures (then_none _ _ (many (c.in_ok-segments.segments + c.in_ok-rows.rows) MOST_PARTS (c.in_ok-rows.rows, c.in_ok-rows.rest.now) (omega (arith, c.if-from.true, c.from.ensures, c.from-2.ensures)))))))

pub returns-in_err-limit : goal.returns-in_err-limit
unfolding read_job
returns-in_err-limit c = let p = err_from_is_err_and c.from_residual-in_err-limit.result c.from_residual-in_err-limit.ensures.1 in rw (p.1, p.2) (then_fails c.in_err-limit.field-0.0 _ _ _ c.in-Ok.ensures (then_fails c.in_err-limit.field-0.0 _ _ _ c.in_ok-dict.ensures (then_fails c.in_err-limit.field-0.0 _ _ _ c.in_ok-segments.ensures (then_fails c.in_err-limit.field-0.0 _ _ _ c.in_ok-rows.ensures (then_fails c.in_err-limit.field-0.0 _ _ _ (few (c.in_ok-segments.segments + c.in_ok-rows.rows) MOST_PARTS (c.in_ok-rows.rows, c.in_ok-rows.rest.now) (omega (arith, c.if-from.false, c.from.ensures, c.from-2.ensures))) (fails c.in_err-limit.field-0.0 _ _ c.in_err-limit.ensures))))))

pub returns-then-limit-lt1 : goal.returns-then-limit-lt1
unfolding read_job
returns-then-limit-lt1 c =
    let out : number_within 1 MOST_LIMIT (c.in_ok-limit.limit, c.in_ok-limit.rest.now) ≡ None = elim c.then-limit-lt1.branch [ then-limit-lt1-via-then-limit-lt1 w ↦ below 1 MOST_LIMIT (c.in_ok-limit.limit, c.in_ok-limit.rest.now) w.if-limit-lt1.true | then-limit-lt1-via-else-limit-lt1+then-limit-gt-MOST_LIMIT w ↦ above 1 MOST_LIMIT (c.in_ok-limit.limit, c.in_ok-limit.rest.now) w.if-limit-gt-MOST_LIMIT.true ] in
    then_gives _ _ _ _ c.in-Ok.ensures (then_gives _ _ _ _ c.in_ok-dict.ensures (then_gives _ _ _ _ c.in_ok-segments.ensures (then_gives _ _ _ _ c.in_ok-rows.ensures (then_gives _ _ _ _ (few (c.in_ok-segments.segments + c.in_ok-rows.rows) MOST_PARTS (c.in_ok-rows.rows, c.in_ok-rows.rest.now) (omega (arith, c.if-from.false, c.from.ensures, c.from-2.ensures))) (then_gives _ _ _ _ c.in_ok-limit.ensures (then_none _ _ out))))))

pub returns-in_err-made : goal.returns-in_err-made
unfolding read_job
returns-in_err-made c = let p = err_from_is_err_and c.from_residual-in_err-made.result c.from_residual-in_err-made.ensures.1 in rw (p.1, p.2) (then_fails c.in_err-made.field-0.0 _ _ _ c.in-Ok.ensures (then_fails c.in_err-made.field-0.0 _ _ _ c.in_ok-dict.ensures (then_fails c.in_err-made.field-0.0 _ _ _ c.in_ok-segments.ensures (then_fails c.in_err-made.field-0.0 _ _ _ c.in_ok-rows.ensures (then_fails c.in_err-made.field-0.0 _ _ _ (few (c.in_ok-segments.segments + c.in_ok-rows.rows) MOST_PARTS (c.in_ok-rows.rows, c.in_ok-rows.rest.now) (omega (arith, c.if-from.false, c.from.ensures, c.from-2.ensures))) (then_fails c.in_err-made.field-0.0 _ _ _ c.in_ok-limit.ensures (then_fails c.in_err-made.field-0.0 _ _ _ (within 1 MOST_LIMIT (c.in_ok-limit.limit, c.in_ok-limit.rest.now) c.if-limit-lt1.false c.if-limit-gt-MOST_LIMIT.false) (fails c.in_err-made.field-0.0 _ _ c.in_err-made.ensures))))))))

pub returns-in_err-next_task : goal.returns-in_err-next_task
unfolding read_job
returns-in_err-next_task c = let p = err_from_is_err_and c.from_residual-in_err-next_task.result c.from_residual-in_err-next_task.ensures.1 in rw (p.1, p.2) (then_fails c.in_err-next_task.field-0.0 _ _ _ c.in-Ok.ensures (then_fails c.in_err-next_task.field-0.0 _ _ _ c.in_ok-dict.ensures (then_fails c.in_err-next_task.field-0.0 _ _ _ c.in_ok-segments.ensures (then_fails c.in_err-next_task.field-0.0 _ _ _ c.in_ok-rows.ensures (then_fails c.in_err-next_task.field-0.0 _ _ _ (few (c.in_ok-segments.segments + c.in_ok-rows.rows) MOST_PARTS (c.in_ok-rows.rows, c.in_ok-rows.rest.now) (omega (arith, c.if-from.false, c.from.ensures, c.from-2.ensures))) (then_fails c.in_err-next_task.field-0.0 _ _ _ c.in_ok-limit.ensures (then_fails c.in_err-next_task.field-0.0 _ _ _ (within 1 MOST_LIMIT (c.in_ok-limit.limit, c.in_ok-limit.rest.now) c.if-limit-lt1.false c.if-limit-gt-MOST_LIMIT.false) (then_fails c.in_err-next_task.field-0.0 _ _ _ c.in_ok-made.ensures (fails c.in_err-next_task.field-0.0 _ _ c.in_err-next_task.ensures)))))))))

pub returns-in-Err-numbers_at : goal.returns-in-Err-numbers_at
unfolding read_job
returns-in-Err-numbers_at c = then_fails c.in-Err-numbers_at.e _ _ _ c.in-Ok.ensures (then_fails c.in-Err-numbers_at.e _ _ _ c.in_ok-dict.ensures (then_fails c.in-Err-numbers_at.e _ _ _ c.in_ok-segments.ensures (then_fails c.in-Err-numbers_at.e _ _ _ c.in_ok-rows.ensures (then_fails c.in-Err-numbers_at.e _ _ _ (few (c.in_ok-segments.segments + c.in_ok-rows.rows) MOST_PARTS (c.in_ok-rows.rows, c.in_ok-rows.rest.now) (omega (arith, c.if-from.false, c.from.ensures, c.from-2.ensures))) (then_fails c.in-Err-numbers_at.e _ _ _ c.in_ok-limit.ensures (then_fails c.in-Err-numbers_at.e _ _ _ (within 1 MOST_LIMIT (c.in_ok-limit.limit, c.in_ok-limit.rest.now) c.if-limit-lt1.false c.if-limit-gt-MOST_LIMIT.false) (then_fails c.in-Err-numbers_at.e _ _ _ c.in_ok-made.ensures (then_fails c.in-Err-numbers_at.e _ _ _ c.in_ok-next_task.ensures (fails c.in-Err-numbers_at.e _ _ c.in-Err-numbers_at.ensures)))))))))

pub returns-in_err-next_number : goal.returns-in_err-next_number
unfolding read_job
returns-in_err-next_number c = let p = err_from_is_err_and c.from_residual-in_err-next_number.result c.from_residual-in_err-next_number.ensures.1 in rw (p.1, p.2) (then_fails c.in_err-next_number.field-0.0 _ _ _ c.in-Ok.ensures (then_fails c.in_err-next_number.field-0.0 _ _ _ c.in_ok-dict.ensures (then_fails c.in_err-next_number.field-0.0 _ _ _ c.in_ok-segments.ensures (then_fails c.in_err-next_number.field-0.0 _ _ _ c.in_ok-rows.ensures (then_fails c.in_err-next_number.field-0.0 _ _ _ (few (c.in_ok-segments.segments + c.in_ok-rows.rows) MOST_PARTS (c.in_ok-rows.rows, c.in_ok-rows.rest.now) (omega (arith, c.if-from.false, c.from.ensures, c.from-2.ensures))) (then_fails c.in_err-next_number.field-0.0 _ _ _ c.in_ok-limit.ensures (then_fails c.in_err-next_number.field-0.0 _ _ _ (within 1 MOST_LIMIT (c.in_ok-limit.limit, c.in_ok-limit.rest.now) c.if-limit-lt1.false c.if-limit-gt-MOST_LIMIT.false) (then_fails c.in_err-next_number.field-0.0 _ _ _ c.in_ok-made.ensures (then_fails c.in_err-next_number.field-0.0 _ _ _ c.in_ok-next_task.ensures (then_fails c.in_err-next_number.field-0.0 _ _ _ c.in-Ok-numbers_at.ensures (fails c.in_err-next_number.field-0.0 _ _ c.in_err-next_number.ensures)))))))))))

pub returns : goal.returns
unfolding read_job
returns c = then_gives _ _ _ _ c.in-Ok.ensures (then_gives _ _ _ _ c.in_ok-dict.ensures (then_gives _ _ _ _ c.in_ok-segments.ensures (then_gives _ _ _ _ c.in_ok-rows.ensures (then_gives _ _ _ _ (few (c.in_ok-segments.segments + c.in_ok-rows.rows) MOST_PARTS (c.in_ok-rows.rows, c.in_ok-rows.rest.now) (omega (arith, c.if-from.false, c.from.ensures, c.from-2.ensures))) (then_gives _ _ _ _ c.in_ok-limit.ensures (then_gives _ _ _ _ (within 1 MOST_LIMIT (c.in_ok-limit.limit, c.in_ok-limit.rest.now) c.if-limit-lt1.false c.if-limit-gt-MOST_LIMIT.false) (then_gives _ _ _ _ c.in_ok-made.ensures (then_gives _ _ _ _ c.in_ok-next_task.ensures (then_gives _ _ _ _ c.in-Ok-numbers_at.ensures (then_gives _ _ _ _ c.in_ok-next_number.ensures (refl)))))))))))
