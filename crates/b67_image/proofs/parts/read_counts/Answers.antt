use Rattle.std.proofs.Common.{◌≡◌, None, refl}
use Rattle.std.proofs.lemmas.Result.{err_from_is_err_and}
use Rattle.b67_model.specs.declared.limits.TheConstants.{MOST_QUANTUM}
use Rattle.b67_image.specs.Reading.{number_within, read_counts}
use Rattle.b67_image.proofs.Steps.{fails, then_fails, then_gives, then_none, within, below, above}
use Rattle.b67_image.proofs.parts.read_counts.Goals as goal
use Rattle.b67_image.proofs.parts.read_counts.Goals.{then-quantum-lt1-via-then-quantum-lt1, then-quantum-lt1-via-else-quantum-lt1+then-quantum-gt-MOST_QUANTUM}

pub returns-in_err-quantum : goal.returns-in_err-quantum
unfolding read_counts
returns-in_err-quantum c = let p = err_from_is_err_and c.from_residual.result c.from_residual.ensures.1 in rw (p.1, p.2) (fails c.in_err-quantum.field-0.0 _ _ c.in_err-quantum.ensures)

pub returns-then-quantum-lt1 : goal.returns-then-quantum-lt1
unfolding read_counts
returns-then-quantum-lt1 c =
    let out : number_within 1 MOST_QUANTUM (c.in_ok-quantum.quantum, c.in_ok-quantum.rest.now) ≡ None = elim c.then-quantum-lt1.branch [ then-quantum-lt1-via-then-quantum-lt1 w ↦ below 1 MOST_QUANTUM (c.in_ok-quantum.quantum, c.in_ok-quantum.rest.now) w.if-quantum-lt1.true | then-quantum-lt1-via-else-quantum-lt1+then-quantum-gt-MOST_QUANTUM w ↦ above 1 MOST_QUANTUM (c.in_ok-quantum.quantum, c.in_ok-quantum.rest.now) w.if-quantum-gt-MOST_QUANTUM.true ] in
    then_gives _ _ _ _ c.in_ok-quantum.ensures (then_none _ _ out)

pub returns-in_err-made : goal.returns-in_err-made
unfolding read_counts
returns-in_err-made c = let p = err_from_is_err_and c.from_residual-in_err-made.result c.from_residual-in_err-made.ensures.1 in rw (p.1, p.2) (then_fails c.in_err-made.field-0.0 _ _ _ c.in_ok-quantum.ensures (then_fails c.in_err-made.field-0.0 _ _ _ (within 1 MOST_QUANTUM (c.in_ok-quantum.quantum, c.in_ok-quantum.rest.now) c.if-quantum-lt1.false c.if-quantum-gt-MOST_QUANTUM.false) (fails c.in_err-made.field-0.0 _ _ c.in_err-made.ensures)))

pub returns-in_err-turn : goal.returns-in_err-turn
unfolding read_counts
returns-in_err-turn c = let p = err_from_is_err_and c.from_residual-in_err-turn.result c.from_residual-in_err-turn.ensures.1 in rw (p.1, p.2) (then_fails c.in_err-turn.field-0.0 _ _ _ c.in_ok-quantum.ensures (then_fails c.in_err-turn.field-0.0 _ _ _ (within 1 MOST_QUANTUM (c.in_ok-quantum.quantum, c.in_ok-quantum.rest.now) c.if-quantum-lt1.false c.if-quantum-gt-MOST_QUANTUM.false) (then_fails c.in_err-turn.field-0.0 _ _ _ c.in_ok-made.ensures (fails c.in_err-turn.field-0.0 _ _ c.in_err-turn.ensures))))

pub returns-in_err-last_job : goal.returns-in_err-last_job
unfolding read_counts
returns-in_err-last_job c = let p = err_from_is_err_and c.from_residual-in_err-last_job.result c.from_residual-in_err-last_job.ensures.1 in rw (p.1, p.2) (then_fails c.in_err-last_job.field-0.0 _ _ _ c.in_ok-quantum.ensures (then_fails c.in_err-last_job.field-0.0 _ _ _ (within 1 MOST_QUANTUM (c.in_ok-quantum.quantum, c.in_ok-quantum.rest.now) c.if-quantum-lt1.false c.if-quantum-gt-MOST_QUANTUM.false) (then_fails c.in_err-last_job.field-0.0 _ _ _ c.in_ok-made.ensures (then_fails c.in_err-last_job.field-0.0 _ _ _ c.in_ok-turn.ensures (fails c.in_err-last_job.field-0.0 _ _ c.in_err-last_job.ensures)))))

pub returns-in_err-last_number : goal.returns-in_err-last_number
unfolding read_counts
returns-in_err-last_number c = let p = err_from_is_err_and c.from_residual-in_err-last_number.result c.from_residual-in_err-last_number.ensures.1 in rw (p.1, p.2) (then_fails c.in_err-last_number.field-0.0 _ _ _ c.in_ok-quantum.ensures (then_fails c.in_err-last_number.field-0.0 _ _ _ (within 1 MOST_QUANTUM (c.in_ok-quantum.quantum, c.in_ok-quantum.rest.now) c.if-quantum-lt1.false c.if-quantum-gt-MOST_QUANTUM.false) (then_fails c.in_err-last_number.field-0.0 _ _ _ c.in_ok-made.ensures (then_fails c.in_err-last_number.field-0.0 _ _ _ c.in_ok-turn.ensures (then_fails c.in_err-last_number.field-0.0 _ _ _ c.in_ok-last_job.ensures (fails c.in_err-last_number.field-0.0 _ _ c.in_err-last_number.ensures))))))

pub returns-in_err-running : goal.returns-in_err-running
unfolding read_counts
returns-in_err-running c = let p = err_from_is_err_and c.from_residual-in_err-running.result c.from_residual-in_err-running.ensures.1 in rw (p.1, p.2) (then_fails c.in_err-running.field-0.0 _ _ _ c.in_ok-quantum.ensures (then_fails c.in_err-running.field-0.0 _ _ _ (within 1 MOST_QUANTUM (c.in_ok-quantum.quantum, c.in_ok-quantum.rest.now) c.if-quantum-lt1.false c.if-quantum-gt-MOST_QUANTUM.false) (then_fails c.in_err-running.field-0.0 _ _ _ c.in_ok-made.ensures (then_fails c.in_err-running.field-0.0 _ _ _ c.in_ok-turn.ensures (then_fails c.in_err-running.field-0.0 _ _ _ c.in_ok-last_job.ensures (then_fails c.in_err-running.field-0.0 _ _ _ c.in_ok-last_number.ensures (fails c.in_err-running.field-0.0 _ _ c.in_err-running.ensures)))))))

pub returns-in_err-next_switch : goal.returns-in_err-next_switch
unfolding read_counts
returns-in_err-next_switch c = let p = err_from_is_err_and c.from_residual-in_err-next_switch.result c.from_residual-in_err-next_switch.ensures.1 in rw (p.1, p.2) (then_fails c.in_err-next_switch.field-0.0 _ _ _ c.in_ok-quantum.ensures (then_fails c.in_err-next_switch.field-0.0 _ _ _ (within 1 MOST_QUANTUM (c.in_ok-quantum.quantum, c.in_ok-quantum.rest.now) c.if-quantum-lt1.false c.if-quantum-gt-MOST_QUANTUM.false) (then_fails c.in_err-next_switch.field-0.0 _ _ _ c.in_ok-made.ensures (then_fails c.in_err-next_switch.field-0.0 _ _ _ c.in_ok-turn.ensures (then_fails c.in_err-next_switch.field-0.0 _ _ _ c.in_ok-last_job.ensures (then_fails c.in_err-next_switch.field-0.0 _ _ _ c.in_ok-last_number.ensures (then_fails c.in_err-next_switch.field-0.0 _ _ _ c.in_ok-running.ensures (fails c.in_err-next_switch.field-0.0 _ _ c.in_err-next_switch.ensures))))))))

pub returns : goal.returns
unfolding read_counts
returns c = then_gives _ _ _ _ c.in_ok-quantum.ensures (then_gives _ _ _ _ (within 1 MOST_QUANTUM (c.in_ok-quantum.quantum, c.in_ok-quantum.rest.now) c.if-quantum-lt1.false c.if-quantum-gt-MOST_QUANTUM.false) (then_gives _ _ _ _ c.in_ok-made.ensures (then_gives _ _ _ _ c.in_ok-turn.ensures (then_gives _ _ _ _ c.in_ok-last_job.ensures (then_gives _ _ _ _ c.in_ok-last_number.ensures (then_gives _ _ _ _ c.in_ok-running.ensures (then_gives _ _ _ _ c.in_ok-next_switch.ensures (refl))))))))
