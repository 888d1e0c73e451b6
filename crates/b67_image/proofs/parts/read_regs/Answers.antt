use Rattle.std.proofs.Common.{◌≡◌, None, refl}
use Rattle.std.proofs.lemmas.Result.{err_from_is_err_and}
use Rattle.b67_model.specs.declared.limits.TheConstants.{LEAST_STACK, MOST_STACK}
use Rattle.b67_image.specs.Reading.{number_within, read_regs}
use Rattle.b67_image.proofs.Steps.{fails, then_fails, then_gives, then_none, within, below, above}
use Rattle.b67_image.proofs.parts.read_regs.Goals as goal
use Rattle.b67_image.proofs.parts.read_regs.Goals.{then-stack_size-lt-LEAST_STACK-via-then-stack_size-lt-LEAST_STACK, then-stack_size-lt-LEAST_STACK-via-else-stack_size-lt-LEAST_STACK+then-stack_size-gt-MOST_STACK}

pub returns-in_err-s : goal.returns-in_err-s
unfolding read_regs
returns-in_err-s c = let p = err_from_is_err_and c.from_residual.result c.from_residual.ensures.1 in rw (p.1, p.2) (fails c.in_err-s.field-0.0 _ _ c.in_err-s.ensures)

pub returns-in_err-f : goal.returns-in_err-f
unfolding read_regs
returns-in_err-f c = let p = err_from_is_err_and c.from_residual-in_err-f.result c.from_residual-in_err-f.ensures.1 in rw (p.1, p.2) (then_fails c.in_err-f.field-0.0 _ _ _ c.in_ok-s.ensures (fails c.in_err-f.field-0.0 _ _ c.in_err-f.ensures))

pub returns-in_err-bosr : goal.returns-in_err-bosr
unfolding read_regs
returns-in_err-bosr c = let p = err_from_is_err_and c.from_residual-in_err-bosr.result c.from_residual-in_err-bosr.ensures.1 in rw (p.1, p.2) (then_fails c.in_err-bosr.field-0.0 _ _ _ c.in_ok-s.ensures (then_fails c.in_err-bosr.field-0.0 _ _ _ c.in_ok-f.ensures (fails c.in_err-bosr.field-0.0 _ _ c.in_err-bosr.ensures)))

pub returns-in_err-losr : goal.returns-in_err-losr
unfolding read_regs
returns-in_err-losr c = let p = err_from_is_err_and c.from_residual-in_err-losr.result c.from_residual-in_err-losr.ensures.1 in rw (p.1, p.2) (then_fails c.in_err-losr.field-0.0 _ _ _ c.in_ok-s.ensures (then_fails c.in_err-losr.field-0.0 _ _ _ c.in_ok-f.ensures (then_fails c.in_err-losr.field-0.0 _ _ _ c.in_ok-bosr.ensures (fails c.in_err-losr.field-0.0 _ _ c.in_err-losr.ensures))))

pub returns-in_err-slot : goal.returns-in_err-slot
unfolding read_regs
returns-in_err-slot c = let p = err_from_is_err_and c.from_residual-in_err-slot.result c.from_residual-in_err-slot.ensures.1 in rw (p.1, p.2) (then_fails c.in_err-slot.field-0.0 _ _ _ c.in_ok-s.ensures (then_fails c.in_err-slot.field-0.0 _ _ _ c.in_ok-f.ensures (then_fails c.in_err-slot.field-0.0 _ _ _ c.in_ok-bosr.ensures (then_fails c.in_err-slot.field-0.0 _ _ _ c.in_ok-losr.ensures (fails c.in_err-slot.field-0.0 _ _ c.in_err-slot.ensures)))))

pub returns-in_err-level : goal.returns-in_err-level
unfolding read_regs
returns-in_err-level c = let p = err_from_is_err_and c.from_residual-in_err-level.result c.from_residual-in_err-level.ensures.1 in rw (p.1, p.2) (then_fails c.in_err-level.field-0.0 _ _ _ c.in_ok-s.ensures (then_fails c.in_err-level.field-0.0 _ _ _ c.in_ok-f.ensures (then_fails c.in_err-level.field-0.0 _ _ _ c.in_ok-bosr.ensures (then_fails c.in_err-level.field-0.0 _ _ _ c.in_ok-losr.ensures (then_fails c.in_err-level.field-0.0 _ _ _ c.in_ok-slot.ensures (fails c.in_err-level.field-0.0 _ _ c.in_err-level.ensures))))))

pub returns-in_err-segment : goal.returns-in_err-segment
unfolding read_regs
returns-in_err-segment c = let p = err_from_is_err_and c.from_residual-in_err-segment.result c.from_residual-in_err-segment.ensures.1 in rw (p.1, p.2) (then_fails c.in_err-segment.field-0.0 _ _ _ c.in_ok-s.ensures (then_fails c.in_err-segment.field-0.0 _ _ _ c.in_ok-f.ensures (then_fails c.in_err-segment.field-0.0 _ _ _ c.in_ok-bosr.ensures (then_fails c.in_err-segment.field-0.0 _ _ _ c.in_ok-losr.ensures (then_fails c.in_err-segment.field-0.0 _ _ _ c.in_ok-slot.ensures (then_fails c.in_err-segment.field-0.0 _ _ _ c.in_ok-level.ensures (fails c.in_err-segment.field-0.0 _ _ c.in_err-segment.ensures)))))))

pub returns-in_err-place : goal.returns-in_err-place
unfolding read_regs
returns-in_err-place c = let p = err_from_is_err_and c.from_residual-in_err-place.result c.from_residual-in_err-place.ensures.1 in rw (p.1, p.2) (then_fails c.in_err-place.field-0.0 _ _ _ c.in_ok-s.ensures (then_fails c.in_err-place.field-0.0 _ _ _ c.in_ok-f.ensures (then_fails c.in_err-place.field-0.0 _ _ _ c.in_ok-bosr.ensures (then_fails c.in_err-place.field-0.0 _ _ _ c.in_ok-losr.ensures (then_fails c.in_err-place.field-0.0 _ _ _ c.in_ok-slot.ensures (then_fails c.in_err-place.field-0.0 _ _ _ c.in_ok-level.ensures (then_fails c.in_err-place.field-0.0 _ _ _ c.in_ok-segment.ensures (fails c.in_err-place.field-0.0 _ _ c.in_err-place.ensures))))))))

pub returns-in_err-dict : goal.returns-in_err-dict
unfolding read_regs
returns-in_err-dict c = let p = err_from_is_err_and c.from_residual-in_err-dict.result c.from_residual-in_err-dict.ensures.1 in rw (p.1, p.2) (then_fails c.in_err-dict.field-0.0 _ _ _ c.in_ok-s.ensures (then_fails c.in_err-dict.field-0.0 _ _ _ c.in_ok-f.ensures (then_fails c.in_err-dict.field-0.0 _ _ _ c.in_ok-bosr.ensures (then_fails c.in_err-dict.field-0.0 _ _ _ c.in_ok-losr.ensures (then_fails c.in_err-dict.field-0.0 _ _ _ c.in_ok-slot.ensures (then_fails c.in_err-dict.field-0.0 _ _ _ c.in_ok-level.ensures (then_fails c.in_err-dict.field-0.0 _ _ _ c.in_ok-segment.ensures (then_fails c.in_err-dict.field-0.0 _ _ _ c.in_ok-place.ensures (fails c.in_err-dict.field-0.0 _ _ c.in_err-dict.ensures)))))))))

pub returns-in_err-entries : goal.returns-in_err-entries
unfolding read_regs
returns-in_err-entries c = let p = err_from_is_err_and c.from_residual-in_err-entries.result c.from_residual-in_err-entries.ensures.1 in rw (p.1, p.2) (then_fails c.in_err-entries.field-0.0 _ _ _ c.in_ok-s.ensures (then_fails c.in_err-entries.field-0.0 _ _ _ c.in_ok-f.ensures (then_fails c.in_err-entries.field-0.0 _ _ _ c.in_ok-bosr.ensures (then_fails c.in_err-entries.field-0.0 _ _ _ c.in_ok-losr.ensures (then_fails c.in_err-entries.field-0.0 _ _ _ c.in_ok-slot.ensures (then_fails c.in_err-entries.field-0.0 _ _ _ c.in_ok-level.ensures (then_fails c.in_err-entries.field-0.0 _ _ _ c.in_ok-segment.ensures (then_fails c.in_err-entries.field-0.0 _ _ _ c.in_ok-place.ensures (then_fails c.in_err-entries.field-0.0 _ _ _ c.in_ok-dict.ensures (fails c.in_err-entries.field-0.0 _ _ c.in_err-entries.ensures))))))))))

pub returns-in_err-stacks : goal.returns-in_err-stacks
unfolding read_regs
returns-in_err-stacks c = let p = err_from_is_err_and c.from_residual-in_err-stacks.result c.from_residual-in_err-stacks.ensures.1 in rw (p.1, p.2) (then_fails c.in_err-stacks.field-0.0 _ _ _ c.in_ok-s.ensures (then_fails c.in_err-stacks.field-0.0 _ _ _ c.in_ok-f.ensures (then_fails c.in_err-stacks.field-0.0 _ _ _ c.in_ok-bosr.ensures (then_fails c.in_err-stacks.field-0.0 _ _ _ c.in_ok-losr.ensures (then_fails c.in_err-stacks.field-0.0 _ _ _ c.in_ok-slot.ensures (then_fails c.in_err-stacks.field-0.0 _ _ _ c.in_ok-level.ensures (then_fails c.in_err-stacks.field-0.0 _ _ _ c.in_ok-segment.ensures (then_fails c.in_err-stacks.field-0.0 _ _ _ c.in_ok-place.ensures (then_fails c.in_err-stacks.field-0.0 _ _ _ c.in_ok-dict.ensures (then_fails c.in_err-stacks.field-0.0 _ _ _ c.in_ok-entries.ensures (fails c.in_err-stacks.field-0.0 _ _ c.in_err-stacks.ensures)))))))))))

pub returns-in_err-stack_size : goal.returns-in_err-stack_size
unfolding read_regs
returns-in_err-stack_size c = let p = err_from_is_err_and c.from_residual-in_err-stack_size.result c.from_residual-in_err-stack_size.ensures.1 in rw (p.1, p.2) (then_fails c.in_err-stack_size.field-0.0 _ _ _ c.in_ok-s.ensures (then_fails c.in_err-stack_size.field-0.0 _ _ _ c.in_ok-f.ensures (then_fails c.in_err-stack_size.field-0.0 _ _ _ c.in_ok-bosr.ensures (then_fails c.in_err-stack_size.field-0.0 _ _ _ c.in_ok-losr.ensures (then_fails c.in_err-stack_size.field-0.0 _ _ _ c.in_ok-slot.ensures (then_fails c.in_err-stack_size.field-0.0 _ _ _ c.in_ok-level.ensures (then_fails c.in_err-stack_size.field-0.0 _ _ _ c.in_ok-segment.ensures (then_fails c.in_err-stack_size.field-0.0 _ _ _ c.in_ok-place.ensures (then_fails c.in_err-stack_size.field-0.0 _ _ _ c.in_ok-dict.ensures (then_fails c.in_err-stack_size.field-0.0 _ _ _ c.in_ok-entries.ensures (then_fails c.in_err-stack_size.field-0.0 _ _ _ c.in_ok-stacks.ensures (fails c.in_err-stack_size.field-0.0 _ _ c.in_err-stack_size.ensures))))))))))))

pub returns-then-stack_size-lt-LEAST_STACK : goal.returns-then-stack_size-lt-LEAST_STACK
unfolding read_regs
returns-then-stack_size-lt-LEAST_STACK c =
    let out : number_within LEAST_STACK MOST_STACK (c.in_ok-stack_size.stack_size, c.in_ok-stack_size.rest.now) ≡ None = elim c.then-stack_size-lt-LEAST_STACK.branch [ then-stack_size-lt-LEAST_STACK-via-then-stack_size-lt-LEAST_STACK w ↦ below LEAST_STACK MOST_STACK (c.in_ok-stack_size.stack_size, c.in_ok-stack_size.rest.now) w.if-stack_size-lt-LEAST_STACK.true | then-stack_size-lt-LEAST_STACK-via-else-stack_size-lt-LEAST_STACK+then-stack_size-gt-MOST_STACK w ↦ above LEAST_STACK MOST_STACK (c.in_ok-stack_size.stack_size, c.in_ok-stack_size.rest.now) w.if-stack_size-gt-MOST_STACK.true ] in
    then_gives _ _ _ _ c.in_ok-s.ensures (then_gives _ _ _ _ c.in_ok-f.ensures (then_gives _ _ _ _ c.in_ok-bosr.ensures (then_gives _ _ _ _ c.in_ok-losr.ensures (then_gives _ _ _ _ c.in_ok-slot.ensures (then_gives _ _ _ _ c.in_ok-level.ensures (then_gives _ _ _ _ c.in_ok-segment.ensures (then_gives _ _ _ _ c.in_ok-place.ensures (then_gives _ _ _ _ c.in_ok-dict.ensures (then_gives _ _ _ _ c.in_ok-entries.ensures (then_gives _ _ _ _ c.in_ok-stacks.ensures (then_gives _ _ _ _ c.in_ok-stack_size.ensures (then_none _ _ out))))))))))))

pub returns-in_err-peak : goal.returns-in_err-peak
unfolding read_regs
returns-in_err-peak c = let p = err_from_is_err_and c.from_residual-in_err-peak.result c.from_residual-in_err-peak.ensures.1 in rw (p.1, p.2) (then_fails c.in_err-peak.field-0.0 _ _ _ c.in_ok-s.ensures (then_fails c.in_err-peak.field-0.0 _ _ _ c.in_ok-f.ensures (then_fails c.in_err-peak.field-0.0 _ _ _ c.in_ok-bosr.ensures (then_fails c.in_err-peak.field-0.0 _ _ _ c.in_ok-losr.ensures (then_fails c.in_err-peak.field-0.0 _ _ _ c.in_ok-slot.ensures (then_fails c.in_err-peak.field-0.0 _ _ _ c.in_ok-level.ensures (then_fails c.in_err-peak.field-0.0 _ _ _ c.in_ok-segment.ensures (then_fails c.in_err-peak.field-0.0 _ _ _ c.in_ok-place.ensures (then_fails c.in_err-peak.field-0.0 _ _ _ c.in_ok-dict.ensures (then_fails c.in_err-peak.field-0.0 _ _ _ c.in_ok-entries.ensures (then_fails c.in_err-peak.field-0.0 _ _ _ c.in_ok-stacks.ensures (then_fails c.in_err-peak.field-0.0 _ _ _ c.in_ok-stack_size.ensures (then_fails c.in_err-peak.field-0.0 _ _ _ (within LEAST_STACK MOST_STACK (c.in_ok-stack_size.stack_size, c.in_ok-stack_size.rest.now) c.if-stack_size-lt-LEAST_STACK.false c.if-stack_size-gt-MOST_STACK.false) (fails c.in_err-peak.field-0.0 _ _ c.in_err-peak.ensures))))))))))))))

pub returns : goal.returns
unfolding read_regs
returns c = then_gives _ _ _ _ c.in_ok-s.ensures (then_gives _ _ _ _ c.in_ok-f.ensures (then_gives _ _ _ _ c.in_ok-bosr.ensures (then_gives _ _ _ _ c.in_ok-losr.ensures (then_gives _ _ _ _ c.in_ok-slot.ensures (then_gives _ _ _ _ c.in_ok-level.ensures (then_gives _ _ _ _ c.in_ok-segment.ensures (then_gives _ _ _ _ c.in_ok-place.ensures (then_gives _ _ _ _ c.in_ok-dict.ensures (then_gives _ _ _ _ c.in_ok-entries.ensures (then_gives _ _ _ _ c.in_ok-stacks.ensures (then_gives _ _ _ _ c.in_ok-stack_size.ensures (then_gives _ _ _ _ (within LEAST_STACK MOST_STACK (c.in_ok-stack_size.stack_size, c.in_ok-stack_size.rest.now) c.if-stack_size-lt-LEAST_STACK.false c.if-stack_size-gt-MOST_STACK.false) (then_gives _ _ _ _ c.in_ok-peak.ensures refl)))))))))))))
