use Rattle.std.proofs.Common.{ℕ, Some, Ok, Err, refl, sym, subst}
use Rattle.b67_session.proofs.InitialOpens.{uncalled}
use Rattle.b67_image.specs.Meaning.{IsImageRead}
use Rattle.b67_job.specs.Stepping.{is_stepped, isnt_read}
use Rattle.b67_job.proofs.Going.{image_stands}
use Rattle.b67_job.proofs.stepping.step_from_image.Goals as goal

pub step_on-requires-clause-shows : goal.step_on-requires-clause-shows
step_on-requires-clause-shows g c = image_stands _ c.in-Ok.machine c.in-Ok.ensures.answer.2.2

pub step_on-requires-clause-countable : goal.step_on-requires-clause-countable
step_on-requires-clause-countable g c = c.in-Ok.ensures.runs.countable

pub step_on-requires-clause-sized : goal.step_on-requires-clause-sized
step_on-requires-clause-sized g c = rw (sym c.sectors.ensures.value) c.in-Ok.ensures.runs.sized

pub step_on-requires-clause-unhalted : goal.step_on-requires-clause-unhalted
step_on-requires-clause-unhalted g c = c.in-Ok.ensures.answer.2.2.halt

pub step_on-requires-clause-unprinted : goal.step_on-requires-clause-unprinted
step_on-requires-clause-unprinted g c = c.in-Ok.ensures.answer.2.2.printed

pub returns-in-Ok-clause-steps : goal.returns-in-Ok-clause-steps
returns-in-Ok-clause-steps g c =
    let gone = c.step_on.ensures.gone in
    is_stepped c.in-Ok.machine gone.0
    (subst (λ (n : ℕ). IsImageRead g.S.Source.left g.S.Source.faults c.args.image.now c.read_image.new.source (Some n) (Ok c.in-Ok.machine)) c.sectors.ensures.value c.in-Ok.ensures.answer)
    gone.1 gone.2

pub returns-in-Ok-clause-device : goal.returns-in-Ok-clause-device
returns-in-Ok-clause-device g c = c.step_on.ensures.device

pub returns-in-Err-clause-steps : goal.returns-in-Err-clause-steps
returns-in-Err-clause-steps g c =
    isnt_read c.in-Err.fault
    (subst (λ (n : ℕ). IsImageRead g.S.Source.left g.S.Source.faults c.args.image.now c.read_image.new.source (Some n) (Err c.in-Err.fault)) c.sectors.ensures.value c.in-Err.ensures.answer)
    refl c.refuse_image.ensures

pub returns-in-Err-clause-device : goal.returns-in-Err-clause-device
returns-in-Err-clause-device g c = uncalled g.B.Backing.holds g.B.Backing.size g.B.Backing.calls g.B.Backing.faults c.args.backing.now
