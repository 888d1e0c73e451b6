use Rattle.std.proofs.Common.{◌∙◌, Result, None, sym, subst}
use Rattle.b67_session.specs.Stops.{Stop}
use Rattle.b67_session.specs.declared.slices.Progress.{Progress}
use Rattle.b67_job.specs.Finishing.{FinishesRun}
use Rattle.b67_job.specs.declared.summaries.Closing.TheVariants as closings
use Rattle.b67_job.proofs.Closings.{none_printed}
use Rattle.b67_job.proofs.Going.{image_is_open}
use Rattle.b67_job.proofs.Stepped.{no_print_fault, has_stepped}
use Rattle.b67_job.proofs.stepping.step_on.Goals as goal

pub slice-answered-requires-clause-open : goal.slice-answered-requires-clause-open
slice-answered-requires-clause-open g c = image_is_open (g.B.Backing.holds c.args.backing.now) c.args.image c.requires.shows c.requires.countable

pub slice-answered-requires-clause-sized : goal.slice-answered-requires-clause-sized
slice-answered-requires-clause-sized g c = c.requires.sized

pub finish-requires : goal.finish-requires
finish-requires g c = λ e.
    let sl = c.slice-answered.ensures.row None c.requires.shows.0 tt c.requires.shows.1 in
    none_printed sl.steps c.args.image c.slice-answered.new.machine c.args.printer.now c.slice-answered.new.paper c.requires.unprinted (sl.texts (no_print_fault c.slice-answered.result (sym c.halted_there.ensures ∙ e)))

pub returns-clause-gone : goal.returns-clause-gone
returns-clause-gone g c = (
  c.slice-answered.new.machine,
  has_stepped g.K.Sink.taken g.K.Sink.faults g.B.Backing.holds g.B.Backing.size g.B.Backing.calls g.B.Backing.faults c.args.backing.now c.slice-answered.new.backing c.args.image c.slice-answered.new.machine
      c.requires.unhalted c.requires.unprinted c.slice-answered.ensures.leaves.keeps c.args.printer.now c.slice-answered.new.paper c.finish.new.printer c.args.most c.finish.result c.slice-answered.result
      (subst (λ (x : Result Progress Stop). FinishesRun g.K.Sink.taken g.K.Sink.faults closings.Image c.slice-answered.new.machine x c.slice-answered.new.paper c.finish.new.printer c.finish.result) c.halted_there.ensures c.finish.ensures)
      c.slice-answered.ensures.leaves.causes.device c.slice-answered.ensures.leaves.causes.printer.failed c.slice-answered.ensures.leaves.causes.printer.later
      c.slice-answered.ensures.leaves.served c.requires.sized c.slice-answered.ensures.leaves.goes_on c.slice-answered.ensures.row
      (λ said s says stands. (c.slice-answered.result, c.slice-answered.ensures.leaves.paged said s says stands)),
  c.machine_is_typed.ensures,
)

pub returns-clause-device : goal.returns-clause-device
returns-clause-device g c = c.slice-answered.ensures.leaves.served
