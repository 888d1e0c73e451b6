use Rattle.b67_job.proofs.Closings.{halted_unprinted}
use Rattle.b67_job.proofs.runs.run_session.Goals as goal
use Rattle.b67_model.specs.declared.limits.TheConstants.{MOST_MADE}

pub finish-requires : goal.finish-requires
finish-requires g c =
    halted_unprinted g.B.Backing.holds g.K.Sink.taken (g.B.Backing.size c.args.backing.now) MOST_MADE c.slice-answered.result c.args.machine.now c.slice-answered.new.machine
    c.args.backing.now c.slice-answered.new.backing c.args.printer.now c.slice-answered.new.paper c.requires.open c.requires.unprinted
    c.slice-answered.ensures.row c.slice-answered.ensures.resumed c.slice-answered.ensures.ended

pub returns-clause-ran : goal.returns-clause-ran
returns-clause-ran g c = λ said s says stands. record {
  answered = c.slice-answered.result;
  between = c.slice-answered.new.paper;
  slices = c.slice-answered.ensures.row said s says stands;
  finishes = c.finish.ensures;
  device_failed = c.slice-answered.ensures.leaves.causes.device;
  printer_failed = c.slice-answered.ensures.leaves.causes.printer.failed;
  later = c.slice-answered.ensures.leaves.causes.printer.later;
}

pub returns-clause-paged : goal.returns-clause-paged
returns-clause-paged g c = λ said s says stands. (c.slice-answered.result, c.slice-answered.ensures.leaves.paged said s says stands)
