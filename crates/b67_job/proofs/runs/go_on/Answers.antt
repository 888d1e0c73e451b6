use Rattle.std.proofs.Common.{refl}
use Rattle.b67_job.proofs.Going.{image_is_open, has_gone_on}
use Rattle.b67_job.proofs.runs.go_on.Goals as goal

pub run_session-status-requires-clause-open : goal.run_session-status-requires-clause-open
run_session-status-requires-clause-open g c = image_is_open (g.B.Backing.holds c.args.backing.now) c.args.image c.requires.shows c.requires.countable

pub run_session-status-requires-clause-sized : goal.run_session-status-requires-clause-sized
run_session-status-requires-clause-sized g c = c.requires.sized

pub run_session-status-requires-clause-unprinted : goal.run_session-status-requires-clause-unprinted
run_session-status-requires-clause-unprinted g c = c.requires.unprinted

pub returns-clause-gone : goal.returns-clause-gone
returns-clause-gone g c = (
  c.run_session-status.new.machine,
  refl,
  has_gone_on g.K.Sink.taken g.K.Sink.faults g.B.Backing.holds g.B.Backing.size g.B.Backing.calls g.B.Backing.faults c.args.backing.now c.run_session-status.new.backing c.args.image c.run_session-status.new.machine
      c.requires.unhalted c.requires.unprinted c.run_session-status.ensures.keeps c.args.printer.now c.run_session-status.new.printer c.run_session-status.result
      c.run_session-status.ensures.device c.requires.sized c.run_session-status.ensures.goes_on c.run_session-status.ensures.ran c.run_session-status.ensures.paged,
)

pub returns-clause-device : goal.returns-clause-device
returns-clause-device g c = c.run_session-status.ensures.device
