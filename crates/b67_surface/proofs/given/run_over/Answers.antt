use Rattle.b67_job.specs.Device.{device_of}
use Rattle.b67_surface.proofs.Goes.{open_if, sized_if}
use Rattle.b67_surface.proofs.given.run_over.Goals as goal

pub returns-clause-open : goal.returns-clause-open
returns-clause-open g c = open_if (device_of g.B.Backing.holds g.B.Backing.size g.B.Backing.faults c.args.backing.now c.run.new.backing) c.run.result.machine c.run.ensures.opened

pub returns-clause-same : goal.returns-clause-same
returns-clause-same g c = sized_if (device_of g.B.Backing.holds g.B.Backing.size g.B.Backing.faults c.args.backing.now c.run.new.backing) c.run.result.machine c.run.ensures.opened
