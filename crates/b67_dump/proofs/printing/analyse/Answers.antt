use Rattle.std.proofs.Common.{sym, subst}
use Rattle.b67_layout_shown.specs.Machines.{sight_of}
use Rattle.b67_dump.specs.Landmarks.{AreLandmarks}
use Rattle.b67_io.specs.Told.{Took, TookPart}
use Rattle.b67_dump.proofs.Session.{shown_whole, shown_part}
use Rattle.b67_dump.proofs.printing.analyse.Goals as goal

pub put_jobs-requires : goal.put_jobs-requires
put_jobs-requires g c = subst (AreLandmarks (sight_of c.args.machine.now)) (sym c.as_slice.ensures.value) c.landmarks_of-landmarks.ensures

pub returns-clause-whole : goal.returns-clause-whole
returns-clause-whole g c = shown_whole c.put_jobs.result c.args.machine.now (Took g.K.Sink.taken c.args.sink.now c.put_jobs.new.sink) c.put_jobs.ensures.whole

pub returns-clause-part : goal.returns-clause-part
returns-clause-part g c = shown_part c.put_jobs.result c.args.machine.now (TookPart g.K.Sink.taken c.args.sink.now c.put_jobs.new.sink) c.put_jobs.ensures.part

pub returns-clause-cause : goal.returns-clause-cause
returns-clause-cause g c = c.put_jobs.ensures.cause
