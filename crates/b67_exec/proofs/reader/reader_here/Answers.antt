use Rattle.b67_exec.proofs.Stopping.{absent_stops, outside_stops}
use Rattle.b67_exec.proofs.reader.reader_here.Goals as goal

pub reader_at-requires-clause-code : goal.reader_at-requires-clause-code
reader_at-requires-clause-code c = c.in-Some.ensures

pub returns-in-None-clause-why : goal.returns-in-None-clause-why
returns-in-None-clause-why c = λ e. absent_stops c.args.cpu.now c.requires c.in-None.ensures

pub returns-in-None-reader_at-clause-why : goal.returns-in-None-reader_at-clause-why
returns-in-None-reader_at-clause-why c = λ e. outside_stops c.args.cpu.now c.in-Some.code c.in-Some.ensures (c.reader_at.ensures.outside c.in-None-reader_at.is)
