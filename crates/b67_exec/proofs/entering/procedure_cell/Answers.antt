use Rattle.b67_refer.specs.RunningContext.{live_of}
use Rattle.b67_exec.proofs.entering.procedure_cell.Goals as goal

pub chase-requires : goal.chase-requires
chase-requires c = let (a, q, f, segment, level, place, l) = c.requires in (live_of a, l.shown, l.at, l.owner, l.word, l.stands)
