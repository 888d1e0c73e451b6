-- A tape in memory supplies the text that it holds.
use Rattle.std.proofs.Common.{◌≡◌, ℕ, List, Some, ap, arith}
use Rattle.b67_io.specs.Free.{free_left, free_told, free_faults}
use Rattle.b67_io.specs.declared.free.FreeTape.{FreeTape}
use Rattle.b67_job.specs.declared.command.CommandLine.{CommandLine}
use Rattle.b67_job.specs.declared.command.CommandLine.TheVariants as lines
use Rattle.b67_job.specs.Due.{Supplies}

pub supplied : (command : CommandLine) (deck deck' : FreeTape) (text : List ℕ) → free_left deck ≡ text → Supplies command free_told free_faults deck deck' text
supplied (lines.Run core) deck deck' text is = (ap Some is, omega arith)
supplied (lines.Image core) deck deck' text is = (ap Some is, omega arith)
supplied lines.Resume deck deck' text is = (ap Some is, omega arith)
supplied lines.Dump deck deck' text is = (ap Some is, omega arith)
supplied lines.Asm deck deck' text is = (ap Some is, omega arith)
supplied lines.Check deck deck' text is = (ap Some is, omega arith)
supplied lines.Convert deck deck' text is = (ap Some is, omega arith)
supplied (lines.Bind pairs) deck deck' text is = (ap Some is, omega arith)
supplied (lines.Exercise seed size core) deck deck' text is = tt
